-- What writes of dwords of the registers leave.
use Rattle.std.proofs.Common.{◌≡◌, ◌≢◌, ℕ, ◌<◌, [], ◌∷◌, Bool, true, false, List, Option, None, Some, length, slice_index_or, if◌then◌else◌, sym, ◌∙◌, subst}
use Rattle.gv_csb.specs.Status.{idle_to_active}
use Rattle.gv_element.specs.Works.{Held, HasNoPage, Works, left_of}
use Rattle.gv_entry.specs.Ranges.{InParts}
use Rattle.gv_entry.specs.SameTables.{has}
use Rattle.gv_gpu.specs.Device.{Device}
use Rattle.gv_gpu.specs.Part.{guest_part, outside}
use Rattle.gv_gtt.specs.Gtt.{frames_of, gtt_part, nodes_in, number_of, ranges_of, roots_in}
use Rattle.gv_gtt.specs.Standing.{Stands, Translates}
use Rattle.gv_mmio.specs.Mmio.{IsDone, SameGuest, StartsList, behind, ports_at, rest_reset}
use Rattle.gv_private.specs.Device.{PrivateDevice, Written, quietly, reset_engine}
use Rattle.gv_private.specs.Registers.{dword_written, dword_written_by, engines_are_reset, is_named}
use Rattle.gv_private.specs.Status.{event_given, events_given}
use Rattle.gv_regs.specs.Table.{engines_reset, target_at}
use Rattle.gv_regs.specs.declared.effect.Target.{Target}
use Rattle.gv_regs.specs.declared.effect.Target.TheVariants.{EngineReset}
use Rattle.gv_sring.specs.Window.{WindowIsAbsent}
use Rattle.gv_turn.specs.Owned.{OwnsLeft}
use Rattle.gv_vgpu.specs.Changes.{Keeps, LiveMoves, Makes, injected, own_live}
use Rattle.gv_vgpu.specs.Vgpu.{engine_at, no_engine, private_of}
use Rattle.gv_vgpu.specs.Standing.{Holds, HoldsBut, IsAway, Occupies, OccupiesOn, StandsOn}
use Rattle.gv_vgpu.specs.declared.vgpu.Vgpu.{Vgpu}
use Rattle.gv_vgpu.specs.declared.notice.Notice.{Notice}
use Rattle.gv_vgpu.proofs.Copies.{comes-none, comes-then}
use Rattle.gv_vgpu.proofs.Failing.{holds-occupies}
use Rattle.gv_vgpu.proofs.Made.{makes-done}
use Rattle.gv_vgpu.proofs.Registers.{moved-keeps, registers-moved}
use Rattle.gv_vgpu.proofs.Runs.{dword-runs, events-same, one-event}
use Rattle.gv_vgpu.proofs.Same.{beside-same, own-same}

-- the lists that run still do
abbrev pub StillRuns : Vgpu → Vgpu → Type 0
StillRuns old new = (k : ℕ) → 0 < length (ports_at old.mmio k).slots.running → 0 < length (ports_at new.mmio k).slots.running

module _
    (d : Device) (old new : Vgpu) (here : ℕ → Bool) (holds : Holds d old here) (gtt : new.gtt ≡ old.gtt) (engines : new.engines ≡ old.engines) (failsafe : new.failsafe ≡ old.failsafe)
    (same : SameGuest old.mmio new.mmio)
  where
    abbrev pub before : PrivateDevice
    before = private_of d old here

    -- the new registers, interrupts and ports
    moved : private_of d new here ≡ behind (private_of d old here) new.mmio
    moved = registers-moved d old new here holds gtt engines failsafe

    pub moved-holds : StillRuns old new → Holds d new here
    moved-holds runs = (moved-keeps d old new here holds gtt engines failsafe same (λ k x at. runs k)).holds

    engine-same : (k : ℕ) → engine_at new k ≡ engine_at old k
    engine-same k = λ i. slice_index_or (engines i) k no_engine

    -- what is kept from there on is kept from the start
    pub keeps-from : (e : Device) (last : Vgpu) → Keeps here d e new last → Keeps here d e old last
    keeps-from e last keeps = record {
      holds = keeps.holds;
      changes = record {
        number = keeps.changes.number ∙ (λ i. number_of (gtt i));
        frames = keeps.changes.frames ∙ (λ i. length (frames_of (gtt i)).pages);
        ranges = keeps.changes.ranges ∙ (λ i. ranges_of (gtt i));
        outside = subst (λ g. outside (guest_part (number_of g) (ranges_of g) here) e ≡ outside (guest_part (number_of g) (ranges_of g) here) d) gtt keeps.changes.outside;
        live = subst (λ n. LiveMoves d e n (own_live last)) (own-same old new (λ k i. (engine-same k i).element) gtt) keeps.changes.live;
      };
      copies = comes-then d d e old new last (comes-none d old new (λ k i. (engine-same k i).element)) keeps.copies;
    }

    pub makes-from : (e : Device) (last : Vgpu) (w : Written) (notice : Notice) → Makes here d e new last w notice → Makes here d e old last w notice
    makes-from e last w notice makes = record { written = makes.written; keeps = keeps-from e last makes.keeps }

    module _ (offset value : ℕ) where
      -- ---- done

      module _ (other : target_at offset ≢ EngineReset) (irq : Option ℕ) (does : (p : PrivateDevice) → IsDone (dword_written (behind p old.mmio) offset value) (behind p new.mmio) irq) where
        done-runs : StillRuns old new
        done-runs k runs = subst (λ (slots : List ℕ). 0 < length slots) (λ i. ((does (private_of d old here) i).device.engines k).slots.running)
            (dword-runs (target_at offset) (private_of d old here) offset value k other (λ i. (does (private_of d old here) i).reason) runs)

        pub dword-done : (notice : Notice) → notice ≡ injected irq → Makes here d d old new (dword_written (private_of d old here) offset value) notice
        dword-done notice is =
            makes-done here d d old new (dword_written (private_of d old here) offset value) irq notice
            (does (private_of d old here) ∙ (λ i. record { device = sym moved i; irq = irq; reason = None }))
            (moved-keeps d old new here holds gtt engines failsafe same (λ k x at. done-runs k)) is

      -- ---- a list that starts

      module _ (other : target_at offset ≢ EngineReset) (engine : ℕ) (starts : (p : PrivateDevice) → StartsList (dword_written (behind p old.mmio) offset value) (behind p new.mmio) engine) where
        quiet : (events_given (behind (private_of d old here) new.mmio) engine (idle_to_active ∷ [])).reason ≡ None
        quiet = λ i. (one-event (behind (private_of d old here) new.mmio) engine idle_to_active i).reason

        pub starts-runs : StillRuns old new
        starts-runs k runs =
            subst (λ (slots : List ℕ). 0 < length slots)
            ((λ i. ((starts (private_of d old here) i).device.engines k).slots.running) ∙ events-same (behind (private_of d old here) new.mmio) engine k (idle_to_active ∷ []))
            (dword-runs (target_at offset) (private_of d old here) offset value k other ((λ i. (starts (private_of d old here) i).reason) ∙ quiet) runs)

        pub dword-starts :
            (e : Device) (last : Vgpu) (irq : Option ℕ) (notice : Notice) → Makes here d e new last (event_given (private_of d new here) engine idle_to_active) (injected irq) → notice ≡ injected irq
            → Makes here d e old last (dword_written (private_of d old here) offset value) notice
        dword-starts e last irq notice gives is =
            makes-done here d e old last (dword_written (private_of d old here) offset value) irq notice
            (starts (private_of d old here) ∙ one-event (behind (private_of d old here) new.mmio) engine idle_to_active ∙ (λ i. event_given (sym moved i) engine idle_to_active) ∙ gives.written)
            (keeps-from e last gives.keeps) is

      -- ---- a dword that goes elsewhere

      module _ (stays : (p : PrivateDevice) → behind p new.mmio ≡ behind p old.mmio) where
        pub stays-runs : StillRuns old new
        stays-runs k runs = subst (λ (slots : List ℕ). 0 < length slots) (λ i. ((sym (stays (private_of d old here)) i).engines k).slots.running) runs

        pub stays-here : private_of d new here ≡ private_of d old here
        stays-here = moved ∙ stays (private_of d old here)

      -- what a dword of this target does
      pub by-target : (target : Target) → target_at offset ≡ target → dword_written (private_of d old here) offset value ≡ dword_written_by target (private_of d old here) offset value
      by-target target is = λ i. dword_written_by (is i) (private_of d old here) offset value

      -- ---- a reset of engines

      module _ (named : List Bool) (resets : target_at offset ≡ EngineReset) (are : named ≡ engines_reset value) (does : (p : PrivateDevice) → dword_written (behind p old.mmio) offset value ≡ quietly (rest_reset named (behind p new.mmio))) where
        -- the ports of an engine that isn't named are as they were
        unnamed : (k : ℕ) → is_named named k ≡ false → (ports_at new.mmio k).slots.running ≡ (ports_at old.mmio k).slots.running
        unnamed k out = choose out
          where
            reset : engines_are_reset named (private_of d old here) ≡ rest_reset named (behind (private_of d old here) new.mmio)
            reset =
                (λ i. engines_are_reset (are i) (private_of d old here))
                ∙ (λ i. (dword_written_by (sym resets i) (private_of d old here) offset value).device)
                ∙ (λ i. (does (private_of d old here) i).device)

            choose : is_named named k ≡ false → (ports_at new.mmio k).slots.running ≡ (ports_at old.mmio k).slots.running
            choose is = sym (
                sym (λ i. (if is i then reset_engine else (private_of d old here).engines k).slots.running)
                ∙ (λ i. ((reset i).engines k).slots.running)
                ∙ (λ i. (if is i then record ((behind (private_of d old here) new.mmio).engines k) { general = λ n. 0; element = None } else (behind (private_of d old here) new.mmio).engines k).slots.running))

        stands-on : (k : ℕ) → is_named named k ≡ false → (element : Option Held) → StandsOn d old k (here k) element → StandsOn d new k (here k) element
        stands-on k out None stands = record { window = subst (λ g. WindowIsAbsent d (number_of g) k) (sym gtt) stands.window; idle = stands.idle }
        stands-on k out (Some x) stands = record {
          root_page = stands.root_page;
          root = subst (λ g. has (roots_in g) x.root ≡ true) (sym gtt) stands.root;
          shadow_root = subst (λ g. nodes_in g 4 x.root ≡ Some stands.root_page) (sym gtt) stands.shadow_root;
          works = subst (λ g. Works d (number_of g) k (here k) stands.root_page x) (sym gtt) stands.works;
          owned = subst (λ g. OwnsLeft (ranges_of g) (left_of d (number_of g) k (here k))) (sym gtt) stands.owned;
          apart = subst (λ g. HasNoPage (gtt_part g) x.window) (sym gtt) stands.apart;
          running = subst (λ (running : List ℕ). 0 < length running) (sym (unnamed k out)) stands.running;
          awake = failsafe ∙ stands.awake;
        }

        occupies-on : (k : ℕ) (element : Option Held) → OccupiesOn d old k (here k) element → OccupiesOn d new k (here k) element
        occupies-on k None stands = record { window = subst (λ g. WindowIsAbsent d (number_of g) k) (sym gtt) stands.window; idle = stands.idle }
        occupies-on k (Some x) stands = record {
          root_page = stands.root_page;
          works = subst (λ g. Works d (number_of g) k (here k) stands.root_page x) (sym gtt) stands.works;
          apart = subst (λ g. HasNoPage (gtt_part g) x.window) (sym gtt) stands.apart;
        }

        -- all but the named engines stand
        pub holds-but : HoldsBut (is_named named) d new here
        holds-but = record {
          occupies = record {
            stands = subst (λ g. Stands d g) (sym gtt) was.stands;
            parts = subst (λ g. InParts (ranges_of g)) (sym gtt) was.parts;
            number = same.guest ∙ was.number ∙ (λ i. number_of (sym gtt i));
            ranges = same.ranges ∙ was.ranges ∙ (λ i. ranges_of (sym gtt i));
            below = subst (λ g. number_of g < 8) (sym gtt) was.below;
            engines = λ k four. subst (λ x. OccupiesOn d new k (here k) x.element) (sym (engine-same k)) (occupies-on k (engine_at old k).element (was.engines k four));
            beside = beside-same old new (λ k i. (engine-same k i).element) was.beside;
            away = subst (λ g. IsAway d (number_of g) here) (sym gtt) was.away;
            none_above = was.none_above;
            sixteen = was.sixteen;
            kept = λ k four. subst (λ x. length x.kept ≡ 16) (sym (engine-same k)) (was.kept k four);
          };
          translates = subst (λ g. Translates d g) (sym gtt) holds.translates;
          others = λ k four out. subst (λ x. StandsOn d new k (here k) x.element) (sym (engine-same k)) (stands-on k out (engine_at old k).element (holds.engines k four));
        }
          where
            was : Occupies d old here
            was = holds-occupies d old here holds

        pub dword-resets :
            (e : Device) (last : Vgpu) (notice : Notice) → private_of e last here ≡ rest_reset named (private_of d new here) → Keeps here d e new last → notice ≡ injected None
            → Makes here d e old last (dword_written (private_of d old here) offset value) notice
        dword-resets e last notice left keeps is =
            makes-done here d e old last (dword_written (private_of d old here) offset value) None notice
            (does (private_of d old here) ∙ (λ i. quietly (rest_reset named (sym moved i))) ∙ (λ i. quietly (sym left i)))
            (keeps-from e last keeps) is
