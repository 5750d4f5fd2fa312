-- What a change of registers, interrupts and ports alone leaves.
use Rattle.std.proofs.Common.{◌≡◌, ℕ, ◌<◌, ◌==◌, Bool, true, false, Option, None, Some, length, slice_index_or, if◌then◌else◌, refl, sym, ◌∙◌, subst}
use Rattle.gv_element.specs.Works.{Held, HasNoPage, Works, left_of}
use Rattle.gv_entry.specs.Ranges.{InParts}
use Rattle.gv_entry.specs.SameTables.{has}
use Rattle.gv_gpu.specs.Device.{Device}
use Rattle.gv_gtt.specs.Gtt.{frames_of, gtt_part, nodes_in, number_of, over, ranges_of, roots_in}
use Rattle.gv_gtt.specs.Standing.{Translates}
use Rattle.gv_mmio.specs.Mmio.{SameGuest, behind, ports_at}
use Rattle.gv_csb.specs.Slots.{pushed}
use Rattle.gv_csb.specs.declared.status.Status.{Status}
use Rattle.gv_private.specs.Device.{PrivateDevice, new_device}
use Rattle.gv_private.specs.Status.{in_ring}
use Rattle.gv_sring.specs.Window.{WindowIsAbsent}
use Rattle.gv_turn.specs.Owned.{OwnsLeft}
use Rattle.gv_vgpu.specs.Changes.{Keeps, MayLoad, own_live}
use Rattle.gv_vgpu.specs.Vgpu.{engine_at, engine_in, no_engine, private_of}
use Rattle.gv_vgpu.specs.Standing.{Holds, IsAway, StandsOn}
use Rattle.gv_vgpu.specs.declared.vgpu.Vgpu.{Vgpu}
use Rattle.gv_vgpu.proofs.Copies.{comes-none, comes-then, stay-then}
use Rattle.gv_vgpu.proofs.General.{same-number}
use Rattle.gv_vgpu.proofs.Own.{changes-then}
use Rattle.gv_vgpu.proofs.Same.{beside-same, moves-none, own-same}

module _ (d : Device) (old new : Vgpu) (here : ℕ → Bool) (holds : Holds d old here) (gtt : new.gtt ≡ old.gtt) (engines : new.engines ≡ old.engines) (failsafe : new.failsafe ≡ old.failsafe) where
  -- The private device has the new ones, and all else as it was.
  pub registers-moved : private_of d new here ≡ behind (private_of d old here) new.mmio
  registers-moved = λ i. behind (over (record (new_device 0 0 (ranges_of (gtt i))) {
    failsafe = failsafe i;
    engines = λ k. engine_in d (number_of (gtt i)) k (here k) (slice_index_or (engines i) k no_engine);
  }) d (gtt i)) new.mmio

-- It stands, where the lists of the elements at work still run.
module _ (d : Device) (old new : Vgpu) (here : ℕ → Bool) (holds : Holds d old here) (gtt : new.gtt ≡ old.gtt) (engines : new.engines ≡ old.engines) (failsafe : new.failsafe ≡ old.failsafe)
    (same : SameGuest old.mmio new.mmio) (runs : (k : ℕ) (x : Held) → (engine_at old k).element ≡ Some x → 0 < length (ports_at old.mmio k).slots.running → 0 < length (ports_at new.mmio k).slots.running) where
  -- with the old memory and tables
  stands-moved : (k : ℕ) (element : Option Held) → (engine_at old k).element ≡ element → StandsOn d old k (here k) element → StandsOn d new k (here k) element
  stands-moved k None at stands = record { window = subst (λ g. WindowIsAbsent d (number_of g) k) (sym gtt) stands.window; idle = stands.idle }
  stands-moved k (Some x) at stands = record {
    root_page = stands.root_page;
    root = subst (λ g. has (roots_in g) x.root ≡ true) (sym gtt) stands.root;
    shadow_root = subst (λ g. nodes_in g 4 x.root ≡ Some stands.root_page) (sym gtt) stands.shadow_root;
    works = subst (λ g. Works d (number_of g) k (here k) stands.root_page x) (sym gtt) stands.works;
    owned = subst (λ g. OwnsLeft (ranges_of g) (left_of d (number_of g) k (here k))) (sym gtt) stands.owned;
    apart = subst (λ g. HasNoPage (gtt_part g) x.window) (sym gtt) stands.apart;
    running = runs k x at stands.running;
    awake = failsafe ∙ stands.awake;
  }

  engine-same : (k : ℕ) → engine_at new k ≡ engine_at old k
  engine-same k = λ i. slice_index_or (engines i) k no_engine

  pub moved-keeps : Keeps here d d old new
  moved-keeps = record {
    holds = record {
      translates = subst (λ g. Translates d g) (sym gtt) holds.translates;
      parts = subst (λ g. InParts (ranges_of g)) (sym gtt) holds.parts;
      number = same.guest ∙ holds.number ∙ (λ i. number_of (sym gtt i));
      ranges = same.ranges ∙ holds.ranges ∙ (λ i. ranges_of (sym gtt i));
      below = subst (λ g. number_of g < 8) (sym gtt) holds.below;
      engines = λ k four. subst (λ x. StandsOn d new k (here k) x.element) (sym (engine-same k)) (stands-moved k (engine_at old k).element refl (holds.engines k four));
      beside = beside-same old new (λ k i. (engine-same k i).element) holds.beside;
      away = subst (λ g. IsAway d (number_of g) here) (sym gtt) holds.away;
      none_above = holds.none_above;
      sixteen = holds.sixteen;
      kept = λ k four. subst (λ x. length x.kept ≡ 16) (sym (engine-same k)) (holds.kept k four);
    };
    changes = record {
      number = λ i. number_of (gtt i);
      frames = λ i. length (frames_of (gtt i)).pages;
      ranges = λ i. ranges_of (gtt i);
      outside = refl;
      live = moves-none d (own_live old) (own_live new) (own-same old new (λ k i. (engine-same k i).element) gtt);
    };
    copies = comes-none d old new (λ k i. (engine-same k i).element);
  }

-- one call after another
pub keeps-then : (here : ℕ → Bool) (d e f : Device) (a b c : Vgpu) → Keeps here d e a b → Keeps here e f b c → Keeps here d f a c
keeps-then here d e f a b c first second = record {
  holds = second.holds;
  changes = changes-then here d e f a b c first.changes second.changes;
  copies = comes-then d e f a b c first.copies second.copies;
}

-- one that may put an element to work, behind one that leaves the elements
pub load-then :
    (here : ℕ → Bool) (d e f : Device) (a b c : Vgpu) → ((k : ℕ) → (engine_at b k).element ≡ (engine_at a k).element) → Keeps here d e a b → MayLoad here e f b c → MayLoad here d f a c
load-then here d e f a b c elements first second = record {
  holds = second.holds;
  changes = changes-then here d e f a b c first.changes second.changes;
  copies = stay-then d e f a b c elements first.copies second.copies;
}

-- an event in the ring stops no list
pub ring-runs : (p : PrivateDevice) (engine k : ℕ) (status : Status) → 0 < length (p.engines k).slots.running → 0 < length ((in_ring p engine status).engines k).slots.running
ring-runs p engine k status runs = choose (k == engine) refl
  where
    choose : (b : Bool) → (k == engine) ≡ b → 0 < length (if b then record (p.engines engine) { slots = pushed (p.engines engine).slots status } else p.engines k).slots.running
    choose true is = subst (λ k. 0 < length (p.engines k).slots.running) (same-number k engine is) runs
    choose false is = runs
