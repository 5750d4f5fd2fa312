-- A completion: the tail is written, the element is gone from its list, and status events follow.
use Rattle.std.proofs.Common.{◌≡◌, ◌≢◌, ℕ, ◌+◌, ◌*◌, ◌/◌, ◌<◌, ◌==◌, Bool, true, false, None, Some, List, length, if◌then◌else◌, refl, sym, ◌∙◌, subst}
use Rattle.std.proofs.lemmas.Option.{none-some}
use Rattle.gv_types.specs.Maps.{put}
use Rattle.gv_types.specs.declared.event.Width.TheVariants.{Four}
use Rattle.gv_csb.specs.Slots.{Execlists, completed, completion_events}
use Rattle.gv_csb.specs.declared.status.Status.{Status}
use Rattle.gv_element.specs.Works.{Held}
use Rattle.gv_gpu.specs.Device.{Device}
use Rattle.gv_gtt.specs.Gtt.{number_of}
use Rattle.gv_mmio.specs.Mmio.{SameGuest, behind, ports_at}
use Rattle.gv_private.specs.Device.{Engine as PrivateEngine, PrivateDevice, Working, front_context, with_element, with_slots}
use Rattle.gv_private.specs.Grants.{frame_written, page_grant}
use Rattle.gv_private.specs.Status.{events_given}
use Rattle.gv_private.specs.Turn.{finished}
use Rattle.gv_vgpu.specs.Changes.{Keeps, Makes}
use Rattle.gv_vgpu.specs.Vgpu.{engine_at, private_of, working_in}
use Rattle.gv_vgpu.specs.Standing.{Holds}
use Rattle.gv_vgpu.specs.Turn.{Completes, EndOf, front_tail_written}
use Rattle.gv_vgpu.specs.declared.notice.Notice.{Notice}
use Rattle.gv_vgpu.specs.declared.vgpu.Vgpu.{Vgpu}
use Rattle.gv_vgpu.proofs.Copies.{none-at-work}
use Rattle.gv_vgpu.proofs.General.{put-other, put-own}
use Rattle.gv_vgpu.proofs.Registers.{keeps-then, moved-keeps, registers-moved}

-- ---- the private device

-- It is the same whether the element goes before the tail is written or after.
module _ (p : PrivateDevice) (engine tail : ℕ) (s : Execlists) where
  abbrev without : PrivateEngine
  without = record (p.engines engine) { element = None }

  abbrev behind-it : PrivateEngine
  behind-it = record (p.engines engine) { slots = s }

  abbrev address : PrivateEngine → ℕ
  address e = ((front_context e).page + 1) * 4096 + 4 * 0x05

  either-order : (k : ℕ) → put (put p.engines engine without) engine (record (put p.engines engine without engine) { slots = s }) k ≡ put (put p.engines engine behind-it) engine (record (put p.engines engine behind-it engine) { element = None }) k
  either-order k = choose (k == engine) refl
    where
      choose : (b : Bool) → (k == engine) ≡ b
          → (if b then record (put p.engines engine without engine) { slots = s } else put p.engines engine without k) ≡ (if b then record (put p.engines engine behind-it engine) { element = None } else put p.engines engine behind-it k)
      choose true at = (λ i. record (put-own p.engines engine without i) { slots = s }) ∙ sym (λ i. record (put-own p.engines engine behind-it i) { element = None })
      choose false at = (λ i. if at i then without else p.engines k) ∙ sym (λ i. if at i then behind-it else p.engines k)

  tail-after : with_slots (front_tail_written (with_element p engine None) engine tail) engine s ≡ with_element (with_slots (front_tail_written p engine tail) engine s) engine None
  tail-after =
      (λ i. record (with_slots (front_tail_written (with_element p engine None) engine tail) engine s) {
        memory = frame_written p.memory Four (address (put-own p.engines engine without i)) tail (page_grant p (address (put-own p.engines engine without i) / 4096));
      })
      ∙ (λ i. record (with_slots (front_tail_written p engine tail) engine s) { engines = λ k. either-order k i })

pub finished-is :
    (p q r s : PrivateDevice) (engine tail : ℕ) (w : Working) (events : List Status) → q ≡ with_element p engine None → tail ≡ w.tail → r ≡ front_tail_written q engine tail → s ≡ with_slots r engine (completed (p.engines engine).slots)
    → events ≡ completion_events (p.engines engine).slots.running (p.engines engine).slots.pending → finished p engine w ≡ events_given s engine events
finished-is p q r s engine tail w events gone same written shifted told =
    (λ i. events_given (sym (tail-after p engine w.tail (completed (p.engines engine).slots)) i) engine (completion_events (p.engines engine).slots.running (p.engines engine).slots.pending))
    ∙ (λ i. events_given (with_slots (front_tail_written (sym gone i) engine (sym same i)) engine (completed (p.engines engine).slots)) engine (sym told i))
    ∙ (λ i. events_given (with_slots (sym written i) engine (completed (p.engines engine).slots)) engine events)
    ∙ (λ i. events_given (sym shifted i) engine events)

-- ---- the list without its element

module _ (d : Device) (old new : Vgpu) (here : ℕ → Bool) (engine : ℕ) (s : Execlists) (holds : Holds d old here) (none : (engine_at old engine).element ≡ None)
    (gtt : new.gtt ≡ old.gtt) (engines : new.engines ≡ old.engines) (failsafe : new.failsafe ≡ old.failsafe) (same : SameGuest old.mmio new.mmio)
    (shifted : (p : PrivateDevice) → behind p new.mmio ≡ with_slots (behind p old.mmio) engine s) where
  pub shifted-private : private_of d new here ≡ with_slots (private_of d old here) engine s
  shifted-private = registers-moved d old new here holds gtt engines failsafe ∙ shifted (private_of d old here)

  slots-same : (k : ℕ) → k ≢ engine → (ports_at new.mmio k).slots ≡ (ports_at old.mmio k).slots
  slots-same k differ =
      let p : PrivateDevice = private_of d old here in
      (λ i. ((shifted p i).engines k).slots) ∙ (λ i. (put-other (behind p old.mmio).engines engine k (record ((behind p old.mmio).engines engine) { slots = s }) differ i).slots)

  still-run : (k : ℕ) (x : Held) → (engine_at old k).element ≡ Some x → 0 < length (ports_at old.mmio k).slots.running → 0 < length (ports_at new.mmio k).slots.running
  still-run k x at runs = subst (λ slots. 0 < length slots.running) (sym (slots-same k differ)) runs
    where
      differ : k ≢ engine
      differ is = none-some x (sym (subst (λ n. (engine_at old n).element ≡ None) (sym is) none) ∙ at)

  pub shifted-keeps : Keeps here d d old new
  shifted-keeps = moved-keeps d old new here holds gtt engines failsafe same still-run

-- ---- all of it

module _ (before d e f : Device) (old one new last : Vgpu) (here : ℕ → Bool) (engine : ℕ) (x : Held) (tail : ℕ) (holds : Holds before old here) (end : EndOf here engine before d old one x tail)
    (written : private_of e one here ≡ front_tail_written (private_of d one here) engine tail) (kept : Keeps here d e one one)
    (gtt : new.gtt ≡ one.gtt) (engines : new.engines ≡ one.engines) (failsafe : new.failsafe ≡ one.failsafe) (same : SameGuest one.mmio new.mmio)
    (shifted : (p : PrivateDevice) → behind p new.mmio ≡ with_slots (behind p one.mmio) engine (completed (ports_at one.mmio engine).slots)) where
  gone : (engine_at one engine).element ≡ None
  gone =
      none-at-work d (number_of one.gtt) engine (here engine) (engine_at one engine).element
      ((λ i. ((end.device i).engines engine).element) ∙ (λ i. (put-own (private_of before old here).engines engine (record ((private_of before old here).engines engine) { element = None }) i).element))

  pub completion-keeps : Keeps here before e old new
  completion-keeps =
      keeps-then here before e e old one new
      (keeps-then here before d e old one one end.keeps kept)
      (shifted-keeps e one new here engine (completed (ports_at one.mmio engine).slots) kept.holds gone gtt engines failsafe same shifted)

  pub completes :
      (events : List Status) (notice : Notice) → events ≡ completion_events (ports_at one.mmio engine).slots.running (ports_at one.mmio engine).slots.pending → Makes here e f new last (events_given (private_of e new here) engine events) notice
      → Completes here engine before f old last x notice
  completes events notice told given = record {
    written =
        finished-is (private_of before old here) (private_of d one here) (private_of e one here) (private_of e new here) engine tail (working_in before (number_of old.gtt) engine true x) events end.device end.tail_is written
        (shifted-private e one new here engine (completed (ports_at one.mmio engine).slots) kept.holds gone gtt engines failsafe same shifted
        ∙ (λ i. with_slots (private_of e one here) engine (completed (ports_at (end.mmio i) engine).slots)))
        (told ∙ (λ i. completion_events (ports_at (end.mmio i) engine).slots.running (ports_at (end.mmio i) engine).slots.pending))
        ∙ given.written;
    keeps = keeps-then here before e f old new last completion-keeps given.keeps;
  }
