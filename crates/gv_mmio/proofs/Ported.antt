-- What a write to a port makes of the device.
use Rattle.std.proofs.Common.{◌≡◌, ◌≢◌, ℕ, ◌+◌, ◌*◌, ◌^◌, ◌<◌, true, List, [], ◌∷◌, Some, None, refl, ap, sym, ◌∙◌, subst}
use Rattle.gv_types.specs.declared.ids.EngineId.{EngineId}
use Rattle.gv_csb.specs.Status.{idle_to_active}
use Rattle.gv_csb.specs.declared.slots.Submitted.{Submitted}
use Rattle.gv_csb.specs.declared.slots.Submitted.TheVariants.{Accepted}
use Rattle.gv_regs.specs.Table.{target_at}
use Rattle.gv_regs.specs.declared.effect.Target.{Target}
use Rattle.gv_regs.specs.declared.effect.Target.TheVariants.{Elsp, EngineReset}
use Rattle.gv_private.specs.Device.{PrivateDevice, Written, quietly, new_device}
use Rattle.gv_private.specs.Registers.{dword_written, dword_written_by}
use Rattle.gv_private.specs.Status.{events_given}
use Rattle.gv_private.specs.Submission.{starting_events, list_submitted, with_writes, port_written, port_written_after}
use Rattle.gv_mmio.specs.Port.{port_after, submission_in}
use Rattle.gv_mmio.specs.Mmio.{behind, ranges_of, IsDone, StartsList, SubmitsList, WritesPort, Writes}
use Rattle.gv_mmio.specs.declared.mmio.Mmio.{Mmio}
use Rattle.gv_mmio.specs.declared.mmio.Wrote.{Wrote}
use Rattle.gv_mmio.specs.declared.mmio.Wrote.TheVariants.{Done, General, Engines, Notify, Starts}
use Rattle.gv_mmio.specs.declared.port.Submission.{Submission}

-- a list that starts, and one that doesn't
pub list-starts : (q r : PrivateDevice) (engine : ℕ) (a : Submitted) → r ≡ q → a ≡ Accepted true → StartsList (events_given q engine (starting_events a)) r engine
list-starts q r engine a same is =
    ap (λ (b : Submitted). events_given q engine (starting_events b)) is
    ∙ ap (λ (s : PrivateDevice). events_given s engine (idle_to_active ∷ [])) (sym same)

pub list-waits : (q r : PrivateDevice) (engine : ℕ) (a : Submitted) → r ≡ q → starting_events a ≡ [] → IsDone (events_given q engine (starting_events a)) r None
list-waits q r engine a same is =
    ap (λ (events : List Rattle.gv_csb.specs.declared.status.Status.Status). events_given q engine events) is
    ∙ ap quietly (sym same)

-- the fourth dword, and another
pub port-full : (writes : List ℕ) (value : ℕ) (p : PrivateDevice) (engine : ℕ) (list : Submission) → submission_in writes value ≡ Some list
    → port_written_after writes p engine value ≡ list_submitted (with_writes p engine (port_after writes value)) engine list.first list.second
port-full [] value p engine list is = cc
port-full (a ∷ []) value p engine list is = cc
port-full (a ∷ b ∷ []) value p engine list is = cc
port-full (a ∷ b ∷ c ∷ []) value p engine list is =
    let whole : Submission = record { first = c * 2 ^ 32 + value; second = a * 2 ^ 32 + b } in
    let same : whole ≡ list = cc in
    ap (λ (l : Submission). list_submitted (with_writes p engine []) engine l.first l.second) same
port-full (a ∷ b ∷ c ∷ d ∷ more) value p engine list is = cc

pub port-more : (writes : List ℕ) (value : ℕ) (p : PrivateDevice) (engine : ℕ) → submission_in writes value ≡ None
    → port_written_after writes p engine value ≡ quietly (with_writes p engine (port_after writes value))
port-more [] value p engine is = refl
port-more (a ∷ []) value p engine is = refl
port-more (a ∷ b ∷ []) value p engine is = refl
port-more (a ∷ b ∷ c ∷ []) value p engine is = cc
port-more (a ∷ b ∷ c ∷ d ∷ more) value p engine is = refl

-- an outcome of an equal write
pub submits-same : (v w : Written) (p : PrivateDevice) (engine : ℕ) (wrote : Wrote) → v ≡ w → SubmitsList w p engine wrote → SubmitsList v p engine wrote
submits-same v w p engine wrote same is = subst (λ (x : Written). SubmitsList x p engine wrote) (sym same) is

-- a write to ELSP is one to the port
module _ (old middle new : Mmio) (offset value : ℕ) (engine : EngineId) (target : target_at offset ≡ Elsp engine) (small : engine.0 < 4) (same : (p : PrivateDevice) → behind p middle ≡ behind p old) where
  abbrev any : PrivateDevice
  any = new_device 0 0 (ranges_of old)

  written : (p : PrivateDevice) → dword_written (behind p old) offset value ≡ port_written (behind p middle) engine.0 value
  written p =
      ap (λ (t : Target). dword_written_by t (behind p old) offset value) target
      ∙ ap (λ (q : PrivateDevice). port_written q engine.0 value) (sym (same p))

  no-reset : target_at offset ≢ EngineReset
  no-reset is = let same : Elsp engine ≡ EngineReset = sym target ∙ is in cc

  pub port-writes : (wrote : Wrote) → WritesPort middle engine.0 value new wrote → Writes old offset value new wrote
  port-writes (Done irq) is = (no-reset, λ p. written p ∙ is p)
  port-writes (Starts other) is = (no-reset, subst (λ n. n < 4) (sym (is any).0) small, λ p. written p ∙ (is p).1 ∙ ap (λ n. events_given (behind p new) n (idle_to_active ∷ [])) (sym (is p).0))
  port-writes (General other n) is = absurd (is any)
  port-writes (Engines named) is = absurd (is any)
  port-writes Notify is = absurd (is any)
