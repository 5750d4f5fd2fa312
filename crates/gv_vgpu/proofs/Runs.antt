-- A list that runs still runs after a write of a dword, unless that resets engines.
use Rattle.std.proofs.Common.{◌≡◌, ◌≢◌, ℕ, ◌*◌, ◌+◌, ◌^◌, ◌<◌, ◌==◌, nat_lt, not, ◌++◌, Bool, true, false, List, [], ◌∷◌, Option, None, Some, Ok, length, if◌then◌else◌, refl, sym, ◌∙◌, subst, arith}
use Rattle.std.specs.Option.{option_or}
use Rattle.gv_types.specs.declared.reply.Reason.TheVariants.{Entry}
use Rattle.gv_entry.specs.Tables.{has_bad_entry}
use Rattle.gv_csb.specs.Slots.{Execlists, holds_list, is_dropped, is_valid, list_of, pointer_written, pushed, submission_answer, submitted}
use Rattle.gv_csb.specs.declared.status.Status.{Status}
use Rattle.gv_fetch.specs.Fetch.{check}
use Rattle.gv_regs.specs.declared.effect.Target.{Target}
use Rattle.gv_regs.specs.declared.effect.Target.TheVariants.{Own, Elsp, Status as StatusPair, StatusPointer, General, Interrupts, EngineReset, Notify, Absent}
use Rattle.gv_private.specs.Device.{Engine, PrivateDevice, Written, quietly, with_engine, with_slots}
use Rattle.gv_private.specs.Registers.{dword_written_by, with_general}
use Rattle.gv_private.specs.Roots.{is_at_work, left_or_failed, named_root, notify_written, root_created, root_destroyed, with_root, without_root}
use Rattle.gv_private.specs.Status.{event_given, events_given, in_ring}
use Rattle.gv_private.specs.Submission.{list_submitted, port_written_after, starting_events, with_writes}
use Rattle.gv_private.proofs.Keeps.{and_then-keeps}
use Rattle.gv_vgpu.proofs.General.{same-number}

abbrev pub Runs : PrivateDevice → ℕ → Type 0
Runs p k = 0 < length (p.engines k).slots.running

-- ---- events

pub ring-same : (p : PrivateDevice) (engine k : ℕ) (status : Status) → ((in_ring p engine status).engines k).slots.running ≡ (p.engines k).slots.running
ring-same p engine k status = choose (k == engine) refl
  where
    choose : (b : Bool) → (k == engine) ≡ b → (if b then record (p.engines engine) { slots = pushed (p.engines engine).slots status } else p.engines k).slots.running ≡ (p.engines k).slots.running
    choose true is = λ i. (p.engines (sym (same-number k engine is) i)).slots.running
    choose false is = refl

-- a list runs as before
pub events-same : (p : PrivateDevice) (engine k : ℕ) (events : List Status) → ((events_given p engine events).device.engines k).slots.running ≡ (p.engines k).slots.running
events-same p engine k [] = refl
events-same p engine k (status ∷ more) =
    and_then-keeps (λ q. (q.engines k).slots.running ≡ (p.engines k).slots.running) (event_given p engine status) (λ q. events_given q engine more)
    (ring-same p engine k status) (λ q there. events-same q engine k more ∙ there)

-- one event is given as it is alone
pub one-event : (p : PrivateDevice) (engine : ℕ) (status : Status) → events_given p engine (status ∷ []) ≡ event_given p engine status
one-event p engine status = alone p.failsafe (event_given p engine status).irq
  where
    told : Option ℕ → Written
    told irq = record { device = (event_given p engine status).device; irq = irq; reason = None }

    alone : (b : Bool) (irq : Option ℕ) → (if b then told irq else record (quietly (told irq).device) { irq = option_or irq None }) ≡ told irq
    alone true irq = refl
    alone false None = refl
    alone false (Some irq) = refl

-- ---- submission

runs-put : (p : PrivateDevice) (engine k : ℕ) (e : Engine) → (Runs p engine → 0 < length e.slots.running) → Runs p k → Runs (with_engine p engine e) k
runs-put p engine k e goes runs = choose (k == engine) refl
  where
    choose : (b : Bool) → (k == engine) ≡ b → 0 < length (if b then e else p.engines k).slots.running
    choose true is = goes (subst (λ n. Runs p n) (same-number k engine is) runs)
    choose false is = runs

list-some : (first second : ℕ) → 0 < length (list_of first second)
list-some first second = choose (is_valid second)
  where
    choose : (b : Bool) → 0 < length (if b then first ∷ second ∷ [] else first ∷ [])
    choose true = omega arith
    choose false = omega arith

submitted-runs : (s : Execlists) (first second : ℕ) → 0 < length s.running → 0 < length (submitted s first second).running
submitted-runs s first second runs = choose (is_dropped s first) (holds_list s.running)
  where
    choose : (a b : Bool) → 0 < length (if a then s else (if b then record s { pending = list_of first second } else record s { running = list_of first second })).running
    choose true b = runs
    choose false true = runs
    choose false false = list-some first second

list-runs : (p : PrivateDevice) (engine k first second : ℕ) → Runs p k → Runs (list_submitted p engine first second).device k
list-runs p engine k first second runs =
    let q : PrivateDevice = with_slots p engine (submitted (p.engines engine).slots first second) in
    subst (λ (running : List ℕ). 0 < length running) (sym (events-same q engine k (starting_events (submission_answer (p.engines engine).slots first))))
    (runs-put p engine k (record (p.engines engine) { slots = submitted (p.engines engine).slots first second }) (submitted-runs (p.engines engine).slots first second) runs)

writes-run : (p : PrivateDevice) (engine k : ℕ) (writes : List ℕ) → Runs p k → Runs (with_writes p engine writes) k
writes-run p engine k writes runs = runs-put p engine k (record (p.engines engine) { writes = writes }) (λ r. r) runs

port-runs : (writes : List ℕ) (p : PrivateDevice) (engine k value : ℕ) → Runs p k → Runs (port_written_after writes p engine value).device k
port-runs [] p engine k value runs = writes-run p engine k (value ∷ []) runs
port-runs (a ∷ []) p engine k value runs = writes-run p engine k (a ∷ value ∷ []) runs
port-runs (a ∷ b ∷ []) p engine k value runs = writes-run p engine k (a ∷ b ∷ value ∷ []) runs
port-runs (a ∷ b ∷ c ∷ []) p engine k value runs = list-runs (with_writes p engine []) engine k (c * 2 ^ 32 + value) (a * 2 ^ 32 + b) (writes-run p engine k [] runs)
port-runs (a ∷ b ∷ c ∷ d ∷ more) p engine k value runs = writes-run p engine k (a ∷ b ∷ c ∷ d ∷ (more ++ value ∷ [])) runs

-- ---- notify, where the guest doesn't fail

created-runs : (a b : Bool) (p : PrivateDevice) (roots : List ℕ) (k : ℕ) → (left_or_failed p (check a Entry (check b Entry (Ok (record p { roots = roots }))))).reason ≡ None → Runs p k
    → Runs (left_or_failed p (check a Entry (check b Entry (Ok (record p { roots = roots }))))).device k
created-runs false b p roots k quiet runs = cc
created-runs true false p roots k quiet runs = cc
created-runs true true p roots k quiet runs = runs

either-runs : (b : Bool) (p : PrivateDevice) (roots : List ℕ) (k : ℕ) → Runs p k → Runs (if b then p else record p { roots = roots }) k
either-runs true p roots k runs = runs
either-runs false p roots k runs = runs

notify-runs : (p : PrivateDevice) (value k : ℕ) → (notify_written p value).reason ≡ None → Runs p k → Runs (notify_written p value).device k
notify-runs p value k quiet runs = choose (value == 4) (value == 5) quiet
  where
    choose : (a b : Bool) → (if a then root_created p (named_root p) else (if b then quietly (root_destroyed p (named_root p)) else quietly p)).reason ≡ None
        → Runs (if a then root_created p (named_root p) else (if b then quietly (root_destroyed p (named_root p)) else quietly p)).device k
    choose true b still = created-runs (nat_lt (named_root p) (length p.memory)) (not (has_bad_entry p.memory (with_root p.roots (named_root p)))) p (with_root p.roots (named_root p)) k still runs
    choose false true still = either-runs (is_at_work p (named_root p)) p (without_root p.roots (named_root p)) k runs
    choose false false still = runs

-- ---- a dword

pub dword-runs : (target : Target) (p : PrivateDevice) (offset value k : ℕ) → target ≢ EngineReset → (dword_written_by target p offset value).reason ≡ None → Runs p k → Runs (dword_written_by target p offset value).device k
dword-runs Interrupts p offset value k other quiet runs = runs
dword-runs (Elsp engine) p offset value k other quiet runs = port-runs (p.engines engine.0).writes p engine.0 k value runs
dword-runs (StatusPointer engine) p offset value k other quiet runs =
    runs-put p engine.0 k (record (p.engines engine.0) { slots = pointer_written (p.engines engine.0).slots value }) (λ r. r) runs
dword-runs (General engine n) p offset value k other quiet runs =
    runs-put p engine.0 k (record (p.engines engine.0) { general = with_general (p.engines engine.0).general n value }) (λ r. r) runs
dword-runs EngineReset p offset value k other quiet runs = absurd (other refl)
dword-runs Notify p offset value k other quiet runs = notify-runs p value k quiet runs
dword-runs Own p offset value k other quiet runs = runs
dword-runs (StatusPair engine n) p offset value k other quiet runs = runs
dword-runs Absent p offset value k other quiet runs = runs
