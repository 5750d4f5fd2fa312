-- A turn as one step of the device.
use Rattle.std.proofs.Common.{◌≡◌, ℕ, ◌<◌, Bool, true, false, List, [], ◌∷◌, Option, None, Some, Result, Ok, Err, if◌then◌else◌, refl, sym, ◌∙◌, subst}
use Rattle.std.specs.Prelude.{IsSome}
use Rattle.std.proofs.lemmas.Bool.{false≢true}
use Rattle.std.proofs.lemmas.List.{append-nil}
use Rattle.gv_types.specs.declared.reply.Outcome.{Outcome}
use Rattle.gv_types.specs.declared.reply.Reason.{Reason}
use Rattle.gv_csb.specs.Slots.{current_of}
use Rattle.gv_element.specs.Works.{Held}
use Rattle.gv_gpu.specs.Change.{Ran as RanThen}
use Rattle.gv_gpu.specs.Device.{Device, with_loaded}
use Rattle.gv_gpu.specs.Part.{Part, guest_part, outside}
use Rattle.gv_gpu.specs.declared.step.Step.{Step}
use Rattle.gv_gtt.specs.Gtt.{number_of, ranges_of}
use Rattle.gv_private.specs.Device.{PrivateDevice}
use Rattle.gv_private.specs.Load.{loaded}
use Rattle.gv_private.specs.Turn.{load_by, next_by}
use Rattle.gv_vgpu.specs.Changes.{Keeps, MayLoad, Turns, journalled}
use Rattle.gv_vgpu.specs.Turn.{Made, StepsAtWork, StepsNone, StepsOnce, StepsOnceBy, StepsThen}
use Rattle.gv_vgpu.specs.Vgpu.{engine_at}
use Rattle.gv_vgpu.specs.Standing.{Holds}
use Rattle.gv_vgpu.specs.declared.vgpu.Vgpu.{Vgpu}
use Rattle.gv_vgpu.specs.declared.notice.Notice.{Notice}
use Rattle.gv_vgpu.proofs.General.{put-other}
use Rattle.gv_vgpu.proofs.Working.{standing}

-- ---- by whether an element is at work

module _ (here : ℕ → Bool) (d e : Device) (old new : Vgpu) (engine : ℕ) (outcome : Outcome) where
  pub work-once : IsSome (engine_at old engine).element → StepsAtWork here d e old new engine outcome → StepsOnce here d e old new engine outcome
  work-once some once = by (engine_at old engine).element some
    where
      by : (o : Option Held) → IsSome o → StepsOnceBy here d e old new engine outcome o
      by None some = absurd (false≢true some)
      by (Some x) some = once

  pub none-once : (engine_at old engine).element ≡ None → StepsNone d e outcome → StepsOnce here d e old new engine outcome
  none-once none once = subst (λ o. StepsOnceBy here d e old new engine outcome o) (sym none) once

-- in failsafe no element is
pub asleep-none : (d : Device) (v : Vgpu) (here : ℕ → Bool) (engine : ℕ) → Holds d v here → engine < 4 → here engine ≡ true → v.failsafe ≡ true → (engine_at v engine).element ≡ None
asleep-none d v here engine holds four own asleep = by (engine_at v engine).element refl
  where
    by : (o : Option Held) → (engine_at v engine).element ≡ o → o ≡ None
    by None is = refl
    by (Some x) is = absurd (false≢true (sym (standing d v here engine x holds four own is).awake ∙ asleep))

-- ---- a step, and what follows

pub made-as : (d e : Device) (engine : ℕ) (answer other : Step) → answer ≡ other → Made d e engine answer → Made d e engine other
made-as d e engine answer other is made = subst (λ a. Made d e engine a) is made

-- where the guest's own changed, no command ran and nothing strayed
pub keeps-ran : (here : ℕ → Bool) (d e : Device) (old new : Vgpu) → Keeps here d e old new → RanThen d e []
keeps-ran here d e old new keeps = record {
  journal = (λ i. (keeps.changes.outside i).journal) ∙ sym (append-nil d.journal);
  strays = λ i. (keeps.changes.outside i).strays;
}

-- the context that was taken off was the guest's own
pub off-keeps : (here : ℕ → Bool) (engine : ℕ) (d e : Device) (old new : Vgpu) → here engine ≡ true → Keeps here d e old new → Keeps here (with_loaded d engine None) e old new
off-keeps here engine d e old new own keeps = record {
  holds = keeps.holds;
  changes = record {
    number = keeps.changes.number;
    frames = keeps.changes.frames;
    ranges = keeps.changes.ranges;
    outside = keeps.changes.outside ∙ (λ i. record (outside whole d) { loaded = λ k. same k (here k) refl i });
    live = keeps.changes.live;
  };
  copies = keeps.copies;
}
  where
    whole : Part
    whole = guest_part (number_of old.gtt) (ranges_of old.gtt) here

    same : (k : ℕ) (h : Bool) → here k ≡ h → (if h then None else d.loaded k) ≡ (if h then None else (with_loaded d engine None).loaded k)
    same k true mine = refl
    same k false mine = sym (put-other d.loaded engine k None (λ is. absurd (false≢true (sym mine ∙ (λ i. here (is i)) ∙ own))))

abbrev pub steps-then : (here : ℕ → Bool) (d e f : Device) (old new : Vgpu) (engine : ℕ) (answer : Step) → Made d e engine answer → Keeps here e f old new → StepsThen here d f old new engine answer
steps-then here d e f old new engine answer made keeps = record { stepped = e; made = made; keeps = keeps; none_ran = keeps-ran here e f old new keeps }

-- ---- no step

loads-ran : (here : ℕ → Bool) (d e : Device) (old new : Vgpu) → MayLoad here (journalled d []) e old new → RanThen d e []
loads-ran here d e old new keeps = record { journal = λ i. (keeps.changes.outside i).journal; strays = λ i. (keeps.changes.outside i).strays }

-- a turn that loads, or by which the guest fails
pub load-none :
    (here : ℕ → Bool) (d e : Device) (old new : Vgpu) (p : PrivateDevice) (r : Result PrivateDevice Reason) (outcome : Outcome) (notice : Notice) → Turns here d e old new (load_by p r) outcome notice → StepsNone d e outcome
load-none here d e old new p (Ok q) outcome notice turns = subst (λ o. StepsNone d e o) turns.outcome_is (loads-ran here d e old new turns.keeps)
load-none here d e old new p (Err reason) outcome notice turns = subst (λ o. StepsNone d e o) turns.outcome_is (loads-ran here d e old new turns.keeps)

pub next-none :
    (here : ℕ → Bool) (d e : Device) (old new : Vgpu) (p : PrivateDevice) (engine : ℕ) (running : List ℕ) (outcome : Outcome) (notice : Notice) → (current_of running ≡ None → ⊥) → Turns here d e old new (next_by p engine running) outcome notice
    → StepsNone d e outcome
next-none here d e old new p engine [] outcome notice some turns = absurd (some refl)
next-none here d e old new p engine (descriptor ∷ more) outcome notice some turns = load-none here d e old new p (loaded p engine descriptor) outcome notice turns
