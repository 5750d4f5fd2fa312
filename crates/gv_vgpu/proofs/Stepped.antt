-- A step of an engine on which an element of the guest's is at work.
use Rattle.std.proofs.Common.{◌≡◌, ℕ, ◌<◌, Bool, true, false, None, Some, List, [], refl, sym, ◌∙◌, subst}
use Rattle.std.proofs.lemmas.List.{append-nil}
use Rattle.gv_types.specs.declared.reply.Outcome.{Outcome}
use Rattle.gv_types.specs.declared.reply.Outcome.TheVariants as outcomes
use Rattle.gv_types.specs.declared.reply.Reason.TheVariants.{Command}
use Rattle.gv_element.specs.Works.{Held, context_now}
use Rattle.gv_gpu.specs.Device.{Device, Loaded, with_spare}
use Rattle.gv_gpu.specs.Part.{guest_part, outside}
use Rattle.gv_gpu.specs.Step.{physical_step}
use Rattle.gv_gpu.specs.declared.step.Step.TheVariants as steps
use Rattle.gv_gtt.specs.Gtt.{frames_of, nodes_in, number_of, ranges_of}
use Rattle.gv_guest.specs.Placed.{Placed}
use Rattle.gv_private.specs.Device.{PrivateDevice, Working, fails, quietly}
use Rattle.gv_private.specs.Turn.{RanCommand, turned}
use Rattle.gv_scan.specs.Layout.{Layout}
use Rattle.gv_shape.specs.Shadow.{Pages}
use Rattle.gv_sring.specs.Window.{page_at}
use Rattle.gv_turn.specs.Work.{EndsAlike, FailsAlike, RunsAlike, StepIs, WaitsAlike}
use Rattle.gv_turn.proofs.Steps.{step_is_turn}
use Rattle.gv_vgpu.specs.Changes.{Keeps, Makes, MayLoad, Stops, Turns, injected, journalled}
use Rattle.gv_vgpu.specs.Turn.{Completes, HasEnded, Unmade}
use Rattle.gv_types.specs.declared.reply.Stop.{Stop}
use Rattle.gv_vgpu.specs.Vgpu.{engine_at, private_of, working_in}
use Rattle.gv_vgpu.specs.Standing.{Holds, StandsAtWork}
use Rattle.gv_vgpu.specs.declared.vgpu.Vgpu.{Vgpu}
use Rattle.gv_vgpu.specs.declared.notice.Notice.{Notice}
use Rattle.gv_vgpu.proofs.Copies.{comes-none, may-load}
use Rattle.gv_vgpu.proofs.Others.{holds-still, private-still}
use Rattle.gv_vgpu.proofs.Registers.{keeps-then}
use Rattle.gv_vgpu.proofs.Working.{at-work, standing}

-- ---- which step it is, by the engine's answer

module _ (d : Device) (placed : Placed) (pages : Pages) (p : PrivateDevice) (engine : ℕ) (w : Working) (l : Loaded) (image : ℕ) (layout : Layout) where
  abbrev Is : Outcome → Type 0
  Is outcome = StepIs d placed pages p engine w l image layout outcome

  is-ended : (outcome : Outcome) → Is outcome → (physical_step d engine).answer ≡ steps.Ended → EndsAlike d p engine w
  is-ended outcomes.Ended step answer = step
  is-ended outcomes.Waited step answer = let other = sym (λ i. (step.step i).answer) ∙ answer in cc
  is-ended outcomes.Failed step answer = let other = sym (λ i. (step.step i).answer) ∙ answer in cc
  is-ended outcomes.Ran step answer = let other = sym (λ i. (step.step i).answer) ∙ answer in cc
  is-ended outcomes.Loaded step answer = absurd step
  is-ended outcomes.Idle step answer = absurd step

  is-waiting : (outcome : Outcome) → Is outcome → (physical_step d engine).answer ≡ steps.Waits → WaitsAlike d p engine
  is-waiting outcomes.Waited step answer = step
  is-waiting outcomes.Ended step answer = let other = sym (λ i. (step.step i).answer) ∙ answer in cc
  is-waiting outcomes.Failed step answer = let other = sym (λ i. (step.step i).answer) ∙ answer in cc
  is-waiting outcomes.Ran step answer = let other = sym (λ i. (step.step i).answer) ∙ answer in cc
  is-waiting outcomes.Loaded step answer = absurd step
  is-waiting outcomes.Idle step answer = absurd step

  is-failed : (outcome : Outcome) → Is outcome → (physical_step d engine).answer ≡ steps.Unlisted → FailsAlike d p engine
  is-failed outcomes.Failed step answer = step
  is-failed outcomes.Ended step answer = let other = sym (λ i. (step.step i).answer) ∙ answer in cc
  is-failed outcomes.Waited step answer = let other = sym (λ i. (step.step i).answer) ∙ answer in cc
  is-failed outcomes.Ran step answer = let other = sym (λ i. (step.step i).answer) ∙ answer in cc
  is-failed outcomes.Loaded step answer = absurd step
  is-failed outcomes.Idle step answer = absurd step

  is-run : (outcome : Outcome) (command : List ℕ) (raise : ℕ) → Is outcome → (physical_step d engine).answer ≡ steps.Ran command raise → RunsAlike d placed pages p engine w l image layout
  is-run outcomes.Ran command raise step answer = step
  is-run outcomes.Ended command raise step answer = let other = sym (λ i. (step.step i).answer) ∙ answer in cc
  is-run outcomes.Waited command raise step answer = let other = sym (λ i. (step.step i).answer) ∙ answer in cc
  is-run outcomes.Failed command raise step answer = let other = sym (λ i. (step.step i).answer) ∙ answer in cc
  is-run outcomes.Loaded command raise step answer = absurd step
  is-run outcomes.Idle command raise step answer = absurd step

  is-not-idle : (outcome : Outcome) → Is outcome → (physical_step d engine).answer ≡ steps.Idle → ⊥
  is-not-idle outcomes.Ran step answer = let other = sym (λ i. (step.step i).answer) ∙ answer in cc
  is-not-idle outcomes.Ended step answer = let other = sym (λ i. (step.step i).answer) ∙ answer in cc
  is-not-idle outcomes.Waited step answer = let other = sym (λ i. (step.step i).answer) ∙ answer in cc
  is-not-idle outcomes.Failed step answer = let other = sym (λ i. (step.step i).answer) ∙ answer in cc
  is-not-idle outcomes.Loaded step answer = absurd step
  is-not-idle outcomes.Idle step answer = absurd step

module _ (d : Device) (v : Vgpu) (here : ℕ → Bool) (engine : ℕ) (x : Held) (holds : Holds d v here) (four : engine < 4) (own : here engine ≡ true) (is : (engine_at v engine).element ≡ Some x) where
  pub stands : StandsAtWork d v engine true x
  stands = standing d v here engine x holds four own is

  abbrev pub number : ℕ
  number = number_of v.gtt

  abbrev pub p : PrivateDevice
  p = private_of d v here

  abbrev pub w : Working
  w = working_in d number engine true x

  abbrev pub l : Loaded
  l = context_now d number engine true

  abbrev pub Alike : Type 0
  Alike = RunsAlike d (frames_of v.gtt) (nodes_in v.gtt) p engine w l (page_at x.window 1) stands.works.runs.layout

  step-is : StepIs d (frames_of v.gtt) (nodes_in v.gtt) p engine w l (page_at x.window 1) stands.works.runs.layout (turned p engine).outcome
  step-is = step_is_turn d (frames_of v.gtt) (nodes_in v.gtt) p engine w l (page_at x.window 1) stands.works.runs.layout (at-work d v here engine x holds own is stands)

  pub awake : v.failsafe ≡ false
  awake = stands.awake

  pub never-idle : (physical_step d engine).answer ≡ steps.Idle → ⊥
  never-idle answer = is-not-idle d (frames_of v.gtt) (nodes_in v.gtt) p engine w l (page_at x.window 1) stands.works.runs.layout (turned p engine).outcome step-is answer

  pub ends : (physical_step d engine).answer ≡ steps.Ended → EndsAlike d p engine w
  ends answer = is-ended d (frames_of v.gtt) (nodes_in v.gtt) p engine w l (page_at x.window 1) stands.works.runs.layout (turned p engine).outcome step-is answer

  pub waits : (physical_step d engine).answer ≡ steps.Waits → WaitsAlike d p engine
  waits answer = is-waiting d (frames_of v.gtt) (nodes_in v.gtt) p engine w l (page_at x.window 1) stands.works.runs.layout (turned p engine).outcome step-is answer

  pub unlisted : (physical_step d engine).answer ≡ steps.Unlisted → FailsAlike d p engine
  unlisted answer = is-failed d (frames_of v.gtt) (nodes_in v.gtt) p engine w l (page_at x.window 1) stands.works.runs.layout (turned p engine).outcome step-is answer

  pub runs-alike : (command : List ℕ) (raise : ℕ) → (physical_step d engine).answer ≡ steps.Ran command raise → Alike
  runs-alike command raise answer = is-run d (frames_of v.gtt) (nodes_in v.gtt) p engine w l (page_at x.window 1) stands.works.runs.layout (turned p engine).outcome command raise step-is answer

-- ---- the turn, by the engine's answer

pub keeps-none : (d : Device) (v : Vgpu) (here : ℕ → Bool) → Holds d v here → Keeps here d d v v
keeps-none d v here holds = record { holds = holds; changes = record { number = refl; frames = refl; ranges = refl; outside = refl; live = λ enough. refl }; copies = comes-none d v v (λ k. refl) }

-- no command ran
pub none-ran : (here : ℕ → Bool) (d e : Device) (old new : Vgpu) (ran : List RanCommand) → ran ≡ [] → Keeps here d e old new → MayLoad here (journalled d ran) e old new
none-ran here d e old new ran none keeps =
    subst (λ ran. MayLoad here (journalled d ran) e old new) (sym none)
    (subst (λ journal. MayLoad here (record d { journal = journal }) e old new) (sym (append-nil d.journal)) (may-load here d e old new keeps))

module _ (d e : Device) (v : Vgpu) (here : ℕ → Bool) (engine : ℕ) (x : Held) (holds : Holds d v here) (four : engine < 4) (own : here engine ≡ true) (is : (engine_at v engine).element ≡ Some x) (after : e ≡ (physical_step d engine).after) where
  -- the context was taken off
  abbrev pub has-ended : (physical_step d engine).answer ≡ steps.Ended → HasEnded e v here engine
  has-ended answer = record {
    before = d;
    element = x;
    holds = holds;
    own = own;
    at_work = is;
    ended = after ∙ (λ i. ((ends d v here engine x holds four own is answer).step i).after);
  }

  pub ended-turns : (f : Device) (new : Vgpu) (notice : Notice) → (physical_step d engine).answer ≡ steps.Ended → Completes here engine d f v new x notice → Turns here d f v new (turned (private_of d v here) engine) outcomes.Ended notice
  ended-turns f new notice answer completes =
      let alike : EndsAlike d (private_of d v here) engine (working_in d (number_of v.gtt) engine true x) = ends d v here engine x holds four own is answer in
      record {
        outcome_is = λ i. (alike.turn i).outcome;
        left = (λ i. (alike.turn i).left) ∙ completes.written;
        keeps = none-ran here d f v new (turned (private_of d v here) engine).ran (λ i. (alike.turn i).ran) completes.keeps;
      }

  -- nothing changed
  pub waited-turns : (physical_step d engine).answer ≡ steps.Waits → Turns here d e v v (turned (private_of d v here) engine) outcomes.Waited (injected None)
  waited-turns answer =
      let alike : WaitsAlike d (private_of d v here) engine = waits d v here engine x holds four own is answer in
      let same : e ≡ d = after ∙ (λ i. (alike.step i).after) in
      record {
        outcome_is = λ i. (alike.turn i).outcome;
        left = (λ i. (alike.turn i).left) ∙ (λ i. quietly (private_of (sym same i) v here));
        keeps = none-ran here d e v v (turned (private_of d v here) engine).ran (λ i. (alike.turn i).ran) (subst (λ e. Keeps here d e v v) (sym same) (keeps-none d v here holds));
      }

  module _ (answer : (physical_step d engine).answer ≡ steps.Unlisted) where
    pub unlisted-same : e ≡ d
    unlisted-same = after ∙ (λ i. ((unlisted d v here engine x holds four own is answer).step i).after)

    pub unlisted-keeps : Keeps here d e v v
    unlisted-keeps = subst (λ e. Keeps here d e v v) (sym unlisted-same) (keeps-none d v here holds)

    pub failed-turns : (f : Device) (new : Vgpu) (notice : Notice) → Makes here e f v new (fails (private_of e v here) Command) notice → Turns here d f v new (turned (private_of d v here) engine) outcomes.Failed notice
    failed-turns f new notice made =
        let alike : FailsAlike d (private_of d v here) engine = unlisted d v here engine x holds four own is answer in
        record {
          outcome_is = λ i. (alike.turn i).outcome;
          left = (λ i. (alike.turn i).left) ∙ (λ i. fails (private_of (sym unlisted-same i) v here) Command) ∙ made.written;
          keeps = none-ran here d f v new (turned (private_of d v here) engine).ran (λ i. (alike.turn i).ran) (keeps-then here d e f v v new unlisted-keeps made.keeps);
        }

-- ---- room in the journal

-- Room that is made changes nothing of the guest's.
module _ (d : Device) (room : ℕ) (v : Vgpu) (here : ℕ → Bool) (holds : Holds d v here) where
  pub spared-holds : Holds (with_spare d room) v here
  spared-holds = holds-still d (with_spare d room) v here holds refl holds.away holds.translates.serving.stands.holds.room

  spared-private : private_of (with_spare d room) v here ≡ private_of d v here
  spared-private = private-still d (with_spare d room) v here holds refl

  pub spared-keeps : Keeps here d (with_spare d room) v v
  spared-keeps = record { holds = spared-holds; changes = record { number = refl; frames = refl; ranges = refl; outside = refl; live = λ enough. refl }; copies = λ k x is. (is, λ j two within. refl) }

  pub spared-turns : (engine : ℕ) (e : Device) (new : Vgpu) (outcome : Outcome) (notice : Notice) → Turns here (with_spare d room) e v new (turned (private_of (with_spare d room) v here) engine) outcome notice
      → Turns here d e v new (turned (private_of d v here) engine) outcome notice
  spared-turns engine e new outcome notice turns =
      let same : Turns here (with_spare d room) e v new (turned (private_of d v here) engine) outcome notice = subst (λ q. Turns here (with_spare d room) e v new (turned q engine) outcome notice) spared-private turns in
      record {
        outcome_is = same.outcome_is;
        left = same.left;
        keeps = record {
          holds = same.keeps.holds;
          changes = record {
            number = same.keeps.changes.number;
            frames = same.keeps.changes.frames;
            ranges = same.keeps.changes.ranges;
            outside = same.keeps.changes.outside;
            live = same.keeps.changes.live;
          };
          copies = same.keeps.copies;
        };
      }

pub unmade-stops : (d e : Device) (v : Vgpu) (here : ℕ → Bool) (stop : Stop) → Unmade d e stop → Stops here d e v stop
unmade-stops d e v here stop unmade = record { outside = λ i. outside (guest_part (number_of v.gtt) (ranges_of v.gtt) here) (unmade.same i); cause = unmade.cause; memory = unmade.memory }
