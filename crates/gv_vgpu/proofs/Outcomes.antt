-- What follows of a step, by what the engine answered, and of a turn without an element.
use Rattle.std.proofs.Common.{◌≡◌, ◌≢◌, ℕ, ◌^◌, ◌<◌, Bool, true, false, Option, None, Some, List, [], ◌∷◌, Result, Ok, Err, length, slice_index, slice_index_or, if◌then◌else◌, refl, sym, ◌∙◌, subst}
use Rattle.std.specs.Prelude.{IsErr, IsSome, OnErr}
use Rattle.std.specs.Option.{is_some}
use Rattle.std.proofs.lemmas.Bool.{false≢true}
use Rattle.std.proofs.lemmas.List.{get_or_default}
use Rattle.gv_types.specs.declared.reply.Outcome.{Outcome}
use Rattle.gv_types.specs.declared.reply.Outcome.TheVariants as outcomes
use Rattle.gv_types.specs.declared.reply.Reason.{Reason}
use Rattle.gv_types.specs.declared.reply.Reason.TheVariants.{Command}
use Rattle.gv_types.specs.declared.reply.Stop.{Stop}
use Rattle.gv_csb.specs.Slots.{current_of}
use Rattle.gv_element.specs.Works.{Held, KeepsEngines}
use Rattle.gv_gpu.specs.Device.{Device, with_spare}
use Rattle.gv_gpu.specs.Step.{physical_step}
use Rattle.gv_gpu.specs.declared.step.Step.{Step}
use Rattle.gv_gpu.specs.declared.step.Step.TheVariants as steps
use Rattle.gv_gtt.specs.Gtt.{number_of}
use Rattle.gv_mmio.specs.Mmio.{ports_at}
use Rattle.gv_private.specs.Device.{PrivateDevice, fails, quietly}
use Rattle.gv_private.specs.Load.{loaded}
use Rattle.gv_private.specs.Status.{command_raised}
use Rattle.gv_private.specs.Device.{Working}
use Rattle.gv_private.specs.Turn.{command_by, finished, front_effect, front_words, load_by, next_by, run_by, turned, turned_as, turned_by}
use Rattle.gv_private.specs.Space.{PrivateSpace}
use Rattle.gv_fetch.specs.Left.{is_done, stands_of}
use Rattle.gv_cmd.specs.Allowed.{is_allowed}
use Rattle.gv_cmd.specs.Command.{decoded}
use Rattle.gv_cmd.specs.declared.command.Unlisted.{Unlisted}
use Rattle.gv_vgpu.specs.Changes.{ChangesOwn, Keeps, Makes, Stops, Turns, injected}
use Rattle.gv_vgpu.specs.Vgpu.{element_in, engine_at, no_engine, private_of, working_in}
use Rattle.gv_vgpu.specs.Standing.{Holds, Occupies}
use Rattle.gv_vgpu.specs.Turn.{Completes, HasEnded, Made, StepsOnce}
use Rattle.gv_vgpu.specs.declared.engine.Engine.{Engine}
use Rattle.gv_vgpu.specs.declared.vgpu.Vgpu.{Vgpu}
use Rattle.gv_vgpu.specs.declared.notice.Notice.{Notice}
use Rattle.gv_vgpu.proofs.Failing.{holds-occupies}
use Rattle.gv_vgpu.proofs.OneStep.{made-as, next-none, none-once, off-keeps, steps-then, work-once}
use Rattle.gv_vgpu.proofs.Own.{stops-then}
use Rattle.gv_vgpu.proofs.Running.{ran-holds, ran-turns}
use Rattle.gv_vgpu.proofs.Stepped.{Alike, awake, ended-turns, failed-turns, has-ended, keeps-none, never-idle, none-ran, runs-alike, spared-holds, spared-keeps, spared-turns, unlisted-same, waited-turns}

-- an element that is there
abbrev held : (o : Option Held) → IsSome o → Held
held None some = absurd (false≢true some)
held (Some x) some = x

held-is : (o : Option Held) → (some : IsSome o) → o ≡ Some (held o some)
held-is None some = absurd (false≢true some)
held-is (Some x) some = refl

pub same-command : (a b : List ℕ) (m n : ℕ) → steps.Ran a m ≡ steps.Ran b n → a ≡ b
same-command a b m n is = cc

same-raise : (a b : List ℕ) (m n : ℕ) → steps.Ran a m ≡ steps.Ran b n → m ≡ n
same-raise a b m n is = cc

-- what holds after an error
pub after-error : {T E : Type 0} (P : Type 0) (r : Result T E) → IsErr r → OnErr r P → P
after-error P (Ok x) error holds = absurd (false≢true error)
after-error P (Err e) error holds = holds

module _ (d : Device) (v : Vgpu) (here : ℕ → Bool) (engine : ℕ) (holds : Holds d v here) (four : engine < 4) (own : here engine ≡ true) (work : IsSome (engine_at v engine).element) (e : Device) (answer : Step) (made : Made d e engine answer) where
  abbrev x : Held
  x = held (engine_at v engine).element work

  is : (engine_at v engine).element ≡ Some x
  is = held-is (engine_at v engine).element work

  -- the device with room for the entry
  abbrev f : Device
  f = with_spare d made.room

  spared : Holds f v here
  spared = spared-holds d made.room v here holds

  answered : (a : Step) → answer ≡ a → (physical_step f engine).answer ≡ a
  answered a at = sym made.answer_is ∙ at

  pub step-awake : v.failsafe ≡ false
  step-awake = awake f v here engine x spared four own is

  pub step-never-idle : answer ≡ steps.Idle → ⊥
  step-never-idle at = never-idle f v here engine x spared four own is (answered steps.Idle at)

  abbrev ended-at : answer ≡ steps.Ended → HasEnded e v here engine
  ended-at at = has-ended f e v here engine x spared four own is made.after_is (answered steps.Ended at)

  pub step-ended : answer ≡ steps.Ended → HasEnded e v here engine
  step-ended at = ended-at at

  pub step-ended-turns :
      (g : Device) (new : Vgpu) (notice : Notice) → answer ≡ steps.Ended → ((ended : HasEnded e v here engine) → Completes here engine ended.before g v new ended.element notice)
      → Turns here d g v new (turned (private_of d v here) engine) outcomes.Ended notice
  step-ended-turns g new notice at completes =
      spared-turns d made.room v here holds engine g new outcomes.Ended notice
      (ended-turns f e v here engine x spared four own is made.after_is g new notice (answered steps.Ended at) (completes (ended-at at)))

  pub step-waited-turns : answer ≡ steps.Waits → Turns here d e v v (turned (private_of d v here) engine) outcomes.Waited (injected None)
  step-waited-turns at =
      spared-turns d made.room v here holds engine e v outcomes.Waited (injected None) (waited-turns f e v here engine x spared four own is made.after_is (answered steps.Waits at))

  module _ (at : answer ≡ steps.Unlisted) where
    same : e ≡ f
    same = unlisted-same f e v here engine x spared four own is made.after_is (answered steps.Unlisted at)

    pub step-occupies : Occupies e v here
    step-occupies = subst (λ e. Occupies e v here) (sym same) (holds-occupies f v here spared)

    pub step-failed-turns : (g : Device) (new : Vgpu) (notice : Notice) → Makes here e g v new (fails (private_of e v here) Command) notice → Turns here d g v new (turned (private_of d v here) engine) outcomes.Failed notice
    step-failed-turns g new notice fail =
        spared-turns d made.room v here holds engine g new outcomes.Failed notice (failed-turns f e v here engine x spared four own is made.after_is (answered steps.Unlisted at) g new notice fail)

    pub step-failed-stops : (g : Device) (stop : Stop) → Stops here e g v stop → Stops here d g v stop
    step-failed-stops g stop stops = stops-then here d e g v v stop (subst (λ e. ChangesOwn here d e v v) (sym same) (spared-keeps d made.room v here holds).changes) stops

  -- ---- and it is one step

  pub step-ran-once : (command : List ℕ) (raise : ℕ) (new : Vgpu) → answer ≡ steps.Ran command raise → StepsOnce here d e v new engine outcomes.Ran
  step-ran-once command raise new at = work-once here d e v new engine outcomes.Ran work (command, raise, made-as d e engine answer (steps.Ran command raise) at made)

  pub step-waited-once : answer ≡ steps.Waits → StepsOnce here d e v v engine outcomes.Waited
  step-waited-once at = work-once here d e v v engine outcomes.Waited work (made-as d e engine answer steps.Waits at made)

  pub step-ended-once :
      (g : Device) (new : Vgpu) (notice : Notice) → answer ≡ steps.Ended → ((ended : HasEnded e v here engine) → Completes here engine ended.before g v new ended.element notice) → KeepsEngines e g
      → StepsOnce here d g v new engine outcomes.Ended
  step-ended-once g new notice at completes engines =
      let done : Completes here engine f g v new x notice = completes (ended-at at) in
      work-once here d g v new engine outcomes.Ended work (
        steps-then here d e g v new engine steps.Ended (made-as d e engine answer steps.Ended at made)
            (subst (λ e. Keeps here e g v new) (sym (ended-at at).ended) (off-keeps here engine f g v new own done.keeps)),
        engines,
      )

  pub step-failed-once : (g : Device) (new : Vgpu) (notice : Notice) → answer ≡ steps.Unlisted → Makes here e g v new (fails (private_of e v here) Command) notice → StepsOnce here d g v new engine outcomes.Failed
  step-failed-once g new notice at fail =
      work-once here d g v new engine outcomes.Failed work (steps-then here d e g v new engine steps.Unlisted (made-as d e engine answer steps.Unlisted at made) fail.keeps)

  pub step-ran-turns :
      (command : List ℕ) (raise : ℕ) (new : Vgpu) (irq : Option ℕ) → answer ≡ steps.Ran command raise → slice_index command 1 < 2 ^ 32
      → ((d : Device) (here : ℕ → Bool) → Holds d v here → Makes here d d v new (command_raised (private_of d v here) engine raise) (injected irq))
      → Turns here d e v new (turned (private_of d v here) engine) outcomes.Ran (injected irq)
  step-ran-turns command raise new irq at small ran =
      let runs : Alike f v here engine x spared four own is = runs-alike f v here engine x spared four own is command raise (answered (steps.Ran command raise) at) in
      let ran_is : steps.Ran command raise ≡ steps.Ran runs.command runs.raise = sym (answered (steps.Ran command raise) at) ∙ (λ i. (runs.step i).answer) in
      let fits : slice_index runs.command 1 < 2 ^ 32 = subst (λ ws. slice_index ws 1 < 2 ^ 32) (same-command command runs.command raise runs.raise ran_is) small in
      let after : e ≡ runs.after = made.after_is ∙ (λ i. (runs.step i).after) in
      spared-turns d made.room v here holds engine e new outcomes.Ran (injected irq)
      (subst (λ e. Turns here f e v new (turned (private_of f v here) engine) outcomes.Ran (injected irq)) (sym after)
      (ran-turns f v here engine x spared four own is runs fits raise new irq (same-raise command runs.command raise runs.raise ran_is)
      (ran runs.after here (ran-holds f v here engine x spared four own is runs fits))))

-- ---- no element at work

-- no element in the engine's place of the list
pub none-there : (engines : List Engine) (engine : ℕ) (other : Engine) (there : Bool) → engine < length engines → there ≡ is_some (slice_index_or engines engine other).element → there ≡ false → (slice_index_or engines engine no_engine).element ≡ None
none-there engines engine other there within was gone = by (slice_index_or engines engine no_engine).element ((λ i. is_some (get_or_default engines engine no_engine other within i).element) ∙ sym was ∙ gone)
  where
    by : (o : Option Held) → is_some o ≡ false → o ≡ None
    by None absent = refl
    by (Some x) absent = absurd (false≢true (sym absent))

-- and where one is
pub some-there : (engines : List Engine) (engine : ℕ) (other : Engine) (there : Bool) → engine < length engines → there ≡ is_some (slice_index_or engines engine other).element → there ≡ true → IsSome (slice_index_or engines engine no_engine).element
some-there engines engine other there within was is = (λ i. is_some (get_or_default engines engine no_engine other within i).element) ∙ sym was ∙ is

module _ (d : Device) (v : Vgpu) (here : ℕ → Bool) (engine : ℕ) (holds : Holds d v here) (asleep : v.failsafe ≡ false) (none : (engine_at v engine).element ≡ None) where
  abbrev p : PrivateDevice
  p = private_of d v here

  next-is : turned p engine ≡ next_by p engine (ports_at v.mmio engine).slots.running
  next-is = λ i. if asleep i then turned_as outcomes.Idle (quietly p) else turned_by p engine (element_in d (number_of v.gtt) engine (here engine) (none i))

  idle-by : (running : List ℕ) → current_of running ≡ None → next_by p engine running ≡ turned_as outcomes.Idle (quietly p)
  idle-by [] current = refl
  idle-by (descriptor ∷ more) current = cc

  -- the turn steps nothing
  pub loads-once : (e : Device) (new : Vgpu) (outcome : Outcome) (notice : Notice) → (current_of (ports_at v.mmio engine).slots.running ≡ None → ⊥) → Turns here d e v new (turned p engine) outcome notice → StepsOnce here d e v new engine outcome
  loads-once e new outcome notice some turns =
      none-once here d e v new engine outcome none
      (next-none here d e v new p engine (ports_at v.mmio engine).slots.running outcome notice some (subst (λ t. Turns here d e v new t outcome notice) next-is turns))

  -- without a list the engine is idle
  pub idle-turns : current_of (ports_at v.mmio engine).slots.running ≡ None → Turns here d d v v (turned p engine) outcomes.Idle (injected None)
  idle-turns current =
      let idle = next-is ∙ idle-by (ports_at v.mmio engine).slots.running current in
      record {
        outcome_is = λ i. (idle i).outcome;
        left = λ i. (idle i).left;
        keeps = none-ran here d d v v (turned p engine).ran (λ i. (idle i).ran) (keeps-none d v here holds);
      }

-- ---- a turn that isn't idle

busy-run : (p : PrivateDevice) (engine : ℕ) (w : Working) (ws : List ℕ) (dwords : ℕ) (s : PrivateSpace) (raise : Option ℕ) → (run_by p engine w ws dwords s raise).outcome ≢ outcomes.Idle
busy-run p engine w ws dwords s None is = cc
busy-run p engine w ws dwords s (Some bits) is = cc

busy-allowed :
    (p : PrivateDevice) (engine : ℕ) (w : Working) (ws : List ℕ) (dwords : ℕ) (s : PrivateSpace) (raise : Option ℕ) (allowed : Bool)
    → (if allowed then run_by p engine w ws dwords s raise else turned_as outcomes.Failed (fails p Command)).outcome ≢ outcomes.Idle
busy-allowed p engine w ws dwords s raise true is = busy-run p engine w ws dwords s raise is
busy-allowed p engine w ws dwords s raise false is = cc

busy-command : (p : PrivateDevice) (engine : ℕ) (w : Working) (r : Result (List ℕ × ℕ) Unlisted) → (command_by p engine w r).outcome ≢ outcomes.Idle
busy-command p engine w (Err unlisted) is = cc
busy-command p engine w (Ok (ws, dwords)) is = busy-allowed p engine w ws dwords (front_effect p engine w ws).after (front_effect p engine w ws).raise (is_allowed ws (stands_of w.left) engine) is

busy-done : (p : PrivateDevice) (engine : ℕ) (w : Working) (done : Bool) → (if done then turned_as outcomes.Ended (finished p engine w) else command_by p engine w (decoded (front_words p engine w))).outcome ≢ outcomes.Idle
busy-done p engine w true is = cc
busy-done p engine w false is = busy-command p engine w (decoded (front_words p engine w)) is

busy-load : (p : PrivateDevice) (r : Result PrivateDevice Reason) → (load_by p r).outcome ≢ outcomes.Idle
busy-load p (Ok q) is = cc
busy-load p (Err reason) is = cc

busy-next : (p : PrivateDevice) (engine : ℕ) (running : List ℕ) → (current_of running ≡ None → ⊥) → (next_by p engine running).outcome ≢ outcomes.Idle
busy-next p engine [] some is = some refl
busy-next p engine (descriptor ∷ more) some is = busy-load p (loaded p engine descriptor) is

awake-turn : (p : PrivateDevice) (engine : ℕ) → p.failsafe ≡ false → (turned_by p engine (p.engines engine).element).outcome ≢ outcomes.Idle → (turned p engine).outcome ≢ outcomes.Idle
awake-turn p engine asleep busy is = busy ((λ i. (if sym asleep i then turned_as outcomes.Idle (quietly p) else turned_by p engine (p.engines engine).element).outcome) ∙ is)

-- an element at work makes it busy, and so does a list
pub work-is-busy : (d : Device) (v : Vgpu) (here : ℕ → Bool) (engine : ℕ) → v.failsafe ≡ false → IsSome (engine_at v engine).element → (turned (private_of d v here) engine).outcome ≢ outcomes.Idle
work-is-busy d v here engine asleep some =
    let x : Held = held (engine_at v engine).element some in
    let w : Working = working_in d (number_of v.gtt) engine (here engine) x in
    let p : PrivateDevice = private_of d v here in
    awake-turn p engine asleep (λ is. busy-done p engine w (is_done w.left) ((λ i. (turned_by p engine (element_in d (number_of v.gtt) engine (here engine) (sym (held-is (engine_at v engine).element some) i))).outcome) ∙ is))

pub list-is-busy :
    (d : Device) (v : Vgpu) (here : ℕ → Bool) (engine : ℕ) → v.failsafe ≡ false → (engine_at v engine).element ≡ None → (current_of (ports_at v.mmio engine).slots.running ≡ None → ⊥) → (turned (private_of d v here) engine).outcome ≢ outcomes.Idle
list-is-busy d v here engine asleep none some =
    let p : PrivateDevice = private_of d v here in
    awake-turn p engine asleep (λ is. busy-next p engine (ports_at v.mmio engine).slots.running some ((λ i. (turned_by p engine (element_in d (number_of v.gtt) engine (here engine) (sym none i))).outcome) ∙ is))

-- and then it may fail
pub on-err-busy : {T E : Type 0} (r : Result T E) (p : PrivateDevice) (engine : ℕ) → (turned p engine).outcome ≢ outcomes.Idle → OnErr r ((turned p engine).outcome ≢ outcomes.Idle)
on-err-busy (Ok value) p engine busy = tt
on-err-busy (Err failed) p engine busy = busy
