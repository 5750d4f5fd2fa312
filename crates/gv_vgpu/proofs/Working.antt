-- The element of an engine that a guest owns is at work there, as the laws of a step ask.
use Rattle.std.proofs.Common.{◌≡◌, ℕ, ◌<◌, Bool, true, Some, refl, sym, ◌∙◌, subst}
use Rattle.gv_element.specs.Works.{Held, context_now, left_of}
use Rattle.gv_entry.specs.Ranges.{InParts, owns_page}
use Rattle.gv_gpu.specs.Device.{Device}
use Rattle.gv_gtt.specs.Gtt.{frames_of, number_of, nodes_in, over}
use Rattle.gv_gtt.proofs.Standing.{translation_shadows, translation_mirrors}
use Rattle.gv_private.specs.Device.{PrivateDevice}
use Rattle.gv_private.specs.Grants.{page_grant}
use Rattle.gv_fetch.specs.Left.{IsLeft}
use Rattle.gv_sggtt.specs.Mirror.{NamesFrame}
use Rattle.gv_sring.specs.Window.{page_at}
use Rattle.gv_turn.specs.Owned.{OwnsLeft}
use Rattle.gv_turn.specs.Work.{AtWork}
use Rattle.gv_turn.proofs.Steps.{step_is_turn}
use Rattle.gv_vgpu.specs.Laws.{ElementsAtWorkStand, StepIsItsTurn}
use Rattle.gv_vgpu.specs.Vgpu.{engine_at, general_in, element_in, private_of, working_in}
use Rattle.gv_vgpu.specs.Standing.{Holds, StandsOn, StandsAtWork}
use Rattle.gv_vgpu.specs.declared.vgpu.Vgpu.{Vgpu}

-- the private device has the number and the ranges of its memory and tables
pub over-private : (d : Device) (v : Vgpu) (here : ℕ → Bool) → Holds d v here → over (private_of d v here) d v.gtt ≡ private_of d v here
over-private d v here holds = λ i. record (private_of d v here) { number = sym holds.number i; ranges = sym holds.ranges i }

-- what stands of an engine that the guest owns, and that has an element
pub standing : (d : Device) (v : Vgpu) (here : ℕ → Bool) (engine : ℕ) (x : Held) → Holds d v here → engine < 4 → here engine ≡ true → (engine_at v engine).element ≡ Some x → StandsAtWork d v engine true x
standing d v here engine x holds below owned is =
    subst (λ element. StandsOn d v engine true element) is
    (subst (λ own. StandsOn d v engine own (engine_at v engine).element) owned (holds.engines engine below))

pub at-work :
    (d : Device) (v : Vgpu) (here : ℕ → Bool) (engine : ℕ) (x : Held) → (holds : Holds d v here) → here engine ≡ true → (engine_at v engine).element ≡ Some x → (stands : StandsAtWork d v engine true x)
    → AtWork d (frames_of v.gtt) (nodes_in v.gtt) (private_of d v here) engine (working_in d (number_of v.gtt) engine true x) (context_now d (number_of v.gtt) engine true) (page_at x.window 1) stands.works.runs.layout
at-work d v here engine x holds own is stands =
    let p : PrivateDevice = private_of d v here in
    record {
      number = holds.number;
      parts = subst InParts (sym holds.ranges) holds.parts;
      awake = stands.awake;
      stands = holds.translates.serving.stands.holds.stands;
      memory = refl;
      shadows = translation_shadows d v.gtt holds.translates;
      mirrors = λ page owned.
          subst (λ q. NamesFrame (frames_of v.gtt) (page_grant q page) (d.global page)) (over-private d v here holds)
          (translation_mirrors d v.gtt p holds.translates page (subst (λ ranges. owns_page ranges page ≡ true) holds.ranges owned));
      general = λ i. general_in d engine (own i) (engine_at v engine).kept;
      element = λ i. element_in d (number_of v.gtt) engine (own i) (is i);
      root = stands.root;
      shadow_root = stands.shadow_root ∙ (λ i. Some (sym stands.works.runs.context.root i));
      loaded = stands.works.loaded refl;
      owner = stands.works.runs.context.owner ∙ stands.works.window.guest_is;
      place = stands.works.runs.stands;
      left = subst (λ e. IsLeft e (left_of d (number_of v.gtt) engine true)) stands.works.window.engine_is stands.works.runs.form;
      owned = subst (λ ranges. OwnsLeft ranges (left_of d (number_of v.gtt) engine true)) (sym holds.ranges) stands.owned;
    }

pub elements_at_work_stand : ElementsAtWorkStand
elements_at_work_stand d v here engine x holds below own is =
    let stands : StandsAtWork d v engine true x = standing d v here engine x holds below own is in (stands.works.runs.layout, at-work d v here engine x holds own is stands)

pub step_is_its_turn : StepIsItsTurn
step_is_its_turn d v here engine x holds below own is =
    let stands : StandsAtWork d v engine true x = standing d v here engine x holds below own is in (
      stands.works.runs.layout,
      step_is_turn d (frames_of v.gtt) (nodes_in v.gtt) (private_of d v here) engine (working_in d (number_of v.gtt) engine true x) (context_now d (number_of v.gtt) engine true) (page_at x.window 1) stands.works.runs.layout
          (at-work d v here engine x holds own is stands),
    )
