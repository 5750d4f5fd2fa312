-- A command of an element of the guest's ran: what stands then, and for which private device.
use Rattle.std.proofs.Common.{◌≡◌, ◌≢◌, ℕ, ◌+◌, ◌*◌, ◌%◌, ◌^◌, ◌<◌, ◌≤◌, ◌==◌, Bool, true, false, Option, None, Some, List, [], ◌∷◌, length, slice_index, slice_index_or, if◌then◌else◌, refl, sym, ◌∙◌, subst}
use Rattle.std.proofs.lemmas.Bool.{false≢true}
use Rattle.gv_types.specs.Memory.{Memory}
use Rattle.gv_types.specs.declared.ranges.Ranges.{Ranges}
use Rattle.gv_types.specs.declared.reply.Outcome.TheVariants as outcomes
use Rattle.gv_element.specs.Works.{Held, KeepsWindow, WorksWith, context_now, left_of}
use Rattle.gv_element.proofs.Going.{goes-on, moves-short, moves-small}
use Rattle.gv_element.proofs.Staying.{work-stays}
use Rattle.gv_entry.specs.SameTables.{SameTables}
use Rattle.gv_gpu.specs.Device.{Device, Loaded}
use Rattle.gv_gpu.specs.Part.{first_of_window, guest_part, step_part, shadow_label}
use Rattle.gv_gpu.proofs.Guests.{step-within}
use Rattle.gv_gpu.proofs.Parts.{outside-widen}
use Rattle.gv_gpu.proofs.Seen.{general-others, loaded-others}
use Rattle.gv_gtt.specs.Gtt.{frames_of, memory_of, number_of, own_pages, ranges_of, roots_in}
use Rattle.gv_gtt.specs.Standing.{Translates}
use Rattle.gv_gtt.proofs.Standing.{translation_keeps}
use Rattle.gv_mmio.specs.Mmio.{ports_at}
use Rattle.gv_mmio.specs.Port.{writes_of}
use Rattle.gv_place.specs.Place.{StandsFor}
use Rattle.gv_place.specs.Seen.{IsShort}
use Rattle.gv_private.specs.Device.{Engine, PrivateDevice}
use Rattle.gv_private.specs.Status.{command_raised}
use Rattle.gv_private.specs.Turn.{RanCommand, turned}
use Rattle.gv_sctx.specs.Context.{FitsDwords}
use Rattle.gv_sring.specs.Window.{Shows, Window, page_at}
use Rattle.gv_turn.specs.Owned.{OwnsLeft}
use Rattle.gv_turn.specs.Work.{own_entry}
use Rattle.gv_vgpu.specs.Changes.{Keeps, Makes, MayLoad, Turns, injected, journalled, own_live}
use Rattle.gv_vgpu.specs.Vgpu.{element_in, engine_at, engine_in, general_in, private_of}
use Rattle.gv_vgpu.specs.Standing.{Holds, StandsAtWork, StandsOn}
use Rattle.gv_vgpu.specs.declared.vgpu.Vgpu.{Vgpu}
use Rattle.gv_vgpu.proofs.Copies.{comes-each, may-load}
use Rattle.gv_vgpu.proofs.Engines.{each-engine}
use Rattle.gv_vgpu.proofs.General.{not-equal, other-number, same-number}
use Rattle.gv_vgpu.proofs.Registers.{keeps-then}
use Rattle.gv_vgpu.proofs.Stepped.{Alike, stands as standing-at}

module _ (d : Device) (v : Vgpu) (here : ℕ → Bool) (engine : ℕ) (x : Held) (holds : Holds d v here) (four : engine < 4) (own : here engine ≡ true) (is : (engine_at v engine).element ≡ Some x)
    (runs : Alike d v here engine x holds four own is) (small : slice_index runs.command 1 < 2 ^ 32) where
  abbrev number : ℕ
  number = number_of v.gtt

  abbrev p : PrivateDevice
  p = private_of d v here

  abbrev after : Device
  after = runs.after

  abbrev l : Loaded
  l = context_now d number engine true

  abbrev stands : StandsAtWork d v engine true x
  stands = standing-at d v here engine x holds four own is

  -- ---- the elements

  -- no window changed
  keeps-window : (w : Window) → w.guest ≡ number → Shows d w → KeepsWindow w d after
  keeps-window w guest shows = record {
    entry = λ i h j. runs.device.unchanged.global j (first_of_window w.guest w.engine + i);
    label = λ k h j. runs.device.unchanged.label j (page_at w k);
    words = λ k h. runs.device.unchanged.words (page_at w k) (shows.label k h ∙ (λ i. Some (shadow_label (guest i))));
  }

  loaded-other : (k : ℕ) → k ≢ engine → after.loaded k ≡ d.loaded k
  loaded-other k differ = loaded-others (step_part number engine) (journalled d (own_entry engine number runs.command ∷ [])) after k (not-equal k engine differ) runs.device.outside

  general-other : (k : ℕ) → k ≢ engine → after.general k ≡ d.general k
  general-other k differ = general-others (step_part number engine) (journalled d (own_entry engine number runs.command ∷ [])) after k (not-equal k engine differ) runs.device.outside

  works-own : WorksWith after number engine true stands.root_page x runs.work.left
  works-own =
      goes-on d after number engine stands.root_page x stands.works runs.context.place runs.work.left
      (keeps-window x.window stands.works.window.guest_is stands.works.runs.shows)
      (runs.works.loaded ∙ (λ i. Some (runs.loaded i)))
      (subst (λ (c : Loaded). StandsFor after (page_at x.window 1) stands.works.runs.layout c runs.work.left) runs.loaded runs.works.place)
      runs.works.left
      (subst IsShort (sym runs.moved) (moves-short (left_of d number engine true) runs.own runs.dwords stands.works.runs.short))
      (subst FitsDwords (sym runs.place) (moves-small l.place runs.command runs.dwords small stands.works.runs.small))

  works-other : (k : ℕ) (y : Held) → k ≢ engine → (other : StandsAtWork d v k (here k) y) → WorksWith after number k (here k) other.root_page y (left_of d number k (here k))
  works-other k y differ other =
      work-stays d after number k (here k) other.root_page y other.works (keeps-window y.window other.works.window.guest_is other.works.runs.shows) (λ mine. loaded-other k differ)

  stands-own : StandsAtWork after v engine true x
  stands-own = record {
    root_page = stands.root_page;
    root = stands.root;
    shadow_root = stands.shadow_root;
    works = works-own.works;
    owned =
        subst (λ left. OwnsLeft (ranges_of v.gtt) left) (sym works-own.remains)
        (subst (λ (r : Ranges). OwnsLeft r runs.work.left) ((λ i. (runs.went.rest i).ranges) ∙ holds.ranges) runs.works.owned);
    apart = stands.apart;
    running = stands.running;
    awake = stands.awake;
  }

  stands-other : (k : ℕ) (element : Option Held) → k ≢ engine → StandsOn d v k (here k) element → StandsOn after v k (here k) element
  stands-other k None differ other = record {
    window = λ i within. subst (λ entry. entry % 2 ≡ 0) (sym (λ j. runs.device.unchanged.global j (first_of_window number k + i))) (other.window i within);
    idle = λ mine. loaded-other k differ ∙ other.idle mine;
  }
  stands-other k (Some y) differ other =
      let on : WorksWith after number k (here k) other.root_page y (left_of d number k (here k)) = works-other k y differ other in
      record {
        root_page = other.root_page;
        root = other.root;
        shadow_root = other.shadow_root;
        works = on.works;
        owned = subst (λ left. OwnsLeft (ranges_of v.gtt) left) (sym on.remains) other.owned;
        apart = other.apart;
        running = other.running;
        awake = other.awake;
      }

  stands-each : (k : ℕ) → k < 4 → StandsOn after v k (here k) (engine_at v k).element
  stands-each k below = choose (k == engine) refl
    where
      choose : (b : Bool) → (k == engine) ≡ b → StandsOn after v k (here k) (engine_at v k).element
      choose true at =
          subst (λ k. StandsOn after v k (here k) (engine_at v k).element) (sym (same-number k engine at))
          (subst (λ h. StandsOn after v engine h (engine_at v engine).element) (sym own) (subst (λ element. StandsOn after v engine true element) (sym is) stands-own))
      choose false at = stands-other k (engine_at v k).element (other-number k engine at) (holds.engines k below)

  -- ---- memory and tables

  translates : Translates after v.gtt
  translates =
      translation_keeps d after v.gtt holds.translates runs.works.stands
      (subst (λ (m : Memory). SameTables (memory_of d v.gtt) m (roots_in v.gtt)) runs.works.memory runs.went.tables)
      (record {
        label = λ level frame page node i. runs.device.unchanged.label i page;
        words = λ level frame page node. runs.device.unchanged.words page (holds.translates.serving.stands.holds.sound.local.labelled level frame page node);
      })
      (λ page mine i. runs.device.unchanged.global i page)
      (subst (λ n. n + (4 * length (frames_of v.gtt).pages + 64) ≤ 131072 + own_pages v.gtt) (sym runs.device.live) holds.translates.serving.stands.holds.room)

  away-other : (k : ℕ) → here k ≡ false → k ≢ engine
  away-other k away at = false≢true (sym away ∙ (λ i. here (at i)) ∙ own)

  pub ran-holds : Holds after v here
  ran-holds = record {
    translates = translates;
    parts = holds.parts;
    number = holds.number;
    ranges = holds.ranges;
    below = holds.below;
    engines = stands-each;
    beside = holds.beside;
    away = λ k below other l at. holds.away k below other l (sym (loaded-other k (away-other k other)) ∙ at);
    none_above = holds.none_above;
    sixteen = λ k n mine above. runs.device.above k n above ∙ holds.sixteen k n mine above;
    kept = holds.kept;
  }

  -- ---- the private device

  abbrev in-private : Device → ℕ → Engine
  in-private e k = record (engine_in e number k (here k) (engine_at v k)) { writes = writes_of (ports_at v.mmio k).port; slots = (ports_at v.mmio k).slots }

  element-still : (k : ℕ) (element : Option Held) → k ≢ engine → StandsOn d v k (here k) element → element_in after number k (here k) element ≡ element_in d number k (here k) element
  element-still k None differ other = refl
  element-still k (Some y) differ other = λ i. Some (record { root = y.root; tail = y.tail; left = (works-other k y differ other).remains i })

  element-at : (k : ℕ) → k ≢ engine → element_in after number k (here k) (engine_at v k).element ≡ element_in d number k (here k) (engine_at v k).element
  element-at = each-engine v (λ k element. k ≢ engine → element_in after number k (here k) element ≡ element_in d number k (here k) element)
      (λ k below differ. element-still k (engine_at v k).element differ (holds.engines k below)) (λ k differ. refl)

  other-engine : (k : ℕ) → k ≢ engine → in-private after k ≡ runs.left.engines k
  other-engine k differ =
      (λ i. record (in-private d k) { general = if here k then general-other k differ i else (λ n. slice_index_or (engine_at v k).kept n 0); element = element-at k differ i })
      ∙ sym (runs.went.others k differ)

  own-element : element_in after number engine (here engine) (engine_at v engine).element ≡ Some runs.work
  own-element =
      (λ i. element_in after number engine (own i) (is i))
      ∙ (λ i. Some (record { root = x.root; tail = x.tail; left = works-own.remains i }))
      ∙ (λ i. Some (sym runs.working i))

  own-engine : in-private after engine ≡ runs.left.engines engine
  own-engine =
      (λ i. record (in-private d engine) { general = general_in after engine (own i) (engine_at v engine).kept; element = own-element i })
      ∙ (λ i. record (in-private d engine) { general = sym runs.works.general i; element = Some runs.work })
      ∙ sym runs.went.own

  engine-after : (k : ℕ) → in-private after k ≡ runs.left.engines k
  engine-after k = choose (k == engine) refl
    where
      choose : (b : Bool) → (k == engine) ≡ b → in-private after k ≡ runs.left.engines k
      choose true at = subst (λ k. in-private after k ≡ runs.left.engines k) (sym (same-number k engine at)) own-engine
      choose false at = other-engine k (other-number k engine at)

  pub ran-private : private_of after v here ≡ runs.left
  ran-private = (λ i. record p { memory = sym runs.works.memory i; engines = λ k. engine-after k i }) ∙ sym runs.went.rest

  -- ---- the turn

  abbrev ran : List RanCommand
  ran = own_entry engine number runs.command ∷ []

  ran-keeps : Keeps here (journalled d ran) after v v
  ran-keeps = record {
    holds = ran-holds;
    changes = record {
      number = refl;
      frames = refl;
      ranges = refl;
      outside =
          outside-widen (step_part number engine) (step_part number engine) (guest_part number (ranges_of v.gtt) here) (journalled d ran) after
          (step-within number (ranges_of v.gtt) here engine own) (step-within number (ranges_of v.gtt) here engine own) runs.device.outside;
      live = λ enough i. runs.device.live i + own_live v;
    };
    copies = comes-each d after v v here holds (λ k. refl) (λ k y below at other j two within. (keeps-window y.window other.works.window.guest_is other.works.runs.shows).words j within);
  }

  pub ran-turns : (raise : ℕ) (new : Vgpu) (irq : Option ℕ) → raise ≡ runs.raise → Makes here after after v new (command_raised (private_of after v here) engine raise) (injected irq) → Turns here d after v new (turned p engine) outcomes.Ran (injected irq)
  ran-turns raise new irq same made = record {
    outcome_is = λ i. (runs.turn i).outcome;
    left = (λ i. (runs.turn i).left) ∙ (λ i. command_raised (sym ran-private i) engine (sym same i)) ∙ made.written;
    keeps = subst (λ ran. MayLoad here (journalled d ran) after v new) (sym (λ i. (runs.turn i).ran))
        (may-load here (journalled d ran) after v new (keeps-then here (journalled d ran) after after v v new ran-keeps made.keeps));
  }
