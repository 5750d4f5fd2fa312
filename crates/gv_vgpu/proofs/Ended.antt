-- An element whose context the engine took off is taken away.
use Rattle.std.proofs.Common.{◌≡◌, ◌≢◌, ℕ, zero, suc, ◌+◌, ◌-◌, ◌%◌, ◌<◌, ◌≤◌, ◌==◌, ◌&&◌, not, Bool, true, false, Option, None, Some, List, [], length, slice_index_or, slice_set, if◌then◌else◌, refl, sym, ◌∙◌, subst, arith}
use Rattle.std.proofs.Math.Bool.{and-false}
use Rattle.std.proofs.lemmas.Bool.{eq-eqb, false≢true}
use Rattle.std.proofs.lemmas.Bool.Decides.{nat_tests}
use Rattle.std.proofs.lemmas.List.{get_or-set_other, get_or-set_same, get_or_default}
use Rattle.std.proofs.lemmas.List.Elements.{All-from_get_or}
use Rattle.std.proofs.lemmas.List.Folds.{list_any_none}
use Rattle.std.proofs.lemmas.Option.{none-some, same_Some}
use Rattle.gv_types.specs.declared.ids.Label.{Label}
use Rattle.gv_element.specs.Works.{Held, HasNoPage, Rests, Works, WorksWith, left_of}
use Rattle.gv_element.proofs.Beside.{release-leaves}
use Rattle.gv_element.proofs.Going.{ended-rests}
use Rattle.gv_element.proofs.Staying.{work-stays}
use Rattle.gv_entry.specs.Ranges.{InParts, owns_page}
use Rattle.gv_entry.specs.SameTables.{has}
use Rattle.gv_gpu.specs.Change.{Leaves}
use Rattle.gv_gpu.specs.Device.{Device, with_loaded}
use Rattle.gv_gpu.specs.Part.{Part, first_of_window, guest_part, inside, is_in_window, is_named, is_page_of, is_shadow_of, outside, window_part, shadow_label}
use Rattle.gv_gpu.proofs.Guests.{window-within}
use Rattle.gv_gpu.proofs.Parts.{outside-widen}
use Rattle.gv_gtt.specs.Gtt.{HasRoomFor, frames_of, gtt_part, nodes_in, number_of, over, own_pages, ranges_of, roots_in}
use Rattle.gv_gtt.specs.Laws.{Covers}
use Rattle.gv_gtt.specs.Standing.{Translates}
use Rattle.gv_gtt.proofs.Others.{part-covers}
use Rattle.gv_gtt.proofs.Standing.{translated_stays, translation_stays}
use Rattle.gv_mmio.specs.Mmio.{behind, guest_of, ports_at, ranges_of as mmio_ranges}
use Rattle.gv_mmio.specs.Port.{writes_of}
use Rattle.gv_private.specs.Device.{Engine as PrivateEngine, new_device, with_element}
use Rattle.gv_sring.specs.Window.{WindowIsAbsent, page_at}
use Rattle.gv_sring.proofs.Slots.{in-window}
use Rattle.gv_turn.specs.Owned.{OwnsLeft}
use Rattle.gv_vgpu.specs.Changes.{LiveMoves, held_on, own_live, window_pages}
use Rattle.gv_vgpu.specs.Vgpu.{element_in, engine_at, engine_in, general_in, no_engine, private_of}
use Rattle.gv_vgpu.specs.Standing.{Holds, IsAway, StandsAtWork, StandsIdle, StandsOn}
use Rattle.gv_vgpu.specs.Turn.{EndOf}
use Rattle.gv_vgpu.specs.declared.engine.Engine.{Engine}
use Rattle.gv_vgpu.specs.declared.vgpu.Vgpu.{Vgpu}
use Rattle.gv_vgpu.specs.Copies.{KeepsCopies, NoneComes}
use Rattle.gv_vgpu.proofs.Copies.{words-kept}
use Rattle.gv_vgpu.proofs.Engines.{each-engine}
use Rattle.gv_vgpu.proofs.General.{other-number, put-by, put-other, put-own, same-number}
use Rattle.gv_vgpu.proofs.Kept.{past-ranges}
use Rattle.gv_vgpu.proofs.Working.{standing}

-- a page that no place of a list has isn't named
none-named : (own : List ℕ) (page : ℕ) → ((k : ℕ) → k < length own → slice_index_or own k 0 ≢ page) → is_named own page ≡ false
none-named own page none = list_any_none (λ n. n == page) own (All-from_get_or (λ n. (n == page) ≡ false) own 0 (λ k within. let differ : slice_index_or own k 0 ≢ page = none k within in grind (arith, nat_tests)))

-- an entry of one window is none of another's
other-window : (guest engine other i : ℕ) → other ≢ engine → is_in_window guest other i ≡ true → is_in_window guest engine i ≡ false
other-window guest engine other i differ is = grind (arith, nat_tests)

-- the pages of four windows, of which one is gone
one-less : (engine : ℕ) (before after : ℕ → ℕ) → engine < 4 → after engine ≡ 0 → ((k : ℕ) → k ≢ engine → after k ≡ before k) → after 0 + after 1 + after 2 + after 3 + before engine ≡ before 0 + before 1 + before 2 + before 3
one-less zero before after four gone others = let a = others 1 (λ is. absurd (omega arith)) in let b = others 2 (λ is. absurd (omega arith)) in let c = others 3 (λ is. absurd (omega arith)) in omega arith
one-less (suc zero) before after four gone others = let a = others 0 (λ is. absurd (omega arith)) in let b = others 2 (λ is. absurd (omega arith)) in let c = others 3 (λ is. absurd (omega arith)) in omega arith
one-less (suc (suc zero)) before after four gone others = let a = others 0 (λ is. absurd (omega arith)) in let b = others 1 (λ is. absurd (omega arith)) in let c = others 3 (λ is. absurd (omega arith)) in omega arith
one-less (suc (suc (suc zero))) before after four gone others = let a = others 0 (λ is. absurd (omega arith)) in let b = others 1 (λ is. absurd (omega arith)) in let c = others 2 (λ is. absurd (omega arith)) in omega arith
one-less (suc (suc (suc (suc k)))) before after four gone others = absurd (omega arith)

live-less : (frames tables windows left pages live after : ℕ) → left + pages ≡ windows → after ≡ live - pages → frames + tables + windows ≤ live → after + (frames + tables + windows) ≡ live + (frames + tables + left)
live-less frames tables windows left pages live after less is enough = omega arith

-- ---- the engine's place in the list, without its element

module _ (engines : List Engine) (engine : ℕ) (other : Engine) (within : engine < length engines) where
  -- whatever is answered where there is none
  whichever : slice_index_or engines engine other ≡ slice_index_or engines engine no_engine
  whichever = get_or_default engines engine other no_engine within

  pub taken-own : (element : Option Held) → element ≡ None
      → slice_index_or (slice_set engines engine (record { element = element; kept = (slice_index_or engines engine other).kept })) engine no_engine ≡ record (slice_index_or engines engine no_engine) { element = None }
  taken-own element none =
      get_or-set_same engines engine (record { element = element; kept = (slice_index_or engines engine other).kept }) no_engine within
      ∙ (λ i. record { element = none i; kept = (whichever i).kept })

  pub taken-is : (taken : Option Held) (x y : Held) → taken ≡ (slice_index_or engines engine other).element → taken ≡ Some x → (slice_index_or engines engine no_engine).element ≡ Some y → x ≡ y
  taken-is taken x y was is at = same_Some x y (sym is ∙ was ∙ (λ i. (whichever i).element) ∙ at)

pub taken-other : (engines : List Engine) (engine k : ℕ) (taken : Engine) → k ≢ engine → slice_index_or (slice_set engines engine taken) k no_engine ≡ slice_index_or engines k no_engine
taken-other engines engine k taken differ = get_or-set_other engines engine k taken no_engine differ

module _ (before : Device) (old : Vgpu) (here : ℕ → Bool) (engine : ℕ) (x : Held) (holds : Holds before old here) (own : here engine ≡ true) (four : engine < 4) (is : (engine_at old engine).element ≡ Some x) where
  abbrev number : ℕ
  number = number_of old.gtt

  -- the device without the context
  abbrev off : Device
  off = with_loaded before engine None

  abbrev pages : List ℕ
  pages = x.window.pages

  stands : StandsAtWork before old engine true x
  stands = standing before old here engine x holds four own is

  none-loaded : off.loaded engine ≡ None
  none-loaded = put-own before.loaded engine None

  -- It may be taken away.
  pub may-go : (d : Device) → d ≡ off → Rests d x.window
  may-go d ended =
      subst (λ d. Rests d x.window) (sym ended)
      (ended-rests before off number engine true stands.root_page x stands.works (record { entry = λ i h. refl; label = λ k h. refl; words = λ k h. refl }) none-loaded)

  -- ---- what the release leaves of the guest's pages and entries

  -- a page that goes
  abbrev goes : ℕ → Option Label → Bool
  goes n l = is_named pages n && is_shadow_of number l

  abbrev stay : Part
  stay = record { page = λ n l. is_page_of number l && not (goes n l); entry = λ i. owns_page (ranges_of old.gtt) i; engine = λ k. false; spare = false }

  not-named : (level frame page : ℕ) → nodes_in old.gtt level frame ≡ Some page → is_named pages page ≡ false
  not-named level frame page node = none-named pages page (λ k within hit.
      false≢true (sym (stands.apart k within) ∙ (λ i. (gtt_part old.gtt).page (hit i) (Some (shadow_label (stands.works.window.guest_is i)))) ∙ (part-covers old.gtt).nodes level frame page node))

  covers : Covers stay old.gtt
  covers = record {
    frames = λ page.
        (λ i. mine i && not (is_named pages page && (mine i && false)))
        ∙ (λ i. not (and-false (is_named pages page) i));
    entries = λ page owned. owned;
    nodes = λ level frame page node. λ i. mine i && not (not-named level frame page node i && (mine i && true));
  }
    where
      mine : (number == number) ≡ true
      mine = eq-eqb number number refl

  module _ (d e : Device) (new : Vgpu) (ended : d ≡ off)
      (gone : WindowIsAbsent e x.window.guest x.window.engine) (live : e.live ≡ d.live - length x.window.pages)
      (left : outside (window_part x.window.guest x.window.engine []) e ≡ outside (window_part x.window.guest x.window.engine x.window.pages) d)
      (gtt : new.gtt ≡ old.gtt) (registers : new.mmio ≡ old.mmio) (failsafe : new.failsafe ≡ old.failsafe)
      (none : engine_at new engine ≡ record (engine_at old engine) { element = None }) (others : (k : ℕ) → k ≢ engine → engine_at new k ≡ engine_at old k) where
    absent : WindowIsAbsent e number engine
    absent = subst (λ g. WindowIsAbsent e g engine) stands.works.window.guest_is (subst (λ n. WindowIsAbsent e x.window.guest n) stands.works.window.engine_is gone)

    same : outside (window_part number engine []) e ≡ outside (window_part number engine pages) off
    same =
        subst (λ d. outside (window_part number engine []) e ≡ outside (window_part number engine pages) d) ended
        (subst (λ g. outside (window_part g engine []) e ≡ outside (window_part g engine pages) d) stands.works.window.guest_is
        (subst (λ n. outside (window_part x.window.guest n []) e ≡ outside (window_part x.window.guest n pages) d) stands.works.window.engine_is left))

    fewer : e.live ≡ before.live - length pages
    fewer = subst (λ (d : Device). e.live ≡ d.live - length pages) ended live

    page-left : {A : Type 0} (n : ℕ) (f h none : A) (b : Bool) → goes n (off.label n) ≡ b → e.label n ≡ (if b then None else off.label n) → h ≡ (if b then none else f)
        → (if stay.page n (e.label n) then h else none) ≡ (if stay.page n (off.label n) then f else none)
    page-left n f h none true b label value =
        (λ i. if stay.page n (label i) then h else none)
        ∙ sym ((λ i. if is_page_of number (off.label n) && not (b i) then f else none) ∙ (λ i. if and-false (is_page_of number (off.label n)) i then f else none))
    page-left n f h none false b label value = λ i. if stay.page n (label i) then value i else none

    entry-left : (i : ℕ) (b : Bool) → is_in_window number engine i ≡ b → (if owns_page (ranges_of old.gtt) i then e.global i else 0) ≡ (if owns_page (ranges_of old.gtt) i then off.global i else 0)
    entry-left i true within =
        let past : owns_page (ranges_of old.gtt) i ≡ false = past-ranges (ranges_of old.gtt) number engine i holds.parts within in
        (λ j. if past j then e.global i else 0) ∙ sym (λ j. if past j then off.global i else 0)
    entry-left i false within =
        let shown : e.global i ≡ off.global i = subst (λ b. (if b then 0 else e.global i) ≡ (if b then 0 else off.global i)) within (λ j. (same j).global i) in
        λ j. if owns_page (ranges_of old.gtt) i then shown j else 0

    leaves : Leaves stay off e
    leaves = record {
      same = λ i. record (inside stay off) {
        label = λ n. page-left n (off.label n) (e.label n) None (goes n (off.label n)) refl (λ j. (same j).label n) (λ j. (same j).label n) i;
        words = λ n. page-left n (off.words n) (e.words n) [] (goes n (off.label n)) refl (λ j. (same j).label n) (λ j. (same j).words n) i;
        global = λ n. entry-left n (is_in_window number engine n) refl i;
      };
    }

    translates-off : Translates off old.gtt
    translates-off = translation_stays (gtt_part old.gtt) before off old.gtt (part-covers old.gtt) (record { same = refl }) holds.translates.serving.stands.holds.room holds.translates

    room : HasRoomFor e old.gtt
    room = let enough = holds.translates.serving.stands.holds.room in let less = fewer in omega arith

    translates : Translates e old.gtt
    translates = translation_stays stay off e old.gtt covers leaves room translates-off

    -- ---- the other engines

    loaded-other : (k : ℕ) → k ≢ engine → e.loaded k ≡ before.loaded k
    loaded-other k differ = (λ i. (same i).loaded k) ∙ put-other before.loaded engine k None differ

    general-same : (k : ℕ) → e.general k ≡ before.general k
    general-same k = λ i. (same i).general k

    works-on : (k : ℕ) (y : Held) → k ≢ engine → (engine_at old k).element ≡ Some y → (other : StandsAtWork before old k (here k) y) → WorksWith e number k (here k) other.root_page y (left_of before number k (here k))
    works-on k y differ at other =
        let apart : engine ≢ k = λ i. differ (sym i) in
        let one : WorksWith off number k (here k) other.root_page y (left_of before number k (here k)) =
        work-stays before off number k (here k) other.root_page y other.works (record { entry = λ i h. refl; label = λ j h. refl; words = λ j h. refl }) (λ h. put-other before.loaded engine k None differ) in
        let two : WorksWith e number k (here k) other.root_page y (left_of off number k (here k)) =
        release-leaves off e number engine k (here k) other.root_page y x.window apart one.works (holds.beside engine k x y apart is at) same in
        record { works = two.works; remains = two.remains ∙ one.remains }

    idle-on : (k : ℕ) → k ≢ engine → StandsIdle before old k (here k) → StandsIdle e new k (here k)
    idle-on k differ idle = record {
      window = subst (λ g. WindowIsAbsent e (number_of g) k) (sym gtt) (λ i within.
          let at : ℕ = first_of_window number k + i in
          let outer : is_in_window number engine at ≡ false = other-window number engine k at differ (in-window number k i within) in
          let shown : e.global at ≡ off.global at = subst (λ b. (if b then 0 else e.global at) ≡ (if b then 0 else off.global at)) outer (λ j. (same j).global at) in
          subst (λ entry. entry % 2 ≡ 0) (sym shown) (idle.window i within));
      idle = λ mine. loaded-other k differ ∙ idle.idle mine;
    }

    stands-other : (k : ℕ) (element : Option Held) → k ≢ engine → (engine_at old k).element ≡ element → StandsOn before old k (here k) element → StandsOn e new k (here k) element
    stands-other k None differ at other = idle-on k differ other
    stands-other k (Some y) differ at other =
        let on : WorksWith e number k (here k) other.root_page y (left_of before number k (here k)) = works-on k y differ at other in
        record {
          root_page = other.root_page;
          root = subst (λ g. has (roots_in g) y.root ≡ true) (sym gtt) other.root;
          shadow_root = subst (λ g. nodes_in g 4 y.root ≡ Some other.root_page) (sym gtt) other.shadow_root;
          works = subst (λ g. Works e (number_of g) k (here k) other.root_page y) (sym gtt) on.works;
          owned = subst (λ g. OwnsLeft (ranges_of g) (left_of e (number_of g) k (here k))) (sym gtt) (subst (λ left. OwnsLeft (ranges_of old.gtt) left) (sym on.remains) other.owned);
          apart = subst (λ g. HasNoPage (gtt_part g) y.window) (sym gtt) other.apart;
          running = subst (λ m. 0 < length (ports_at m k).slots.running) (sym registers) other.running;
          awake = failsafe ∙ other.awake;
        }

    stands-own : StandsOn e new engine (here engine) (engine_at new engine).element
    stands-own =
        subst (λ (f : Engine). StandsOn e new engine (here engine) f.element) (sym none)
        (record { window = subst (λ g. WindowIsAbsent e (number_of g) engine) (sym gtt) absent; idle = λ mine. (λ i. (same i).loaded engine) ∙ none-loaded })

    stands-each : (k : ℕ) → k < 4 → StandsOn e new k (here k) (engine_at new k).element
    stands-each k below = choose (k == engine) refl
      where
        choose : (b : Bool) → (k == engine) ≡ b → StandsOn e new k (here k) (engine_at new k).element
        choose true at = subst (λ k. StandsOn e new k (here k) (engine_at new k).element) (sym (same-number k engine at)) stands-own
        choose false at =
            let differ : k ≢ engine = other-number k engine at in
            subst (λ (f : Engine). StandsOn e new k (here k) f.element) (sym (others k differ)) (stands-other k (engine_at old k).element differ refl (holds.engines k below))

    -- an element that is there is there as before
    element-before : (k : ℕ) (y : Held) → (engine_at new k).element ≡ Some y → (k ≢ engine) × ((engine_at old k).element ≡ Some y)
    element-before k y at = choose (k == engine) refl
      where
        choose : (b : Bool) → (k == engine) ≡ b → (k ≢ engine) × ((engine_at old k).element ≡ Some y)
        choose true mine =
            let empty : (engine_at new k).element ≡ None = subst (λ k. (engine_at new k).element ≡ None) (sym (same-number k engine mine)) (λ i. (none i).element) in
            absurd (none-some y (sym empty ∙ at))
        choose false mine = (other-number k engine mine, sym (λ i. (others k (other-number k engine mine) i).element) ∙ at)

    still-sixteen : (k : ℕ) → k < 4 → length (engine_at new k).kept ≡ 16
    still-sixteen k below = choose (k == engine) refl
      where
        choose : (b : Bool) → (k == engine) ≡ b → length (engine_at new k).kept ≡ 16
        choose true mine = subst (λ k. length (engine_at new k).kept ≡ 16) (sym (same-number k engine mine)) ((λ i. length (none i).kept) ∙ holds.kept engine four)
        choose false mine = (λ i. length (others k (other-number k engine mine) i).kept) ∙ holds.kept k below

    away-other : (k : ℕ) → here k ≡ false → k ≢ engine
    away-other k away at = false≢true (sym away ∙ (λ i. here (at i)) ∙ own)

    -- ---- live pages, and the rest of the device

    windows : held_on new 0 + held_on new 1 + held_on new 2 + held_on new 3 + held_on old engine ≡ held_on old 0 + held_on old 1 + held_on old 2 + held_on old 3
    windows = one-less engine (held_on old) (held_on new) four (λ i. window_pages (none i).element) (λ k differ i. window_pages (others k differ i).element)

    lives : LiveMoves before e (own_live old) (own_live new)
    lives enough =
        live-less (length (frames_of old.gtt).pages) (own_pages old.gtt) (held_on old 0 + held_on old 1 + held_on old 2 + held_on old 3) (held_on new 0 + held_on new 1 + held_on new 2 + held_on new 3) (held_on old engine) before.live e.live
        windows (fewer ∙ (λ i. before.live - window_pages (sym is i))) enough
        ∙ (λ i. before.live + (length (frames_of (sym gtt i)).pages + own_pages (sym gtt i) + (held_on new 0 + held_on new 1 + held_on new 2 + held_on new 3)))

    abbrev whole : Part
    whole = guest_part number (ranges_of old.gtt) here

    loaded-outside : (k : ℕ) → (if here k then None else off.loaded k) ≡ (if here k then None else before.loaded k)
    loaded-outside k = choose (here k) refl
      where
        choose : (h : Bool) → here k ≡ h → (if h then None else off.loaded k) ≡ (if h then None else before.loaded k)
        choose true mine = refl
        choose false mine = put-other before.loaded engine k None (away-other k mine)

    outside-same : outside whole e ≡ outside whole before
    outside-same =
        outside-widen (window_part number engine pages) (window_part number engine []) whole off e
        (window-within number (ranges_of old.gtt) here engine pages four) (window-within number (ranges_of old.gtt) here engine [] four) same
        ∙ (λ i. record (outside whole before) { loaded = λ k. loaded-outside k i })

    -- ---- the private device

    element-still : (k : ℕ) (element : Option Held) → k ≢ engine → (engine_at old k).element ≡ element → StandsOn before old k (here k) element → element_in e number k (here k) element ≡ element_in before number k (here k) element
    element-still k None differ at other = refl
    element-still k (Some y) differ at other = λ i. Some (record { root = y.root; tail = y.tail; left = (works-on k y differ at other).remains i })

    element-at : (k : ℕ) → k ≢ engine → element_in e number k (here k) (engine_at old k).element ≡ element_in before number k (here k) (engine_at old k).element
    element-at = each-engine old (λ k element. k ≢ engine → element_in e number k (here k) element ≡ element_in before number k (here k) element)
        (λ k below differ. element-still k (engine_at old k).element differ refl (holds.engines k below)) (λ k differ. refl)

    general-at : (k : ℕ) (kept : List ℕ) → general_in e k (here k) kept ≡ general_in before k (here k) kept
    general-at k kept = λ i. if here k then general-same k i else (λ n. slice_index_or kept n 0)

    abbrev in-private : Device → Engine → ℕ → PrivateEngine
    in-private d f k = record (engine_in d number k (here k) f) { writes = writes_of (ports_at old.mmio k).port; slots = (ports_at old.mmio k).slots }

    own-engine : in-private e (engine_at new engine) engine ≡ record (in-private before (engine_at old engine) engine) { element = None }
    own-engine = (λ i. in-private e (none i) engine) ∙ (λ i. record (in-private before (engine_at old engine) engine) { general = general-at engine (engine_at old engine).kept i; element = None })

    other-engine : (k : ℕ) → k ≢ engine → in-private e (engine_at new k) k ≡ in-private before (engine_at old k) k
    other-engine k differ = (λ i. in-private e (others k differ i) k) ∙ (λ i. record (in-private before (engine_at old k) k) { general = general-at k (engine_at old k).kept i; element = element-at k differ i })

    private-after : private_of e new here ≡ with_element (private_of before old here) engine None
    private-after =
        (λ i. behind (over (record (new_device 0 0 (ranges_of (gtt i))) { failsafe = failsafe i; engines = λ k. engine_in e (number_of (gtt i)) k (here k) (engine_at new k) }) e (gtt i)) (registers i))
        ∙ (λ i. behind (translated_stays stay off e old.gtt (record (new_device 0 0 (ranges_of old.gtt)) { failsafe = old.failsafe; engines = λ k. engine_in e number k (here k) (engine_at new k) }) covers leaves translates-off i) old.mmio)
        ∙ (λ i. record (private_of before old here) {
          engines = λ k. put-by (λ k. in-private before (engine_at old k) k) (λ k. in-private e (engine_at new k) k) engine (record (in-private before (engine_at old engine) engine) { element = None }) own-engine other-engine k i;
        })

    -- ---- the copies of the others

    -- no page of another's window goes
    not-gone : (k : ℕ) (y : Held) → k ≢ engine → (engine_at old k).element ≡ Some y → HasNoPage (window_part number engine pages) y.window
    not-gone k y differ at j within =
        λ i. none-named pages (page_at y.window j) (λ n less hit. holds.beside engine k x y (λ same. differ (sym same)) is at n j less within hit) i && is_shadow_of number (Some (shadow_label y.window.guest))

    copies-of : (k : ℕ) → k ≢ engine → (y : Held) → (engine_at old k).element ≡ Some y → KeepsCopies y.window before e
    copies-of k differ y at =
        each-engine old (λ k element. k ≢ engine → (y : Held) → element ≡ Some y → (engine_at old k).element ≡ Some y → KeepsCopies y.window before e)
        (λ k below differ y is at.
        let other : StandsAtWork before old k (here k) y = subst (λ o. StandsOn before old k (here k) o) is (holds.engines k below) in
        λ j two within. words-kept off e (window_part number engine pages) (window_part number engine []) (page_at y.window j) (shadow_label y.window.guest) (other.works.runs.shows.label j within) (not-gone k y differ at j within) same)
        (λ k differ y is at. absurd (none-some y is)) k differ y at at

    comes : NoneComes before e old new
    comes k y at = let there = element-before k y at in (there.1, copies-of k there.0 y there.1)

    -- ---- all of it

    pub end-of : EndOf here engine before e old new x x.tail
    end-of = record {
      device = private-after;
      keeps = record {
        holds = record {
          translates = subst (λ g. Translates e g) (sym gtt) translates;
          parts = subst (λ g. InParts (ranges_of g)) (sym gtt) holds.parts;
          number = (λ i. guest_of (registers i)) ∙ holds.number ∙ (λ i. number_of (sym gtt i));
          ranges = (λ i. mmio_ranges (registers i)) ∙ holds.ranges ∙ (λ i. ranges_of (sym gtt i));
          below = subst (λ g. number_of g < 8) (sym gtt) holds.below;
          engines = stands-each;
          beside = λ j k y z differ at also. holds.beside j k y z differ (element-before j y at).1 (element-before k z also).1;
          away = subst (λ g. IsAway e (number_of g) here) (sym gtt) (λ k below other l at. holds.away k below other l (sym (loaded-other k (away-other k other)) ∙ at));
          none_above = holds.none_above;
          sixteen = λ k n mine above. (λ i. general-same k i n) ∙ holds.sixteen k n mine above;
          kept = still-sixteen;
        };
        changes = record {
          number = λ i. number_of (gtt i);
          frames = λ i. length (frames_of (gtt i)).pages;
          ranges = λ i. ranges_of (gtt i);
          outside = outside-same;
          live = lives;
        };
        copies = comes;
      };
      mmio = registers;
      tail_is = refl;
    }
