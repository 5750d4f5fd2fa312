-- What the reset of one engine leaves.
use Rattle.std.proofs.Common.{◌≡◌, ◌≢◌, ℕ, zero, suc, ◌+◌, ◌-◌, ◌<◌, ◌≤◌, ◌&&◌, ◌||◌, ◌%◌, Bool, true, false, cond, eqb, Option, None, Some, List, [], length, refl, sym, ap, ◌∙◌, subst, arith}
use Rattle.std.proofs.lemmas.Bool.{eqb-true}
use Rattle.std.proofs.lemmas.Bool.Decides.{nat_tests}
use Rattle.std.proofs.lemmas.List.{length-replicate}
use Rattle.std.proofs.lemmas.Option.{none-some}
use Rattle.std.proofs.Math.Bool.{and-false}
use Rattle.gv_types.specs.declared.ids.Label.{Label}
use Rattle.gv_element.specs.Works.{Held, HasNoPage, Works, WorksWith, left_of}
use Rattle.gv_element.proofs.Beside.{others-leave-work}
use Rattle.gv_entry.specs.Ranges.{InParts, owns_page}
use Rattle.gv_gpu.specs.Change.{Leaves}
use Rattle.gv_gpu.specs.Device.{Device}
use Rattle.gv_gpu.specs.Part.{Part, Within, inside, outside, guest_part, is_in_window, is_named, is_shadow_of, first_of_window, shadow_label}
use Rattle.gv_gpu.proofs.Guests.{window-within}
use Rattle.gv_gpu.proofs.Parts.{outside-widen}
use Rattle.gv_gtt.specs.Gtt.{frames_of, gtt_part, nodes_in, number_of, own_pages, ranges_of, roots_in, HasRoomFor}
use Rattle.gv_sppgtt.specs.State.{own_in}
use Rattle.gv_sring.specs.Window.{WindowIsAbsent}
use Rattle.gv_sring.proofs.Slots.{in-window}
use Rattle.gv_entry.specs.SameTables.{has}
use Rattle.gv_turn.specs.Owned.{OwnsLeft}
use Rattle.gv_mmio.specs.Mmio.{guest_of, ports_at, ranges_of as mmio_ranges}
use Rattle.gv_vgpu.specs.Changes.{LiveMoves, held_on, own_live, window_pages}
use Rattle.gv_vgpu.specs.Vgpu.{engine_at, element_in}
use Rattle.gv_vgpu.specs.Reset.{AreReset, IsReset, reset_part}
use Rattle.gv_vgpu.specs.Standing.{HasWindow, Occupies, OccupiesOn, StandsIdle, StandsOn}
use Rattle.gv_vgpu.specs.declared.vgpu.Vgpu.{Vgpu}
use Rattle.gv_vgpu.specs.Copies.{KeepsCopies, NoneComes}
use Rattle.gv_vgpu.proofs.Copies.{copies-kept}
use Rattle.gv_vgpu.proofs.Engines.{each-engine}
use Rattle.gv_vgpu.proofs.General.{not-equal, other-number, same-number}
use Rattle.gv_gtt.specs.Standing.{Stands, Translates}
use Rattle.gv_gtt.proofs.Others.{part-covers}
use Rattle.gv_gtt.proofs.Standing.{translation_stays}
use Rattle.gv_vgpu.proofs.Kept.{past-ranges}
use Rattle.gv_vgpu.proofs.Staying.{memory-left, stands-left}

-- ---- numbers and tests

-- the windows of different engines of a guest
other-entry : (guest engine other i : ℕ) → engine ≢ other → is_in_window guest other i ≡ true → is_in_window guest engine i ≡ false
other-entry guest engine other i differ own = grind (arith, nat_tests)

and-left : (a b : Bool) → (a && b) ≡ true → a ≡ true
and-left true b h = refl
and-left false b h = cc

and-right : (a b : Bool) → (a && b) ≡ true → b ≡ true
and-right true b h = h
and-right false b h = cc

not-both : (a b : Bool) → (a ≡ true → b ≡ false) → b ≡ true → a ≡ false
not-both true b h is = let no = h refl in cc
not-both false b h is = refl

hidden : {A : Type 0} (b : Bool) (x y none : A) → b ≡ false → cond b none x ≡ cond b none y → x ≡ y
hidden true x y none is h = cc
hidden false x y none is h = h

-- ---- live pages

-- a sum of four without one of them
without-one : (engine : ℕ) → engine < 4 → (f g : ℕ → ℕ) → g engine ≡ 0 → ((k : ℕ) → k ≢ engine → g k ≡ f k) → g 0 + g 1 + g 2 + g 3 + f engine ≡ f 0 + f 1 + f 2 + f 3
without-one zero four f g none other = let a = other 1 (omega arith) in let b = other 2 (omega arith) in let c = other 3 (omega arith) in omega arith
without-one (suc zero) four f g none other = let a = other 0 (omega arith) in let b = other 2 (omega arith) in let c = other 3 (omega arith) in omega arith
without-one (suc (suc zero)) four f g none other = let a = other 0 (omega arith) in let b = other 1 (omega arith) in let c = other 3 (omega arith) in omega arith
without-one (suc (suc (suc zero))) four f g none other = let a = other 0 (omega arith) in let b = other 1 (omega arith) in let c = other 2 (omega arith) in omega arith
without-one (suc (suc (suc (suc k)))) four f g none other = absurd (omega arith)

live-sums : (frames pages before after held d e : ℕ) → after + held ≡ before → e ≡ d - held → frames + pages + before ≤ d → e + (frames + pages + before) ≡ d + (frames + pages + after)
live-sums frames pages before after held d e sum live enough = omega arith

-- ---- parts

reset-within : (guest engine : ℕ) (here : ℕ → Bool) (own : List ℕ) (d : Device) (v : Vgpu) → engine < 4 → Within (reset_part guest engine (here engine) own) (guest_part guest (ranges_of v.gtt) here)
reset-within guest engine here own d v four = record {
  page = (window-within guest (ranges_of v.gtt) here engine own four).page;
  entry = (window-within guest (ranges_of v.gtt) here engine own four).entry;
  engine = λ k is. by k (eqb k engine) refl is;
  spare = λ h. refl;
}
  where
    by : (k : ℕ) (b : Bool) → eqb k engine ≡ b → (b && here engine) ≡ true → here k ≡ true
    by k true same own = ap here (eqb-true k engine same) ∙ own
    by k false same own = cc

-- a part that has no page of a window that went, no entry of it, and no engine
module _ (d e : Device) (p q r : Part) (same : outside r e ≡ outside p d) (gone : (n : ℕ) → p.page n (d.label n) ≡ true → q.page n (d.label n) ≡ false) (dead : (n : ℕ) → q.page n None ≡ false)
    (none : (n : ℕ) (l : Option Label) → r.page n l ≡ false) (entry_before : (i : ℕ) → q.entry i ≡ true → p.entry i ≡ false) (entry_after : (i : ℕ) → q.entry i ≡ true → r.entry i ≡ false) (engine : (k : ℕ) → q.engine k ≡ false) (spare : q.spare ≡ false) where
  label-now : (n : ℕ) → e.label n ≡ cond (p.page n (d.label n)) None (d.label n)
  label-now n = sym (ap (λ b. cond b None (e.label n)) (none n (e.label n))) ∙ ap (λ (x : Device). x.label n) same

  words-now : (n : ℕ) → e.words n ≡ cond (p.page n (d.label n)) [] (d.words n)
  words-now n = sym (ap (λ b. cond b [] (e.words n)) (none n (e.label n))) ∙ ap (λ (x : Device). x.words n) same

  page-by : {A : Type 0} (n : ℕ) (x y blank : A) (b : Bool) → p.page n (d.label n) ≡ b → e.label n ≡ cond b None (d.label n) → y ≡ cond b blank x → cond (q.page n (e.label n)) y blank ≡ cond (q.page n (d.label n)) x blank
  page-by n x y blank true is label value =
      ap (λ l. cond (q.page n l) y blank) label ∙ ap (λ b. cond b y blank) (dead n) ∙ sym (ap (λ b. cond b x blank) (gone n is))
  page-by n x y blank false is label value = ap (λ l. cond (q.page n l) y blank) label ∙ ap (λ z. cond (q.page n (d.label n)) z blank) value

  entry-by : (i : ℕ) (b : Bool) → q.entry i ≡ b → cond b (e.global i) 0 ≡ cond b (d.global i) 0
  entry-by i true own =
      let P : Bool → Bool → Type 0 = λ a b. cond a 0 (e.global i) ≡ cond b 0 (d.global i) in
      subst (λ a. P a false) (entry_after i own) (subst (P (r.entry i)) (entry_before i own) (ap (λ (x : Device). x.global i) same))
  entry-by i false own = refl

  none-of : {A : Type 0} (b : Bool) (x y blank : A) → b ≡ false → cond b x blank ≡ cond b y blank
  none-of true x y blank is = cc
  none-of false x y blank is = refl

  part-left : Leaves q d e
  part-left = record {
    same = λ i. record (inside q d) {
      label = λ n. page-by n (d.label n) (e.label n) None (p.page n (d.label n)) refl (label-now n) (label-now n) i;
      words = λ n. page-by n (d.words n) (e.words n) [] (p.page n (d.label n)) refl (label-now n) (words-now n) i;
      global = λ n. entry-by n (q.entry n) refl i;
      general = λ k. none-of (q.engine k) (e.general k) (d.general k) (λ _. 0) (engine k) i;
      loaded = λ k. none-of (q.engine k) (e.loaded k) (d.loaded k) None (engine k) i;
      spare = none-of q.spare e.spare d.spare 0 spare i;
    };
  }

-- ---- one engine

module _ (d e : Device) (old new : Vgpu) (here : ℕ → Bool) (engine : ℕ) (four : engine < 4) (occupies : Occupies d old here) (r : IsReset here engine d e old new) where
  abbrev guest : ℕ
  guest = number_of old.gtt

  abbrev before : Part
  before = reset_part guest engine (here engine) r.pages

  abbrev after : Part
  after = reset_part guest engine (here engine) []

  -- its memory and tables are as they were
  tables-gone : (n : ℕ) (l : Option Label) → (is_named r.pages n && is_shadow_of guest l) ≡ true → (gtt_part old.gtt).page n l ≡ false
  tables-gone n None is = let none = and-false (is_named r.pages n) in cc
  tables-gone n (Some l) is =
      let named = and-left (is_named r.pages n) (is_shadow_of guest (Some l)) is in
      let both = and-right (is_named r.pages n) (is_shadow_of guest (Some l)) is in
      let mine : l.guest.0 ≡ guest = same-number l.guest.0 guest (and-left (eqb l.guest.0 guest) l.shadow both) in
      let shadow : l.shadow ≡ true = and-right (eqb l.guest.0 guest) l.shadow both in
      let label : l ≡ shadow_label guest = λ i. record { guest = record { 0 = mine i }; shadow = shadow i } in
      ap (λ l. (gtt_part old.gtt).page n (Some l)) label ∙ r.beside n named

  tables-dead : (n : ℕ) → (gtt_part old.gtt).page n None ≡ false
  tables-dead n = ap (λ b. b || false) (and-false (is_named (own_in old.gtt.tables.nodes) n))

  -- no entry of its window is of the guest's ranges
  entry-past : (i : ℕ) → owns_page (ranges_of old.gtt) i ≡ true → is_in_window guest engine i ≡ false
  entry-past i own = not-both (is_in_window guest engine i) (owns_page (ranges_of old.gtt) i) (past-ranges (ranges_of old.gtt) guest engine i occupies.parts) own

  pub tables-left : Leaves (gtt_part old.gtt) d e
  tables-left = part-left d e before (gtt_part old.gtt) after r.outside (λ n is. tables-gone n (d.label n) is) tables-dead (λ n l. refl) entry-past entry-past (λ k. refl) refl

  -- an engine that isn't this one, or that the guest doesn't own
  engine-beside : (k : ℕ) → (eqb k engine && here engine) ≡ false → (e.general k ≡ d.general k) × (e.loaded k ≡ d.loaded k)
  engine-beside k is = (
    hidden (eqb k engine && here engine) (e.general k) (d.general k) (λ _. 0) is (ap (λ (x : Device). x.general k) r.outside),
    hidden (eqb k engine && here engine) (e.loaded k) (d.loaded k) None is (ap (λ (x : Device). x.loaded k) r.outside),
  )

  pub other-engine : (k : ℕ) → k ≢ engine → (e.general k ≡ d.general k) × (e.loaded k ≡ d.loaded k)
  other-engine k differ = engine-beside k (ap (λ b. b && here engine) (not-equal k engine differ))

  -- an element works on
  pub other-works : (k : ℕ) (y : Held) (root_page : ℕ) → k ≢ engine → (engine_at old k).element ≡ Some y → Works d guest k (here k) root_page y → WorksWith e guest k (here k) root_page y (left_of d guest k (here k))
  other-works k y root_page differ is works = others-leave-work d e guest k (here k) root_page y before after works (record {
    entry_before = λ i own. other-entry guest engine k i (λ same. differ (sym same)) (subst (λ g. is_in_window g k i ≡ true) works.window.guest_is (subst (λ n. is_in_window y.window.guest n i ≡ true) works.window.engine_is own));
    entry_after = λ i own. other-entry guest engine k i (λ same. differ (sym same)) (subst (λ g. is_in_window g k i ≡ true) works.window.guest_is (subst (λ n. is_in_window y.window.guest n i ≡ true) works.window.engine_is own));
    engine_before = λ own. ap (λ n. eqb n engine && here engine) works.window.engine_is ∙ ap (λ b. b && here engine) (not-equal k engine differ);
    engine_after = λ own. ap (λ n. eqb n engine && here engine) works.window.engine_is ∙ ap (λ b. b && here engine) (not-equal k engine differ);
    page = λ j less. ap (λ b. b && is_shadow_of guest (Some (shadow_label y.window.guest))) (r.apart k y differ is j less);
  }) r.outside

  -- an entry of another window
  other-global : (k i : ℕ) → k ≢ engine → is_in_window guest k i ≡ true → e.global i ≡ d.global i
  other-global k i differ own = hidden (is_in_window guest engine i) (e.global i) (d.global i) 0 (other-entry guest engine k i (λ same. differ (sym same)) own) (ap (λ (x : Device). x.global i) r.outside)

  pub number-same : number_of new.gtt ≡ guest
  number-same = ap number_of r.gtt

  own-none : (engine_at new engine).element ≡ None
  own-none = λ i. (r.own i).element

  other-element : (k : ℕ) → k ≢ engine → (engine_at new k).element ≡ (engine_at old k).element
  other-element k differ = λ i. (r.others k differ i).element

  own-idle : StandsIdle e new engine (here engine)
  own-idle = record { window = subst (λ g. WindowIsAbsent e g engine) (sym number-same) r.window; idle = r.idle }

  other-idle : (k : ℕ) → k ≢ engine → StandsIdle d old k (here k) → StandsIdle e new k (here k)
  other-idle k differ idle = record {
    window = subst (λ g. WindowIsAbsent e g k) (sym number-same)
        (λ i within. subst (λ entry. entry % 2 ≡ 0) (sym (other-global k (first_of_window guest k + i) differ (in-window guest k i within))) (idle.window i within));
    idle = λ own. (other-engine k differ).1 ∙ idle.idle own;
  }

  other-stands : (k : ℕ) (element : Option Held) → k ≢ engine → (engine_at old k).element ≡ element → StandsOn d old k (here k) element → StandsOn e new k (here k) element
  other-stands k None differ is stands = other-idle k differ stands
  other-stands k (Some y) differ is stands =
      let on : WorksWith e guest k (here k) stands.root_page y (left_of d guest k (here k)) = other-works k y stands.root_page differ is stands.works in
      record {
        root_page = stands.root_page;
        root = subst (λ g. has (roots_in g) y.root ≡ true) (sym r.gtt) stands.root;
        shadow_root = subst (λ g. nodes_in g 4 y.root ≡ Some stands.root_page) (sym r.gtt) stands.shadow_root;
        works = subst (λ g. Works e g k (here k) stands.root_page y) (sym number-same) on.works;
        owned = subst (λ g. OwnsLeft (ranges_of g) (left_of e (number_of g) k (here k))) (sym r.gtt) (subst (λ left. OwnsLeft (ranges_of old.gtt) left) (sym on.remains) stands.owned);
        apart = subst (λ g. HasNoPage (gtt_part g) y.window) (sym r.gtt) stands.apart;
        running = subst (λ m. 0 < length (ports_at m k).slots.running) (sym r.mmio) stands.running;
        awake = r.failsafe ∙ stands.awake;
      }

  other-occupies : (k : ℕ) (element : Option Held) → k ≢ engine → (engine_at old k).element ≡ element → OccupiesOn d old k (here k) element → OccupiesOn e new k (here k) element
  other-occupies k None differ is stands = other-idle k differ stands
  other-occupies k (Some y) differ is stands = record {
    root_page = stands.root_page;
    works = subst (λ g. Works e g k (here k) stands.root_page y) (sym number-same) (other-works k y stands.root_page differ is stands.works).works;
    apart = subst (λ g. HasNoPage (gtt_part g) y.window) (sym r.gtt) stands.apart;
  }

  -- as much is left of an element
  other-left : (k : ℕ) (element : Option Held) → k ≢ engine → (engine_at old k).element ≡ element → OccupiesOn d old k (here k) element → element_in e guest k (here k) element ≡ element_in d guest k (here k) element
  other-left k None differ is stands = refl
  other-left k (Some y) differ is stands = λ i. Some (record { root = y.root; tail = y.tail; left = (other-works k y stands.root_page differ is stands.works).remains i })

  engines-then : (k : ℕ) (b : Bool) → eqb k engine ≡ b → k < 4 → OccupiesOn e new k (here k) (engine_at new k).element
  engines-then k true same below =
      subst (λ n. OccupiesOn e new n (here n) (engine_at new n).element) (sym (same-number k engine same))
      (subst (λ element. OccupiesOn e new engine (here engine) element) (sym own-none) own-idle)
  engines-then k false same below =
      let differ = other-number k engine same in
      subst (λ element. OccupiesOn e new k (here k) element) (sym (other-element k differ)) (other-occupies k (engine_at old k).element differ refl (occupies.engines k below))

  -- an engine with an element is another one
  with-element : (k : ℕ) (x : Held) (b : Bool) → eqb k engine ≡ b → (engine_at new k).element ≡ Some x → (engine_at old k).element ≡ Some x
  with-element k x true same is = absurd (none-some x (sym own-none ∙ ap (λ n. (engine_at new n).element) (sym (same-number k engine same)) ∙ is))
  with-element k x false same is = sym (other-element k (other-number k engine same)) ∙ is

  loaded-away : (k : ℕ) (b : Bool) → eqb k engine ≡ b → here k ≡ false → e.loaded k ≡ d.loaded k
  loaded-away k true same away = (engine-beside k (ap (λ b. eqb k engine && b) (ap here (sym (same-number k engine same)) ∙ away) ∙ and-false (eqb k engine))).1
  loaded-away k false same away = (other-engine k (other-number k engine same)).1

  sixteen-then : (k n : ℕ) (b : Bool) → eqb k engine ≡ b → here k ≡ true → 16 ≤ n → e.general k n ≡ 0
  sixteen-then k n true same own above =
      let is = same-number k engine same in
      ap (λ k. e.general k n) is ∙ r.general (ap here (sym is) ∙ own) n
  sixteen-then k n false same own above = (λ i. (other-engine k (other-number k engine same)).0 i n) ∙ occupies.sixteen k n own above

  kept-then : (k : ℕ) (b : Bool) → eqb k engine ≡ b → k < 4 → length (engine_at new k).kept ≡ 16
  kept-then k true same below = ap (λ k. length (engine_at new k).kept) (same-number k engine same) ∙ (λ i. length (r.own i).kept) ∙ length-replicate {A = ℕ} 16 0
  kept-then k false same below = (λ i. length (r.others k (other-number k engine same) i).kept) ∙ occupies.kept k below

  fewer : e.live ≤ d.live
  fewer = let live = r.live in omega arith

  room : HasRoomFor e old.gtt
  room = let more = fewer in let room = occupies.stands.holds.room in omega arith

  pub occupies-then : Occupies e new here
  occupies-then = record {
    stands = subst (λ g. Stands e g) (sym r.gtt) (stands-left d e old.gtt tables-left occupies.stands room);
    parts = subst (λ g. InParts (ranges_of g)) (sym r.gtt) occupies.parts;
    number = (λ i. guest_of (r.mmio i)) ∙ occupies.number ∙ sym number-same;
    ranges = (λ i. mmio_ranges (r.mmio i)) ∙ occupies.ranges ∙ (λ i. ranges_of (sym r.gtt i));
    below = subst (λ g. g < 8) (sym number-same) occupies.below;
    engines = λ k below. engines-then k (eqb k engine) refl below;
    beside = λ j k x y differ is also. occupies.beside j k x y differ (with-element j x (eqb j engine) refl is) (with-element k y (eqb k engine) refl also);
    away = λ k below other l is. subst (λ g. l.owner ≢ g) (sym number-same) (occupies.away k below other l (sym (loaded-away k (eqb k engine) refl other) ∙ is));
    none_above = occupies.none_above;
    sixteen = λ k n own above. sixteen-then k n (eqb k engine) refl own above;
    kept = λ k below. kept-then k (eqb k engine) refl below;
  }

  held-other : (k : ℕ) → k ≢ engine → held_on new k ≡ held_on old k
  held-other k differ = λ i. window_pages (other-element k differ i)

  held-none : held_on new engine ≡ 0
  held-none = ap window_pages own-none

  live-then : LiveMoves d e (own_live old) (own_live new)
  live-then enough =
      live-sums (length (frames_of old.gtt).pages) (own_pages old.gtt) (held_on old 0 + held_on old 1 + held_on old 2 + held_on old 3) (held_on new 0 + held_on new 1 + held_on new 2 + held_on new 3) (held_on old engine) d.live e.live
      (without-one engine four (held_on old) (held_on new) held-none held-other) r.live enough
      ∙ (λ i. d.live + (length (frames_of (sym r.gtt i)).pages + own_pages (sym r.gtt i) + (held_on new 0 + held_on new 1 + held_on new 2 + held_on new 3)))

  -- the window of another element has none of the pages that changed
  copies-of : (k : ℕ) → k ≢ engine → (y : Held) → (engine_at old k).element ≡ Some y → KeepsCopies y.window d e
  copies-of k differ y at =
      each-engine old (λ k element. k ≢ engine → (y : Held) → element ≡ Some y → (engine_at old k).element ≡ Some y → KeepsCopies y.window d e)
      (λ k below differ y is at.
      let stands : HasWindow d old k (here k) y = subst (λ o. OccupiesOn d old k (here k) o) is (occupies.engines k below) in
      copies-kept d e before after y.window stands.works.runs.shows (λ j less. ap (λ b. b && is_shadow_of guest (Some (shadow_label y.window.guest))) (r.apart k y differ at j less)) r.outside)
      (λ k differ y is at. absurd (none-some y is)) k differ y at at

  comes : NoneComes d e old new
  comes k x is =
      let there = with-element k x (eqb k engine) refl is in
      (there, copies-of k (λ same. none-some x (sym own-none ∙ ap (λ n. (engine_at new n).element) (sym same) ∙ is)) x there)

  pub one-reset : AreReset (λ k. eqb k engine) here d e old new
  one-reset = record {
    gtt = r.gtt;
    mmio = r.mmio;
    failsafe = r.failsafe;
    own = λ k below same. ap (engine_at new) (same-number k engine same) ∙ r.own;
    others = λ k same. r.others k (other-number k engine same);
    zeros = λ k n same own. (let is = same-number k engine same in ap (λ k. e.general k n) is ∙ r.general (ap here (sym is) ∙ own) n);
    registers = λ k same. (other-engine k (other-number k engine same)).0;
    work = λ k below same. other-left k (engine_at old k).element (other-number k engine same) refl (occupies.engines k below);
    stands = λ k below same stands.
        subst (λ element. StandsOn e new k (here k) element) (sym (other-element k (other-number k engine same))) (other-stands k (engine_at old k).element (other-number k engine same) refl stands);
    occupies = occupies-then;
    translates = λ translates. subst (λ g. Translates e g) (sym r.gtt) (translation_stays (gtt_part old.gtt) d e old.gtt (part-covers old.gtt) tables-left room translates);
    memory = memory-left d e old.gtt tables-left occupies.stands;
    outside = outside-widen before after (guest_part guest (ranges_of old.gtt) here) d e (reset-within guest engine here r.pages d old four) (reset-within guest engine here [] d old four) r.outside;
    live = live-then;
    copies = comes;
  }
