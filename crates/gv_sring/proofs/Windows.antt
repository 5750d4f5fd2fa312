-- A window gets one page more, or loses its last.
use Rattle.std.proofs.Common.{◌≡◌, ◌≢◌, ℕ, ◌+◌, ◌*◌, ◌%◌, ◌<◌, ◌≤◌, ◌&&◌, true, List, [], ◌∷◌, ◌++◌, None, Some, length, get_or, refl, ap, sym, subst, ◌∙◌, arith, ⊎_elim, length-append}
use Rattle.std.proofs.lemmas.Bool.{cases_lt, cases_eq}
use Rattle.std.proofs.lemmas.Bool.Decides.{nat_tests}
use Rattle.std.proofs.lemmas.Grind.{common_steps}
use Rattle.gv_types.specs.Maps.{put}
use Rattle.gv_types.specs.Memory.{zero_words, length-zero_words}
use Rattle.gv_gpu.specs.Device.{Device, added, released, with_global}
use Rattle.gv_gpu.specs.Part.{outside, window_part, is_named, is_shadow_of, shadow_label}
use Rattle.gv_gpu.proofs.Changed.{outside-global}
use Rattle.gv_sctx.specs.Image.{page_dword}
use Rattle.gv_sring.specs.Window.{Window, first_of, slot_of, flags_of, page_at, most_pages, Shows, WindowIsAbsent, Grows}
use Rattle.gv_sring.specs.Packing.{packed_into, words_in, HoldsPart, HoldsParts}
use Rattle.gv_sring.proofs.Named.{last_own, window-added, window-released}
use Rattle.gv_sring.proofs.Packed.{packed-label, packed-global, packed-live, packed-others, packed-length, packed-outside}
use Rattle.gv_sring.proofs.Slots.{slot-below, slot-apart, in-window}

pub put-same : {A : Type 0} (f : ℕ → A) (k : ℕ) (v : A) → put f k v k ≡ v
put-same f k v = grind (arith, nat_tests)

pub put-other : {A : Type 0} (f : ℕ → A) (k : ℕ) (v : A) (n : ℕ) → n ≢ k → put f k v n ≡ f n
put-other f k v n differ = grind (arith, nat_tests)

pub longer : (pages : List ℕ) (page : ℕ) → length (pages ++ page ∷ []) ≡ length pages + 1
longer pages page = length-append pages (page ∷ [])

pub last-is : (pages : List ℕ) (page : ℕ) → get_or (pages ++ page ∷ []) (length pages) 0 ≡ page
last-is pages page = grind (arith, common_steps)

pub front-is : (pages : List ℕ) (page k : ℕ) → k < length pages → get_or (pages ++ page ∷ []) k 0 ≡ get_or pages k 0
front-is pages page k h = grind (arith, common_steps)

-- a test of each page of the longer list, by the last one and those before
by-place : (pages : List ℕ) (page : ℕ) (P : ℕ → ℕ → Type 0) → ((k : ℕ) → k < length pages → P k (get_or pages k 0)) → P (length pages) page → (k : ℕ) → k < length (pages ++ page ∷ []) → P k (get_or (pages ++ page ∷ []) k 0)
by-place pages page P each last k h = ⊎_elim
    (λ less. subst (P k) (sym (front-is pages page k less)) (each k less))
    (λ past.
    let long = longer pages page in
    let is : length pages ≡ k = omega arith in
    subst (λ n. P n (get_or (pages ++ page ∷ []) n 0)) is (subst (P (length pages)) (sym (last-is pages page)) last))
    (cases_lt k (length pages))

-- ---- one page more

module _ (d e : Device) (w : Window) (page : ℕ) (small : w.tail ≤ 65536) (room : length w.pages < most_pages w.tail) (shows : Shows d w) (free : d.label page ≡ None) (low : page < 131072)
    (labels : e.label ≡ put d.label page (Some (shadow_label w.guest)))
    (entries : e.global ≡ put d.global (first_of w + slot_of w.tail (length w.pages)) (page * 4096 + flags_of (length w.pages)))
    (long : length (e.words page) ≡ 512) (others : (q : ℕ) → q ≢ page → e.words q ≡ d.words q) where
  abbrev n : ℕ
  n = length w.pages

  abbrev grown : Window
  grown = record w { pages = w.pages ++ page ∷ [] }

  other-page : (k : ℕ) → k < n → get_or w.pages k 0 ≢ page
  other-page k h = λ same. let l = shows.label k h in let none = ap d.label same ∙ free in cc

  other-slot : (k : ℕ) → k < n → first_of w + slot_of w.tail k ≢ first_of w + slot_of w.tail n
  other-slot k h = λ same.
      let slots : slot_of w.tail k ≡ slot_of w.tail n = omega arith in
      let is = slot-apart w.tail k n small slots in
      omega arith

  pub shows-added : Shows e grown
  shows-added = record {
    entry = by-place w.pages page (λ k q. e.global (first_of w + slot_of w.tail k) ≡ q * 4096 + flags_of k)
        (λ k h. ap (λ f. f (first_of w + slot_of w.tail k)) entries ∙ put-other d.global (first_of w + slot_of w.tail n) (page * 4096 + flags_of n) (first_of w + slot_of w.tail k) (other-slot k h) ∙ shows.entry k h)
        (ap (λ f. f (first_of w + slot_of w.tail n)) entries ∙ put-same d.global (first_of w + slot_of w.tail n) (page * 4096 + flags_of n));
    label = by-place w.pages page (λ k q. e.label q ≡ Some (shadow_label w.guest))
        (λ k h. ap (λ f. f (get_or w.pages k 0)) labels ∙ put-other d.label page (Some (shadow_label w.guest)) (get_or w.pages k 0) (other-page k h) ∙ shows.label k h)
        (ap (λ f. f page) labels ∙ put-same d.label page (Some (shadow_label w.guest)));
    long = by-place w.pages page (λ k q. length (e.words q) ≡ 512)
        (λ k h. ap length (others (get_or w.pages k 0) (other-page k h)) ∙ shows.long k h) long;
    below = by-place w.pages page (λ k q. q < 131072) (λ k h. shows.below k h) low;
    apart = λ j k hj hk same. by-place w.pages page (λ j q. (k : ℕ) → k < length (w.pages ++ page ∷ []) → q ≡ get_or (w.pages ++ page ∷ []) k 0 → j ≡ k)
        (λ j less k hk same. ⊎_elim
        (λ under. shows.apart j k less under (same ∙ front-is w.pages page k under))
        (λ past.
        let l = longer w.pages page in
        let is : k ≡ n = omega arith in
        absurd (other-page j less (same ∙ ap (λ m. get_or (w.pages ++ page ∷ []) m 0) is ∙ last-is w.pages page)))
        (cases_lt k n))
        (λ k hk same. ⊎_elim
        (λ under. absurd (other-page k under (sym (same ∙ front-is w.pages page k under))))
        (λ past. let l = longer w.pages page in omega arith)
        (cases_lt k n))
        j hj k hk same;
    others = λ i h none.
        let there : i ≢ slot_of w.tail n = λ is. none n (let l = longer w.pages page in omega arith) (sym is) in
        let differ : first_of w + i ≢ first_of w + slot_of w.tail n = λ same. there (omega arith) in
        ap (λ f. f (first_of w + i) % 2) entries ∙ ap (λ x. x % 2) (put-other d.global (first_of w + slot_of w.tail n) (page * 4096 + flags_of n) (first_of w + i) differ)
        ∙ shows.others i h (λ k less. none k (let l = longer w.pages page in omega arith));
    few = let l = longer w.pages page in omega arith;
  }

-- ---- one page fewer

module _ (d : Device) (w : Window) (page : ℕ) (small : w.tail ≤ 65536) (shows : Shows d (record w { pages = w.pages ++ page ∷ [] })) where
  abbrev before : Window
  before = record w { pages = w.pages ++ page ∷ [] }

  abbrev at_entry : ℕ
  at_entry = first_of w + slot_of w.tail (length w.pages)

  abbrev cleared : Device
  cleared = released (with_global d at_entry 0) page

  within : (k : ℕ) → k < length w.pages → k < length (w.pages ++ page ∷ [])
  within k h = let l = longer w.pages page in omega arith

  last : length w.pages < length (w.pages ++ page ∷ [])
  last = let l = longer w.pages page in omega arith

  pub last-label : d.label page ≡ Some (shadow_label w.guest)
  last-label = ap d.label (sym (last-is w.pages page)) ∙ shows.label (length w.pages) last

  not-last : (k : ℕ) → k < length w.pages → get_or w.pages k 0 ≢ page
  not-last k h = λ same.
      let is : k ≡ length w.pages = shows.apart k (length w.pages) (within k h) last (front-is w.pages page k h ∙ same ∙ sym (last-is w.pages page)) in
      omega arith

  not-entry : (k : ℕ) → k < length w.pages → first_of w + slot_of w.tail k ≢ at_entry
  not-entry k h = λ same.
      let slots : slot_of w.tail k ≡ slot_of w.tail (length w.pages) = omega arith in
      let is = slot-apart w.tail k (length w.pages) small slots in
      omega arith

  was : (P : ℕ → ℕ → Type 0) → ((k : ℕ) → k < length (w.pages ++ page ∷ []) → P k (get_or (w.pages ++ page ∷ []) k 0)) → (k : ℕ) → k < length w.pages → P k (get_or w.pages k 0)
  was P each k h = subst (P k) (front-is w.pages page k h) (each k (within k h))

  pub shows-dropped : Shows cleared w
  shows-dropped = record {
    entry = λ k h. put-other d.global at_entry 0 (first_of w + slot_of w.tail k) (not-entry k h) ∙ was (λ k q. d.global (first_of w + slot_of w.tail k) ≡ q * 4096 + flags_of k) shows.entry k h;
    label = λ k h. put-other d.label page None (get_or w.pages k 0) (not-last k h) ∙ was (λ k q. d.label q ≡ Some (shadow_label w.guest)) shows.label k h;
    long = λ k h. ap length (put-other d.words page [] (get_or w.pages k 0) (not-last k h)) ∙ was (λ k q. length (d.words q) ≡ 512) shows.long k h;
    below = was (λ k q. q < 131072) shows.below;
    apart = λ j k hj hk same. shows.apart j k (within j hj) (within k hk) (front-is w.pages page j hj ∙ same ∙ sym (front-is w.pages page k hk));
    others = λ i h none. ⊎_elim
        (λ is. ap (λ x. put d.global at_entry 0 x % 2) is ∙ ap (λ x. x % 2) (put-same d.global at_entry 0))
        (λ differ.
        ap (λ x. x % 2) (put-other d.global at_entry 0 (first_of w + i) differ)
        ∙ shows.others i h (λ k less. ⊎_elim (none k)
        (λ past same.
        let l = longer w.pages page in
        let is : k ≡ length w.pages = omega arith in
        let slots = ap (slot_of w.tail) is in
        differ (omega arith))
        (cases_lt k (length w.pages))))
        (cases_eq (first_of w + i) at_entry);
    few = let l = longer w.pages page in let f = shows.few in omega arith;
  }

  pub dropped-outside : outside (window_part w.guest w.engine w.pages) cleared ≡ outside (window_part w.guest w.engine (w.pages ++ page ∷ [])) d
  dropped-outside =
      let room : length w.pages < most_pages w.tail = (let l = longer w.pages page in let f = shows.few in omega arith) in
      window-released w.guest w.engine w.pages page (with_global d at_entry 0) last-label
      ∙ outside-global (window_part w.guest w.engine (w.pages ++ page ∷ [])) d at_entry 0 (in-window w.guest w.engine (slot_of w.tail (length w.pages)) (slot-below w.tail (length w.pages) small room))

-- a window without pages, all of whose entries are absent; and the other way round
pub shows-none : (d : Device) (guest engine tail : ℕ) → WindowIsAbsent d guest engine → Shows d (record { guest = guest; engine = engine; tail = tail; pages = [] })
shows-none d guest engine tail absent = record {
  entry = λ k h. absurd (omega arith);
  label = λ k h. absurd (omega arith);
  long = λ k h. absurd (omega arith);
  below = λ k h. absurd (omega arith);
  apart = λ j k hj hk same. absurd (omega arith);
  others = λ i h none. absent i h;
  few = omega arith;
}

pub none-absent : (d : Device) (w : Window) → w.pages ≡ [] → Shows d w → WindowIsAbsent d w.guest w.engine
none-absent d w none shows = λ i h. shows.others i h (λ k less. let l = ap length none in absurd (omega arith))

-- ---- growing

pub grows-none : (d : Device) (w : Window) → Grows d w d w
grows-none d w = record { same = refl; longer = omega arith; page = λ k h. refl; words = λ k h. refl; live = refl }

pub grows-more : (d e f : Device) (u v w : Window) → Grows d u e v → Grows e v f w → Grows d u f w
grows-more d e f u v w one two = record {
  same = two.same ∙ ap (λ (x : Window). record x { pages = w.pages }) one.same;
  longer = let a = one.longer in let b = two.longer in omega arith;
  page = λ k h. two.page k (let a = one.longer in omega arith) ∙ one.page k h;
  words = λ k h.
      let further : k < length v.pages = (let a = one.longer in omega arith) in
      ap f.words (sym (one.page k h)) ∙ two.words k further ∙ ap e.words (one.page k h) ∙ one.words k h;
  live = let a = one.live in let b = two.live in omega arith;
}

-- ---- a page with its part of the dwords

abbrev pub with_entry : Device → Window → ℕ → Device
with_entry d w page = with_global (added d page (shadow_label w.guest)) (first_of w + slot_of w.tail (length w.pages)) (page * 4096 + flags_of (length w.pages))

abbrev pub with_page : Device → Window → ℕ → List ℕ → ℕ → Device
with_page d w page words part = packed_into (with_entry d w page) page words (512 * part) (words_in words part)

abbrev pub one_more : Window → ℕ → Window
one_more w page = record w { pages = w.pages ++ page ∷ [] }

module _ (d : Device) (w : Window) (page : ℕ) (words : List ℕ) (part : ℕ) (small : w.tail ≤ 65536) (room : length w.pages < most_pages w.tail) (shows : Shows d w) (free : d.label page ≡ None) (empty : d.words page ≡ []) (low : page < 131072) where
  abbrev e : Device
  e = with_entry d w page

  abbrev f : Device
  f = with_page d w page words part

  apart-page : (k : ℕ) → k < length w.pages → get_or w.pages k 0 ≢ page
  apart-page k h = λ same. let l = shows.label k h in let none = ap d.label same ∙ free in cc

  words-kept : (q : ℕ) → q ≢ page → f.words q ≡ d.words q
  words-kept q differ = packed-others e page words (512 * part) (words_in words part) q differ ∙ put-other d.words page zero_words q differ

  pub page-shows : Shows f (one_more w page)
  page-shows = shows-added d f w page small room shows free low
      (packed-label e page words (512 * part) (words_in words part))
      (packed-global e page words (512 * part) (words_in words part))
      (packed-length e page words (512 * part) (words_in words part) ∙ ap length (put-same d.words page zero_words) ∙ length-zero_words)
      words-kept

  pub page-grows : Grows d w f (one_more w page)
  page-grows = record {
    same = refl;
    longer = let l = longer w.pages page in omega arith;
    page = λ k h. front-is w.pages page k h;
    words = λ k h. words-kept (get_or w.pages k 0) (apart-page k h);
    live = let l = longer w.pages page in let live = packed-live e page words (512 * part) (words_in words part) in omega arith;
  }

  own-page : is_named (w.pages ++ page ∷ []) page && is_shadow_of w.guest (e.label page) ≡ true
  own-page = ap (λ l. is_named (w.pages ++ page ∷ []) page && is_shadow_of w.guest l) (put-same d.label page (Some (shadow_label w.guest))) ∙ last_own w.guest w.pages page

  pub page-outside : outside (window_part w.guest w.engine (w.pages ++ page ∷ [])) f ≡ outside (window_part w.guest w.engine w.pages) d
  page-outside =
      packed-outside e page words (512 * part) (window_part w.guest w.engine (w.pages ++ page ∷ [])) own-page (words_in words part)
      ∙ outside-global (window_part w.guest w.engine (w.pages ++ page ∷ [])) (added d page (shadow_label w.guest)) (first_of w + slot_of w.tail (length w.pages)) (page * 4096 + flags_of (length w.pages))
      (in-window w.guest w.engine (slot_of w.tail (length w.pages)) (slot-below w.tail (length w.pages) small room))
      ∙ window-added w.guest w.engine w.pages page d free empty

-- ---- what a page holds is kept where the window grows

pub part-kept : (d e : Device) (v w : Window) (k : ℕ) (words : List ℕ) (i : ℕ) → Grows d v e w → k < length v.pages → HoldsPart d (page_at v k) words i → HoldsPart e (page_at w k) words i
part-kept d e v w k words i grows less holds = λ m within.
    ap (λ q. page_dword (e.words q) m) (grows.page k less) ∙ ap (λ ws. page_dword ws m) (grows.words k less) ∙ holds m within

pub parts-kept : (d e : Device) (v w : Window) (from : ℕ) (words : List ℕ) (n : ℕ) → Grows d v e w → from + n ≤ length v.pages → HoldsParts d v from words n → HoldsParts e w from words n
parts-kept d e v w from words n grows few holds = λ i less. part-kept d e v w (from + i) words i grows (omega arith) (holds i less)

pub shows-same : (d e : Device) (w : Window) → w.tail ≤ 65536 → ((i : ℕ) → i < 0x200 → e.global (first_of w + i) ≡ d.global (first_of w + i))
    → ((k : ℕ) → k < length w.pages → e.label (page_at w k) ≡ d.label (page_at w k))
    → ((k : ℕ) → k < length w.pages → length (e.words (page_at w k)) ≡ length (d.words (page_at w k)))
    → Shows d w → Shows e w
shows-same d e w small entries labels lengths shows = record {
  entry = λ k h. entries (slot_of w.tail k) (slot-below w.tail k small (let f = shows.few in omega arith)) ∙ shows.entry k h;
  label = λ k h. labels k h ∙ shows.label k h;
  long = λ k h. lengths k h ∙ shows.long k h;
  below = shows.below;
  apart = shows.apart;
  others = λ i h none. ap (λ x. x % 2) (entries i h) ∙ shows.others i h none;
  few = shows.few;
}
