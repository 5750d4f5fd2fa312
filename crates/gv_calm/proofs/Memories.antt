-- What a guest's memory holds from its set-up on: the frames of its context's image, its ring and its tables.
use Rattle.std.proofs.Common.{◌≡◌, ◌≢◌, ℕ, ◌+◌, ◌*◌, ◌/◌, ◌%◌, ◌^◌, ◌<◌, ◌≤◌, Bool, true, false, ◌||◌, List, [], ◌∷◌, ◌++◌, length, set, replicate, refl, sym, ap, ◌∙◌, arith, eqb, ◌⊎◌, inl, inr}
use Rattle.std.specs.List.{list_any, filter, range_with_len}
use Rattle.std.proofs.lemmas.List.{length-set, get_or-set_other, get_or-set_same}
use Rattle.std.specs.Prelude.{slice_index}
use Rattle.gv_types.specs.Memory.{Memory, with_word, with_value, word_of}
use Rattle.gv_types.specs.declared.event.Width.TheVariants.{Four}
use Rattle.gv_entry.specs.Entry.{process_entry}
use Rattle.gv_entry.specs.Tables.{frame_words, any_entry, names, is_bad_entry, tables_named, live_below, has_bad_entry, is_guarded}

-- ---- the words of the frames

-- a table of one entry, one of three, and a ring of two words
unfoldable pub table_words : ℕ → List ℕ
table_words entry = entry ∷ replicate 511 0

unfoldable pub page_words : ℕ → ℕ → ℕ → List ℕ
page_words a b c = a ∷ b ∷ c ∷ replicate 509 0

unfoldable pub ring_words : ℕ → ℕ → List ℕ
ring_words x y = x ∷ y ∷ replicate 510 0

-- The image of a context: its head and tail, the address of its ring, which has one page, and the root 8.
unfoldable pub image_words : ℕ → ℕ → ℕ → List ℕ
image_words start head tail =
    0 ∷ 0 ∷ head * 2 ^ 32 ∷ tail * 2 ^ 32 ∷ start * 2 ^ 32 ∷ 2 ^ 32 ∷ replicate 19 0 ++ 0x8000 * 2 ^ 32 ∷ replicate 486 0

-- the frame that a process page is
pub data Leaf : Type 0 where
  twelve : Leaf
  thirteen : Leaf
  fourteen : Leaf
  fifteen : Leaf

abbrev pub frame_in : Leaf → ℕ
frame_in twelve = 12
frame_in thirteen = 13
frame_in fourteen = 14
frame_in fifteen = 15

abbrev pub entry_in : Leaf → ℕ
entry_in twelve = 0xC003
entry_in thirteen = 0xD003
entry_in fourteen = 0xE003
entry_in fifteen = 0xF003

-- what changes of them
pub record Words : Type 0 where
  pub head : Bool
  pub tail : Bool
  pub x : ℕ
  pub y : ℕ
  pub a : Leaf
  pub b : Leaf
  pub c : Leaf

-- the offset behind the ring's command, or the ring's start
abbrev pub behind : Bool → ℕ
behind true = 0x10
behind false = 0

pub record Holds (start : ℕ) (m : Memory) (s : Words) : Type 0 where
  pub frames : length m ≡ 32
  pub image : frame_words m 1 ≡ image_words start (behind s.head) (behind s.tail)
  pub ring : frame_words m 2 ≡ ring_words s.x s.y
  pub fourth : frame_words m 8 ≡ table_words 0x9003
  pub third : frame_words m 9 ≡ table_words 0xA003
  pub second : frame_words m 10 ≡ table_words 0xB003
  pub first : frame_words m 11 ≡ page_words (entry_in s.a) (entry_in s.b) (entry_in s.c)

-- ---- writes

pub frame-other : (m : Memory) (n value frame : ℕ) → frame ≢ n / 512 → frame_words (with_word m n value) frame ≡ frame_words m frame
frame-other m n value frame differ = get_or-set_other m (n / 512) frame _ [] differ

pub frame-same : (m : Memory) (n value : ℕ) → n / 512 < length m → frame_words (with_word m n value) (n / 512) ≡ set (frame_words m (n / 512)) (n % 512) value
frame-same m n value there = get_or-set_same m (n / 512) _ [] there

pub frame-set : (m : Memory) (n value frame : ℕ) → n / 512 ≡ frame → frame < length m → frame_words (with_word m n value) frame ≡ set (frame_words m frame) (n % 512) value
frame-set m n value frame is there =
    ap (frame_words (with_word m n value)) (sym is) ∙ frame-same m n value (omega (arith, is, there)) ∙ ap (λ k. set (frame_words m k) (n % 512) value) is

-- the frames of the status page and of data
abbrev pub IsElsewhere : ℕ → Type 0
IsElsewhere frame = (frame ≡ 3) ⊎ (12 ≤ frame)

apart : (k frame : ℕ) → frame < 12 → frame ≢ 3 → IsElsewhere k → frame ≢ k
apart k frame low not_three (inl is) = λ same. not_three (same ∙ is)
apart k frame low not_three (inr high) = λ same. omega (arith, same, low, high)

-- a word that is written in none of these frames
pub elsewhere-holds : (start : ℕ) (m : Memory) (s : Words) (n value : ℕ) → Holds start m s → IsElsewhere (n / 512) → Holds start (with_word m n value) s
elsewhere-holds start m s n value h away = record {
  frames = length-set m _ _ ∙ h.frames;
  image = frame-other m n value 1 (apart (n / 512) 1 (omega arith) (λ e. omega (arith, e)) away) ∙ h.image;
  ring = frame-other m n value 2 (apart (n / 512) 2 (omega arith) (λ e. omega (arith, e)) away) ∙ h.ring;
  fourth = frame-other m n value 8 (apart (n / 512) 8 (omega arith) (λ e. omega (arith, e)) away) ∙ h.fourth;
  third = frame-other m n value 9 (apart (n / 512) 9 (omega arith) (λ e. omega (arith, e)) away) ∙ h.third;
  second = frame-other m n value 10 (apart (n / 512) 10 (omega arith) (λ e. omega (arith, e)) away) ∙ h.second;
  first = frame-other m n value 11 (apart (n / 512) 11 (omega arith) (λ e. omega (arith, e)) away) ∙ h.first;
}

-- a word that is written in the image, in the ring, or in the table of pages
pub image-written : (start : ℕ) (m : Memory) (s : Words) (n value : ℕ) (head tail : Bool) → Holds start m s → n / 512 ≡ 1
    → set (image_words start (behind s.head) (behind s.tail)) (n % 512) value ≡ image_words start (behind head) (behind tail) → Holds start (with_word m n value) (record s { head = head; tail = tail })
image-written start m s n value head tail h page gives = record {
  frames = length-set m _ _ ∙ h.frames;
  image = frame-set m n value 1 page (omega (arith, h.frames)) ∙ ap (λ words. set words (n % 512) value) h.image ∙ gives;
  ring = frame-other m n value 2 (λ e. omega (arith, e, page)) ∙ h.ring;
  fourth = frame-other m n value 8 (λ e. omega (arith, e, page)) ∙ h.fourth;
  third = frame-other m n value 9 (λ e. omega (arith, e, page)) ∙ h.third;
  second = frame-other m n value 10 (λ e. omega (arith, e, page)) ∙ h.second;
  first = frame-other m n value 11 (λ e. omega (arith, e, page)) ∙ h.first;
}

pub ring-written : (start : ℕ) (m : Memory) (s : Words) (n value x y : ℕ) → Holds start m s → n / 512 ≡ 2
    → set (ring_words s.x s.y) (n % 512) value ≡ ring_words x y → Holds start (with_word m n value) (record s { x = x; y = y })
ring-written start m s n value x y h page gives = record {
  frames = length-set m _ _ ∙ h.frames;
  image = frame-other m n value 1 (λ e. omega (arith, e, page)) ∙ h.image;
  ring = frame-set m n value 2 page (omega (arith, h.frames)) ∙ ap (λ words. set words (n % 512) value) h.ring ∙ gives;
  fourth = frame-other m n value 8 (λ e. omega (arith, e, page)) ∙ h.fourth;
  third = frame-other m n value 9 (λ e. omega (arith, e, page)) ∙ h.third;
  second = frame-other m n value 10 (λ e. omega (arith, e, page)) ∙ h.second;
  first = frame-other m n value 11 (λ e. omega (arith, e, page)) ∙ h.first;
}

pub page-written : (start : ℕ) (m : Memory) (s : Words) (n value : ℕ) (a b c : Leaf) → Holds start m s → n / 512 ≡ 11
    → set (page_words (entry_in s.a) (entry_in s.b) (entry_in s.c)) (n % 512) value ≡ page_words (entry_in a) (entry_in b) (entry_in c) → Holds start (with_word m n value) (record s { a = a; b = b; c = c })
page-written start m s n value a b c h page gives = record {
  frames = length-set m _ _ ∙ h.frames;
  image = frame-other m n value 1 (λ e. omega (arith, e, page)) ∙ h.image;
  ring = frame-other m n value 2 (λ e. omega (arith, e, page)) ∙ h.ring;
  fourth = frame-other m n value 8 (λ e. omega (arith, e, page)) ∙ h.fourth;
  third = frame-other m n value 9 (λ e. omega (arith, e, page)) ∙ h.third;
  second = frame-other m n value 10 (λ e. omega (arith, e, page)) ∙ h.second;
  first = frame-set m n value 11 page (omega (arith, h.frames)) ∙ ap (λ words. set words (n % 512) value) h.first ∙ gives;
}

-- the head and the tail, as dwords
head_in : (start value : ℕ) (head tail to : Bool) → value ≡ behind to → set (image_words start (behind head) (behind tail)) 2 (value * 2 ^ 32 + slice_index (image_words start (behind head) (behind tail)) 2 % 2 ^ 32) ≡ image_words start (behind to) (behind tail)
unfolding image_words
head_in start value true tail true is = ap (λ v. set (image_words start 0x10 (behind tail)) 2 (v * 2 ^ 32 + 0)) is
head_in start value true tail false is = ap (λ v. set (image_words start 0x10 (behind tail)) 2 (v * 2 ^ 32 + 0)) is
head_in start value false tail true is = ap (λ v. set (image_words start 0 (behind tail)) 2 (v * 2 ^ 32 + 0)) is
head_in start value false tail false is = ap (λ v. set (image_words start 0 (behind tail)) 2 (v * 2 ^ 32 + 0)) is

tail_in : (start : ℕ) (head tail : Bool) → set (image_words start (behind head) (behind tail)) 3 (0x10 * 2 ^ 32 + slice_index (image_words start (behind head) (behind tail)) 3 % 2 ^ 32) ≡ image_words start (behind head) 0x10
unfolding image_words
tail_in start head true = refl
tail_in start head false = refl

pub head-written : (start : ℕ) (m : Memory) (s : Words) (to : Bool) → Holds start m s → Holds start (with_value m Four 0x1014 (behind to)) (record s { head = to })
head-written start m s to h =
    image-written start m s 0x202 (behind to * 2 ^ 32 + word_of m 0x202 % 2 ^ 32) to s.tail h refl
    (ap (λ words. set (image_words start (behind s.head) (behind s.tail)) 2 (behind to * 2 ^ 32 + slice_index words 2 % 2 ^ 32)) h.image ∙ head_in start (behind to) s.head s.tail to refl)

pub tail-written : (start : ℕ) (m : Memory) (s : Words) → Holds start m s → Holds start (with_value m Four 0x101C 0x10) (record s { tail = true })
tail-written start m s h =
    image-written start m s 0x203 (0x10 * 2 ^ 32 + word_of m 0x203 % 2 ^ 32) s.head true h refl
    (ap (λ words. set (image_words start (behind s.head) (behind s.tail)) 3 (0x10 * 2 ^ 32 + slice_index words 3 % 2 ^ 32)) h.image ∙ tail_in start s.head s.tail)

-- ---- tables

named_in_fourth : (frame : ℕ) → list_any (λ word. names frame (process_entry word 4 32)) (table_words 0x9003) ≡ (eqb 9 frame || false)
unfolding table_words
named_in_fourth frame = refl

named_in_third : (frame : ℕ) → list_any (λ word. names frame (process_entry word 3 32)) (table_words 0xA003) ≡ (eqb 10 frame || false)
unfolding table_words
named_in_third frame = refl

named_in_second : (frame : ℕ) → list_any (λ word. names frame (process_entry word 2 32)) (table_words 0xB003) ≡ (eqb 11 frame || false)
unfolding table_words
named_in_second frame = refl

none_bad_in_fourth : list_any (λ word. is_bad_entry (process_entry word 4 32)) (table_words 0x9003) ≡ false
unfolding table_words
none_bad_in_fourth = refl

none_bad_in_third : list_any (λ word. is_bad_entry (process_entry word 3 32)) (table_words 0xA003) ≡ false
unfolding table_words
none_bad_in_third = refl

none_bad_in_second : list_any (λ word. is_bad_entry (process_entry word 2 32)) (table_words 0xB003) ≡ false
unfolding table_words
none_bad_in_second = refl

abbrev is_bad_page : ℕ → Bool
is_bad_page entry = is_bad_entry (process_entry entry 1 32)

bad_in_first : (a b c : ℕ) → list_any is_bad_page (page_words a b c) ≡ (is_bad_page a || (is_bad_page b || (is_bad_page c || false)))
unfolding page_words
bad_in_first a b c = refl

good_page : (leaf : Leaf) → is_bad_page (entry_in leaf) ≡ false
good_page twelve = refl
good_page thirteen = refl
good_page fourteen = refl
good_page fifteen = refl

none_bad_in_first : (a b c : Leaf) → list_any is_bad_page (page_words (entry_in a) (entry_in b) (entry_in c)) ≡ false
none_bad_in_first a b c = bad_in_first (entry_in a) (entry_in b) (entry_in c) ∙ (λ i. good_page a i || (good_page b i || (good_page c i || false)))

module _ (start : ℕ) (m : Memory) (s : Words) (h : Holds start m s) where
  any : (test : ℕ → ℕ → Bool) (table : ℕ) (words : List ℕ) → frame_words m table ≡ words → list_any (test (length m)) (frame_words m table) ≡ list_any (test 32) words
  any test table words is = λ i. list_any (test (h.frames i)) (is i)

  abbrev below : ℕ → List ℕ
  below depth = live_below m (8 ∷ []) depth

  named : (level : ℕ) (tables : List ℕ) (table next : ℕ) → tables ≡ table ∷ [] → ((frame : ℕ) → any_entry m level (names frame) table ≡ (eqb next frame || false)) → filter (λ frame. (eqb next frame || false) || false) (range_with_len 0 32) ≡ next ∷ [] → tables_named m level tables ≡ next ∷ []
  named level tables table next is each ends =
      (λ i. filter (λ frame. list_any (any_entry m level (names frame)) (is i)) (range_with_len 0 (length m)))
      ∙ (λ i. filter (λ frame. each frame i || false) (range_with_len 0 (h.frames i)))
      ∙ ends

  live-third : below 1 ≡ 9 ∷ []
  live-third = named 4 (8 ∷ []) 8 9 refl (λ frame. any (λ n word. names frame (process_entry word 4 n)) 8 (table_words 0x9003) h.fourth ∙ named_in_fourth frame) refl

  live-second : below 2 ≡ 10 ∷ []
  live-second = named 3 (below 1) 9 10 live-third (λ frame. any (λ n word. names frame (process_entry word 3 n)) 9 (table_words 0xA003) h.third ∙ named_in_third frame) refl

  live-first : below 3 ≡ 11 ∷ []
  live-first = named 2 (below 2) 10 11 live-second (λ frame. any (λ n word. names frame (process_entry word 2 n)) 10 (table_words 0xB003) h.second ∙ named_in_second frame) refl

  -- no live table has a bad entry
  pub none-bad : has_bad_entry m (8 ∷ []) ≡ false
  none-bad =
      (λ i.
      list_any (any_entry m 4 is_bad_entry) (8 ∷ [])
      || (list_any (any_entry m 3 is_bad_entry) (live-third i)
      || (list_any (any_entry m 2 is_bad_entry) (live-second i)
      || (list_any (any_entry m 1 is_bad_entry) (live-first i) || false))))
      ∙ (λ i.
      ((any (λ n word. is_bad_entry (process_entry word 4 n)) 8 (table_words 0x9003) h.fourth ∙ none_bad_in_fourth) i || false)
      || (((any (λ n word. is_bad_entry (process_entry word 3 n)) 9 (table_words 0xA003) h.third ∙ none_bad_in_third) i || false)
      || (((any (λ n word. is_bad_entry (process_entry word 2 n)) 10 (table_words 0xB003) h.second ∙ none_bad_in_second) i || false)
      || (((any (λ n word. is_bad_entry (process_entry word 1 n)) 11 (page_words (entry_in s.a) (entry_in s.b) (entry_in s.c)) h.first ∙ none_bad_in_first s.a s.b s.c) i || false) || false))))

  -- the live tables are these four
  pub guarded-tables : (frame : ℕ) → is_guarded m (8 ∷ []) frame ≡ ((eqb 8 frame || false) || ((eqb 9 frame || false) || ((eqb 10 frame || false) || ((eqb 11 frame || false) || false))))
  guarded-tables frame = λ i.
      list_any (λ table. eqb table frame) (8 ∷ [])
      || (list_any (λ table. eqb table frame) (live-third i)
      || (list_any (λ table. eqb table frame) (live-second i)
      || (list_any (λ table. eqb table frame) (live-first i) || false)))
