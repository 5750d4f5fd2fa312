-- An engine's reads of the window, and that pages of dwords are read as these dwords.
use Rattle.std.proofs.Common.{◌≡◌, ◌≢◌, ℕ, ◌+◌, ◌*◌, ◌/◌, ◌%◌, ◌^◌, ◌<◌, ◌≤◌, Bool, true, cond, eqb, ltb, List, [], ◌∷◌, length, get_or, Option, None, Some, is_some, refl, ap, sym, ◌∙◌, arith}
use Rattle.std.specs.Int.{from_le_bytes, w32}
use Rattle.std.proofs.lemmas.Bool.Decides.{nat_tests}
use Rattle.gv_types.specs.Memory.{half_of}
use Rattle.gv_types.specs.declared.ids.Label.{Label}
use Rattle.gv_gpu.specs.Device.{Device}
use Rattle.gv_gpu.specs.Part.{is_in_windows, shadow_label}
use Rattle.gv_gpu.specs.Physical.{page_of, read_page, word_in, byte_at, operand_at, dword_at}
use Rattle.gv_sctx.specs.Context.{HasImage}
use Rattle.gv_sring.specs.Copy.{Shown, HasCopy}
use Rattle.gv_sring.specs.Packing.{HoldsPart, HoldsParts, count_of}
use Rattle.gv_sring.specs.Window.{Window, first_of, slot_of, flags_of, page_at, ring_pages, Shows, descriptor_at}
use Rattle.gv_sring.proofs.Slots.{in-windows}

-- ---- the read of an aligned dword, by its page

abbrev pub word_of_page : Device → ℕ → Option ℕ → ℕ
word_of_page d at page = half_of (word_in d page at) at

abbrev pub by_alignment : Device → ℕ → Bool → ℕ
by_alignment d at b = cond b (operand_at d 0 true at) (from_le_bytes w32 (byte_at d 0 true at ∷ byte_at d 0 true (at + 1) ∷ byte_at d 0 true (at + 2) ∷ byte_at d 0 true (at + 3) ∷ []))

pub aligned-test : (at : ℕ) → at % 4 ≡ 0 → eqb (at % 4) 0 ≡ true
aligned-test at h = grind (arith, nat_tests)

pub dword-aligned : (d : Device) (at : ℕ) → at % 4 ≡ 0 → dword_at d 0 true at ≡ operand_at d 0 true at
unfolding dword_at
dword-aligned d at fit = ap (by_alignment d at) (aligned-test at fit)

pub operand-of : (d : Device) (at page : ℕ) → read_page d 0 true at ≡ Some page → operand_at d 0 true at ≡ half_of (get_or (d.words page) (at % 4096 / 8) 0) at
unfolding operand_at
operand-of d at page is = ap (word_of_page d at) is

-- ---- one page of the window

abbrev entry_by : Device → Bool → ℕ → ℕ
entry_by d below page = cond below (d.global page) 0

abbrev live_by : Option Label → ℕ → Option ℕ
live_by l page = cond (is_some l) (Some page) None

abbrev named_by : Bool → Option Label → ℕ → Option ℕ
named_by present l page = cond present (live_by l page) None

abbrev page_from : Device → ℕ → Option ℕ
page_from d entry = page_of d entry

abbrev half_by : Bool → ℕ → ℕ
half_by low word = cond low (word % 2 ^ 32) (word / 2 ^ 32)

present : (page : ℕ) → eqb ((page * 4096 + 1) % 2) 1 ≡ true
present page = let e : (page * 4096 + 1) % 2 ≡ 1 = omega arith in grind (arith, nat_tests)

number : (page : ℕ) → (page * 4096 + 1) / 4096 ≡ page
number page = omega arith

below-end : (first k : ℕ) → first + k / 1024 < 2 ^ 20 → ltb (first * 4096 + 4 * k) (2 ^ 32) ≡ true
below-end first k h = let e : first * 4096 + 4 * k < 2 ^ 32 = omega arith in grind (arith, nat_tests)

page-is : (first k : ℕ) → (first * 4096 + 4 * k) / 4096 ≡ first + k / 1024
page-is first k = omega arith

word-is : (first k : ℕ) → (first * 4096 + 4 * k) % 4096 / 8 ≡ k % 1024 / 2
word-is first k = omega arith

low-is : (first k : ℕ) → (first * 4096 + 4 * k) % 8 ≡ 4 * (k % 1024) % 8
low-is first k = omega arith

whole-is : (k : ℕ) → 1024 * (k / 1024) + k % 1024 ≡ k
whole-is k = omega arith

-- the entry of one page of a copy, and the page's part of the dwords
record HasPage (d : Device) (guest image first : ℕ) (words : List ℕ) (i : ℕ) : Type 0 where
  window : is_in_windows guest (first + i) ≡ true
  below : first + i < 2 ^ 20
  page : ℕ
  entry : d.global (first + i) ≡ page * 4096 + 1
  label : d.label page ≡ Some (shadow_label guest)
  apart : page ≢ image
  holds : HoldsPart d page words i

module _ (words : List ℕ) (first : ℕ) (d : Device) (guest image k : ℕ) (h : HasPage d guest image first words (k / 1024)) where
  names : read_page d 0 true (first * 4096 + 4 * k) ≡ Some h.page
  unfolding read_page
  names =
      ap (page_from d) (ap (λ b. entry_by d b ((first * 4096 + 4 * k) / 4096)) (below-end first k h.below) ∙ ap d.global (page-is first k) ∙ h.entry)
      ∙ ap (λ b. named_by b (d.label ((h.page * 4096 + 1) / 4096)) ((h.page * 4096 + 1) / 4096)) (present h.page)
      ∙ ap (λ q. live_by (d.label q) q) (number h.page)
      ∙ ap (λ l. live_by l h.page) h.label

  shown : Shown d guest image (first * 4096 + 4 * k)
  shown = record { window = ap (is_in_windows guest) (page-is first k) ∙ h.window; page = h.page; names = names; label = h.label; apart = h.apart }

  dword : dword_at d 0 true (first * 4096 + 4 * k) ≡ get_or words k 0
  dword =
      let fit : (first * 4096 + 4 * k) % 4 ≡ 0 = omega arith in
      let inside : k % 1024 < 1024 = omega arith in
      dword-aligned d (first * 4096 + 4 * k) fit
      ∙ operand-of d (first * 4096 + 4 * k) h.page names
      ∙ ap (λ n. half_of (get_or (d.words h.page) n 0) (first * 4096 + 4 * k)) (word-is first k)
      ∙ ap (λ n. half_by (eqb n 0) (get_or (d.words h.page) (k % 1024 / 2) 0)) (low-is first k)
      ∙ h.holds (k % 1024) inside
      ∙ ap (λ n. get_or words n 0) (whole-is k)

has-pages : (d : Device) (guest image first : ℕ) (words : List ℕ) → ((i : ℕ) → i < count_of words → HasPage d guest image first words i) → HasCopy d guest image (first * 4096) words
has-pages d guest image first words pages = record {
  dword = λ k less. dword words first d guest image k (pages (k / 1024) (part-of k (length words) less));
  shown = λ k less. shown words first d guest image k (pages (k / 1024) (part-of k (length words) less));
}
  where
    part-of : (k n : ℕ) → k < n → k / 1024 < (n + 1023) / 1024
    part-of k n h = omega arith

-- ---- the copies

flag-one : (k : ℕ) → 2 ≤ k → flags_of k ≡ 1
flag-one k h = grind (arith, nat_tests)

pub ring-slot : (tail i : ℕ) → i < ring_pages tail → slot_of tail (2 + i) ≡ 0x10 + i
ring-slot tail i h = grind (arith, nat_tests)

pub batch-slot : (tail i : ℕ) → slot_of tail (2 + ring_pages tail + i) ≡ 0x20 + i
batch-slot tail i = grind (arith, nat_tests)

-- pages of the window from one on, whose entries follow one another
pub has-copy : (d : Device) (w : Window) (from slot : ℕ) (words : List ℕ) → w.guest < 8 → w.engine < 4 → Shows d w → 2 ≤ from → from + count_of words ≤ length w.pages
    → ((i : ℕ) → i < count_of words → slot_of w.tail (from + i) ≡ slot + i) → slot + count_of words ≤ 0x200 → HoldsParts d w from words (count_of words)
    → HasCopy d w.guest (page_at w 1) ((first_of w + slot) * 4096) words
has-copy d w from slot words guest engine shows past room slots few parts = has-pages d w.guest (page_at w 1) (first_of w + slot) words (λ i less.
    let k : from + i < length w.pages = omega arith in
    let here : first_of w + slot + i ≡ first_of w + slot_of w.tail (from + i) = (let s = slots i less in omega arith) in
    let inside : slot + i < 0x200 = omega arith in
    let regroup : first_of w + slot + i ≡ first_of w + (slot + i) = omega arith in
    record {
      window = ap (is_in_windows w.guest) regroup ∙ in-windows w.guest w.engine (slot + i) engine inside;
      below = omega arith;
      page = page_at w (from + i);
      entry = ap d.global here ∙ shows.entry (from + i) k ∙ ap (λ f. page_at w (from + i) * 4096 + f) (flag-one (from + i) (omega arith));
      label = shows.label (from + i) k;
      apart = λ same. let one = shows.apart (from + i) 1 k (omega arith) same in omega arith;
      holds = parts i less;
    })

-- ---- the image

descriptor-page : (n : ℕ) → n < 2 ^ 20 → (n * 4096 + 0x19) / 2 ^ 12 % 2 ^ 20 ≡ n
descriptor-page n h = omega arith

slot-one : (tail : ℕ) → slot_of tail 1 ≡ 1
slot-one tail = grind (arith, nat_tests)

flags-one : flags_of 1 ≡ 3
flags-one = refl

pub shows-image : (d : Device) (w : Window) → w.guest < 8 → w.engine < 4 → 2 ≤ length w.pages → Shows d w → HasImage d w.guest (descriptor_at w.guest w.engine) (page_at w 1)
shows-image d w guest engine two shows =
    let small : first_of w < 2 ^ 20 = omega arith in
    let page = descriptor-page (first_of w) small in
    let one : 1 < length w.pages = omega arith in
    record {
      below = omega arith;
      entry = ap (λ n. d.global (n + 1)) page ∙ ap (λ n. d.global (first_of w + n)) (sym (slot-one w.tail)) ∙ shows.entry 1 one;
      label = shows.label 1 one;
      long = shows.long 1 one;
    }
