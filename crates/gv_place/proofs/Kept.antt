-- What changes neither window entries nor shadow pages leaves the copies and the place.
use Rattle.std.proofs.Common.{◌≡◌, ℕ, ◌+◌, ◌*◌, ◌/◌, ◌%◌, ◌^◌, Bool, true, false, cond, eqb, ltb, List, [], ◌∷◌, get_or, Option, None, Some, is_some, refl, ap, sym, ◌∙◌, arith}
use Rattle.std.specs.List.{concat}
use Rattle.std.specs.Int.{from_le_bytes, w32}
use Rattle.std.proofs.lemmas.Bool.Decides.{nat_tests}
use Rattle.gv_types.specs.Memory.{half_of}
use Rattle.gv_types.specs.declared.ids.Label.{Label}
use Rattle.gv_gpu.specs.Device.{Device, Loaded}
use Rattle.gv_gpu.specs.Part.{Part, inside, is_in_windows, shadow_label}
use Rattle.gv_gpu.specs.Physical.{page_of, read_page, word_in, byte_at, operand_at, dword_at}
use Rattle.gv_gpu.proofs.Seen.{label-same, words-same, global-same}
use Rattle.gv_scan.specs.Layout.{Layout}
use Rattle.gv_fetch.specs.Left.{Left}
use Rattle.gv_sring.specs.Copy.{Shown, HasCopy, Copied}
use Rattle.gv_place.specs.Place.{StandsFor, KeepsShadow}

-- the read of an aligned dword, by its page
word_of_page : Device → ℕ → Option ℕ → ℕ
word_of_page d at page = half_of (word_in d page at) at

by_alignment : Device → ℕ → Bool → ℕ
by_alignment d at b = cond b (operand_at d 0 true at) (from_le_bytes w32 (byte_at d 0 true at ∷ byte_at d 0 true (at + 1) ∷ byte_at d 0 true (at + 2) ∷ byte_at d 0 true (at + 3) ∷ []))

pub aligned-test : (at : ℕ) → at % 4 ≡ 0 → eqb (at % 4) 0 ≡ true
aligned-test at h = grind (arith, nat_tests)

pub dword-aligned : (d : Device) (at : ℕ) → at % 4 ≡ 0 → dword_at d 0 true at ≡ operand_at d 0 true at
unfolding dword_at by_alignment
dword-aligned d at fit = ap (by_alignment d at) (aligned-test at fit)

pub operand-of : (d : Device) (at page : ℕ) → read_page d 0 true at ≡ Some page → operand_at d 0 true at ≡ half_of (get_or (d.words page) (at % 4096 / 8) 0) at
unfolding operand_at word_of_page
operand-of d at page is = ap (word_of_page d at) is

-- the page that an address names, by the entry and by the label of the page that it names
low : ℕ → Bool → ℕ → ℕ
low at b entry = cond b entry 0

page_by : Device → ℕ → Option ℕ
page_by d entry = page_of d entry

live_by : Option Label → ℕ → Option ℕ
live_by l page = cond (is_some l) (Some page) None

named : Bool → Option Label → ℕ → Option ℕ
named b l page = cond b (live_by l page) None

named-page : (b : Bool) (l : Option Label) (n page : ℕ) → named b l n ≡ Some page → (b ≡ true) × (n ≡ page)
unfolding named live_by
named-page true None n page is = cc
named-page true (Some l) n page is = (refl, cc)
named-page false l n page is = cc

-- the entry that an address below 2^32 goes through
entry : Device → ℕ → ℕ
entry d at = cond (ltb at (2 ^ 32)) (d.global (at / 4096)) 0

entry-same : (d e : Device) (at : ℕ) → e.global (at / 4096) ≡ d.global (at / 4096) → entry e at ≡ entry d at
unfolding entry
entry-same d e at same = ap (λ x. cond (ltb at (2 ^ 32)) x 0) same

read-page-is : (d : Device) (at : ℕ) → read_page d 0 true at ≡ named (eqb (entry d at % 2) 1) (d.label (entry d at / 4096)) (entry d at / 4096)
unfolding read_page entry named live_by
read-page-is d at = refl

module _ (guest image : ℕ) (d e : Device) (keeps : KeepsShadow guest image d e) where
  names-same : (at page : ℕ) → is_in_windows guest (at / 4096) ≡ true → read_page d 0 true at ≡ Some page → d.label page ≡ Some (shadow_label guest) → read_page e 0 true at ≡ Some page
  names-same at page window names label =
      let en = entry-same d e at (keeps.entry (at / 4096) window) in
      let is = named-page (eqb (entry d at % 2) 1) (d.label (entry d at / 4096)) (entry d at / 4096) page (sym (read-page-is d at) ∙ names) in
      let there : e.label (entry d at / 4096) ≡ d.label (entry d at / 4096) = ap e.label is.1 ∙ keeps.label page label ∙ sym (ap d.label is.1) in
      read-page-is e at
      ∙ ap (λ n. named (eqb (n % 2) 1) (e.label (n / 4096)) (n / 4096)) en
      ∙ ap (λ l. named (eqb (entry d at % 2) 1) l (entry d at / 4096)) there
      ∙ sym (read-page-is d at)
      ∙ names

  shown-kept : (at : ℕ) → Shown d guest image at → Shown e guest image at
  shown-kept at s = record { window = s.window; page = s.page; names = names-same at s.page s.window s.names s.label; label = keeps.label s.page s.label ∙ s.label; apart = s.apart }

  dword-kept : (at : ℕ) → at % 4 ≡ 0 → Shown d guest image at → dword_at e 0 true at ≡ dword_at d 0 true at
  dword-kept at fit s =
      dword-aligned e at fit
      ∙ operand-of e at s.page (names-same at s.page s.window s.names s.label)
      ∙ ap (λ ws. half_of (get_or ws (at % 4096 / 8) 0) at) (keeps.words s.page s.label s.apart)
      ∙ sym (operand-of d at s.page s.names)
      ∙ sym (dword-aligned d at fit)

  fours : (at k : ℕ) → at % 4 ≡ 0 → (at + 4 * k) % 4 ≡ 0
  fours at k h = omega arith

  pub holds-kept : (at : ℕ) (words : List ℕ) → at % 4 ≡ 0 → HasCopy d guest image at words → HasCopy e guest image at words
  holds-kept at words fit h = record {
    dword = λ k less. dword-kept (at + 4 * k) (fours at k fit) (h.shown k less) ∙ h.dword k less;
    shown = λ k less. shown-kept (at + 4 * k) (h.shown k less);
  }

  pub copied-kept : (p : Layout) (start : ℕ) → Copied d guest image p start → Copied e guest image p start
  copied-kept p start c = record {
    ring = holds-kept start (concat p.ring) c.start_aligned c.ring;
    batches = holds-kept p.base (concat p.batches) c.base_aligned c.batches;
    ring_small = c.ring_small;
    batches_small = c.batches_small;
    start_aligned = c.start_aligned;
    base_aligned = c.base_aligned;
  }

pub stands-kept : (d e : Device) (image : ℕ) (p : Layout) (l : Loaded) (w : Left) → KeepsShadow l.owner image d e → StandsFor d image p l w → StandsFor e image p l w
stands-kept d e image p l w keeps s = record { copied = copied-kept l.owner image d e keeps p l.ring_start s.copied; tail = s.tail; place = s.place }

-- from an unchanged part that has the guest's windows and shadow pages
pub part-keeps : (guest image : ℕ) (w : Part) (d e : Device) → ((n : ℕ) → w.page n (Some (shadow_label guest)) ≡ true) → ((i : ℕ) → is_in_windows guest i ≡ true → w.entry i ≡ true) → inside w e ≡ inside w d → KeepsShadow guest image d e
part-keeps guest image w d e pages entries same = record {
  entry = λ i window. global-same w d e same i (entries i window);
  label = λ q is. label-same w d e same q (shadow_label guest) (pages q) is ∙ sym is;
  words = λ q is _. words-same w d e same q (shadow_label guest) (pages q) is;
}
