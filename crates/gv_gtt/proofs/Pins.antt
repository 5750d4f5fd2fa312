-- The pins of a frame are those of the global table and of the shadow tables: neither is too many for the other.
use Rattle.std.proofs.Common.{◌≡◌, ◌≢◌, ℕ, zero, suc, ◌+◌, ◌*◌, ◌/◌, ◌%◌, ◌^◌, ◌<◌, ◌≤◌, List, Option, None, Some, length, get_or, refl, ap, ◌∙◌, ⊎_elim, arith, Bool, true, false}
use Rattle.std.proofs.lemmas.Bool.{cases_eq}
use Rattle.gv_gpu.specs.Device.{Device}
use Rattle.gv_guest.specs.Placed.{Placed}
use Rattle.gv_shape.specs.Counts.{total, leaves, maps, one_if}
use Rattle.gv_shape.proofs.Totals.{total-bound}
use Rattle.gv_sggtt.specs.Pins.{table_pins, HasPins}
use Rattle.gv_sggtt.specs.Table.{Table, IsTable}
use Rattle.gv_sggtt.proofs.OwnPins.{most-own}
use Rattle.gv_sppgtt.specs.Holding.{Holds}
use Rattle.gv_sppgtt.specs.Sound.{reading_at}
use Rattle.gv_sppgtt.specs.State.{IsPinned, pages_of as nodes_of, readings_of}
use Rattle.gv_sppgtt.specs.declared.tables.Tables.{Tables}

-- ---- the global table's

pub table-few : (t : Table) → IsTable t → (frame : ℕ) → table_pins t frame ≤ 0xFC000
table-few t is frame =
    let most = most-own t frame in
    let whole = is.whole in let low = is.parts.low in let from = is.parts.from in let high = is.parts.high in
    omega arith

-- ---- the shadow tables'

one_most : (b : Bool) → one_if b ≤ 1
one_most true = omega arith
one_most false = omega arith

-- a sum of terms up to 512 that are 0 but at multiples of 512
spaced : (n : ℕ) (f : ℕ → ℕ) → ((j : ℕ) → f j ≤ 512) → ((j : ℕ) → j % 512 ≢ 0 → f j ≡ 0) → total n f ≤ (n + 511) / 512 * 512
unfolding total
spaced zero f most none = omega arith
spaced (suc n) f most none =
    let rest = spaced n f most none in
    let last = most n in
    ⊎_elim
    (λ even. omega arith)
    (λ odd. let nothing = none n odd in omega arith)
    (cases_eq (n % 512) 0)

total-none : (n : ℕ) → total n (λ _. 0) ≡ 0
unfolding total
total-none zero = refl
total-none (suc n) = let rest = total-none n in omega arith

module _ (d : Device) (placed : Placed) (t : Tables) (pins : List ℕ) (holds : Holds d placed t pins) where
  -- how many words of one node map a frame
  words : ℕ → ℕ → ℕ → ℕ
  words level h frame = total 512 (λ i. one_if (maps h (readings_of d t level frame i)))

  words-most : (level h frame : ℕ) → words level h frame ≤ 512
  unfolding words
  words-most level h frame = let most = total-bound 512 1 (λ i. one_if (maps h (readings_of d t level frame i))) (λ i. one_most (maps h (readings_of d t level frame i))) in omega arith

  -- a split table stands at a multiple of 512
  words-none : (level h frame : ℕ) → 5 ≤ level → frame % 512 ≢ 0 → words level h frame ≡ 0
  unfolding words
  words-none level h frame high odd = by (nodes_of t level frame) refl
    where
      by : (o : Option ℕ) → nodes_of t level frame ≡ o → words level h frame ≡ 0
      by (Some p) is = absurd (odd (holds.sound.boarded.whole level frame p is high).0)
      by None is = ap (λ (o : Option ℕ). total 512 (λ i. one_if (maps h (reading_at d.words t.owners.items level o i)))) is ∙ total-none 512

  pub leaves-few : (h : ℕ) → leaves (length placed.pages) (readings_of d t) h ≤ 2 ^ 24
  unfolding words
  leaves-few h =
      let frames = length placed.pages in
      let few = holds.few in
      let first = total-bound frames 512 (words 1 h) (words-most 1 h) in
      let fifth = spaced frames (words 5 h) (words-most 5 h) (λ j odd. words-none 5 h j (omega arith) odd) in
      let sixth = spaced frames (words 6 h) (words-most 6 h) (λ j odd. words-none 6 h j (omega arith) odd) in
      omega arith

-- ---- both

-- pins that are those of both
abbrev pub AreBoth : Device → Placed → Table → Tables → List ℕ → Type 0
AreBoth d placed table t pins = (frame : ℕ) → frame < table.frames → get_or pins frame 0 ≡ table_pins table frame + leaves (length placed.pages) (readings_of d t) frame

pub has-pins : (d : Device) (placed : Placed) (table : Table) (t : Tables) (pins : List ℕ) → length placed.pages ≡ table.frames → Holds d placed t pins → AreBoth d placed table t pins → HasPins table pins
has-pins d placed table t pins frames holds both = record {
  frames = holds.pinned.0 ∙ frames;
  own = λ frame low. let b = both frame low in omega arith;
  others = λ frame low. let b = both frame low in let few = leaves-few d placed t pins holds frame in omega arith;
}

pub is-pinned : (d : Device) (placed : Placed) (table : Table) (t : Tables) (pins : List ℕ) → IsTable table → length placed.pages ≡ table.frames → length pins ≡ length placed.pages → AreBoth d placed table t pins → IsPinned d placed t pins
is-pinned d placed table t pins is frames long both = (
  long,
  λ frame low.
      let b = both frame (omega arith) in
      let few = table-few table is frame in
      (omega arith, omega arith),
)
