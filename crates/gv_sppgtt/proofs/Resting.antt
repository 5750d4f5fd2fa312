-- Where all but one word of a frame is done from a level on, the nodes from that level on are the live tables.
use Rattle.std.proofs.Common.{ℕ, ◌≤◌, ◌≡◌, Bool, true, false, ◌&&◌, List, Some, length, ap, arith}
use Rattle.std.proofs.lemmas.List.{length-map}
use Rattle.gv_gpu.specs.Device.{Device}
use Rattle.gv_guest.specs.Placed.{Placed, memory_in}
use Rattle.gv_shape.specs.Shadow.{is_live, split_level, is_split}
use Rattle.gv_shape.specs.Counts.{Settled}
use Rattle.gv_shape.proofs.Live.{node-live, live-node, node-split, split-node}
use Rattle.gv_sppgtt.specs.Sound.{reading_at}
use Rattle.gv_sppgtt.specs.State.{pages_of, parents_of, readings_of, sketch_of}
use Rattle.gv_sppgtt.specs.Grown.{Rests, Modest}
use Rattle.gv_sppgtt.specs.Holding.{Holds}
use Rattle.gv_sppgtt.specs.declared.tables.Tables.{Tables}
use Rattle.gv_sppgtt.proofs.NodePairs.{none-parents}
use Rattle.gv_sppgtt.proofs.BadEntries.{frame-words}
use Rattle.gv_shape.specs.Counts.{one_if, is_among}
use Rattle.std.specs.Prelude.{◌==◌}

module _ (d : Device) (placed : Placed) (t : Tables) (pins roots : List ℕ) (level frame index : ℕ) (h : Holds d placed t pins)
    (r : Rests (length placed.pages) (memory_in d placed) roots level frame index (sketch_of d t)) where
  pub settled : Settled (length placed.pages) (memory_in d placed) roots level (pages_of t) (parents_of t) (readings_of d t)
  settled = record {
    counted = r.counted;
    alive = r.alive;
    none = λ k f is. none-parents t.nodes k f is;
    empty = λ k f i is. ap (λ o. reading_at d.words t.owners.items k o i) is;
    low = λ k f p is. h.sound.boarded.low k f p is;
    same = λ k f p i up is small. r.same k f p i is small (λ down _ _. omega arith);
  }

  long : length (memory_in d placed) ≡ length placed.pages
  long = length-map placed.pages d.words

  pub rests-live : (k f p : ℕ) → k ≤ 4 → level ≤ k → pages_of t k f ≡ Some p → is_live (memory_in d placed) roots k f ≡ true
  rests-live k f p few up is = node-live (length placed.pages) (memory_in d placed) roots level (pages_of t) (parents_of t) (readings_of d t) long (λ q low. frame-words d placed q h.stands low) settled k f p few up is

  pub live-rests : (k f : ℕ) → 1 ≤ k → k ≤ 4 → level ≤ k → is_live (memory_in d placed) roots k f ≡ true → (p : ℕ) × (pages_of t k f ≡ Some p)
  live-rests k f low high up is = live-node (length placed.pages) (memory_in d placed) roots level (pages_of t) (parents_of t) (readings_of d t) long (λ q b. frame-words d placed q h.stands b) settled k f low high up is

  one_most : (b : Bool) → one_if b ≤ 1
  one_most true = omega arith
  one_most false = omega arith

  pub rests-modest : (to : ℕ) → Modest (length placed.pages) to (sketch_of d t)
  rests-modest to k f some up = let c = r.counted k f some in let o = one_most ((k == 4) && is_among roots f) in omega arith

  -- the split tables are those of the split keys
  pub rests-split : (w : Bool) (b p : ℕ) → level ≤ 1 → pages_of t (split_level w) b ≡ Some p → is_split (memory_in d placed) roots b w ≡ true
  rests-split w b p up is = node-split (length placed.pages) (memory_in d placed) roots level (pages_of t) (parents_of t) (readings_of d t) long (λ q low. frame-words d placed q h.stands low) settled w b p up is

  pub split-rests : (w : Bool) (b : ℕ) → level ≤ 1 → is_split (memory_in d placed) roots b w ≡ true → (p : ℕ) × (pages_of t (split_level w) b ≡ Some p)
  split-rests w b up is = split-node (length placed.pages) (memory_in d placed) roots level (pages_of t) (parents_of t) (readings_of d t) long (λ q low. frame-words d placed q h.stands low) settled w b up is
