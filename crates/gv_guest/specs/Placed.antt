-- How a guest's memory stands in the device: each frame in a host page of its own.
use Rattle.std.specs.Prelude.{◌≡◌, ℕ, ◌<◌, List, [], Some, Bool, true, false, length, map, slice_index, ◌==◌}
use Rattle.std.specs.List.{list_any}
use Rattle.gv_types.specs.Memory.{Memory}
use Rattle.gv_types.specs.declared.ids.Label.{Label}
use Rattle.gv_gpu.specs.Device.{Device}

-- whose frames these are, and the host page of each
pub record Placed : Type 0 where
  pub guest : ℕ
  pub pages : List ℕ

-- the memory that the pages hold
abbrev pub memory_in : Device → Placed → Memory
memory_in d placed = map d.words placed.pages

abbrev pub frame_label : ℕ → Label
frame_label guest = record { guest = record { 0 = guest }; shadow = false }

-- whether a page is one of these
abbrev pub is_among : List ℕ → ℕ → Bool
is_among pages n = list_any (λ page. page == n) pages

-- Each frame has a live page of its own, labelled for the guest; and these are all pages with this
-- label.
pub record Hosts (d : Device) (placed : Placed) : Type 0 where
  pub labelled : (k : ℕ) → k < length placed.pages → d.label (slice_index placed.pages k) ≡ Some (frame_label placed.guest)
  pub long : (k : ℕ) → k < length placed.pages → length (d.words (slice_index placed.pages k)) ≡ 512
  pub below : (k : ℕ) → k < length placed.pages → slice_index placed.pages k < 131072
  pub apart : (j k : ℕ) → j < length placed.pages → k < length placed.pages → slice_index placed.pages j ≡ slice_index placed.pages k → j ≡ k
  pub all : (n : ℕ) → d.label n ≡ Some (frame_label placed.guest) → is_among placed.pages n ≡ true

-- a guest that has no frames yet
abbrev pub nowhere : ℕ → Placed
nowhere guest = record { guest = guest; pages = [] }

-- The memory stands as before, with the same words.
pub record KeepsMemory (placed : Placed) (before after : Device) : Type 0 where
  pub stands : Hosts after placed
  pub memory : memory_in after placed ≡ memory_in before placed
