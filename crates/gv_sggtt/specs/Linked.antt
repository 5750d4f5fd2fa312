-- Entries, and how a frame leads to those that name it.
use Rattle.std.specs.Prelude.{◌≡◌, ℕ, ◌+◌, ◌/◌, ◌%◌, ◌<◌, ◌≤◌, Bool, true, false, List, [], ◌∷◌, length, count_by, Option, None, Some, ◌==◌, is_none, if◌then◌else◌}
use Rattle.gv_entry.specs.Entry.{global_frame}
use Rattle.gv_rmap.specs.declared.leaf.Leaf.{Leaf}
use Rattle.gv_rmap.specs.Chains.{ReverseMap, chain_of, unlinked, linked}

pub record Linked : Type 0 where
  pub values : List ℕ
  pub left : ℕ  -- how many slots were written
  pub frames : ℕ

abbrev pub is_frame : ℕ → Option ℕ → Bool
is_frame frame None = false
is_frame frame (Some other) = other == frame

-- whether an entry names the frame
abbrev pub names : ℕ → ℕ → ℕ → Bool
names frames frame entry = is_frame frame (global_frame entry frames)

-- The entries count as the words of pages of 512, by their slots.
abbrev pub leaf_of : ℕ → Leaf
leaf_of slot = record { page = slot / 512; index = slot % 512; writable = true }

-- those that pass a test, of entries whose slots begin there
abbrev pub leaves_from : ℕ → (ℕ → Bool) → List ℕ → List Leaf
leaves_from slot test [] = []
leaves_from slot test (entry ∷ entries) = if test entry then leaf_of slot ∷ leaves_from (slot + 1) test entries else leaves_from (slot + 1) test entries

-- Each frame's chain has the entries that name it, and there is room to link all the others.
pub record AreLinked (frames : ℕ) (values : List ℕ) (chains : ReverseMap) : Type 0 where
  pub whole : length chains.chains ≡ frames
  pub each : (frame : ℕ) → frame < frames → chain_of chains frame ≡ leaves_from 0 (names frames frame) values
  pub room : count_by (λ entry. is_none (global_frame entry frames)) values ≤ chains.spare

-- the chains where an entry no longer names this frame, and where it does
abbrev pub chains_without : ReverseMap → Option ℕ → ℕ → ReverseMap
chains_without chains None slot = chains
chains_without chains (Some frame) slot = unlinked chains frame (leaf_of slot)

abbrev pub chains_with : ReverseMap → Option ℕ → ℕ → ReverseMap
chains_with chains None slot = chains
chains_with chains (Some frame) slot = linked chains frame (leaf_of slot)
