-- What a call that makes nodes does to them, and what one that drops them does.
use Rattle.std.specs.Prelude.{ℕ, ◌+◌, ◌*◌, ◌≤◌, ◌<◌, ◌≡◌, ◌&&◌, ◌==◌, is_some, List, None, Some}
use Rattle.gv_types.specs.Memory.{Memory}
use Rattle.gv_entry.specs.declared.process.Process.{Process}
use Rattle.gv_entry.specs.declared.process.Process.TheVariants.{Absent}
use Rattle.gv_shape.specs.Shadow.{Pages, Readings, wanted}
use Rattle.gv_shape.specs.Counts.{total, namings, names_node, above, rank, one_if, is_among}

-- nodes, seen as functions from level and frame
pub record Sketch : Type 0 where
  pub pages : Pages
  pub parents : ℕ → ℕ → ℕ
  pub readings : Readings

-- Each count of parents moved with the words that name the node, and by so much more.
abbrev pub Balanced : ℕ → Sketch → Sketch → (ℕ → ℕ → ℕ) → Type 0
Balanced frames a b more = (k f : ℕ) → 1 ≤ k → b.parents k f + namings frames a.readings k f ≡ a.parents k f + namings frames b.readings k f + more k f

abbrev pub one_at : ℕ → ℕ → ℕ → ℕ → ℕ
one_at level frame k f = one_if ((k == level) && (f == frame))

abbrev pub none_at : ℕ → ℕ → ℕ
none_at k f = 0

pub record Kept (a b : Sketch) : Type 0 where
  pub pages : (k f p : ℕ) → a.pages k f ≡ Some p → b.pages k f ≡ Some p
  pub parents : (k f : ℕ) → a.parents k f ≤ b.parents k f

-- The node of a frame at a level was there, or was made with all that it names, but that its words from
-- one on are absent yet. It has one parent more.
pub record Growing (frames : ℕ) (m : Memory) (level frame done : ℕ) (a b : Sketch) : Type 0 where
  pub kept : Kept a b
  pub there : (p : ℕ) × (b.pages level frame ≡ Some p)
  pub same : (k f p i : ℕ) → a.pages k f ≡ Some p → i < 512 → b.readings k f i ≡ a.readings k f i
  pub fresh : (k f p i : ℕ) → a.pages k f ≡ None → b.pages k f ≡ Some p → i < 512 → (k ≡ level → f ≡ frame → i < done) → b.readings k f i ≡ wanted m k f i
  pub later : (i : ℕ) → a.pages level frame ≡ None → done ≤ i → i < 512 → b.readings level frame i ≡ Absent
  pub upto : (k f p : ℕ) → a.pages k f ≡ None → b.pages k f ≡ Some p → rank k ≤ rank level
  pub alive : (k f p : ℕ) → a.pages k f ≡ None → b.pages k f ≡ Some p → 1 ≤ b.parents k f
  pub balanced : Balanced frames a b (one_at level frame)

-- one word of a node that was absent is as the guest's, and what it names is there
pub record Filled (frames : ℕ) (m : Memory) (level frame index : ℕ) (a b : Sketch) : Type 0 where
  pub kept : Kept a b
  pub same : (k f p i : ℕ) → a.pages k f ≡ Some p → i < 512 → (k ≡ level → f ≡ frame → i ≡ index → ⊥) → b.readings k f i ≡ a.readings k f i
  pub here : b.readings level frame index ≡ wanted m level frame index
  pub fresh : (k f p i : ℕ) → a.pages k f ≡ None → b.pages k f ≡ Some p → i < 512 → b.readings k f i ≡ wanted m k f i
  pub upto : (k f p : ℕ) → a.pages k f ≡ None → b.pages k f ≡ Some p → rank k < rank level
  pub alive : (k f p : ℕ) → a.pages k f ≡ None → b.pages k f ≡ Some p → 1 ≤ b.parents k f
  pub balanced : Balanced frames a b none_at

-- how many nodes there are: of a frame at the levels 1 to 4, of a large page, and in all
abbrev pub nodes_of : Pages → ℕ → ℕ
nodes_of pages f = one_if (is_some (pages 1 f)) + one_if (is_some (pages 2 f)) + one_if (is_some (pages 3 f)) + one_if (is_some (pages 4 f))

abbrev pub splits_of : Pages → ℕ → ℕ
splits_of pages j = one_if (is_some (pages 5 (j * 512))) + one_if (is_some (pages 6 (j * 512)))

abbrev pub count_of : ℕ → Pages → ℕ
count_of frames pages = total frames (nodes_of pages) + total 32 (splits_of pages)

-- no node of these levels has more than one parent besides the words that name it
abbrev pub Modest : ℕ → ℕ → Sketch → Type 0
Modest frames level a = (k f : ℕ) → 1 ≤ k → rank k ≤ rank level → a.parents k f ≤ namings frames a.readings k f + 1

-- a node was made, with one parent, all of its words absent
pub record Made (level frame page : ℕ) (a b : Sketch) : Type 0 where
  pub here : b.pages level frame ≡ Some page
  pub pages : (k f : ℕ) → (k ≡ level → f ≡ frame → ⊥) → b.pages k f ≡ a.pages k f
  pub parent : b.parents level frame ≡ 1
  pub parents : (k f : ℕ) → (k ≡ level → f ≡ frame → ⊥) → b.parents k f ≡ a.parents k f
  pub empty : (i : ℕ) → i < 512 → b.readings level frame i ≡ Absent
  pub readings : (k f i : ℕ) → i < 512 → (k ≡ level → f ≡ frame → ⊥) → b.readings k f i ≡ a.readings k f i

-- a node has one more parent
pub record Held (level frame : ℕ) (a b : Sketch) : Type 0 where
  pub here : b.parents level frame ≡ a.parents level frame + 1
  pub others : (k f : ℕ) → (k ≡ level → f ≡ frame → ⊥) → b.parents k f ≡ a.parents k f

-- A node lost a parent, and with the last one all of its words, and so on below. Nothing else changed.
pub record Dropped (frames level frame : ℕ) (a b : Sketch) : Type 0 where
  pub within : (k f p : ℕ) → b.pages k f ≡ Some p → a.pages k f ≡ Some p
  pub above : (k f : ℕ) → rank level < rank k → b.pages k f ≡ a.pages k f
  pub above_parents : (k f : ℕ) → rank level < rank k → b.parents k f ≡ a.parents k f
  pub same : (k f p i : ℕ) → b.pages k f ≡ Some p → i < 512 → b.readings k f i ≡ a.readings k f i
  pub alive : (k f p : ℕ) → b.pages k f ≡ Some p → 1 ≤ a.parents k f → 1 ≤ b.parents k f
  pub balanced : (k f : ℕ) → 1 ≤ k → b.parents k f + namings frames a.readings k f + one_at level frame k f ≡ a.parents k f + namings frames b.readings k f

-- The words of a node below `done` were taken out, with what they named.
pub record Emptying (frames level frame done : ℕ) (a b : Sketch) : Type 0 where
  pub within : (k f p : ℕ) → b.pages k f ≡ Some p → a.pages k f ≡ Some p
  pub above : (k f : ℕ) → rank level ≤ rank k → b.pages k f ≡ a.pages k f
  pub above_parents : (k f : ℕ) → rank level ≤ rank k → b.parents k f ≡ a.parents k f
  pub same : (k f p i : ℕ) → b.pages k f ≡ Some p → i < 512 → (k ≡ level → f ≡ frame → done ≤ i) → b.readings k f i ≡ a.readings k f i
  pub empty : (i : ℕ) → i < done → i < 512 → b.readings level frame i ≡ Absent
  pub alive : (k f p : ℕ) → b.pages k f ≡ Some p → 1 ≤ a.parents k f → 1 ≤ b.parents k f
  pub balanced : Balanced frames a b none_at

-- one word of a node was taken out, with what it named
pub record Emptied (frames level frame index : ℕ) (a b : Sketch) : Type 0 where
  pub within : (k f p : ℕ) → b.pages k f ≡ Some p → a.pages k f ≡ Some p
  pub above : (k f : ℕ) → rank level ≤ rank k → b.pages k f ≡ a.pages k f
  pub above_parents : (k f : ℕ) → rank level ≤ rank k → b.parents k f ≡ a.parents k f
  pub same : (k f p i : ℕ) → b.pages k f ≡ Some p → i < 512 → (k ≡ level → f ≡ frame → i ≡ index → ⊥) → b.readings k f i ≡ a.readings k f i
  pub here : b.readings level frame index ≡ Absent
  pub alive : (k f p : ℕ) → b.pages k f ≡ Some p → 1 ≤ a.parents k f → 1 ≤ b.parents k f
  pub balanced : Balanced frames a b none_at

-- Nothing is left to do but for one word of a frame, at its levels up to one: each other word is as the guest's,
-- each node has a parent, and parents are counted with the roots.
pub record Rests (frames : ℕ) (m : Memory) (roots : List ℕ) (level frame index : ℕ) (a : Sketch) : Type 0 where
  pub counted : (k f : ℕ) → 1 ≤ k → a.parents k f ≡ namings frames a.readings k f + one_if ((k == 4) && is_among roots f)
  pub alive : (k f p : ℕ) → a.pages k f ≡ Some p → 1 ≤ a.parents k f
  pub same : (k f p i : ℕ) → a.pages k f ≡ Some p → i < 512 → (k ≤ level → f ≡ frame → i ≡ index → ⊥) → a.readings k f i ≡ wanted m k f i

-- a node that is there before and after has kept its page
abbrev pub KeepPlaces : Pages → Pages → Type 0
KeepPlaces before after = (level frame p q : ℕ) → before level frame ≡ Some p → after level frame ≡ Some q → q ≡ p

-- The same tables have nodes, and the same large pages are split.
abbrev pub HaveSameNodes : Pages → Pages → Type 0
HaveSameNodes before after = (level frame : ℕ) → is_some (after level frame) ≡ is_some (before level frame)

-- what a call that may acquire gives: the nodes grew, or nothing changed
pub record Acquired (frames : ℕ) (m : Memory) (level : ℕ) (e : Process) (a b : Sketch) : Type 0 where
  pub kept : Kept a b
  pub same : (k f p i : ℕ) → a.pages k f ≡ Some p → i < 512 → b.readings k f i ≡ a.readings k f i
  pub fresh : (k f p i : ℕ) → a.pages k f ≡ None → b.pages k f ≡ Some p → i < 512 → (rank k < rank level) × (b.readings k f i ≡ wanted m k f i)
  pub alive : (k f p : ℕ) → a.pages k f ≡ None → b.pages k f ≡ Some p → 1 ≤ b.parents k f
  pub balanced : Balanced frames a b (λ k f. one_if (above k == level) * one_if (names_node k f e))

pub record Released (frames level : ℕ) (e : Process) (a b : Sketch) : Type 0 where
  pub within : (k f p : ℕ) → b.pages k f ≡ Some p → a.pages k f ≡ Some p
  pub same : (k f p i : ℕ) → b.pages k f ≡ Some p → i < 512 → b.readings k f i ≡ a.readings k f i
  pub alive : (k f p : ℕ) → b.pages k f ≡ Some p → 1 ≤ a.parents k f → 1 ≤ b.parents k f
  pub balanced : (k f : ℕ) → 1 ≤ k → b.parents k f + namings frames a.readings k f + one_if (above k == level) * one_if (names_node k f e) ≡ a.parents k f + namings frames b.readings k f
