-- How often the words of nodes name a table or map a frame.
use Rattle.std.specs.Prelude.{ℕ, ◌+◌, ◌<◌, ◌≤◌, ◌≡◌, zero, suc, Bool, false, ◌&&◌, ◌==◌, nat_lt, if◌then◌else◌, List, None, Some}
use Rattle.std.specs.List.{list_any}
use Rattle.gv_types.specs.Memory.{Memory}
use Rattle.gv_entry.specs.declared.process.Process.{Process}
use Rattle.gv_entry.specs.declared.process.Process.TheVariants.{Absent, Table, Large, Page}
use Rattle.gv_shape.specs.Shadow.{Pages, Readings, split_level, wanted}

-- the sum of f over the numbers below n
unfoldable pub total : ℕ → (ℕ → ℕ) → ℕ
total zero f = 0
total (suc n) f = total n f + f n

abbrev pub one_if : Bool → ℕ
one_if b = if b then 1 else 0

-- how many words of nodes at a level pass a test, in a guest of so many frames
abbrev pub uses : ℕ → Readings → ℕ → (Process → Bool) → ℕ
uses frames readings level test = total frames (λ frame. total 512 (λ i. one_if (test (readings level frame i))))

-- at which level a node of a level is named
abbrev pub above : ℕ → ℕ
above level = if nat_lt level 5 then level + 1 else 2

-- an entry there names the node
abbrev pub names_node : ℕ → ℕ → Process → Bool
names_node level frame (Table h) = nat_lt level 5 && h == frame
names_node level frame (Large b w) = split_level w == level && b == frame
names_node level frame other = false

-- the entry that names a node
abbrev pub naming : ℕ → ℕ → Process
naming level frame = if nat_lt level 5 then Table frame else Large frame (level == 5)

-- how far a table stands above the leaves
abbrev pub rank : ℕ → ℕ
rank level = if nat_lt level 5 then level else 1

-- how many words name the node of a frame at a level
abbrev pub namings : ℕ → Readings → ℕ → ℕ → ℕ
namings frames readings level frame = uses frames readings (above level) (names_node level frame)

-- a leaf maps the frame
abbrev pub maps : ℕ → Process → Bool
maps frame (Page f w) = f == frame
maps frame other = false

-- how many leaves map a frame
abbrev pub leaves : ℕ → Readings → ℕ → ℕ
leaves frames readings frame = uses frames readings 1 (maps frame) + uses frames readings 5 (maps frame) + uses frames readings 6 (maps frame)

abbrev pub is_among : List ℕ → ℕ → Bool
is_among roots frame = list_any (λ table. table == frame) roots

-- Where nothing is left to do but at the levels up to one: each node has a parent, counted with the roots,
-- and each word above stands for what the guest's does.
pub record Settled (frames : ℕ) (m : Memory) (roots : List ℕ) (done : ℕ) (pages : Pages) (parents : ℕ → ℕ → ℕ) (readings : Readings) : Type 0 where
  pub counted : (level frame : ℕ) → 1 ≤ level → parents level frame ≡ namings frames readings level frame + one_if ((level == 4) && is_among roots frame)
  pub alive : (level frame p : ℕ) → pages level frame ≡ Some p → 1 ≤ parents level frame
  pub none : (level frame : ℕ) → pages level frame ≡ None → parents level frame ≡ 0
  pub empty : (level frame i : ℕ) → pages level frame ≡ None → readings level frame i ≡ Absent
  pub low : (level frame p : ℕ) → pages level frame ≡ Some p → (frame < frames) × ((1 ≤ level) × (level ≤ 6))
  pub same : (level frame p i : ℕ) → done < level → pages level frame ≡ Some p → i < 512 → readings level frame i ≡ wanted m level frame i
