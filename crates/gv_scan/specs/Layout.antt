-- A fetched program laid out as flat lists of commands, and that it is the copy of items.
use Rattle.std.specs.Prelude.{ℕ, ◌+◌, ◌*◌, ◌^◌, ◌≤◌, List, [], ◌∷◌, ◌++◌, ◌≡◌, length, map, false, Option, Some}
use Rattle.std.specs.List.{concat}
use Rattle.gv_cmd.specs.Command.{IsCommand}
use Rattle.gv_cmd.specs.Table.{kind_of}
use Rattle.gv_cmd.specs.declared.kind.Kind.{Kind}
use Rattle.gv_cmd.specs.declared.kind.Kind.TheVariants.{BatchStart}
use Rattle.gv_fetch.specs.Items.{Items, none, command, batch, start_at}

-- The commands of the ring, those of all fetched batches, and the address of the batches' first dword.
-- A start of a fetched batch holds the address of its batch among these.
pub record Layout : Type 0 where
  pub ring : List (List ℕ)
  pub batches : List (List ℕ)
  pub base : ℕ

-- the commands from an address on, where the first of all is at `base`
pub record Begins (base : ℕ) (commands : List (List ℕ)) (at : ℕ) (rest : List (List ℕ)) : Type 0 where
  pub before : List (List ℕ)
  pub split : commands ≡ before ++ rest
  pub count : at ≡ base + 4 * length (concat before)

-- The copy of a start holds the address of a batch, whose commands begin there.
pub record Started (base : ℕ) (batches : List (List ℕ)) (ws c : List ℕ) (Inside : List (List ℕ) → List (List ℕ) → Type 0) : Type 0 where
  pub to : ℕ
  pub copy : c ≡ start_at ws to
  pub rest : List (List ℕ)
  pub begins : Begins base batches to rest
  pub behind : List (List ℕ)
  pub inside : Inside rest behind

-- Commands begin with the copies of these items, behind which others stand. The batches are given, and
-- where they begin.
abbrev pub Copies : ℕ → List (List ℕ) → Items → List (List ℕ) → List (List ℕ) → Type 0
Copies base batches none commands behind = commands ≡ behind
Copies base batches (command ws more) [] behind = ⊥
Copies base batches (command ws more) (c ∷ commands) behind = (c ≡ ws) × Copies base batches more commands behind
Copies base batches (batch ws items more) [] behind = ⊥
Copies base batches (batch ws items more) (c ∷ commands) behind = Started base batches ws c (λ rest after. Copies base batches items rest after) × Copies base batches more commands behind

-- the items of the ring, from a byte offset on to its end
pub record RingAt (p : Layout) (at : ℕ) (items : Items) : Type 0 where
  pub rest : List (List ℕ)
  pub begins : Begins 0 p.ring at rest
  pub copies : Copies p.base p.batches items rest []

-- the items of a batch, from an address on
pub record BatchAt (base : ℕ) (batches : List (List ℕ)) (at : ℕ) (items : Items) : Type 0 where
  pub rest : List (List ℕ)
  pub begins : Begins base batches at rest
  pub behind : List (List ℕ)
  pub copies : Copies base batches items rest behind

-- ---- what a scan gives

-- the most bytes of all batches
abbrev pub most_bytes : ℕ
most_bytes = 2 ^ 20

abbrev pub StartsWithin : Option Kind → Type 0
StartsWithin (Some (BatchStart false second at)) = at ≤ most_bytes
StartsWithin kind = Unit {0}

-- a command; a start of a fetched batch holds a byte offset
pub record IsCopy (c : List ℕ) : Type 0 where
  pub command : IsCommand c
  pub offset : StartsWithin (kind_of c)

abbrev pub AreCopies : List (List ℕ) → Type 0
AreCopies [] = Unit {0}
AreCopies (c ∷ more) = IsCopy c × AreCopies more

-- Two lists of dwords are these commands, in which the starts hold byte offsets.
pub record IsLayout (ring batches : List ℕ) (layout : Layout) : Type 0 where
  pub offsets : layout.base ≡ 0
  pub ring_is : concat layout.ring ≡ ring
  pub batches_are : concat layout.batches ≡ batches
  pub ring_copies : AreCopies layout.ring
  pub batch_copies : AreCopies layout.batches

-- From the front of the ring they are the copies of the items.
pub record IsProgram (ring batches : List ℕ) (items : Items) : Type 0 where
  pub layout : Layout
  pub is : IsLayout ring batches layout
  pub follows : RingAt layout 0 items

-- dwords that are whole commands
pub record AreWhole (words : List ℕ) : Type 0 where
  pub commands : List (List ℕ)
  pub is : concat commands ≡ words
  pub each : AreCopies commands

-- What a scan gives fits a window: a ring of 16 pages, and batches of 256.
pub record FitsWindow (ring batches : List ℕ) : Type 0 where
  pub ring_whole : AreWhole ring
  pub batches_whole : AreWhole batches
  pub ring_few : length ring ≤ 16384
  pub batches_few : length batches ≤ 262144

-- ---- from byte offsets to addresses

-- a start of a fetched batch, its address counted from `base`
abbrev pub placed_by : ℕ → List ℕ → Option Kind → List ℕ
placed_by base c (Some (BatchStart false second at)) = start_at c (base + at)
placed_by base c kind = c

abbrev pub placed : ℕ → List ℕ → List ℕ
placed base c = placed_by base c (kind_of c)

-- a layout whose batches stand from `base` on, and not from 0
abbrev pub placed_layout : ℕ → Layout → Layout
placed_layout base p = record { ring = map (placed base) p.ring; batches = map (placed base) p.batches; base = base }
