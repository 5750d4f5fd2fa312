-- Items as one flat list of dwords, and how many dwords they are.
use Rattle.std.specs.Prelude.{ℕ, ◌+◌, ◌<◌, ◌≤◌, ◌≡◌, ◌^◌, ⊤, List, [], ◌++◌, length, Option, None, Some}
use Rattle.gv_cmd.specs.declared.stands.Stands.{Stands}
use Rattle.gv_cmd.specs.declared.stands.Stands.TheVariants.{Ring}
use Rattle.gv_fetch.specs.Items.{Items, none, command, batch, MayAllStand}
use Rattle.gv_fetch.specs.Left.{Level, Fetched, At, Left}

-- The dwords of items, one command behind the other. Behind a start of a fetched batch, whose address is 0, stand those of
-- its batch.
abbrev pub flat : Items → List ℕ
flat none = []
flat (command ws more) = ws ++ flat more
flat (batch ws items more) = ws ++ (flat items ++ flat more)

-- Dwords begin with those of items that may stand there, and go on with the rest. A ring ends with its list.
pub record Spells (stands : Stands) (engine : ℕ) (items : Items) (words rest : List ℕ) : Type 0 where
  pub stand : MayAllStand stands engine items
  pub split : words ≡ flat items ++ rest
  pub ends : stands ≡ Ring → rest ≡ []

-- ---- how many

-- the dwords of a list's own commands, and those of all batches that they start
abbrev pub own_dwords : Items → ℕ
own_dwords none = 0
own_dwords (command ws more) = length ws + own_dwords more
own_dwords (batch ws items more) = length ws + own_dwords more

abbrev pub batch_dwords : Items → ℕ
batch_dwords none = 0
batch_dwords (command ws more) = batch_dwords more
batch_dwords (batch ws items more) = (own_dwords items + batch_dwords items) + batch_dwords more

-- of what is left of a fetched batch, all; a live one has none of its own
abbrev pub level_dwords : Option Level → ℕ
level_dwords None = 0
level_dwords (Some (Fetched items)) = own_dwords items + batch_dwords items
level_dwords (Some (At at)) = 0

-- ---- what is left of an element

-- It fits a ring of 16 pages, and what a load may fetch of privileged batches.
pub record IsSized (w : Left) : Type 0 where
  pub ring : own_dwords w.ring ≤ 16384
  pub batches : batch_dwords w.ring + (level_dwords w.first + level_dwords w.second) ≤ 262144

-- The levels stand as starts can have entered them: a second one within a first one, and no fetched one within a live one.
abbrev pub AreNested : Option Level → Option Level → Type 0
AreNested first None = ⊤
AreNested None (Some level) = ⊥
AreNested (Some (Fetched items)) (Some level) = ⊤
AreNested (Some (At at)) (Some (Fetched items)) = ⊥
AreNested (Some (At at)) (Some (At other)) = ⊤

-- a live address has 48 bits
abbrev pub IsLow : Option Level → Type 0
IsLow (Some (At at)) = at < 2 ^ 48
IsLow level = ⊤

-- What can be left of an element, beside that each command may stand where it stands: it is within the bounds of a load, its
-- levels nest, and live addresses have 48 bits.
pub record IsBounded (w : Left) : Type 0 where
  pub sized : IsSized w
  pub nested : AreNested w.first w.second
  pub first : IsLow w.first
  pub second : IsLow w.second
