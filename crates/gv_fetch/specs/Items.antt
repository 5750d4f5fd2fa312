-- Commands as they are fetched. An item is a command; a start of a privileged batch also holds the
-- items of its batch, and both dwords of its address are 0: the address means nothing any more.
use Rattle.std.specs.Prelude.{ℕ, suc, List, [], ◌∷◌, ◌≡◌, max, slice_index, Bool, true, false, not, Option, Some}
use Rattle.std.specs.Bool.{MatchBool}
use Rattle.gv_cmd.specs.Allowed.{is_allowed}
use Rattle.gv_cmd.specs.Command.{IsCommand}
use Rattle.gv_cmd.specs.Table.{kind_of}
use Rattle.gv_cmd.specs.declared.kind.Kind.{Kind}
use Rattle.gv_cmd.specs.declared.kind.Kind.TheVariants.{BatchEnd, BatchStart}
use Rattle.gv_cmd.specs.declared.stands.Stands.{Stands}
use Rattle.gv_cmd.specs.declared.stands.Stands.TheVariants.{Ring, Privileged, Second}

-- A list of items: none; a command and the items behind it; or a start of a privileged batch, the
-- items of its batch and those behind the start.
pub data Items : Type 0 where
  none : Items
  command : List ℕ → Items → Items
  batch : List ℕ → Items → Items → Items

-- a start of a batch, with this low dword of its address
abbrev pub start_at : List ℕ → ℕ → List ℕ
start_at ws to = slice_index ws 0 ∷ to ∷ 0 ∷ []

-- how many commands follow one another, at most
abbrev pub depth : Items → ℕ
depth none = 0
depth (command ws more) = suc (depth more)
depth (batch ws items more) = suc (max (depth items) (depth more))

-- where the commands of a batch stand that a command starts from here
abbrev pub inside : Stands → Stands
inside Ring = Privileged
inside stands = Second

abbrev pub is_fetched_start : Option Kind → Bool
is_fetched_start (Some (BatchStart live second at)) = not live
is_fetched_start kind = false

abbrev pub is_end : Option Kind → Bool
is_end (Some BatchEnd) = true
is_end kind = false

-- a command that may stand there
pub record MayStand (stands : Stands) (engine : ℕ) (ws : List ℕ) : Type 0 where
  pub command : IsCommand ws
  pub allowed : is_allowed ws stands engine ≡ true

-- Each item may stand where it stands, a batch ends with its one BATCH_BUFFER_END, and the start of a
-- fetched batch has the address 0.
abbrev pub MayAllStand : Stands → ℕ → Items → Type 0
MayAllStand stands engine none = stands ≡ Ring
MayAllStand stands engine (command ws more) =
    MayStand stands engine ws × (is_fetched_start (kind_of ws) ≡ false) × MatchBool (is_end (kind_of ws)) (more ≡ none) (MayAllStand stands engine more)
MayAllStand stands engine (batch ws items more) =
    MayStand stands engine ws × (is_fetched_start (kind_of ws) ≡ true) × MayAllStand (inside stands) engine items × MayAllStand stands engine more × (ws ≡ start_at ws 0)
