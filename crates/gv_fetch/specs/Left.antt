-- What is left of an element at work, and how it goes on after a command.
use Rattle.std.specs.Prelude.{ℕ, ◌+◌, ◌*◌, ◌%◌, ◌^◌, List, [], Bool, true, false, ◌≡◌, Option, None, Some}
use Rattle.gv_cmd.specs.Table.{length_of, kind_of, read_length}
use Rattle.gv_cmd.specs.declared.kind.Kind.{Kind}
use Rattle.gv_cmd.specs.declared.kind.Kind.TheVariants.{BatchEnd, BatchStart}
use Rattle.gv_cmd.specs.declared.stands.Stands.{Stands}
use Rattle.gv_cmd.specs.declared.stands.Stands.TheVariants.{Ring, Privileged, Live, Second}
use Rattle.gv_fetch.specs.Fetch.{dwords}
use Rattle.gv_fetch.specs.Items.{Items, none, command, batch, MayAllStand}

-- a batch level: the items left of a fetched batch, or the address in a live one
pub data Level : Type 0 where
  Fetched : Items → Level
  At : ℕ → Level

pub record Left : Type 0 where
  pub ring : Items
  pub first : Option Level
  pub second : Option Level

-- a load begins with all items of the ring
abbrev pub begun : Items → Left
begun items = record { ring = items; first = None; second = None }

-- ---- the front command

abbrev pub words_of : Items → List ℕ
words_of none = []
words_of (command ws more) = ws
words_of (batch ws items more) = ws

-- the items of the batch that it starts, and those behind it
abbrev pub started : Items → Items
started none = none
started (command ws more) = none
started (batch ws items more) = items

abbrev pub behind : Items → Items
behind none = none
behind (command ws more) = more
behind (batch ws items more) = more

-- What is read at an address of a live batch, which counts modulo 2^48, is given.
abbrev pub level_words : (ℕ → List ℕ) → Level → List ℕ
level_words live (Fetched items) = words_of items
level_words live (At at) = live (at % 2 ^ 48)

abbrev pub level_started : Level → Items
level_started (Fetched items) = started items
level_started (At at) = none

abbrev pub front_by : (ℕ → List ℕ) → Items → Option Level → Option Level → List ℕ
front_by live ring first (Some level) = level_words live level
front_by live ring (Some level) None = level_words live level
front_by live ring None None = words_of ring

abbrev pub front : (ℕ → List ℕ) → Left → List ℕ
front live w = front_by live w.ring w.first w.second

abbrev pub started_by : Items → Option Level → Option Level → Items
started_by ring first (Some level) = level_started level
started_by ring (Some level) None = level_started level
started_by ring None None = started ring

abbrev pub stands_by : Option Level → Option Level → Stands
stands_by first (Some level) = Second
stands_by (Some (Fetched items)) None = Privileged
stands_by (Some (At at)) None = Live
stands_by None None = Ring

abbrev pub stands_of : Left → Stands
stands_of w = stands_by w.first w.second

-- the ring and the fetched batches are privileged
abbrev pub level_privileged : Level → Bool
level_privileged (Fetched items) = true
level_privileged (At at) = false

abbrev pub privileged_by : Option Level → Option Level → Bool
privileged_by first (Some level) = level_privileged level
privileged_by (Some level) None = level_privileged level
privileged_by None None = true

abbrev pub is_privileged : Left → Bool
is_privileged w = privileged_by w.first w.second

abbrev pub live_command : (ℕ → ℕ) → ℕ → List ℕ
live_command read at = dwords read at (read_length (length_of (read at)))

-- ---- after a command

abbrev pub level_past : Level → ℕ → Level
level_past (Fetched items) dwords = Fetched (behind items)
level_past (At at) dwords = At ((at + 4 * dwords) % 2 ^ 48)

abbrev pub past_by : Left → ℕ → Option Level → Option Level → Left
past_by w dwords first (Some level) = record w { second = Some (level_past level dwords) }
past_by w dwords (Some level) None = record w { first = Some (level_past level dwords) }
past_by w dwords None None = record w { ring = behind w.ring }

abbrev pub past : Left → ℕ → Left
past w dwords = past_by w dwords w.first w.second

-- the innermost batch is left
abbrev pub batch_left : Left → Option Level → Left
batch_left w (Some level) = record w { second = None }
batch_left w None = record w { first = None }

-- a batch of the first or second level is entered
abbrev pub entered : Left → Bool → Level → Left
entered w true level = record w { second = Some level }
entered w false level = record w { first = Some level }

abbrev pub level_of : Bool → ℕ → Items → Level
level_of true at items = At at
level_of false at items = Fetched items

abbrev pub moved_by : Left → Items → Option Kind → Left
moved_by w items (Some BatchEnd) = batch_left w w.second
moved_by w items (Some (BatchStart live second at)) = entered w second (level_of live at items)
moved_by w items kind = w

-- after a command with these dwords
abbrev pub moved : Left → List ℕ → ℕ → Left
moved w ws dwords = moved_by (past w dwords) (started_by w.ring w.first w.second) (kind_of ws)

abbrev pub is_none : Items → Bool
is_none none = true
is_none items = false

abbrev pub is_done_by : Items → Option Level → Option Level → Bool
is_done_by ring None None = is_none ring
is_done_by ring first second = false

abbrev pub is_done : Left → Bool
is_done w = is_done_by w.ring w.first w.second

-- ---- what always holds of what is left: each item may stand where it is

abbrev pub LevelMayStand : Stands → ℕ → Option Level → Type 0
LevelMayStand stands engine None = Unit {0}
LevelMayStand stands engine (Some (Fetched items)) = MayAllStand stands engine items
LevelMayStand stands engine (Some (At at)) = at % 4 ≡ 0

pub record IsLeft (engine : ℕ) (w : Left) : Type 0 where
  pub ring : MayAllStand Ring engine w.ring
  pub first : LevelMayStand Privileged engine w.first
  pub second : LevelMayStand Second engine w.second
