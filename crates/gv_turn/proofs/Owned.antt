-- Commands make global accesses on owned pages alone: those of a fetch, and those of a live batch, which make none.
use Rattle.std.proofs.Common.{◌≡◌, ℕ, ◌/◌, ◌&&◌, ◌||◌, not, Bool, true, false, List, [], ◌∷◌, length, Option, None, Some, Ok, refl, ap, subst, ◌∙◌}
use Rattle.gv_types.specs.declared.ranges.Ranges.{Ranges}
use Rattle.gv_ctx.specs.declared.image.Image.{Image}
use Rattle.gv_cmd.specs.Allowed.{is_allowed}
use Rattle.gv_cmd.specs.Simulation.{Access, accesses, EachAccess, MayDo, IsLocal}
use Rattle.gv_cmd.specs.Table.{kind_of}
use Rattle.gv_cmd.specs.declared.kind.Kind.{Kind}
use Rattle.gv_cmd.specs.declared.kind.Kind.TheVariants.{BatchEnd, BatchStart}
use Rattle.gv_cmd.specs.declared.stands.Stands.{Stands}
use Rattle.gv_cmd.specs.declared.stands.Stands.TheVariants.{Ring, Privileged, Second}
use Rattle.gv_cmd.proofs.Local.{live_is_local}
use Rattle.gv_entry.specs.Ranges.{owns_page}
use Rattle.gv_fetch.specs.Fetch.{GlobalSpace, fetched, ring_dwords, owns_accesses, owns_operands_by, owns_operands}
use Rattle.gv_fetch.specs.Items.{Items, none, command, batch, is_fetched_start, MayAllStand}
use Rattle.gv_fetch.specs.Left.{Level, Fetched, At, Left, IsLeft, words_of, started, behind, level_started, front_by, front, started_by, stands_of, privileged_by, is_privileged, level_past, past_by, past, batch_left, entered, level_of, moved_by, moved, is_none, is_done_by, is_done}
use Rattle.gv_fetch.specs.Owned.{AllOwned}
use Rattle.gv_fetch.proofs.Fetched.{fetched-ring}
use Rattle.gv_fetch.proofs.Owned.{may-do, ring-owned}
use Rattle.gv_private.specs.Load.{global_space}
use Rattle.gv_turn.specs.Laws.{LiveCodeMay, BeginsOwned}
use Rattle.gv_turn.specs.Owned.{owned_space, MayReach, OwnsLevel, OwnsLeft}

-- ---- live batches

each_local : (ranges : Ranges) (xs : List Access) → EachAccess IsLocal xs → EachAccess (MayReach ranges) xs
each_local ranges [] local = tt
each_local ranges (a ∷ xs) local = (ap (λ b. not b || owns_page ranges (a.at / 4096)) local.0, each_local ranges xs local.1)

may_do : (ranges : Ranges) (engine : ℕ) (kind : Option Kind) → MayDo IsLocal engine false kind → MayDo (MayReach ranges) engine false kind
may_do ranges engine None local = tt
may_do ranges engine (Some kind) local = each_local ranges _ local

pub live_code_may : LiveCodeMay
live_code_may ranges ws engine = may_do ranges engine (kind_of ws) (live_is_local ws engine)

-- ---- what is fetched

module _ (a b : GlobalSpace) (same : b.owned ≡ a.owned) where
  accesses-same : (xs : List Access) → owns_accesses b xs ≡ owns_accesses a xs
  accesses-same [] = refl
  accesses-same (x ∷ xs) = λ i. (not x.global || same i (x.at / 4096)) && accesses-same xs i

  operands-same : (kind : Option Kind) → owns_operands_by b kind ≡ owns_operands_by a kind
  operands-same None = refl
  operands-same (Some kind) = accesses-same (accesses kind)

  all-owned : (items : Items) → AllOwned a items → AllOwned b items
  all-owned none own = tt
  all-owned (command ws more) own = (operands-same (kind_of ws) ∙ own.0, all-owned more own.1)
  all-owned (batch ws items more) own = (all-owned items own.0, all-owned more own.1)

fetched-owned : (space : GlobalSpace) (engine : ℕ) (image : Image) (items : Items) → fetched space engine image ≡ Ok items → AllOwned space items
fetched-owned space engine image items is =
    let r = fetched-ring space engine image items is in
    let ring = ring_dwords space image in
    subst (AllOwned space) r.same (ring-owned space engine (length ring) ring 262144 r.got r.is)

pub begins_owned : BeginsOwned
begins_owned p engine image items is = record {
  ring = all-owned (global_space p) (owned_space p.ranges) refl items (fetched-owned (global_space p) engine image items is);
  first = tt;
  second = tt;
}

-- ---- what is left

may-reach : (ranges : Ranges) (ws : List ℕ) (engine : ℕ) → owns_operands (owned_space ranges) ws ≡ true → MayDo (MayReach ranges) engine true (kind_of ws)
may-reach ranges ws engine own = may-do (owned_space ranges) ws engine true own

-- The front of items that all are owned: its own accesses, the items that it starts, and those behind it.
abbrev Space : Ranges → GlobalSpace
Space ranges = owned_space ranges

behind-owned : (ranges : Ranges) (items : Items) → AllOwned (Space ranges) items → AllOwned (Space ranges) (behind items)
behind-owned ranges none own = tt
behind-owned ranges (command ws more) own = own.1
behind-owned ranges (batch ws items more) own = own.1

started-owned : (ranges : Ranges) (items : Items) → AllOwned (Space ranges) items → AllOwned (Space ranges) (started items)
started-owned ranges none own = tt
started-owned ranges (command ws more) own = tt
started-owned ranges (batch ws items more) own = own.0

-- a start of a batch accesses nothing
start-accesses : (kind : Option Kind) → is_fetched_start kind ≡ true → (space : GlobalSpace) → owns_operands_by space kind ≡ true
start-accesses (Some (BatchStart live second at)) is space = refl
start-accesses kind is space = cc

front-owned : (ranges : Ranges) (stands : Stands) (engine : ℕ) (items : Items) → is_none items ≡ false → MayAllStand stands engine items → AllOwned (Space ranges) items → owns_operands (Space ranges) (words_of items) ≡ true
front-owned ranges stands engine none some may own = cc
front-owned ranges stands engine (command ws more) some may own = own.0
front-owned ranges stands engine (batch ws items more) some may own = start-accesses (kind_of ws) may.1 (Space ranges)

front-allowed : (stands : Stands) (engine : ℕ) (items : Items) → is_none items ≡ false → MayAllStand stands engine items → is_allowed (words_of items) stands engine ≡ true
front-allowed stands engine none some may = cc
front-allowed stands engine (command ws more) some may = may.0.allowed
front-allowed stands engine (batch ws items more) some may = may.0.allowed

some-left : (stands : Stands) (engine : ℕ) (items : Items) → (stands ≡ Ring → ⊥) → MayAllStand stands engine items → is_none items ≡ false
some-left stands engine none not may = absurd (not may)
some-left stands engine (command ws more) not may = refl
some-left stands engine (batch ws items more) not may = refl

-- what the front command of a fetched level does, and where it may stand
pub record FrontMay (ranges : Ranges) (engine : ℕ) (w : Left) (ws : List ℕ) : Type 0 where
  pub allowed : is_allowed ws (stands_of w) engine ≡ true
  pub owned : MayDo (MayReach ranges) engine true (kind_of ws)

module _ (ranges : Ranges) (engine : ℕ) (read : ℕ → List ℕ) where
  front-by : (ring : Items) (f s : Option Level) → IsLeft engine (record { ring = ring; first = f; second = s }) → OwnsLeft ranges (record { ring = ring; first = f; second = s }) → is_done_by ring f s ≡ false → privileged_by f s ≡ true
      → FrontMay ranges engine (record { ring = ring; first = f; second = s }) (front_by read ring f s)
  front-by ring f (Some (Fetched items)) form own more priv =
      let some = some-left Second engine items (λ is. cc) form.second in
      record { allowed = front-allowed Second engine items some form.second; owned = may-reach ranges (words_of items) engine (front-owned ranges Second engine items some form.second own.second) }
  front-by ring f (Some (At at)) form own more priv = cc
  front-by ring (Some (Fetched items)) None form own more priv =
      let some = some-left Privileged engine items (λ is. cc) form.first in
      record { allowed = front-allowed Privileged engine items some form.first; owned = may-reach ranges (words_of items) engine (front-owned ranges Privileged engine items some form.first own.first) }
  front-by ring (Some (At at)) None form own more priv = cc
  front-by ring None None form own more priv = record { allowed = front-allowed Ring engine ring more form.ring; owned = may-reach ranges (words_of ring) engine (front-owned ranges Ring engine ring more form.ring own.ring) }

  pub front-may : (w : Left) → IsLeft engine w → OwnsLeft ranges w → is_done w ≡ false → is_privileged w ≡ true → FrontMay ranges engine w (front read w)
  front-may w form own more priv =
      let may = front-by w.ring w.first w.second (record { ring = form.ring; first = form.first; second = form.second }) (record { ring = own.ring; first = own.first; second = own.second }) more priv in
      record { allowed = may.allowed; owned = may.owned }

-- ---- behind a command

level-past-owned : (ranges : Ranges) (level : Level) (n : ℕ) → OwnsLevel ranges (Some level) → OwnsLevel ranges (Some (level_past level n))
level-past-owned ranges (Fetched items) n own = behind-owned ranges items own
level-past-owned ranges (At at) n own = tt

past-owned : (ranges : Ranges) (ring : Items) (n : ℕ) (f s : Option Level) → OwnsLeft ranges (record { ring = ring; first = f; second = s }) → OwnsLeft ranges (past_by (record { ring = ring; first = f; second = s }) n f s)
past-owned ranges ring n f (Some level) own = record { ring = own.ring; first = own.first; second = level-past-owned ranges level n own.second }
past-owned ranges ring n (Some level) None own = record { ring = own.ring; first = level-past-owned ranges level n own.first; second = tt }
past-owned ranges ring n None None own = record { ring = behind-owned ranges ring own.ring; first = tt; second = tt }

level-started-owned : (ranges : Ranges) (level : Level) → OwnsLevel ranges (Some level) → AllOwned (Space ranges) (level_started level)
level-started-owned ranges (Fetched items) own = started-owned ranges items own
level-started-owned ranges (At at) own = tt

all-started-owned : (ranges : Ranges) (ring : Items) (f s : Option Level) → OwnsLeft ranges (record { ring = ring; first = f; second = s }) → AllOwned (Space ranges) (started_by ring f s)
all-started-owned ranges ring f (Some level) own = level-started-owned ranges level own.second
all-started-owned ranges ring (Some level) None own = level-started-owned ranges level own.first
all-started-owned ranges ring None None own = started-owned ranges ring own.ring

left-owned : (ranges : Ranges) (w : Left) (s : Option Level) → OwnsLeft ranges w → OwnsLeft ranges (batch_left w s)
left-owned ranges w (Some level) own = record { ring = own.ring; first = own.first; second = tt }
left-owned ranges w None own = record { ring = own.ring; first = tt; second = own.second }

level-of-owned : (ranges : Ranges) (live : Bool) (at : ℕ) (items : Items) → AllOwned (Space ranges) items → OwnsLevel ranges (Some (level_of live at items))
level-of-owned ranges true at items own = tt
level-of-owned ranges false at items own = own

entered-owned : (ranges : Ranges) (w : Left) (second : Bool) (level : Level) → OwnsLevel ranges (Some level) → OwnsLeft ranges w → OwnsLeft ranges (entered w second level)
entered-owned ranges w true level here own = record { ring = own.ring; first = own.first; second = here }
entered-owned ranges w false level here own = record { ring = own.ring; first = here; second = own.second }

by-kind-owned : (ranges : Ranges) (w : Left) (items : Items) (kind : Option Kind) → AllOwned (Space ranges) items → OwnsLeft ranges w → OwnsLeft ranges (moved_by w items kind)
by-kind-owned ranges w items (Some BatchEnd) mine own = left-owned ranges w w.second own
by-kind-owned ranges w items (Some (BatchStart live second at)) mine own = entered-owned ranges w second (level_of live at items) (level-of-owned ranges live at items mine) own
by-kind-owned ranges w items kind mine own = own

-- What is left behind a command is owned as well.
pub moved-owned : (ranges : Ranges) (w : Left) (ws : List ℕ) (n : ℕ) → OwnsLeft ranges w → OwnsLeft ranges (moved w ws n)
moved-owned ranges w ws n own =
    let here : OwnsLeft ranges (record { ring = w.ring; first = w.first; second = w.second }) = record { ring = own.ring; first = own.first; second = own.second } in
    by-kind-owned ranges (past w n) (started_by w.ring w.first w.second) (kind_of ws)
    (all-started-owned ranges w.ring w.first w.second here)
    (past-owned ranges w.ring n w.first w.second here)
