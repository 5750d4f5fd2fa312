-- What is left of an element stays within its bounds, and its levels stay nested, with each command that runs.
use Rattle.std.proofs.Common.{◌≡◌, ℕ, ◌+◌, ◌^◌, ◌<◌, ◌≤◌, Bool, true, false, List, get_or, Option, None, Some, refl, arith}
use Rattle.gv_cmd.specs.Allowed.{is_allowed, may_stand}
use Rattle.gv_cmd.specs.Table.{kind_of}
use Rattle.gv_cmd.specs.declared.kind.Kind.{Kind}
use Rattle.gv_cmd.specs.declared.kind.Kind.TheVariants.{BatchEnd, BatchStart}
use Rattle.gv_fetch.specs.Items.{Items, none, command, batch}
use Rattle.gv_fetch.specs.Left.{Level, Fetched, At, Left, started, behind, started_by, level_started, level_past, past, past_by, batch_left, level_of, moved_by, moved, stands_by, stands_of}
use Rattle.gv_cmd.proofs.Starts.{start-low}
use Rattle.gv_fetch.specs.Flat.{own_dwords, batch_dwords, level_dwords, IsSized, AreNested, IsLow}
use Rattle.gv_fetch.specs.Laws.{MovesStayBounded}

-- what the front of a list starts, and what stands behind it
behind-less : (items : Items) → (own_dwords (behind items) ≤ own_dwords items) × (batch_dwords (behind items) + (own_dwords (started items) + batch_dwords (started items)) ≤ batch_dwords items)
behind-less none = (omega arith, omega arith)
behind-less (command ws more) = (omega arith, omega arith)
behind-less (batch ws items more) = (omega arith, omega arith)

past-less : (level : Level) (n : ℕ) → level_dwords (Some (level_past level n)) + (own_dwords (level_started level) + batch_dwords (level_started level)) ≤ level_dwords (Some level)
past-less (Fetched items) n = let b = behind-less items in let x = b.0 in let y = b.1 in omega arith
past-less (At at) n = omega arith

level-few : (live : Bool) (at : ℕ) (items : Items) → level_dwords (Some (level_of live at items)) ≤ own_dwords items + batch_dwords items
level-few true at items = omega arith
level-few false at items = omega arith

by-kind : (ring : Items) (first second : Option Level) (items : Items) (kind : Option Kind) → own_dwords ring ≤ 16384
    → batch_dwords ring + (level_dwords first + level_dwords second) + (own_dwords items + batch_dwords items) ≤ 262144
    → IsSized (moved_by (record { ring = ring; first = first; second = second }) items kind)
by-kind ring first None items (Some BatchEnd) own few = record { ring = own; batches = omega arith }
by-kind ring first (Some level) items (Some BatchEnd) own few = record { ring = own; batches = omega arith }
by-kind ring first second items (Some (BatchStart live true at)) own few = let l = level-few live at items in record { ring = own; batches = omega arith }
by-kind ring first second items (Some (BatchStart live false at)) own few = let l = level-few live at items in record { ring = own; batches = omega arith }
by-kind ring first second items kind own few = record { ring = own; batches = omega arith }

by-level : (ring : Items) (first second : Option Level) (ws : List ℕ) (n : ℕ) → own_dwords ring ≤ 16384 → batch_dwords ring + (level_dwords first + level_dwords second) ≤ 262144
    → IsSized (moved (record { ring = ring; first = first; second = second }) ws n)
by-level ring first (Some level) ws n own few = let l = past-less level n in by-kind ring first (Some (level_past level n)) (level_started level) (kind_of ws) own (omega arith)
by-level ring (Some level) None ws n own few = let l = past-less level n in by-kind ring (Some (level_past level n)) None (level_started level) (kind_of ws) own (omega arith)
by-level ring None None ws n own few = let b = behind-less ring in let x = b.0 in let y = b.1 in by-kind (behind ring) None None (started ring) (kind_of ws) (omega arith) (omega arith)

pub moves-stay-sized : (w : Left) (ws : List ℕ) (n : ℕ) → IsSized w → IsSized (moved w ws n)
moves-stay-sized w ws n sized = by-level w.ring w.first w.second ws n sized.ring sized.batches

-- ---- nested

abbrev pub NestedLeft : Left → Type 0
NestedLeft w = AreNested w.first w.second

nested-kind : (ring : Items) (f s : Option Level) (n : ℕ) (engine : ℕ) (kind : Option Kind) → AreNested f s → may_stand kind (stands_by f s) engine ≡ true
    → NestedLeft (moved_by (past_by (record { ring = ring; first = f; second = s }) n f s) (started_by ring f s) kind)
nested-kind ring None None n engine (Some BatchEnd) nested may = cc
nested-kind ring (Some (Fetched items)) None n engine (Some BatchEnd) nested may = tt
nested-kind ring (Some (At at)) None n engine (Some BatchEnd) nested may = tt
nested-kind ring None (Some level) n engine (Some BatchEnd) nested may = tt
nested-kind ring (Some f) (Some s) n engine (Some BatchEnd) nested may = tt
nested-kind ring None None n engine (Some (BatchStart live true at)) nested may = cc
nested-kind ring None None n engine (Some (BatchStart live false at)) nested may = tt
nested-kind ring (Some (Fetched items)) None n engine (Some (BatchStart live true at)) nested may = tt
nested-kind ring (Some (Fetched items)) None n engine (Some (BatchStart live false at)) nested may = cc
nested-kind ring (Some (At a)) None n engine (Some (BatchStart true true at)) nested may = tt
nested-kind ring (Some (At a)) None n engine (Some (BatchStart true false at)) nested may = tt
nested-kind ring (Some (At a)) None n engine (Some (BatchStart false second at)) nested may = cc
nested-kind ring f (Some s) n engine (Some (BatchStart live second at)) nested may = cc
nested-kind ring None None n engine kind nested may = tt
nested-kind ring (Some (Fetched items)) None n engine kind nested may = tt
nested-kind ring (Some (At at)) None n engine kind nested may = tt
nested-kind ring None (Some s) n engine kind nested may = nested
nested-kind ring (Some (Fetched items)) (Some (Fetched others)) n engine kind nested may = tt
nested-kind ring (Some (Fetched items)) (Some (At at)) n engine kind nested may = tt
nested-kind ring (Some (At a)) (Some (Fetched others)) n engine kind nested may = nested
nested-kind ring (Some (At a)) (Some (At at)) n engine kind nested may = tt

pub moves-stay-nested : (engine : ℕ) (w : Left) (ws : List ℕ) (n : ℕ) → AreNested w.first w.second → is_allowed ws (stands_of w) engine ≡ true → NestedLeft (moved w ws n)
moves-stay-nested engine w ws n nested may = nested-kind w.ring w.first w.second n engine (kind_of ws) nested may

-- ---- live addresses

abbrev LowLeft : Left → Type 0
LowLeft w = IsLow w.first × IsLow w.second

level-low : (level : Level) (n : ℕ) → IsLow (Some (level_past level n))
level-low (Fetched items) n = tt
level-low (At at) n = omega arith

past-low : (w : Left) (n : ℕ) (first second : Option Level) → IsLow first → IsLow second → LowLeft (past_by (record { ring = w.ring; first = first; second = second }) n first second)
past-low w n first (Some level) f s = (f, level-low level n)
past-low w n (Some level) None f s = (level-low level n, tt)
past-low w n None None f s = (tt, tt)

left-low : (w : Left) (second : Option Level) → LowLeft w → LowLeft (batch_left w second)
left-low w (Some level) low = (low.0, tt)
left-low w None low = (tt, low.1)

kind-low : (w : Left) (items : Items) (ws : List ℕ) (kind : Option Kind) → kind_of ws ≡ kind → get_or ws 1 0 < 2 ^ 32 → LowLeft w → LowLeft (moved_by w items kind)
kind-low w items ws (Some BatchEnd) is word low = left-low w w.second low
kind-low w items ws (Some (BatchStart true true at)) is word low = (low.0, start-low ws true true at word is)
kind-low w items ws (Some (BatchStart false true at)) is word low = (low.0, tt)
kind-low w items ws (Some (BatchStart true false at)) is word low = (start-low ws true false at word is, low.1)
kind-low w items ws (Some (BatchStart false false at)) is word low = (tt, low.1)
kind-low w items ws kind is word low = low

moves-low : (w : Left) (ws : List ℕ) (n : ℕ) → get_or ws 1 0 < 2 ^ 32 → IsLow w.first → IsLow w.second → LowLeft (moved w ws n)
moves-low w ws n word f s = kind-low (past w n) (started_by w.ring w.first w.second) ws (kind_of ws) refl word (past-low w n w.first w.second f s)

pub moves-stay-bounded : MovesStayBounded
moves-stay-bounded engine w ws n may word b =
    let low = moves-low w ws n word b.first b.second in
    record {
      sized = moves-stay-sized w ws n b.sized;
      nested = moves-stay-nested engine w ws n b.nested may;
      first = low.0;
      second = low.1;
    }
