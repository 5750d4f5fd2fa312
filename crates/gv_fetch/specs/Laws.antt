-- What holds of every fetch and of everything that is left of an element.
use Rattle.std.specs.Prelude.{ℕ, ◌+◌, ◌-◌, ◌*◌, ◌^◌, ◌<◌, ◌≤◌, ◌≡◌, Bool, true, false, List, length, drop, slice_index, Ok, Err}
use Rattle.gv_types.specs.declared.reply.Reason.TheVariants.{Command}
use Rattle.gv_ctx.specs.Image.{IsImage}
use Rattle.gv_ctx.specs.declared.image.Image.{Image}
use Rattle.gv_cmd.specs.Allowed.{is_allowed}
use Rattle.gv_cmd.specs.Simulation.{MayDo}
use Rattle.gv_cmd.specs.Table.{kind_of}
use Rattle.gv_cmd.specs.declared.stands.Stands.{Stands}
use Rattle.gv_cmd.specs.declared.stands.Stands.TheVariants.{Ring, Privileged}
use Rattle.gv_fetch.specs.Fetch.{GlobalSpace, then, by_kind, batch_command, ring_command, batch_first, command_first, whole_batch, whole_ring, fetched, owns_operands}
use Rattle.gv_fetch.specs.Flat.{Spells, IsBounded}
use Rattle.gv_fetch.specs.Items.{Items, none, command, inside, depth, MayAllStand}
use Rattle.gv_fetch.specs.Left.{Left, IsLeft, begun, is_done, is_privileged, front, moved, stands_of}
use Rattle.gv_fetch.specs.Owned.{AllOwned, MayAccess}

-- each item may stand where it stands
abbrev pub FetchedMayStand : Type 0
FetchedMayStand = (space : GlobalSpace) (engine : ℕ) (image : Image) (items : Items) → fetched space engine image ≡ Ok items → MayAllStand Ring engine items

-- all global operands are on owned pages
abbrev pub FetchedIsOwned : Type 0
FetchedIsOwned = (space : GlobalSpace) (engine : ℕ) (image : Image) (items : Items) → fetched space engine image ≡ Ok items → AllOwned space items

-- and so are the accesses that such a command makes
abbrev pub OwnedMayDo : Type 0
OwnedMayDo = (space : GlobalSpace) (ws : List ℕ) (engine : ℕ) (privileged : Bool) → owns_operands space ws ≡ true → MayDo (MayAccess space) engine privileged (kind_of ws)

-- At most 16,384 commands of the ring and 262,145 of batches follow one another.
abbrev pub most_commands : ℕ
most_commands = 278529

abbrev pub FetchedIsShort : Type 0
FetchedIsShort = (space : GlobalSpace) (engine : ℕ) (image : Image) (items : Items) → IsImage image → fetched space engine image ≡ Ok items → depth items ≤ most_commands

-- A batch is its first command and what comes behind it: the count of commands says nothing.
abbrev pub BatchGoesOn : Type 0
BatchGoesOn = (space : GlobalSpace) (engine : ℕ) (stands : Stands) (at budget : ℕ) →
    whole_batch space engine stands at budget
    ≡ then (batch_command space engine stands at budget) (λ ws.
    by_kind (kind_of ws)
    (λ to. then (whole_batch space engine (inside stands) to (budget - length ws)) (λ got.
    then (whole_batch space engine stands (at + 4 * length ws) got.budget) (batch_first ws got.items)))
    (Ok record { items = command ws none; budget = budget - length ws })
    (then (whole_batch space engine stands (at + 4 * length ws) (budget - length ws)) (command_first ws)))

-- and a ring likewise
abbrev pub RingGoesOn : Type 0
RingGoesOn = (space : GlobalSpace) (engine : ℕ) (ring : List ℕ) (budget : ℕ) → 0 < length ring →
    whole_ring space engine ring budget
    ≡ then (ring_command space engine ring) (λ ws.
    by_kind (kind_of ws)
    (λ to. then (whole_batch space engine Privileged to budget) (λ got.
    then (whole_ring space engine (drop (length ws) ring) got.budget) (batch_first ws got.items)))
    (Err Command)
    (then (whole_ring space engine (drop (length ws) ring) budget) (command_first ws)))

-- What is left is well formed at first, and stays so with each command that runs.
abbrev pub BeginsWell : Type 0
BeginsWell = (engine : ℕ) (items : Items) → MayAllStand Ring engine items → IsLeft engine (begun items)

abbrev pub FetchedMoves : Type 0
FetchedMoves = (engine : ℕ) (read : ℕ → List ℕ) (n : ℕ) (w : Left) → IsLeft engine w → is_done w ≡ false → is_privileged w ≡ true → IsLeft engine (moved w (front read w) n)

abbrev pub LiveMoves : Type 0
LiveMoves = (engine : ℕ) (ws : List ℕ) (n : ℕ) (w : Left) → IsLeft engine w → is_privileged w ≡ false → is_allowed ws (stands_of w) engine ≡ true → IsLeft engine (moved w ws n)

-- ---- flat lists of dwords

-- Items have one flat list of dwords, and none begins another.
abbrev pub OneSpelling : Type 0
OneSpelling = (stands : Stands) (engine : ℕ) (a b : Items) (words x y : List ℕ) → Spells stands engine a words x → Spells stands engine b words y → (a ≡ b) × (x ≡ y)

-- What is fetched is within the bounds of a load, and so it stays with each command that runs, whose second dword has 32 bits.
abbrev pub FetchedIsBounded : Type 0
FetchedIsBounded = (space : GlobalSpace) (engine : ℕ) (image : Image) (items : Items) → IsImage image → fetched space engine image ≡ Ok items → IsBounded (begun items)

abbrev pub MovesStayBounded : Type 0
MovesStayBounded = (engine : ℕ) (w : Left) (ws : List ℕ) (n : ℕ) → is_allowed ws (stands_of w) engine ≡ true → slice_index ws 1 < 2 ^ 32 → IsBounded w → IsBounded (moved w ws n)
