-- What the load of an element fetches: the commands of the ring, with those of the privileged batches
-- that they start, or the first reason against them.
use Rattle.std.specs.Prelude.{ℕ, suc, zero, ◌+◌, ◌-◌, ◌*◌, ◌/◌, ◌%◌, ◌&&◌, ◌||◌, not, nat_le, Bool, true, false, List, [], ◌∷◌, length, take, drop, map, slice_index, Option, None, Some, Result, Ok, Err}
use Rattle.std.specs.List.{range_with_len}
use Rattle.gv_types.specs.declared.reply.Reason.{Reason}
use Rattle.gv_types.specs.declared.reply.Reason.TheVariants.{Command, Range, Size}
use Rattle.gv_ctx.specs.declared.image.Image.{Image}
use Rattle.gv_cmd.specs.Allowed.{is_allowed}
use Rattle.gv_cmd.specs.Simulation.{Access, accesses}
use Rattle.gv_cmd.specs.Table.{length_of, kind_of}
use Rattle.gv_cmd.specs.declared.kind.Kind.{Kind}
use Rattle.gv_cmd.specs.declared.kind.Kind.TheVariants.{BatchEnd, BatchStart}
use Rattle.gv_cmd.specs.declared.stands.Stands.{Stands}
use Rattle.gv_cmd.specs.declared.stands.Stands.TheVariants.{Ring, Privileged}
use Rattle.gv_fetch.specs.Items.{Items, none, command, batch, inside, start_at}

-- A guest's global space as a fetch reads it: which pages it owns, and the dword at an address.
pub record GlobalSpace : Type 0 where
  pub owned : ℕ → Bool
  pub word : ℕ → ℕ

-- the dword at an address is on an owned page
abbrev pub owns_dword : GlobalSpace → ℕ → Bool
owns_dword space at = space.owned (at / 4096)

-- so many dwords from an address
unfoldable pub dwords : (ℕ → ℕ) → ℕ → ℕ → List ℕ
dwords word at zero = []
dwords word at (suc n) = word at ∷ dwords word (at + 4) n

unfoldable pub owns_dwords : GlobalSpace → ℕ → ℕ → Bool
owns_dwords space at zero = true
owns_dwords space at (suc n) = owns_dword space at && owns_dwords space (at + 4) n

-- every global operand is on owned pages
abbrev pub owns_access : GlobalSpace → Access → Bool
owns_access space a = not a.global || owns_dword space a.at

abbrev pub owns_accesses : GlobalSpace → List Access → Bool
owns_accesses space [] = true
owns_accesses space (a ∷ more) = owns_access space a && owns_accesses space more

abbrev pub owns_operands_by : GlobalSpace → Option Kind → Bool
owns_operands_by space None = true
owns_operands_by space (Some kind) = owns_accesses space (accesses kind)

abbrev pub owns_operands : GlobalSpace → List ℕ → Bool
owns_operands space ws = owns_operands_by space (kind_of ws)

-- ---- the tests of one command, in order

-- a test, with the reason where it fails
abbrev pub check : {A : Type 0} → Bool → Reason → Result A Reason → Result A Reason
check true reason next = next
check false reason next = Err reason

-- a row has such a header
abbrev pub listed : {A : Type 0} → Option ℕ → (ℕ → Result A Reason) → Result A Reason
listed None next = Err Command
listed (Some n) next = next n

-- the command at the front of the ring's dwords that are left
abbrev pub ring_command : GlobalSpace → ℕ → List ℕ → Result (List ℕ) Reason
ring_command space engine ring =
    listed (length_of (slice_index ring 0)) (λ n.
    check (nat_le n (length ring)) Command (
    check (is_allowed (take n ring) Ring engine) Command (
    check (owns_operands space (take n ring)) Range (
    Ok (take n ring)))))

-- the command at an address of a privileged batch, where so many dwords may still be fetched
abbrev pub batch_command : GlobalSpace → ℕ → Stands → ℕ → ℕ → Result (List ℕ) Reason
batch_command space engine stands at budget =
    check (owns_dword space at) Range (
    listed (length_of (space.word at)) (λ n.
    check (owns_dwords space at n) Range (
    check (is_allowed (dwords space.word at n) stands engine) Command (
    check (nat_le n budget) Size (
    check (owns_operands space (dwords space.word at n)) Range (
    Ok (dwords space.word at n)))))))

-- ---- the fetch

-- items, and how many dwords of privileged batches may still be fetched
pub record Got : Type 0 where
  pub items : Items
  pub budget : ℕ

-- the first reason, or what comes of the value
abbrev pub then : {A B : Type 0} → Result A Reason → (A → Result B Reason) → Result B Reason
then (Err reason) go = Err reason
then (Ok x) go = go x

-- A command that starts no privileged batch goes before what comes behind it, and so does a start with
-- the items of its batch. The start's address is left out.
abbrev pub command_first : List ℕ → Got → Result Got Reason
command_first ws got = Ok record { items = command ws got.items; budget = got.budget }

abbrev pub batch_first : List ℕ → Items → Got → Result Got Reason
batch_first ws items got = Ok record { items = batch (start_at ws 0) items got.items; budget = got.budget }

-- A command by its kind: it starts a privileged batch at an address, ends the batch that it is in, or
-- does neither.
abbrev pub by_kind : {A : Type 0} → Option Kind → (ℕ → A) → A → A → A
by_kind (Some (BatchStart false second at)) starts ends goes = starts at
by_kind (Some BatchEnd) starts ends goes = ends
by_kind kind starts ends goes = goes

-- The items of a batch from an address on, up to its BATCH_BUFFER_END, by at most so many commands. The count makes this a
-- recursion, and changes nothing: by the law `BatchGoesOn` a whole batch is its first command and the whole batch behind it.
unfoldable pub batch_items : ℕ → GlobalSpace → ℕ → Stands → ℕ → ℕ → Result Got Reason
batch_items zero space engine stands at budget = Err Size
batch_items (suc n) space engine stands at budget =
    then (batch_command space engine stands at budget) (λ ws.
    let left = budget - length ws in
    by_kind (kind_of ws)
    (λ to. then (batch_items n space engine (inside stands) to left) (λ got.
    then (batch_items n space engine stands (at + 4 * length ws) got.budget) (batch_first ws got.items)))
    (Ok record { items = command ws none; budget = left })
    (then (batch_items n space engine stands (at + 4 * length ws) left) (command_first ws)))

-- Each command has a dword at least, so that these are enough.
abbrev pub whole_batch : GlobalSpace → ℕ → Stands → ℕ → ℕ → Result Got Reason
whole_batch space engine stands at budget = batch_items (suc budget) space engine stands at budget

-- The items of a ring's dwords, by at most so many commands. This count changes nothing either: by the law `RingGoesOn` a whole
-- ring is its first command and the whole ring behind it.
unfoldable pub ring_items : ℕ → GlobalSpace → ℕ → List ℕ → ℕ → Result Got Reason
ring_items n space engine [] budget = Ok record { items = none; budget = budget }
ring_items zero space engine ring budget = Err Size
ring_items (suc n) space engine ring budget =
    then (ring_command space engine ring) (λ ws.
    by_kind (kind_of ws)
    (λ to. then (whole_batch space engine Privileged to budget) (λ got.
    then (ring_items n space engine (drop (length ws) ring) got.budget) (batch_first ws got.items)))
    (Err Command)
    (then (ring_items n space engine (drop (length ws) ring) budget) (command_first ws)))

abbrev pub whole_ring : GlobalSpace → ℕ → List ℕ → ℕ → Result Got Reason
whole_ring space engine ring budget = ring_items (length ring) space engine ring budget

-- The ring's dwords from the head to the tail, wrapping: their addresses, and how many they are.
abbrev pub ring_size : Image → ℕ
ring_size image = image.pages * 4096

abbrev pub ring_at : Image → ℕ → ℕ
ring_at image k = image.start + (image.head + 4 * k) % ring_size image

abbrev pub ring_count : Image → ℕ
ring_count image = (ring_size image + image.tail - image.head) % ring_size image / 4

abbrev pub ring_dwords : GlobalSpace → Image → List ℕ
ring_dwords space image = map (λ k. space.word (ring_at image k)) (range_with_len 0 (ring_count image))

-- so many pages are owned
unfoldable pub owns_pages : GlobalSpace → ℕ → ℕ → Bool
owns_pages space page zero = true
owns_pages space page (suc n) = space.owned page && owns_pages space (page + 1) n

abbrev pub items_of : Result Got Reason → Result Items Reason
items_of (Err reason) = Err reason
items_of (Ok got) = Ok got.items

-- The items of an image's ring, all of whose pages are owned. At most 262,144 dwords are fetched from
-- privileged batches.
abbrev pub fetched : GlobalSpace → ℕ → Image → Result Items Reason
fetched space engine image =
    check (owns_pages space (image.start / 4096) image.pages) Range (
    items_of (whole_ring space engine (ring_dwords space image) 262144))
