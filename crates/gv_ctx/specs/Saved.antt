-- A place in a context's commands, as the seven dwords of a shadow image.
use Rattle.std.specs.Prelude.{ℕ, ◌+◌, ◌*◌, ◌/◌, ◌%◌, ◌^◌, List, [], ◌∷◌, slice_index, if◌then◌else◌, Option, None, Some}
use Rattle.gv_types.specs.Bits.{has_bit, has_lowest_bit}
use Rattle.gv_ctx.specs.declared.saved.Batch.{Batch}
use Rattle.gv_ctx.specs.declared.saved.Saved.{Saved}

abbrev pub high_of : Option Batch → ℕ
high_of None = 0
high_of (Some batch) = batch.at / 2 ^ 32

abbrev pub low_of : Option Batch → ℕ
low_of None = 0
low_of (Some batch) = batch.at % 2 ^ 32

-- 0 for no batch, 1 for a fetched one, 3 for a live one
abbrev pub state_of : Option Batch → ℕ
state_of None = 0
state_of (Some batch) = if batch.live then 3 else 1

abbrev pub fields_of : Saved → List ℕ
fields_of place =
    place.ring
    ∷ high_of place.first ∷ low_of place.first ∷ state_of place.first
    ∷ high_of place.second ∷ low_of place.second ∷ state_of place.second ∷ []

-- Bit 0 of a state says that there is a batch, and bit 1 that it is live.
abbrev pub batch_of : ℕ → ℕ → ℕ → Option Batch
batch_of high low state =
    if has_lowest_bit state then Some record { at = high * 2 ^ 32 + low; live = has_bit state 1 } else None

abbrev pub saved_of : List ℕ → Saved
saved_of fields = record {
  ring = slice_index fields 0;
  first = batch_of (slice_index fields 1) (slice_index fields 2) (slice_index fields 3);
  second = batch_of (slice_index fields 4) (slice_index fields 5) (slice_index fields 6);
}
