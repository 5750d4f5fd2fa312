-- A field of three bits stays one when it is written by a mask.
use Rattle.std.proofs.Common.{ℕ, ◌-◌, ◌<◌, bit_and, arith}
use Rattle.std.proofs.lemmas.Nat.{or_lt, and_le_l}
use Rattle.gv_csb.specs.Slots.{pointer_masked}

pub masked_below : (old value mask : ℕ) → old < 8 → value < 8 → pointer_masked old value mask < 8
masked_below old value mask small_old small_value =
    or_lt 3 (bit_and old (7 - mask)) (bit_and value mask) (omega (arith, and_le_l old (7 - mask))) (omega (arith, and_le_l value mask))
