-- A place comes back from its seven dwords.
use Rattle.std.proofs.Common.{◌≡◌, ℕ, ◌+◌, ◌*◌, ◌/◌, ◌%◌, ◌^◌, Bool, true, false, Option, None, Some, refl, ap, arith}
use Rattle.gv_ctx.specs.declared.saved.Batch.{Batch}
use Rattle.gv_ctx.specs.declared.saved.Saved.{Saved}
use Rattle.gv_ctx.specs.Saved.{high_of, low_of, state_of, batch_of, fields_of, saved_of}

halves : (n : ℕ) → n / 2 ^ 32 * 2 ^ 32 + n % 2 ^ 32 ≡ n
halves n = omega arith

pub batch_of-fields : (batch : Option Batch) → batch_of (high_of batch) (low_of batch) (state_of batch) ≡ batch
batch_of-fields None = refl
batch_of-fields (Some batch) = by_live batch.at batch.live
  where
    by_live : (at : ℕ) (live : Bool) → batch_of (at / 2 ^ 32) (at % 2 ^ 32) (state_of (Some record { at = at; live = live })) ≡ Some record { at = at; live = live }
    by_live at true = ap (λ n. Some record { at = n; live = true }) (halves at)
    by_live at false = ap (λ n. Some record { at = n; live = false }) (halves at)

pub saved_of-fields_of : (place : Saved) → saved_of (fields_of place) ≡ place
saved_of-fields_of place = λ i. record place { first = batch_of-fields place.first i; second = batch_of-fields place.second i }
