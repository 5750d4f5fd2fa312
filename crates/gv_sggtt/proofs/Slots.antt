-- Each page of a guest's ranges has a slot of its own among its entries.
use Rattle.std.proofs.Common.{◌≡◌, ◌≢◌, ℕ, ◌<◌, List, Option, None, Some, length, get_or, replicate, refl, ap, arith}
use Rattle.std.proofs.lemmas.Bool.Decides.{nat_tests}
use Rattle.std.proofs.lemmas.Grind.{common_steps}
use Rattle.gv_types.specs.declared.ranges.Ranges.{Ranges}
use Rattle.gv_entry.specs.Ranges.{InParts}
use Rattle.gv_entry.specs.Global.{slot_of, pages_of, entry_at, with_entry_at}

pub slot-once : (ranges : Ranges) (a b slot : ℕ) → InParts ranges → slot_of ranges a ≡ Some slot → slot_of ranges b ≡ Some slot → a ≡ b
slot-once ranges a b slot parts first second = let low = parts.low in let from = parts.from in let high = parts.high in grind (arith, nat_tests)

module _ (entries : List ℕ) (slot value : ℕ) where
  pub entry-set : slot < length entries → entry_at (with_entry_at entries (Some slot) value) (Some slot) ≡ value
  entry-set within = grind (arith, common_steps)

  pub entry-other : (o : Option ℕ) → o ≢ Some slot → entry_at (with_entry_at entries (Some slot) value) o ≡ entry_at entries o
  entry-other None differ = refl
  entry-other (Some k) differ = let other : k ≢ slot = λ is. differ (ap (λ n. Some n) is) in grind (arith, common_steps)

zero_at : (n k : ℕ) → ◌≡◌ {A = ℕ} (get_or (replicate n 0) k 0) 0
zero_at n k = grind (arith, common_steps)

pub entry-zero : (n : ℕ) (o : Option ℕ) → ◌≡◌ {A = ℕ} (entry_at (replicate n 0) o) 0
entry-zero n None = refl
entry-zero n (Some k) = zero_at n k

-- a slot is one of the entries
pub slot-within : (ranges : Ranges) (page slot : ℕ) → slot_of ranges page ≡ Some slot → slot < pages_of ranges
slot-within ranges page slot is = grind (arith, nat_tests)
