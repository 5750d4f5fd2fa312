-- Dwords from an address on.
use Rattle.std.proofs.Common.{◌≡◌, ℕ, suc, zero, ◌+◌, ◌*◌, ◌<◌, length, get_or, refl, ap, ◌∙◌, arith}
use Rattle.gv_fetch.specs.Fetch.{dwords}

pub length-dwords : (read : ℕ → ℕ) (at n : ℕ) → length (dwords read at n) ≡ n
unfolding dwords
length-dwords read at zero = refl
length-dwords read at (suc n) = ap suc (length-dwords read (at + 4) n)

pub get-dwords : (read : ℕ → ℕ) (at n k : ℕ) → k < n → get_or (dwords read at n) k 0 ≡ read (at + 4 * k)
unfolding dwords
get-dwords read at zero k h = absurd (omega arith)
get-dwords read at (suc n) zero h = let e : at ≡ at + 4 * 0 = omega arith in ap read e
get-dwords read at (suc n) (suc k) h =
    let less : k < n = omega arith in
    let e : at + 4 + 4 * k ≡ at + 4 * (suc k) = omega arith in
    get-dwords read (at + 4) n k less ∙ ap read e
