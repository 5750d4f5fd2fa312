-- Sums over the numbers below a bound.
use Rattle.std.proofs.Common.{ℕ, zero, suc, ◌+◌, ◌*◌, ◌≤◌, ◌<◌, ◌≡◌, ◌≢◌, refl, sym, ap, arith, ⊎_elim}
use Rattle.std.proofs.lemmas.Bool.{cases_eq, cases_lt}
use Rattle.gv_shape.specs.Counts.{total}

pub total-same : (n : ℕ) (f g : ℕ → ℕ) → ((j : ℕ) → j < n → f j ≡ g j) → total n f ≡ total n g
unfolding total
total-same zero f g h = refl
total-same (suc n) f g h =
    let rest = total-same n f g (λ j b. h j (omega arith)) in
    let last : f n ≡ g n = h n (omega arith) in
    omega arith

-- two sums that differ at one place
pub total-change : (n k : ℕ) (f g : ℕ → ℕ) → k < n → ((j : ℕ) → j < n → j ≢ k → f j ≡ g j) → total n f + g k ≡ total n g + f k
unfolding total
total-change zero k f g b h = absurd (omega arith)
total-change (suc n) k f g b h =
    ⊎_elim
    (λ is.
    let rest = total-same n f g (λ j c. h j (omega arith) (omega arith)) in
    let at_f : f k ≡ f n = ap f is in
    let at_g : g k ≡ g n = ap g is in
    omega arith)
    (λ other.
    let rest = total-change n k f g (omega arith) (λ j c. h j (omega arith)) in
    let last : f n ≡ g n = h n (omega arith) (λ e. other (sym e)) in
    omega arith)
    (cases_eq k n)

pub total-at : (n k : ℕ) (f : ℕ → ℕ) → k < n → f k ≤ total n f
unfolding total
total-at zero k f b = absurd (omega arith)
total-at (suc n) k f b =
    ⊎_elim
    (λ is. let at_f : f k ≡ f n = ap f is in omega arith)
    (λ other. let rest = total-at n k f (omega arith) in omega arith)
    (cases_eq k n)

pub total-bound : (n b : ℕ) (f : ℕ → ℕ) → ((j : ℕ) → f j ≤ b) → total n f ≤ n * b
unfolding total
total-bound zero b f h = omega arith
total-bound (suc n) b f h = let rest = total-bound n b f h in let last = h n in grind arith

-- a sum above 0 has a place above 0
pub total-some : (n : ℕ) (f : ℕ → ℕ) → 1 ≤ total n f → (k : ℕ) × (k < n) × (1 ≤ f k)
unfolding total
total-some zero f h = absurd (omega arith)
total-some (suc n) f h =
    ⊎_elim
    (λ none.
    let last : 1 ≤ f n = omega arith in
    (n, omega arith, last))
    (λ some.
    let rest = total-some n f some in
    (rest.0, let b = rest.1 in omega arith, rest.2))
    (cases_lt (total n f) 1)
