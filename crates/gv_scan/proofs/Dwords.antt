-- Dwords from an address, one after the other.
use Rattle.std.proofs.Common.{◌≡◌, ℕ, suc, zero, ◌+◌, ◌-◌, ◌*◌, ◌/◌, ◌<◌, ◌&&◌, true, false, List, [], ◌∷◌, ◌++◌, length, take, set, add-one, refl, ap, sym, ◌∙◌, arith}
use Rattle.std.proofs.lemmas.Bool.{and_parts, and_left}
use Rattle.std.proofs.lemmas.List.{take_more_set}
use Rattle.gv_fetch.specs.Fetch.{GlobalSpace, dwords, owns_dword, owns_dwords}

-- the first of so many
pub owns-first : (space : GlobalSpace) (at n : ℕ) → owns_dwords space at (suc n) ≡ (owns_dword space at && owns_dwords space (at + 4) n)
unfolding owns_dwords
owns-first space at n = refl

pub owns-none : (space : GlobalSpace) (at : ℕ) → owns_dwords space at 0 ≡ true
unfolding owns_dwords
owns-none space at = refl

next : (at n : ℕ) → at + 4 * n + 4 ≡ at + 4 * (n + 1)
next at n = omega arith

pub owns-here : (space : GlobalSpace) (at n count : ℕ) → n < count → owns_dwords space (at + 4 * n) (count - n) ≡ (space.owned ((at + 4 * n) / 4096) && owns_dwords space (at + 4 * (n + 1)) (count - (n + 1)))
owns-here space at n count h =
    let left : count - n ≡ suc (count - (n + 1)) = omega arith in
    ap (owns_dwords space (at + 4 * n)) left
    ∙ owns-first space (at + 4 * n) (count - (n + 1))
    ∙ ap (λ a. space.owned ((at + 4 * n) / 4096) && owns_dwords space a (count - (n + 1))) (next at n)

pub owned-at : (space : GlobalSpace) (at count n : ℕ) → owns_dwords space at count ≡ true → n < count → space.owned ((at + 4 * n) / 4096) ≡ true
owned-at space at zero n h less = absurd (omega arith)
owned-at space at (suc count) zero h less =
    let e : at ≡ at + 4 * 0 = omega arith in
    ap (λ a. space.owned (a / 4096)) (sym e) ∙ (and_parts (owns_dword space at) (owns_dwords space (at + 4) count) (sym (owns-first space at count) ∙ h)).0
owned-at space at (suc count) (suc n) h less =
    let smaller : n < count = omega arith in
    let e : at + 4 + 4 * n ≡ at + 4 * (suc n) = omega arith in
    ap (λ a. space.owned (a / 4096)) (sym e) ∙ owned-at space (at + 4) count n (and_parts (owns_dword space at) (owns_dwords space (at + 4) count) (sym (owns-first space at count) ∙ h)).1 smaller

dwords-suc : (word : ℕ → ℕ) (at n : ℕ) → dwords word at (suc n) ≡ dwords word at n ++ word (at + 4 * n) ∷ []
unfolding dwords
dwords-suc word at zero = let e : at ≡ at + 4 * 0 = omega arith in ap (λ a. word a ∷ []) e
dwords-suc word at (suc n) = let e : at + 4 + 4 * n ≡ at + 4 * (suc n) = omega arith in ap (λ xs. word at ∷ xs) (dwords-suc word (at + 4) n ∙ ap (λ a. dwords word (at + 4) n ++ word a ∷ []) e)

pub dwords-more : (word : ℕ → ℕ) (at n : ℕ) → dwords word at (n + 1) ≡ dwords word at n ++ word (at + 4 * n) ∷ []
dwords-more word at n = rw (add-one n) (dwords-suc word at n)

pub dwords-none : (word : ℕ → ℕ) (at : ℕ) → dwords word at 0 ≡ []
unfolding dwords
dwords-none word at = refl

pub read-step : (word : ℕ → ℕ) (at n value : ℕ) (ws : List ℕ) → n < length ws → take n ws ≡ dwords word at n → value ≡ word (at + 4 * n) → take (n + 1) (set ws n value) ≡ dwords word at (n + 1)
read-step word at n value ws within so_far is =
    take_more_set ws n value within ∙ ap (λ xs. xs ++ value ∷ []) so_far ∙ ap (λ v. dwords word at n ++ v ∷ []) is ∙ sym (dwords-more word at n)

pub unowned-at : (space : GlobalSpace) (at n count : ℕ) → n < count → space.owned ((at + 4 * n) / 4096) ≡ false → owns_dwords space (at + 4 * n) (count - n) ≡ false
unowned-at space at n count h not = owns-here space at n count h ∙ and_left _ _ not

pub owned-on : (space : GlobalSpace) (at n count : ℕ) → n < count → space.owned ((at + 4 * n) / 4096) ≡ true → owns_dwords space (at + 4 * (n + 1)) (count - (n + 1)) ≡ owns_dwords space (at + 4 * n) (count - n)
owned-on space at n count h own = sym (owns-here space at n count h ∙ ap (λ b. b && owns_dwords space (at + 4 * (n + 1)) (count - (n + 1))) own)
