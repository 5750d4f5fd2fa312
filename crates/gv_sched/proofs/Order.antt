-- The cyclic order behind an owner.
use Rattle.std.proofs.Common.{◌≡◌, ℕ, ◌+◌, ◌-◌, ◌%◌, ◌<◌, ◌≤◌, Bool, true, false, ltb, cond, Some, None, List, length, length-append, length-take, length-drop, take, drop, get_or, get_or-drop, get_or-take, sym, ap, ◌∙◌, arith, refl, inl, inr}
use Rattle.std.proofs.lemmas.Bool.{cases_lt, ltb-true, ltb-false}
use Rattle.std.specs.List.{position_or_len}
use Rattle.std.specs.Option.{option_map_or}
use Rattle.std.proofs.lemmas.List.{get_or_append_left, get_or-append_right}
use Rattle.std.proofs.lemmas.List.Sums.{fails_before_first, passes_at_first}
use Rattle.std.proofs.Math.Nat.{mod-eq-sub-mod, mod-eq_of_lt}
use Rattle.gv_sched.specs.Rota.{next_owner, work_of_others, guest_behind, works, IsNextOwner}

-- one round at most
once_round : (m n : ℕ) → n ≤ m → m - n < n → m % n ≡ m - n
once_round m n past small = mod-eq-sub-mod past ∙ mod-eq_of_lt small

others_length : (work : List Bool) (owner : ℕ) → owner < length work → length (work_of_others work owner) ≡ length work - 1
others_length work owner there = simp (length-append, length-drop, length-take) (omega arith)

-- what stands at a place of the others
others_at : (work : List Bool) (owner k : ℕ) → owner < length work → k + 1 < length work → get_or (work_of_others work owner) k false ≡ works work (guest_behind (length work) owner (k + 1))
others_at work owner k there small =
    let n = length work in
    let behind : length (drop (owner + 1) work) ≡ n - (owner + 1) = length-drop (owner + 1) work in
    elim (cases_lt (owner + (k + 1)) n) [
      | inl before ↦
          get_or_append_left (drop (owner + 1) work) (take owner work) false k (omega arith)
          ∙ get_or-drop (owner + 1) work k false
          ∙ ap (λ i. get_or work i false) (let same : owner + 1 + k ≡ owner + (k + 1) = omega arith in same ∙ sym (mod-eq_of_lt before))
      | inr past ↦
          get_or-append_right (drop (owner + 1) work) (take owner work) (n - (owner + 1)) k false behind (omega arith)
          ∙ get_or-take owner work (k - (n - (owner + 1))) false (omega arith)
          ∙ ap (λ i. get_or work i false) (let same : k - (n - (owner + 1)) ≡ owner + (k + 1) - n = omega arith in same ∙ sym (once_round (owner + (k + 1)) n past (omega arith)))
    ]

abbrev going_round : List Bool → ℕ → ℕ → ℕ
going_round work owner between = (owner + 1 + between) % length work

first_at : (work : List Bool) (owner place : ℕ) (found : Bool) → owner < length work → place ≡ position_or_len (λ w. w) (work_of_others work owner)
    → found ≡ ltb place (length (work_of_others work owner)) → IsNextOwner work owner (option_map_or (going_round work owner) (cond found (Some place) None) owner)
first_at work owner place true there first found =
    let others = work_of_others work owner in
    let count = others_length work owner there in
    let small : place < length others = ltb-true place (length others) (sym found) in
    let same : owner + 1 + place ≡ owner + (place + 1) = omega arith in
    let at = ap (λ i. i % length work) same in
    record {
      places = place + 1;
      behind = omega arith;
      once = omega arith;
      stands = at;
      passed = λ k one below.
          let back : k - 1 + 1 ≡ k = omega arith in
          ap (λ i. works work (guest_behind (length work) owner i)) (sym back) ∙ sym (others_at work owner (k - 1) there (omega arith))
          ∙ fails_before_first (λ w. w) others (k - 1) false (omega arith);
      has = λ more.
          ap (works work) at ∙ sym (others_at work owner place there more) ∙ ap (λ i. get_or others i false) first ∙ passes_at_first (λ w. w) others false (omega arith);
    }
first_at work owner place false there first found =
    let others = work_of_others work owner in
    let count = others_length work owner there in
    let none : length others ≤ place = ltb-false place (length others) (sym found) in
    let back : owner + length work - length work ≡ owner = omega arith in
    record {
      places = length work;
      behind = omega arith;
      once = omega arith;
      stands = sym (once_round (owner + length work) (length work) (omega arith) (omega arith) ∙ back);
      passed = λ k one below.
          let back : k - 1 + 1 ≡ k = omega arith in
          ap (λ i. works work (guest_behind (length work) owner i)) (sym back) ∙ sym (others_at work owner (k - 1) there (omega arith))
          ∙ fails_before_first (λ w. w) others (k - 1) false (omega arith);
      has = λ more. absurd (omega arith);
    }

pub next_owner-first : (work : List Bool) (owner : ℕ) → owner < length work → IsNextOwner work owner (next_owner work owner)
next_owner-first work owner there =
    first_at work owner (position_or_len (λ w. w) (work_of_others work owner)) _ there refl refl
