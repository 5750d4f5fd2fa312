-- The rows that are left, one at a time, and how long they are.
use Rattle.std.proofs.Common.{◌≡◌, ℕ, suc, ◌+◌, ◌-◌, ◌*◌, ◌<◌, ◌≤◌, Bool, true, false, ◌||◌, List, [], ◌∷◌, length, map, get_or, cond, eqb, ltb, ap, sym, subst, arith}
use Rattle.std.specs.Prelude.{All}
use Rattle.std.specs.List.{range_with_len}
use Rattle.std.proofs.Math.Nat.{mul-le-mul_left}
use Rattle.std.proofs.lemmas.List.{get_or-map, length-map}
use Rattle.std.proofs.lemmas.Bool.Decides.{nat_tests}
use Rattle.gv_cmd.specs.Kind.{IsBlit}
use Rattle.gv_cmd.specs.Rows.{row, rows}
use Rattle.gv_cmd.specs.declared.blit.Blit.{Blit}
use Rattle.gv_cmd.specs.declared.blit.RowPair.{RowPair}
use Rattle.gv_blit.specs.Short.{IsShort}
use Rattle.gv_blit.specs.Left.{rows_left}

chosen : (c : Bool) (r : RowPair) (xs ys : List RowPair) → c ≡ true → xs ≡ r ∷ ys → cond c xs [] ≡ r ∷ cond c ys []
chosen true r xs ys h e = e
chosen false r xs ys h e = cc

is_below : (n m : ℕ) → n < m → ltb n m ≡ true
is_below n m h = grind (arith, nat_tests)

pub rows_left-more : (b : Blit) (y : ℕ) → b.x1 < b.x2 → y < b.y2 → rows_left b y ≡ row b y ∷ rows_left b (y + 1)
rows_left-more b y wide high =
    let n : b.y2 - y ≡ suc (b.y2 - (y + 1)) = omega arith in
    chosen (ltb b.x1 b.x2) (row b y) (map (row b) (range_with_len y (b.y2 - y))) (map (row b) (range_with_len (y + 1) (b.y2 - (y + 1))))
    (is_below b.x1 b.x2 wide) (ap (λ k. map (row b) (range_with_len y k)) n)

few_bytes : (k : ℕ) → (eqb k 1 || eqb k 2 || eqb k 4) ≡ true → k ≤ 4
few_bytes k h = grind (arith, nat_tests)

product : (n k : ℕ) → n ≤ 4096 → k ≤ 4 → n * k ≤ 16384
product n k few h = omega (arith, mul-le-mul_left n h)

row_short : (b : Blit) (y : ℕ) → IsBlit b → IsShort (row b y)
row_short b y is = let h = is.x2 in product (b.x2 - b.x1) b.bytes (omega arith) (few_bytes b.bytes is.bytes)

mapped_short : (b : Blit) → IsBlit b → (ys : List ℕ) → All IsShort (map (row b) ys)
mapped_short b is ys = λ k d h.
    let at : k < length ys = rw length-map at h in
    subst IsShort (sym (get_or-map (row b) ys k 0 d at)) (row_short b (get_or ys k 0) is)

by_width : (c : Bool) (xs : List RowPair) → All IsShort xs → All IsShort (cond c xs [])
by_width true xs h = h
by_width false xs h = λ k d none. absurd (omega arith)

pub rows-short : (b : Blit) → IsBlit b → All IsShort (rows b)
rows-short b is = by_width (ltb b.x1 b.x2) _ (mapped_short b is (range_with_len b.y1 (b.y2 - b.y1)))
