-- A listed length is 1 to 65, so a command has at least its header.
use Rattle.std.proofs.Common.{◌≡◌, ℕ, ◌+◌, ◌≤◌, ◌&&◌, ◌||◌, Bool, true, false, List, [], ◌∷◌, ◌++◌, length, get_or, Option, None, Some, Ok, cond, eqb, leb, refl, subst, arith, lit≤}
use Rattle.std.specs.Prelude.{IfSome}
use Rattle.std.proofs.lemmas.Bool.Decides.{nat_tests}
use Rattle.gv_types.specs.Bits.{has_bit}
use Rattle.gv_cmd.specs.Bits.{bits}
use Rattle.gv_cmd.specs.Kind.{IsLength}
use Rattle.gv_cmd.specs.Table.{CommandRow, has_header, exactly, always, flush_length, untiled, blit_rows, table, length_in, length_of}
use Rattle.gv_cmd.specs.Command.{IsCommand, decoded}
use Rattle.gv_cmd.proofs.Keeping.{decoded-append}

by_if : (b : Bool) (x y : Option ℕ) → IfSome x IsLength → IfSome y IsLength → IfSome (cond b x y) IsLength
by_if true x y p q = p
by_if false x y p q = q

exact : (n field : ℕ) → 1 ≤ n → n ≤ 65 → IfSome (exactly n field) IsLength
exact n field some few = by_if (eqb (field + 2) n) (Some n) None (some, few) tt

counted : (b : Bool) (n : ℕ) → (b && leb (n + 2) 65) ≡ true → IsLength (n + 2)
counted true n h = (omega arith, grind (arith, nat_tests))
counted false n h = cc

registers_by : (b c : Bool) (n : ℕ) → (b && leb (n + 2) 65) ≡ c → IfSome (cond c (Some (n + 2)) None) IsLength
registers_by b true n h = counted b n h
registers_by b false n h = tt

six : (field : ℕ) → IfSome (exactly 6 field) IsLength
six field = exact 6 field (lit≤ tt) (lit≤ tt)

always-form : (n h : ℕ) → 1 ≤ n → n ≤ 65 → IfSome (always n h) IsLength
always-form n h some few = exact n (bits h 7 0) some few

four : (field : ℕ) → IfSome (exactly 4 field) IsLength
four field = exact 4 field (lit≤ tt) (lit≤ tt)

five : (field : ℕ) → IfSome (exactly 5 field) IsLength
five field = exact 5 field (lit≤ tt) (lit≤ tt)

three : (field : ℕ) → IfSome (exactly 3 field) IsLength
three field = exact 3 field (lit≤ tt) (lit≤ tt)

flush_form : (h : ℕ) → IfSome (flush_length h) IsLength
flush_form h = by_if _ _ None (by_if (eqb (bits h 5 0) 3) (Some 5) _ (lit≤ tt, lit≤ tt) (four (bits h 5 0))) tt

untiled_form : (n h : ℕ) → 1 ≤ n → n ≤ 65 → IfSome (untiled n h) IsLength
untiled_form n h some few = by_if (has_bit h 15 || has_bit h 11) None _ tt (exact n (bits h 7 0) some few)

-- Each row's lengths are such: so is that of the first one that a header names.
abbrev AreLengths : ℕ → List CommandRow → Type 0
AreLengths h [] = Unit {0}
AreLengths h (row ∷ rows) = IfSome (row.dwords h) IsLength × AreLengths h rows

first_form : (h : ℕ) (rows : List CommandRow) → AreLengths h rows → IfSome (length_in rows h) IsLength
first_form h [] all = tt
first_form h (row ∷ rows) all = by_if (has_header row h) (row.dwords h) _ all.0 (first_form h rows all.1)

one : IsLength 1
one = (lit≤ tt, lit≤ tt)

blit_form : (h : ℕ) → AreLengths h blit_rows
blit_form h = (untiled_form 7 h (lit≤ tt) (lit≤ tt), (untiled_form 10 h (lit≤ tt) (lit≤ tt), tt))

table_form : (h : ℕ) → AreLengths h table
table_form h = (
  six (bits h 15 0),
  (
    one,
    (
      one,
      (
        one,
        (
          one,
          (
            one,
            (
              by_if _ _ None (four (bits h 7 0)) tt,
              (
                by_if (has_bit h 21) _ _ (five (bits h 9 0)) (four (bits h 9 0)),
                (
                  registers_by (has_bit h 0) _ (bits h 7 0) refl,
                  (
                    four (bits h 7 0),
                    (
                      flush_form h,
                      (
                        four (bits h 7 0),
                        (
                          three (bits h 7 0),
                          (
                            five (bits h 7 0),
                            (
                              three (bits h 7 0),
                              blit_form h,
                            ),
                          ),
                        ),
                      ),
                    ),
                  ),
                ),
              ),
            ),
          ),
        ),
      ),
    ),
  ),
)

pub length_of-form : (h : ℕ) → IfSome (length_of h) IsLength
length_of-form h = first_form h table (table_form h)

pub IsCommand-length : (ws : List ℕ) → IsCommand ws → IsLength (length ws)
IsCommand-length ws command =
    let P : Option ℕ → Type 0 = λ o. IfSome o IsLength in
    subst P command.length (length_of-form (get_or ws 0 0))

-- a command stands for itself, whatever follows
pub decoded-command : (ws rest : List ℕ) → IsCommand ws → decoded (ws ++ rest) ≡ Ok (ws, length ws)
decoded-command ws rest command = decoded-append ws rest (IsCommand-length ws command).0 command
