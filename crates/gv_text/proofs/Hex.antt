-- The digits of a number, the last one first.
use Rattle.std.proofs.Common.{◌≡◌, ◌≢◌, ℕ, zero, suc, ◌+◌, ◌-◌, ◌/◌, ◌%◌, ◌^◌, ◌<◌, ◌≤◌, List, [], ◌∷◌, false, length, drop, take, set, ap, sym, ◌∙◌, arith, subst, add-one, cond, eqb}
use Rattle.std.proofs.lemmas.Bool.{cond_both, eqb-false, ne_eqb, eq-eqb}
use Rattle.std.proofs.lemmas.List.{drop-set, drop_all, length-set, take_rest}
use Rattle.std.proofs.lemmas.Fmt.{hex_one_digit}
use Rattle.std.proofs.Math.Nat.{pow-suc}
use Rattle.std.specs.Fmt.{digits, digits_onto, digit_glyph}
use Rattle.gv_text.specs.Report.{hex}

-- one digit fewer
fewer : (j n : ℕ) → n < 16 ^ suc j → n / 16 < 16 ^ j
fewer j n small = let step = pow-suc 16 j in omega arith

pub fewer_by_one : (i start n : ℕ) → i + 1 ≡ start → n < 16 ^ start → n / 16 < 16 ^ i
fewer_by_one i start n before small = fewer i n (subst (λ k. n < 16 ^ k) (sym before ∙ add-one i) small)

pub some_digit : (i n : ℕ) → n < 16 ^ i → n ≢ 0 → 0 < i
some_digit zero n small more = absurd (more (omega arith))
some_digit (suc i) n small more = omega arith

module _ (n : ℕ) (acc : List ℕ) where
  pub more_digits : (k : ℕ) → n / 16 ≢ 0 → digits_onto (k + 1) 16 false n acc ≡ digits_onto k 16 false (n / 16) (digit_glyph false (n % 16) ∷ acc)
  more_digits k more = rw add-one (ap (λ b. cond b (digit_glyph false (n % 16) ∷ acc) (digits_onto k 16 false (n / 16) (digit_glyph false (n % 16) ∷ acc))) (ne_eqb (n / 16) 0 more))

  pub last_digit : (k : ℕ) → n / 16 ≡ 0 → digits_onto (k + 1) 16 false n acc ≡ digit_glyph false (n % 16) ∷ acc
  last_digit k none = rw add-one (ap (λ b. cond b (digit_glyph false (n % 16) ∷ acc) (digits_onto k 16 false (n / 16) (digit_glyph false (n % 16) ∷ acc))) (eq-eqb (n / 16) 0 none))

length-digits_onto : (k fuel n : ℕ) (acc : List ℕ) → 0 < k → n < 16 ^ k → length (digits_onto fuel 16 false n acc) ≤ k + length acc
length-digits_onto k zero n acc some small = omega arith
length-digits_onto zero (suc fuel) n acc some small = absurd (omega arith)
length-digits_onto (suc zero) (suc fuel) n acc some small =
    cond_both (eqb (n / 16) 0) (digit_glyph false (n % 16) ∷ acc) (digits_onto fuel 16 false (n / 16) (digit_glyph false (n % 16) ∷ acc)) (λ ds. length ds ≤ 1 + length acc)
    (λ _. omega arith)
    (λ more. absurd (eqb-false (n / 16) 0 more (omega arith)))
length-digits_onto (suc (suc j)) (suc fuel) n acc some small =
    cond_both (eqb (n / 16) 0) (digit_glyph false (n % 16) ∷ acc) (digits_onto fuel 16 false (n / 16) (digit_glyph false (n % 16) ∷ acc)) (λ ds. length ds ≤ suc (suc j) + length acc)
    (λ _. omega arith)
    (λ _. let rest = length-digits_onto (suc j) fuel (n / 16) (digit_glyph false (n % 16) ∷ acc) (omega arith) (fewer (suc j) n small) in omega arith)

pub length-hex : (k n : ℕ) → 0 < k → n < 16 ^ k → length (hex n) ≤ k
unfolding digits
length-hex k n some small = let digits = length-digits_onto k 64 n [] some small in omega arith

pub length-hex_u32 : (n : ℕ) → n < 2 ^ 32 → length (hex n) ≤ 8
length-hex_u32 n small = length-hex 8 n (omega arith) small

pub length-hex_u64 : (n : ℕ) → n < 2 ^ 64 → length (hex n) ≤ 16
length-hex_u64 n small = length-hex 16 n (omega arith) small

-- A buffer that is filled from its end: the digits of `rest` onto those from `start` on are all.
pub all_digits : List ℕ → ℕ → ℕ → List ℕ
all_digits buffer start rest = digits_onto (48 + start) 16 false rest (drop start buffer)

pub all_digits-start : (buffer : List ℕ) (n : ℕ) → length buffer ≡ 16 → all_digits buffer 16 n ≡ hex n
unfolding digits all_digits
all_digits-start buffer n long = ap (digits_onto 64 16 false n) (drop_all 16 buffer (omega arith))

module _ (buffer : List ℕ) (i n : ℕ) (inside : i < length buffer) where
  pub all_digits-more : n / 16 ≢ 0 → all_digits (set buffer i (digit_glyph false (n % 16))) i (n / 16) ≡ all_digits buffer (i + 1) n
  unfolding all_digits
  all_digits-more more =
      ap (digits_onto (48 + i) 16 false (n / 16)) (drop-set buffer i (digit_glyph false (n % 16)) inside)
      ∙ sym (more_digits n (drop (i + 1) buffer) (48 + i) more)
      ∙ ap (λ fuel. digits_onto fuel 16 false n (drop (i + 1) buffer)) (omega arith)

  pub all_digits-last : n / 16 ≡ 0 → drop i (set buffer i (digit_glyph false (n % 16))) ≡ all_digits buffer (i + 1) n
  unfolding all_digits
  all_digits-last none =
      drop-set buffer i (digit_glyph false (n % 16)) inside
      ∙ sym (last_digit n (drop (i + 1) buffer) (48 + i) none)
      ∙ ap (λ fuel. digits_onto fuel 16 false n (drop (i + 1) buffer)) (omega arith)

-- the number of a guest or an engine
pub hex-one : (n glyph : ℕ) → n < 16 → glyph ≡ digit_glyph false n → glyph ∷ [] ≡ hex n
hex-one n glyph small is = ap (λ g. g ∷ []) is ∙ sym (hex_one_digit false n small)

-- the buffer's digits, once no more are to come
pub last_digits : (buffer : List ℕ) (i start n number glyph : ℕ) → i + 1 ≡ start → start ≤ 16 → length buffer ≡ 16 → glyph ≡ digit_glyph false (n % 16) → n / 16 ≡ 0 → all_digits buffer start n ≡ hex number → take (16 - i) (drop i (set buffer i glyph)) ≡ hex number
last_digits buffer i start n number glyph before inside long is none all =
    let filled = set buffer i glyph in
    ap (λ k. take (k - i) (drop i filled)) (sym long ∙ sym (length-set buffer i glyph))
    ∙ take_rest filled i
    ∙ ap (λ g. drop i (set buffer i g)) is
    ∙ all_digits-last buffer i n (omega arith) none
    ∙ ap (λ k. all_digits buffer k n) before
    ∙ all
