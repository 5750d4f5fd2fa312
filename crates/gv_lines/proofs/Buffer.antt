-- A part of a buffer: it loses bytes at its front, or moves to the buffer's front and gets more behind it.
use Rattle.std.proofs.Common.{◌≡◌, ℕ, ◌+◌, ◌-◌, ◌≤◌, List, ◌++◌, length, take, drop, ap, sym, ◌∙◌, arith}
use Rattle.std.specs.List.{slice_range, copy_within}
use Rattle.std.proofs.lemmas.List.{take-take, take_at, take-append-le, drop-drop, drop-take, length-take-le, length-drop, length-append, length-take}
use Rattle.std.proofs.Math.Seq.{take-append-add}
use borrow.Rule.Slice.PartMut.{put_mid}

module _ (b : List ℕ) (i j n m : ℕ) (within : n + m ≤ j - i) where
  pub slice_range-front : slice_range b i (i + n) ≡ take n (slice_range b i j)
  slice_range-front =
      let same : i + n - i ≡ n = omega arith in
      ap (λ k. take k (drop i b)) same ∙ sym (take-take n (j - i) (drop i b) (omega arith))

  pub slice_range-rest : slice_range b (i + n + m) j ≡ drop (n + m) (slice_range b i j)
  slice_range-rest =
      let left = j - (i + n + m) in
      let all : n + m + left ≡ j - i = omega arith in
      let at : i + n + m ≡ i + (n + m) = omega arith in
      sym (ap (λ k. drop (n + m) (take k (drop i b))) (sym all) ∙ drop-take (n + m) left (drop i b)
      ∙ ap (take left) (drop-drop (n + m) i b ∙ ap (λ k. drop k b) (sym at)))

-- a list of two parts, cut behind n elements of the second
pub take_second : (xs ys : List ℕ) (k n : ℕ) → length xs ≡ k → take (k + n) (xs ++ ys) ≡ xs ++ take n ys
take_second xs ys k n long = ap (λ k. take (k + n) (xs ++ ys)) (sym long) ∙ take-append-add xs ys n

module _ (b into : List ℕ) (i j room n : ℕ) (order : i ≤ j) (inside : j ≤ length b) (fits : n ≤ length into) where
  pub slice_range-more : slice_range (put_mid (j - i) room (copy_within b i j 0) into) 0 (j - i + n) ≡ slice_range b i j ++ take n into
  slice_range-more =
      let k = j - i in
      let front = take k (drop i b) in
      let long : length front ≡ k = length-take-le k (drop i b) (simp length-drop (omega arith)) in
      let moved : take k (front ++ drop (0 + k) b) ≡ front = take_at front (drop (0 + k) b) k long in
      let post = drop room (drop k (front ++ drop (0 + k) b)) in
      let cut : k + n - 0 ≡ k + n = omega arith in
      ap (λ l. take l (take k (front ++ drop (0 + k) b) ++ (into ++ post))) cut
      ∙ ap (λ l. take (k + n) (l ++ (into ++ post))) moved
      ∙ take_second front (into ++ post) k n long
      ∙ ap (λ l. front ++ l) (take-append-le n into post fits)

pub length-put_mid : (a room : ℕ) (xs ys : List ℕ) → length ys ≡ room → a + room ≤ length xs → length (put_mid a room xs ys) ≡ length xs
length-put_mid a room xs ys long inside = simp (length-append, length-take, length-drop) (omega arith)
