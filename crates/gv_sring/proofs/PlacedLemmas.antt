-- Whole commands, placed one after the other.
use Rattle.std.proofs.Common.{◌≡◌, ℕ, ◌+◌, ◌<◌, ◌≤◌, List, [], ◌∷◌, ◌++◌, length, drop, map, length-append, append_assoc, Result, Ok, refl, ap, sym, subst, ◌∙◌, arith}
use Rattle.std.specs.List.{concat}
use Rattle.std.proofs.lemmas.List.{append-nil, map-append, drop_at}
use Rattle.gv_cmd.specs.Command.{decoded}
use Rattle.gv_cmd.specs.declared.command.Unlisted.{Unlisted}
use Rattle.gv_cmd.proofs.Lengths.{decoded-command, IsCommand-length}
use Rattle.gv_scan.specs.Layout.{AreCopies, placed}
use Rattle.gv_scan.proofs.Placing.{length-all}
use Rattle.gv_scan.proofs.Steps.{concat-append}
use Rattle.gv_sring.specs.Packing.{ArePlaced, BeginsWithCopy}

-- In the middle: the commands that are placed, and those that are left.
pub record HalfPlaced (base : ℕ) (words : List ℕ) (at : ℕ) (list : List ℕ) (commands : List (List ℕ)) : Type 0 where
  pub before : List (List ℕ)
  pub rest : List (List ℕ)
  pub split : commands ≡ before ++ rest
  pub at_is : at ≡ length (concat before)
  pub list_is : list ≡ concat (map (placed base) before)

-- the same for each way to see the dwords as commands
abbrev pub ArePlacedSoFar : ℕ → List ℕ → ℕ → List ℕ → Type 0
ArePlacedSoFar base words at list = (commands : List (List ℕ)) → concat commands ≡ words → AreCopies commands → HalfPlaced base words at list commands

rest-copies : (xs ys : List (List ℕ)) → AreCopies (xs ++ ys) → AreCopies ys
rest-copies [] ys h = h
rest-copies (x ∷ xs) ys h = rest-copies xs ys h.1

module _ (base : ℕ) (words : List ℕ) (at : ℕ) (list : List ℕ) (commands : List (List ℕ)) (whole : concat commands ≡ words) (each : AreCopies commands) (half : HalfPlaced base words at list commands) where
  left-is : drop at words ≡ concat half.rest
  left-is = ap (drop at) (sym whole ∙ ap concat half.split ∙ concat-append half.before half.rest) ∙ drop_at (concat half.before) (concat half.rest) at (sym half.at_is)

  -- the command at the front of what is left
  pub record Front : Type 0 where
    pub more : List (List ℕ)
    pub begins : BeginsWithCopy (drop at words)
    pub rest : half.rest ≡ begins.command ∷ more

  front-by : (rest : List (List ℕ)) → half.rest ≡ rest → at < length words → Front
  front-by [] is less =
      let left : drop at words ≡ [] = left-is ∙ ap concat is in
      let all = ap length (sym whole ∙ ap concat half.split ∙ concat-append half.before half.rest) ∙ length-append (concat half.before) (concat half.rest) in
      let none = ap (λ r. length (concat r)) is in
      let here = half.at_is in
      absurd (omega arith)
  front-by (c ∷ more) is less =
      let all : AreCopies (half.before ++ half.rest) = subst AreCopies half.split each in
      let behind = rest-copies half.before half.rest all in
      let copies : AreCopies (c ∷ more) = subst AreCopies is behind in
      record {
        more = more;
        begins = record {
          command = c;
          copy = copies.0;
          decodes = ap decoded (left-is ∙ ap concat is) ∙ decoded-command c (concat more) copies.0.command;
        };
        rest = is;
      }

  pub front : at < length words → Front
  front less = front-by half.rest refl less

  -- one command on
  pub placed-on : (c : List ℕ) (more : List (List ℕ)) (next : List ℕ) → half.rest ≡ c ∷ more → next ≡ list ++ placed base c → HalfPlaced base words (at + length c) next commands
  placed-on c more next is added = record {
    before = half.before ++ c ∷ [];
    rest = more;
    split = half.split ∙ ap (λ r. half.before ++ r) is ∙ sym (append_assoc half.before (c ∷ []) more);
    at_is =
        let here = half.at_is in
        let joined = ap length (concat-append half.before (c ∷ [])) ∙ length-append (concat half.before) (concat (c ∷ [])) in
        let one = ap length (append-nil c) in
        omega arith;
    list_is = added ∙ ap (λ xs. xs ++ placed base c) half.list_is
        ∙ sym (ap concat (map-append (placed base) half.before (c ∷ [])) ∙ concat-append (map (placed base) half.before) (map (placed base) (c ∷ []))
        ∙ ap (λ xs. concat (map (placed base) half.before) ++ xs) (append-nil (placed base c)));
  }

  -- at the end all are placed
  pub placed-all : length words ≤ at → list ≡ concat (map (placed base) commands)
  placed-all end =
      let all = ap length (sym whole ∙ ap concat half.split ∙ concat-append half.before half.rest) ∙ length-append (concat half.before) (concat half.rest) in
      let here = half.at_is in
      let nothing : length (concat half.rest) ≡ 0 = omega arith in
      half.list_is ∙ ap (λ cs. concat (map (placed base) cs)) (sym (append-nil half.before) ∙ sym (ap (λ r. half.before ++ r) (none half.rest (rest-copies half.before half.rest (subst AreCopies half.split each)) nothing)) ∙ sym half.split)
    where
      none : (rest : List (List ℕ)) → AreCopies rest → length (concat rest) ≡ 0 → rest ≡ []
      none [] copies h = refl
      none (c ∷ more) copies h =
          let some = (IsCommand-length c copies.0.command).0 in
          let long = length-append c (concat more) in
          absurd (omega arith)

pub starts-placed : (base : ℕ) (words : List ℕ) → ArePlacedSoFar base words 0 []
starts-placed base words commands whole each = record { before = []; rest = commands; split = refl; at_is = refl; list_is = refl }

pub placed-length : (base : ℕ) (words list : List ℕ) (commands : List (List ℕ)) → concat commands ≡ words → AreCopies commands → ArePlaced base words list → length list ≡ length words
placed-length base words list commands whole each are = ap length (are commands whole each) ∙ length-all base commands each ∙ ap length whole

-- what is decoded is that command
pub same-front : (words c : List ℕ) (begins : BeginsWithCopy words) → decoded words ≡ Ok (c, length c) → begins.command ≡ c
same-front words c begins is = first (begins.command, length begins.command) (c, length c) (sym begins.decodes ∙ is)
  where
    ok-same : (x y : List ℕ × ℕ) → (let r : Result (List ℕ × ℕ) Unlisted = Ok x in r ≡ Ok y) → x ≡ y
    ok-same x y same = cc

    first : (x y : List ℕ × ℕ) → (let r : Result (List ℕ × ℕ) Unlisted = Ok x in r ≡ Ok y) → x.0 ≡ y.0
    first x y same = ap (λ (p : List ℕ × ℕ). p.0) (ok-same x y same)

pub half-within : (base : ℕ) (words : List ℕ) (at : ℕ) (list : List ℕ) (commands : List (List ℕ)) → concat commands ≡ words → HalfPlaced base words at list commands → at ≤ length words
half-within base words at list commands whole half =
    let all = ap length (sym whole ∙ ap concat half.split ∙ concat-append half.before half.rest) ∙ length-append (concat half.before) (concat half.rest) in
    let here = half.at_is in
    omega arith
