-- How a command is kept, and what is at the front of a list of dwords.
use Rattle.std.proofs.Common.{◌≡◌, ℕ, ◌-◌, ◌≤◌, Bool, true, ◌&&◌, List, ◌++◌, length, take, get_or, replicate, is_some, Some, Ok, Err, cond, ap, sym, ◌∙◌, subst, arith, leb, length-append}
use Rattle.std.proofs.Math.Seq.{take-append_seam}
use Rattle.std.proofs.Math.ListN.{get_or-append}
use Rattle.std.proofs.lemmas.List.{get_or-take, length-take}
use Rattle.std.proofs.lemmas.Bool.Decides.{nat_tests}
use Rattle.gv_cmd.specs.Table.{length_of, kind_of}
use Rattle.gv_cmd.specs.Padded.{padded}
use Rattle.gv_cmd.specs.Command.{IsCommand, decoded_by, decoded}
use Rattle.gv_cmd.specs.Kept.{IsKept}
use Rattle.gv_cmd.specs.declared.command.Command.TheInside.{Inside}

pub take-padded : (ws : List ℕ) (n : ℕ) → n ≡ length ws → take n (padded ws) ≡ ws
unfolding padded
take-padded ws n h = ap (λ k. take k (ws ++ replicate (65 - length ws) 0)) h ∙ take-append_seam ws (replicate (65 - length ws) 0)

-- the fields that a command is made of
module _ (c : Inside) (ws : List ℕ) (words : c.words ≡ padded ws) (count : c.count ≡ length ws) where
  pub view_made : take c.count c.words ≡ ws
  view_made = ap (take c.count) words ∙ take-padded ws c.count count

  pub kept_made : IsCommand ws → IsKept c
  kept_made command = record {
    padded = words ∙ ap padded (sym view_made);
    count = ap length view_made ∙ sym count;
    command = subst IsCommand (sym view_made) command;
  }

both : (n m : ℕ) (b : Bool) → n ≤ m → b ≡ true → (leb n m && b) ≡ true
both n m b h e = grind (arith, nat_tests)

-- a header that names a length, so many dwords, and fields that fit
module _ (ws : List ℕ) (n : ℕ) (named : length_of (get_or ws 0 0) ≡ Some n) (some : 1 ≤ n) (within : n ≤ length ws) (fits : is_some (kind_of (take n ws)) ≡ true) where
  long : length (take n ws) ≡ n
  long = simp length-take (omega arith)

  pub front_command : IsCommand (take n ws)
  front_command = record {
    length = ap length_of (get_or-take n ws 0 0 some) ∙ named ∙ ap (λ k. Some k) (sym long);
    kind = fits;
  }

  pub decoded_is : decoded ws ≡ Ok (take n ws, n)
  decoded_is = ap (λ o. decoded_by o ws) named ∙ ap (λ b. cond b (Ok (take n ws, n)) (Err record {})) (both n (length ws) (is_some (kind_of (take n ws))) within fits)

-- a command stands for itself, whatever follows
pub decoded-append : (ws rest : List ℕ) → 1 ≤ length ws → IsCommand ws → decoded (ws ++ rest) ≡ Ok (ws, length ws)
decoded-append ws rest some command =
    let own = take-append_seam ws rest in
    decoded_is (ws ++ rest) (length ws)
    (ap length_of (get_or-append ws rest 0 0 some) ∙ command.length)
    some
    (rw length-append (omega arith))
    (ap (λ xs. is_some (kind_of xs)) own ∙ command.kind)
    ∙ ap (λ xs. Ok (xs, length ws)) own

pub decoded-own : (ws : List ℕ) (n : ℕ) (own rest : List ℕ) → own ≡ take n ws → 1 ≤ n → n ≤ length ws → IsCommand (take n ws) → decoded (own ++ rest) ≡ Ok (own, n)
decoded-own ws n own rest is some within command =
    let long : length own ≡ n = ap length is ∙ simp length-take (omega arith) in
    decoded-append own rest (omega arith) (subst IsCommand (sym is) command) ∙ ap (λ k. Ok (own, k)) long
