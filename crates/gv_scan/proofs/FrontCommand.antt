-- The tests of a command, one after the other.
use Rattle.std.proofs.Common.{◌≡◌, ℕ, ◌+◌, ◌*◌, ◌/◌, ◌<◌, ◌≤◌, ◌&&◌, Bool, true, false, List, length, get_or, take, leb, cond, Option, None, Some, Result, Ok, Err, is_some, refl, ap, sym, ◌∙◌, arith}
use Rattle.std.proofs.lemmas.List.{take_all}
use Rattle.std.proofs.lemmas.Bool.Decides.{nat_tests}
use Rattle.std.specs.Prelude.{MatchOption}
use Rattle.gv_types.specs.declared.reply.Reason.{Reason}
use Rattle.gv_types.specs.declared.reply.Reason.TheVariants.{Command, Range, Size}
use Rattle.gv_cmd.specs.Allowed.{is_allowed, may_stand}
use Rattle.gv_cmd.specs.Command.{decoded_by, decoded}
use Rattle.gv_cmd.specs.Table.{length_of, kind_of}
use Rattle.gv_cmd.specs.declared.command.Unlisted.{Unlisted}
use Rattle.gv_cmd.specs.declared.kind.Kind.{Kind}
use Rattle.gv_cmd.specs.declared.stands.Stands.{Stands}
use Rattle.gv_cmd.specs.declared.stands.Stands.TheVariants.{Ring}
use Rattle.gv_fetch.specs.Fetch.{GlobalSpace, dwords, owns_dwords, owns_operands, check, listed, batch_command, ring_command}
use Rattle.gv_fetch.proofs.Reading.{length-dwords, get-dwords}
use Rattle.gv_fetch.proofs.Forms.{listed-some}

module _ (space : GlobalSpace) (engine : ℕ) (stands : Stands) (at budget n : ℕ) (own : space.owned (at / 4096) ≡ true) (named : length_of (space.word at) ≡ Some n) (owns : owns_dwords space at n ≡ true) where
  abbrev ws : List ℕ
  ws = dwords space.word at n

  abbrev last : Bool → Result (List ℕ) Reason
  last fits = check fits Range (Ok ws)

  abbrev sized : Bool → Bool → Result (List ℕ) Reason
  sized few fits = check few Size (last fits)

  pub listed-there : batch_command space engine stands at budget ≡ check (is_allowed ws stands engine) Command (sized (leb n budget) (owns_operands space ws))
  listed-there =
      ap (λ b. check b Range (listed (length_of (space.word at)) (λ k. check (owns_dwords space at k) Range (check (is_allowed (dwords space.word at k) stands engine) Command (check (leb k budget) Size (check (owns_operands space (dwords space.word at k)) Range (Ok (dwords space.word at k)))))))) own
      ∙ ap (λ o. listed o (λ k. check (owns_dwords space at k) Range (check (is_allowed (dwords space.word at k) stands engine) Command (check (leb k budget) Size (check (owns_operands space (dwords space.word at k)) Range (Ok (dwords space.word at k))))))) named
      ∙ ap (λ b. check b Range (check (is_allowed ws stands engine) Command (sized (leb n budget) (owns_operands space ws)))) owns

  pub not-allowed : is_allowed ws stands engine ≡ false → batch_command space engine stands at budget ≡ Err Command
  not-allowed denied = listed-there ∙ ap (λ b. check b Command (sized (leb n budget) (owns_operands space ws))) denied

  too_many : budget < n → leb n budget ≡ false
  too_many h = grind (arith, nat_tests)

  few_enough : n ≤ budget → leb n budget ≡ true
  few_enough h = grind (arith, nat_tests)

  pub too-long : is_allowed ws stands engine ≡ true → budget < n → batch_command space engine stands at budget ≡ Err Size
  too-long may more =
      listed-there ∙ ap (λ b. check b Command (sized (leb n budget) (owns_operands space ws))) may ∙ ap (λ b. sized b (owns_operands space ws)) (too_many more)

  pub tested : is_allowed ws stands engine ≡ true → n ≤ budget → batch_command space engine stands at budget ≡ check (owns_operands space ws) Range (Ok ws)
  tested may few =
      listed-there ∙ ap (λ b. check b Command (sized (leb n budget) (owns_operands space ws))) may ∙ ap (λ b. sized b (owns_operands space ws)) (few_enough few)

  pub operand-away : is_allowed ws stands engine ≡ true → n ≤ budget → owns_operands space ws ≡ false → batch_command space engine stands at budget ≡ Err Range
  operand-away may few away = tested may few ∙ ap last away

  pub all-passed : is_allowed ws stands engine ≡ true → n ≤ budget → owns_operands space ws ≡ true → batch_command space engine stands at budget ≡ Ok ws
  all-passed may few here = tested may few ∙ ap last here

  pub unlisted : kind_of ws ≡ None → batch_command space engine stands at budget ≡ Err Command
  unlisted none = not-allowed (ap (λ k. may_stand k stands engine) none)

pub owned-dwords : (space : GlobalSpace) (engine : ℕ) (stands : Stands) (at budget n : ℕ) → space.owned (at / 4096) ≡ true → length_of (space.word at) ≡ Some n → owns_dwords space at n ≡ false → batch_command space engine stands at budget ≡ Err Range
owned-dwords space engine stands at budget n own named away =
    ap (λ b. check b Range (listed (length_of (space.word at)) (λ k. check (owns_dwords space at k) Range (check (is_allowed (dwords space.word at k) stands engine) Command (check (leb k budget) Size (check (owns_operands space (dwords space.word at k)) Range (Ok (dwords space.word at k)))))))) own
    ∙ ap (λ o. listed o (λ k. check (owns_dwords space at k) Range (check (is_allowed (dwords space.word at k) stands engine) Command (check (leb k budget) Size (check (owns_operands space (dwords space.word at k)) Range (Ok (dwords space.word at k))))))) named
    ∙ ap (λ b. check b Range (check (is_allowed (dwords space.word at n) stands engine) Command (check (leb n budget) Size (check (owns_operands space (dwords space.word at n)) Range (Ok (dwords space.word at n)))))) away

ok-pair : (ys c : List ℕ) (n m : ℕ) → (let r : Result (List ℕ × ℕ) Unlisted = Ok (ys, n) in r ≡ Ok (c, m)) → c ≡ ys
ok-pair ys c n m is = sym (ap (λ (x : List ℕ × ℕ). x.0) (ok-inside (ys, n) (c, m) is))
  where
    ok-inside : (x y : List ℕ × ℕ) → (let r : Result (List ℕ × ℕ) Unlisted = Ok x in r ≡ Ok y) → x ≡ y
    ok-inside x y is = cc

ok-not-err : (ys c : List ℕ) (n m : ℕ) → (let r : Result (List ℕ × ℕ) Unlisted = Err record {} in r ≡ Ok (c, m)) → ⊥
ok-not-err ys c n m is = cc

-- what is decoded of dwords whose header names their number
module _ (word : ℕ → ℕ) (at n : ℕ) (named : length_of (word at) ≡ Some n) where
  abbrev xs : List ℕ
  xs = dwords word at n

  header : get_or xs 0 0 ≡ word at
  header =
      let first : 0 < n = listed-some (word at) n named in
      let e : at + 4 * 0 ≡ at = omega arith in
      get-dwords word at n 0 first ∙ ap word e

  whole : take n xs ≡ xs
  whole = let l = length-dwords word at n in let e : length xs ≤ n = omega arith in take_all n xs e

  enough : leb n (length xs) ≡ true
  enough = let l = length-dwords word at n in let e : n ≤ length xs = omega arith in grind (arith, nat_tests)

  abbrev by_kind : Bool → List ℕ → Bool → Result (List ℕ × ℕ) Unlisted
  by_kind b ys some = cond (b && some) (Ok (ys, n)) (Err record {})

  pub decoded-dwords : decoded xs ≡ by_kind true xs (is_some (kind_of xs))
  decoded-dwords =
      ap (λ h. decoded_by (length_of h) xs) header
      ∙ ap (λ o. decoded_by o xs) named
      ∙ ap (λ b. by_kind b (take n xs) (is_some (kind_of (take n xs)))) enough
      ∙ ap (λ ys. by_kind true ys (is_some (kind_of ys))) whole

  none-of : (k : Option Kind) (b : Bool) → is_some k ≡ b → b ≡ false → k ≡ None
  none-of None b is nothing = refl
  none-of (Some k) b is nothing = cc

  undecoded : (b : Bool) (e : Unlisted) → by_kind true xs b ≡ Err e → b ≡ false
  undecoded true e is = cc
  undecoded false e is = refl

  pub kind-none : (e : Unlisted) → decoded xs ≡ Err e → kind_of xs ≡ None
  kind-none e is = none-of (kind_of xs) (is_some (kind_of xs)) refl (undecoded (is_some (kind_of xs)) e (sym decoded-dwords ∙ is))

  same_by : (b : Bool) (c : List ℕ) (m : ℕ) → by_kind true xs b ≡ Ok (c, m) → c ≡ xs
  same_by true c m is = ok-pair xs c n m is
  same_by false c m is = absurd (ok-not-err xs c n m is)

  pub command-same : (c : List ℕ) (m : ℕ) → decoded xs ≡ Ok (c, m) → c ≡ xs
  command-same c m is = same_by (is_some (kind_of xs)) c m (sym decoded-dwords ∙ is)

  pub at-front : (o : Option (List ℕ)) → MatchOption o (decoded xs ≡ Err record {}) (λ c. decoded xs ≡ Ok (c, length c)) → MatchOption o (kind_of xs ≡ None) (λ c. c ≡ xs)
  at-front None is = kind-none record {} is
  at-front (Some c) is = command-same c (length c) is

-- ---- the ring

module _ (space : GlobalSpace) (engine : ℕ) (ring : List ℕ) where
  abbrev behind : List ℕ → Result (List ℕ) Reason
  behind c = check (is_allowed c Ring engine) Command (check (owns_operands space c) Range (Ok c))

  abbrev from : Option ℕ → Result (List ℕ) Reason
  from o = listed o (λ n. check (leb n (length ring)) Command (behind (take n ring)))

  abbrev front_if : Bool → Bool → ℕ → Result (List ℕ × ℕ) Unlisted
  front_if b some n = cond (b && some) (Ok (take n ring, n)) (Err record {})

  no-kind : (k : Option Kind) → is_some k ≡ false → may_stand k Ring engine ≡ false
  no-kind None is = refl
  no-kind (Some k) is = cc

  err-by : (n : ℕ) (b some : Bool) (e : Unlisted) → is_some (kind_of (take n ring)) ≡ some → front_if b some n ≡ Err e → check b Command (behind (take n ring)) ≡ Err Command
  err-by n false some e is h = refl
  err-by n true true e is h = cc
  err-by n true false e is h = ap (λ b. check b Command (check (owns_operands space (take n ring)) Range (Ok (take n ring)))) (no-kind (kind_of (take n ring)) is)

  err-from : (o : Option ℕ) (e : Unlisted) → decoded_by o ring ≡ Err e → from o ≡ Err Command
  err-from None e is = refl
  err-from (Some n) e is = err-by n (leb n (length ring)) (is_some (kind_of (take n ring))) e refl is

  pub ring-unlisted : (e : Unlisted) → decoded ring ≡ Err e → ring_command space engine ring ≡ Err Command
  ring-unlisted e is = err-from (length_of (get_or ring 0 0)) e is

  ok-by : (n : ℕ) (b some : Bool) (c : List ℕ) (m : ℕ) → front_if b some n ≡ Ok (c, m) → check b Command (behind (take n ring)) ≡ behind c
  ok-by n true true c m is = ap behind (sym (ok-pair (take n ring) c n m is))
  ok-by n true false c m is = absurd (ok-not-err ring c n m is)
  ok-by n false some c m is = absurd (ok-not-err ring c n m is)

  ok-from : (o : Option ℕ) (c : List ℕ) (m : ℕ) → decoded_by o ring ≡ Ok (c, m) → from o ≡ behind c
  ok-from None c m is = absurd (ok-not-err ring c 0 m is)
  ok-from (Some n) c m is = ok-by n (leb n (length ring)) (is_some (kind_of (take n ring))) c m is

  pub ring-listed : (c : List ℕ) (m : ℕ) → decoded ring ≡ Ok (c, m) → ring_command space engine ring ≡ behind c
  ring-listed c m is = ok-from (length_of (get_or ring 0 0)) c m is

  pub ring-denied : (c : List ℕ) (m : ℕ) → decoded ring ≡ Ok (c, m) → is_allowed c Ring engine ≡ false → ring_command space engine ring ≡ Err Command
  ring-denied c m is denied = ring-listed c m is ∙ ap (λ b. check b Command (check (owns_operands space c) Range (Ok c))) denied

  pub ring-away : (c : List ℕ) (m : ℕ) → decoded ring ≡ Ok (c, m) → is_allowed c Ring engine ≡ true → owns_operands space c ≡ false → ring_command space engine ring ≡ Err Range
  ring-away c m is may away = ring-listed c m is ∙ ap (λ b. check b Command (check (owns_operands space c) Range (Ok c))) may ∙ ap (λ b. check b Range (Ok c)) away

  pub ring-passed : (c : List ℕ) (m : ℕ) → decoded ring ≡ Ok (c, m) → is_allowed c Ring engine ≡ true → owns_operands space c ≡ true → ring_command space engine ring ≡ Ok c
  ring-passed c m is may here = ring-listed c m is ∙ ap (λ b. check b Command (check (owns_operands space c) Range (Ok c))) may ∙ ap (λ b. check b Range (Ok c)) here
