-- What a fetch gives: each item may stand where it stands, and a batch ends with its end.
use Rattle.std.proofs.Common.{◌≡◌, ℕ, suc, zero, ◌+◌, ◌-◌, ◌*◌, ◌<◌, ◌≤◌, Bool, true, false, List, [], ◌∷◌, length, get_or, take, drop, leb, Option, None, Some, Result, Ok, Err, is_some, refl, ap, sym, subst, ◌∙◌, arith}
use Rattle.std.proofs.lemmas.List.{length-take-le, get_or-take}
use Rattle.std.proofs.lemmas.Bool.Decides.{nat_tests}
use Rattle.std.specs.Prelude.{IfSome}
use Rattle.std.specs.Bool.{MatchBool}
use Rattle.gv_types.specs.declared.reply.Reason.{Reason}
use Rattle.gv_types.specs.declared.reply.Reason.TheVariants.{Command}
use Rattle.gv_cmd.specs.Allowed.{is_allowed, may_stand}
use Rattle.gv_cmd.specs.Kind.{IsLength}
use Rattle.gv_cmd.specs.Table.{length_of, kind_of}
use Rattle.gv_cmd.specs.declared.kind.Kind.{Kind}
use Rattle.gv_cmd.specs.declared.kind.Kind.TheVariants.{BatchEnd, BatchStart}
use Rattle.gv_cmd.specs.declared.stands.Stands.{Stands}
use Rattle.gv_cmd.specs.declared.stands.Stands.TheVariants.{Ring, Privileged}
use Rattle.gv_cmd.proofs.Lengths.{length_of-form}
use Rattle.gv_fetch.specs.Items.{Items, none, command, batch, inside, is_fetched_start, is_end, MayStand, MayAllStand, start_at}
use Rattle.gv_fetch.specs.Fetch.{GlobalSpace, dwords, check, listed, then, by_kind, Got, batch_command, ring_command, command_first, batch_first, batch_items, whole_batch, ring_items}
use Rattle.gv_fetch.proofs.Readdressed.{SameStart, start_copied, allowed-same}
use Rattle.gv_fetch.proofs.Reading.{length-dwords, get-dwords}

-- ---- what an Ok says of its tests

pub record Then {A B : Type 0} (r : Result A Reason) (go : A → Result B Reason) (y : B) : Type 0 where
  pub x : A
  pub first : r ≡ Ok x
  pub second : go x ≡ Ok y

pub then-ok : {A B : Type 0} (r : Result A Reason) (go : A → Result B Reason) (y : B) → then r go ≡ Ok y → Then r go y
then-ok (Err reason) go y is = cc
then-ok (Ok x) go y is = record { x = x; first = refl; second = is }

pub check-ok : {A : Type 0} (b : Bool) (reason : Reason) (next : Result A Reason) (y : A) → check b reason next ≡ Ok y → (b ≡ true) × (next ≡ Ok y)
check-ok true reason next y is = (refl, is)
check-ok false reason next y is = cc

pub record Listed {A : Type 0} (o : Option ℕ) (next : ℕ → Result A Reason) (y : A) : Type 0 where
  pub n : ℕ
  pub first : o ≡ Some n
  pub second : next n ≡ Ok y

pub listed-ok : {A : Type 0} (o : Option ℕ) (next : ℕ → Result A Reason) (y : A) → listed o next ≡ Ok y → Listed o next y
listed-ok None next y is = cc
listed-ok (Some n) next y is = record { n = n; first = refl; second = is }

-- ---- commands

pub listed-some : (h n : ℕ) → length_of h ≡ Some n → 1 ≤ n
listed-some h n is = let P : Option ℕ → Type 0 = λ o. IfSome o IsLength in (subst P is (length_of-form h)).0

fits-some : (kind : Option Kind) (stands : Stands) (engine : ℕ) → may_stand kind stands engine ≡ true → is_some kind ≡ true
fits-some None stands engine may = cc
fits-some (Some kind) stands engine may = refl

-- a command that passed its tests: it may stand there, and has so many dwords
pub record Passed (stands : Stands) (engine : ℕ) (ws : List ℕ) (n : ℕ) : Type 0 where
  pub may : MayStand stands engine ws
  pub long : length ws ≡ n
  pub some : 1 ≤ n

passed : (stands : Stands) (engine : ℕ) (ws : List ℕ) (h n : ℕ) → get_or ws 0 0 ≡ h → length ws ≡ n → length_of h ≡ Some n → is_allowed ws stands engine ≡ true → Passed stands engine ws n
passed stands engine ws h n header long names may = record {
  may = record {
    command = record { length = ap length_of header ∙ names ∙ ap Some (sym long); kind = fits-some (kind_of ws) stands engine may };
    allowed = may;
  };
  long = long;
  some = listed-some h n names;
}

pub record InBatch (space : GlobalSpace) (engine : ℕ) (stands : Stands) (at budget : ℕ) (ws : List ℕ) : Type 0 where
  pub passed : Passed stands engine ws (length ws)
  pub words : ws ≡ dwords space.word at (length ws)
  pub few : length ws ≤ budget

below : (n m : ℕ) → leb n m ≡ true → n ≤ m
below n m h = grind (arith, nat_tests)

ok-same : (x y : List ℕ) → (let r : Result (List ℕ) Reason = Ok x in r ≡ Ok y) → x ≡ y
ok-same x y is = cc

in-batch : (space : GlobalSpace) (engine : ℕ) (stands : Stands) (at budget : ℕ) (ws : List ℕ) (n : ℕ) → length_of (space.word at) ≡ Some n → is_allowed (dwords space.word at n) stands engine ≡ true → leb n budget ≡ true → dwords space.word at n ≡ ws → InBatch space engine stands at budget ws
in-batch space engine stands at budget ws n names may enough same =
    let long : length ws ≡ n = ap length (sym same) ∙ length-dwords space.word at n in
    let some = listed-some (space.word at) n names in
    let first : 0 < n = omega arith in
    let zero_at : at + 4 * 0 ≡ at = omega arith in
    let header : get_or ws 0 0 ≡ space.word at = ap (λ xs. get_or xs 0 0) (sym same) ∙ get-dwords space.word at n 0 first ∙ ap space.word zero_at in
    let p = passed stands engine ws (space.word at) n header long names (ap (λ xs. is_allowed xs stands engine) (sym same) ∙ may) in
    record {
      passed = let P : ℕ → Type 0 = λ k. Passed stands engine ws k in subst P (sym long) p;
      words = sym same ∙ ap (dwords space.word at) (sym long);
      few = let h = below n budget enough in omega arith;
    }

pub batch_command-ok : (space : GlobalSpace) (engine : ℕ) (stands : Stands) (at budget : ℕ) (ws : List ℕ) → batch_command space engine stands at budget ≡ Ok ws → InBatch space engine stands at budget ws
batch_command-ok space engine stands at budget ws is =
    let a = check-ok _ _ _ ws is in
    let b = listed-ok _ _ ws a.1 in
    let c = check-ok _ _ _ ws b.second in
    let d = check-ok _ _ _ ws c.1 in
    let e = check-ok _ _ _ ws d.1 in
    let f = check-ok _ _ _ ws e.1 in
    in-batch space engine stands at budget ws b.n b.first d.0 e.0 (ok-same (dwords space.word at b.n) ws f.1)

pub record InRing (space : GlobalSpace) (engine : ℕ) (ring ws : List ℕ) : Type 0 where
  pub passed : Passed Ring engine ws (length ws)
  pub words : ws ≡ take (length ws) ring
  pub few : length ws ≤ length ring

in-ring : (space : GlobalSpace) (engine : ℕ) (ring ws : List ℕ) (n : ℕ) → length_of (get_or ring 0 0) ≡ Some n → leb n (length ring) ≡ true → is_allowed (take n ring) Ring engine ≡ true → take n ring ≡ ws → InRing space engine ring ws
in-ring space engine ring ws n names enough may same =
    let within = below n (length ring) enough in
    let long : length ws ≡ n = ap length (sym same) ∙ length-take-le n ring within in
    let some = listed-some (get_or ring 0 0) n names in
    let first : 0 < n = omega arith in
    let header : get_or ws 0 0 ≡ get_or ring 0 0 = ap (λ xs. get_or xs 0 0) (sym same) ∙ get_or-take n ring 0 0 first in
    let p = passed Ring engine ws (get_or ring 0 0) n header long names (ap (λ xs. is_allowed xs Ring engine) (sym same) ∙ may) in
    record {
      passed = let P : ℕ → Type 0 = λ k. Passed Ring engine ws k in subst P (sym long) p;
      words = sym same ∙ ap (λ k. take k ring) (sym long);
      few = omega arith;
    }

pub ring_command-ok : (space : GlobalSpace) (engine : ℕ) (ring ws : List ℕ) → ring_command space engine ring ≡ Ok ws → InRing space engine ring ws
ring_command-ok space engine ring ws is =
    let b = listed-ok _ _ ws is in
    let c = check-ok _ _ _ ws b.second in
    let d = check-ok _ _ _ ws c.1 in
    let f = check-ok _ _ _ ws d.1 in
    in-ring space engine ring ws b.n b.first c.0 d.0 (ok-same (take b.n ring) ws f.1)

-- ---- items

-- the start of a fetched batch may stand where it stands, whatever its address
module _ (stands : Stands) (engine : ℕ) (ws : List ℕ) (may : MayStand stands engine ws) (is : is_fetched_start (kind_of ws) ≡ true) where
  same : SameStart ws (start_at ws 0) 0
  same = start_copied ws 0 refl may.command is

  bare-may : MayStand stands engine (start_at ws 0)
  bare-may = record { command = same.command; allowed = allowed-same ws (start_at ws 0) 0 same stands engine ∙ may.allowed }

  bare-starts : is_fetched_start (kind_of (start_at ws 0)) ≡ true
  bare-starts = ap is_fetched_start same.copy

got-items : (items : Items) (budget : ℕ) (got : Got) → (let r : Result Got Reason = Ok record { items = items; budget = budget } in r ≡ Ok got) → items ≡ got.items
got-items items budget got is = ap (λ (g : Got). g.items) (ok-got (record { items = items; budget = budget }) got is)
  where
    ok-got : (x y : Got) → (let r : Result Got Reason = Ok x in r ≡ Ok y) → x ≡ y
    ok-got x y is = cc

module _ (space : GlobalSpace) (engine : ℕ) where
  -- all that is fetched by so many commands may stand where it stands
  abbrev pub Forms : ℕ → Type 0
  Forms n = (stands : Stands) (at budget : ℕ) (got : Got) → batch_items n space engine stands at budget ≡ Ok got → MayAllStand stands engine got.items

  module _ (n : ℕ) (forms : Forms n) (stands : Stands) (at budget : ℕ) (got : Got) (ws : List ℕ) (may : MayStand stands engine ws) where
    by-kind : (k : Option Kind) → kind_of ws ≡ k
        → by_kind k
        (λ to. then (batch_items n space engine (inside stands) to (budget - length ws)) (λ got.
        then (batch_items n space engine stands (at + 4 * length ws) got.budget) (batch_first ws got.items)))
        (Ok record { items = command ws none; budget = budget - length ws })
        (then (batch_items n space engine stands (at + 4 * length ws) (budget - length ws)) (command_first ws))
        ≡ Ok got
        → MayAllStand stands engine got.items
    by-kind (Some (BatchStart false second to)) is e =
        let a = then-ok (batch_items n space engine (inside stands) to (budget - length ws)) _ got e in
        let b = then-ok (batch_items n space engine stands (at + 4 * length ws) a.x.budget) _ got a.second in
        let items = got-items (batch (start_at ws 0) a.x.items b.x.items) b.x.budget got b.second in
        subst (MayAllStand stands engine) items
        (bare-may stands engine ws may (ap is_fetched_start is), bare-starts stands engine ws may (ap is_fetched_start is), forms (inside stands) to (budget - length ws) a.x a.first, forms stands (at + 4 * length ws) a.x.budget b.x b.first, refl)
    by-kind (Some BatchEnd) is e =
        let items = got-items (command ws none) (budget - length ws) got e in
        let last : MatchBool (is_end (kind_of ws)) (none ≡ none) (MayAllStand stands engine none) =
        (let P : Option Kind → Type 0 = λ k. MatchBool (is_end k) (none ≡ none) (MayAllStand stands engine none) in let here : P (Some BatchEnd) = refl in subst P (sym is) here) in
        subst (MayAllStand stands engine) items (may, ap is_fetched_start is, last)
    by-kind k is e =
        let a = then-ok (batch_items n space engine stands (at + 4 * length ws) (budget - length ws)) _ got e in
        let items = got-items (command ws a.x.items) a.x.budget got a.second in
        let rest = forms stands (at + 4 * length ws) (budget - length ws) a.x a.first in
        let more : MatchBool (is_end (kind_of ws)) (a.x.items ≡ none) (MayAllStand stands engine a.x.items) =
        (let P : Option Kind → Type 0 = λ k. MatchBool (is_end k) (a.x.items ≡ none) (MayAllStand stands engine a.x.items) in subst P (sym is) rest) in
        subst (MayAllStand stands engine) items (may, ap is_fetched_start is, more)

  pub batch-forms : (n : ℕ) → Forms n
  unfolding batch_items
  batch-forms zero stands at budget got e = cc
  batch-forms (suc n) stands at budget got e =
      let a = then-ok (batch_command space engine stands at budget) _ got e in
      let c = batch_command-ok space engine stands at budget a.x a.first in
      by-kind n (batch-forms n) stands at budget got a.x c.passed.may (kind_of a.x) refl a.second

  ring-by-kind : (n : ℕ) (ring : List ℕ) (budget : ℕ) (got : Got) (ws : List ℕ) → MayStand Ring engine ws
      → ((more : List ℕ) (left : ℕ) (g : Got) → ring_items n space engine more left ≡ Ok g → MayAllStand Ring engine g.items)
      → (k : Option Kind) → kind_of ws ≡ k
      → by_kind k
      (λ to. then (whole_batch space engine Privileged to budget) (λ got.
      then (ring_items n space engine (drop (length ws) ring) got.budget) (batch_first ws got.items)))
      (Err Command)
      (then (ring_items n space engine (drop (length ws) ring) budget) (command_first ws))
      ≡ Ok got
      → MayAllStand Ring engine got.items
  ring-by-kind n ring budget got ws may forms (Some (BatchStart false second to)) is e =
      let a = then-ok (whole_batch space engine Privileged to budget) _ got e in
      let b = then-ok (ring_items n space engine (drop (length ws) ring) a.x.budget) _ got a.second in
      let items = got-items (batch (start_at ws 0) a.x.items b.x.items) b.x.budget got b.second in
      subst (MayAllStand Ring engine) items
      (bare-may Ring engine ws may (ap is_fetched_start is), bare-starts Ring engine ws may (ap is_fetched_start is), batch-forms (suc budget) Privileged to budget a.x a.first, forms (drop (length ws) ring) a.x.budget b.x b.first, refl)
  ring-by-kind n ring budget got ws may forms (Some BatchEnd) is e = cc
  ring-by-kind n ring budget got ws may forms k is e =
      let a = then-ok (ring_items n space engine (drop (length ws) ring) budget) _ got e in
      let items = got-items (command ws a.x.items) a.x.budget got a.second in
      let rest = forms (drop (length ws) ring) budget a.x a.first in
      let more : MatchBool (is_end (kind_of ws)) (a.x.items ≡ none) (MayAllStand Ring engine a.x.items) =
      (let P : Option Kind → Type 0 = λ k. MatchBool (is_end k) (a.x.items ≡ none) (MayAllStand Ring engine a.x.items) in subst P (sym is) rest) in
      subst (MayAllStand Ring engine) items (may, ap is_fetched_start is, more)

  -- all that is fetched of a ring may stand where it stands
  pub ring-forms : (n : ℕ) (ring : List ℕ) (budget : ℕ) (got : Got) → ring_items n space engine ring budget ≡ Ok got → MayAllStand Ring engine got.items
  unfolding ring_items
  ring-forms n [] budget got e = subst (MayAllStand Ring engine) (got-items none budget got e) refl
  ring-forms zero (x ∷ ring) budget got e = cc
  ring-forms (suc n) (x ∷ ring) budget got e =
      let a = then-ok (ring_command space engine (x ∷ ring)) _ got e in
      let c = ring_command-ok space engine (x ∷ ring) a.x a.first in
      ring-by-kind n (x ∷ ring) budget got a.x c.passed.may (λ more left g is. ring-forms n more left g is) (kind_of a.x) refl a.second
