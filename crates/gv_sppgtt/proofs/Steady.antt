-- Nodes that stay keep their pages, where the same ones are there.
use Rattle.std.proofs.Common.{ℕ, ◌+◌, ◌≡◌, Option, None, Some, is_some, Result, Ok, Err, refl, sym, ap, ◌∙◌, subst, arith}
use Rattle.std.specs.Result.{OnOk}
use Rattle.std.proofs.lemmas.Bool.Decides.{nat_tests}
use Rattle.gv_shape.specs.Shadow.{Pages}
use Rattle.gv_shape.specs.Counts.{above, rank}
use Rattle.gv_sppgtt.specs.Grown.{KeepPlaces}
use Rattle.gv_sppgtt.specs.State.{is_table, pages_of}
use Rattle.gv_sppgtt.specs.Serving.{guarded_of}
use Rattle.gv_sppgtt.specs.declared.tables.Tables.{Tables}

pub above-rank : (k : ℕ) → above k ≡ rank k + 1
above-rank k = grind (arith, nat_tests)

pub same-page : (before after : Option ℕ) → is_some after ≡ is_some before → ((p q : ℕ) → before ≡ Some p → after ≡ Some q → q ≡ p) → after ≡ before
same-page None None same kept = refl
same-page None (Some q) same kept = cc
same-page (Some p) None same kept = cc
same-page (Some p) (Some q) same kept = ap (λ n. Some n) (kept p q refl refl)

-- first nodes were made, and then some dropped
pub keep-places : (before mid after : Pages) → ((k f p : ℕ) → before k f ≡ Some p → mid k f ≡ Some p) → ((k f p : ℕ) → after k f ≡ Some p → mid k f ≡ Some p) → KeepPlaces before after
keep-places before mid after kept within k f p q was is = let e : Some q ≡ Some p = sym (within k f q is) ∙ kept k f p was in cc

-- of a result's two facts, a third
pub on_both : {T E A B C : Type 0} (r : Result T E) → (A → B → C) → OnOk r A → OnOk r B → OnOk r C
on_both (Ok x) give a b = give a b
on_both (Err e) give a b = a

-- tables that are as before tell no more than before
pub known-as : (t u : Tables) → u ≡ t → ((q : ℕ) → guarded_of t q ≡ is_table (pages_of t) q) → (q : ℕ) → guarded_of u q ≡ is_table (pages_of u) q
known-as t u same known q = subst (λ (x : Tables). guarded_of x q ≡ is_table (pages_of x) q) (sym same) (known q)
