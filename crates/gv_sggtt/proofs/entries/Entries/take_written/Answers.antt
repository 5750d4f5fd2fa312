use Rattle.std.proofs.Common.{◌≡◌, get_or, ap, ◌++◌, ◌∷◌, [], List, ℕ, length, replicate, MatchOption, Option, set, sym, ◌∙◌, subst, arith, refl}
use Rattle.std.proofs.lemmas.List.{length-set, get_or_read}
use Rattle.gv_sggtt.specs.Entries.{AreWritten, Kept}
use Rattle.gv_sggtt.proofs.WrittenSlots.{taken-there, written-taken, all-zero}
use Rattle.gv_sggtt.proofs.entries.Entries.take_written.Goals as goal

nothing : (xs : List ℕ) → length xs ≡ 0 → xs ≡ []
nothing [] is = refl
nothing (x ∷ xs) is = absurd (omega arith)

pub returns-in_err-slot-clause-values : goal.returns-in_err-slot-clause-values
returns-in_err-slot-clause-values c =
    let inside = c.self.inside in
    let none : inside.written.items ≡ [] = nothing inside.written.items (sym inside.written.ok.0 ∙ c.in_err-slot.ensures.cases.0) in
    let w : AreWritten inside.values.items [] inside.is_written.items = subst (λ (written : List ℕ). AreWritten inside.values.items written inside.is_written.items) none c.self.invariant.0 in
    let zero = subst (λ (s : Kept). s.values ≡ replicate (length s.values) 0) c.self.view_is (all-zero inside.values.items inside.is_written.items w) in
    subst (λ (taken : Option (ℕ × ℕ)). MatchOption taken (c.args.self.now.values ≡ replicate (length c.args.self.now.values) 0) (λ taken. inside.values.items ≡ set c.args.self.now.values taken.0 0)) (sym c.from_residual.ensures) zero

pub invariant_of-self-2 : goal.invariant_of-self-2
invariant_of-self-2 c =
    let inside = c.self.inside in
    let items : inside.written.items ≡ c.pop.new.self.items ++ c.in_ok-slot.slot ∷ [] = c.in_ok-slot.ensures.items in
    let w = subst (λ (written : List ℕ). AreWritten inside.values.items written inside.is_written.items) items c.self.invariant.0 in (
      written-taken inside.values.items c.pop.new.self.items c.in_ok-slot.slot inside.is_written.items w,
      rw length-set (omega (arith, c.self.invariant.1, c.in_ok-slot.ensures.capacity)),
    )

pub returns-clause-entry : goal.returns-clause-entry
returns-clause-entry c =
    let inside = c.self.inside in
    let items : inside.written.items ≡ c.pop.new.self.items ++ c.in_ok-slot.slot ∷ [] = c.in_ok-slot.ensures.items in
    let w = subst (λ (written : List ℕ). AreWritten inside.values.items written inside.is_written.items) items c.self.invariant.0 in
    let there = taken-there inside.values.items c.pop.new.self.items c.in_ok-slot.slot inside.is_written.items w in
    get_or_read inside.values.items c.in_ok-slot.slot _ there c.index-entry.ensures 0 ∙ ap (λ (s : Kept). get_or s.values c.in_ok-slot.slot 0) c.self.view_is
