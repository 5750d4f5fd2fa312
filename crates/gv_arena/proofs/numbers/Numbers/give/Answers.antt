-- The number given was the last that could be given, and is now marked.
use Rattle.std.proofs.Common.{◌≡◌, ℕ, ◌++◌, ◌∷◌, [], true, false, length, get_or, ap, subst, ◌∙◌, arith, length-set}
use Rattle.std.proofs.lemmas.List.Sums.{sum_by-set}
use Rattle.std.proofs.lemmas.List.{length_push}
use Rattle.std.specs.Prelude.{cond}
use Rattle.std.specs.Option.{option_to_list}
use Rattle.gv_arena.specs.Numbers.{AreFree}
use Rattle.gv_arena.proofs.FreeNumbers.{one_given, given_within, given_unmarked}
use Rattle.gv_arena.proofs.numbers.Numbers.give.Goals as goal

pub invariant_of-self : goal.invariant_of-self
invariant_of-self c =
    let marks = c.self.inside.marks.items in
    let left = c.pop.new.self.items in
    let n = c.unwrap-number.result in
    let had : c.self.inside.free.items ≡ left ++ n ∷ [] = c.pop.ensures.items ∙ ap (λ o. left ++ option_to_list o) c.unwrap-number.ensures in
    let h : AreFree marks (left ++ n ∷ []) = subst (AreFree marks) had c.self.invariant.free in
    let counts = sum_by-set (λ mark. cond mark 1 0) marks n true false (given_within marks left n h) in
    let one : ℕ = 1 in let none : ℕ = 0 in let was : cond (get_or marks n false) one none ≡ none = ap (λ mark. cond mark one none) (given_unmarked marks left n h) in
    let one_less = ap length had ∙ length_push left n in
    record {
      free = one_given marks left n h;
      live = omega (arith, counts, was, c.self.invariant.live);
      all = omega (arith, one_less, c.self.invariant.all, length-set marks n true);
      room = omega (arith, length-set marks n true, c.self.invariant.room, c.pop.ensures.capacity);
      small = omega (arith, length-set marks n true, c.self.invariant.small);
    }
