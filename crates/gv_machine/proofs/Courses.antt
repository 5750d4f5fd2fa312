-- Courses, one after another.
use Rattle.std.proofs.Common.{◌≡◌, List, [], ◌∷◌, ◌++◌, refl, ap, sym, ◌∙◌}
use Rattle.std.proofs.lemmas.List.{append_assoc, append-nil}
use Rattle.gv_machine.specs.Course.{Course, onto, play}

module _ {S R : Type 0} where
  pub onto-assoc : (a b c : Course S R) → onto (onto a b) c ≡ onto a (onto b c)
  onto-assoc a b c = λ i. record { left = c.left; came = append_assoc a.came b.came c.came i }

  pub onto-ended : (a : Course S R) → onto a (record { left = a.left; came = [] }) ≡ a
  onto-ended a = λ i. record { left = a.left; came = append-nil a.came i }

module _ {S E R : Type 0} (step : S → E → Course S R) where
  pub play-append : (s : S) (xs ys : List E) → play step s (xs ++ ys) ≡ onto (play step s xs) (play step (play step s xs).left ys)
  play-append s [] ys = refl
  play-append s (x ∷ xs) ys =
      ap (onto (step s x)) (play-append (step s x).left xs ys)
      ∙ sym (onto-assoc (step s x) (play step (step s x).left xs) (play step (play step (step s x).left xs).left ys))
