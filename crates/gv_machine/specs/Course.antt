-- The course of a list of steps: what is left in the end, and what came of them, in order.
use Rattle.std.specs.Prelude.{List, [], ◌∷◌, ◌++◌}

pub record Course (S R : Type 0) : Type 0 where
  pub left : S
  pub came : List R

-- one course, and then another that goes on from where it ended
abbrev pub onto : {S R : Type 0} → Course S R → Course S R → Course S R
onto first rest = record { left = rest.left; came = first.came ++ rest.came }

abbrev pub play : {S E R : Type 0} → (S → E → Course S R) → S → List E → Course S R
play step s [] = record { left = s; came = [] }
play step s (e ∷ es) = onto (step s e) (play step (step s e).left es)
