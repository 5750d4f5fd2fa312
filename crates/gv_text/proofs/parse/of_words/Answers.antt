use Rattle.std.proofs.Common.{◌≡◌, ◌≤◌, ℕ, List, [], ◌∷◌, length, map, get_or, drop, refl, ap, ◌∙◌, arith}
use Rattle.std.proofs.lemmas.List.{take_rest}
use Rattle.std.specs.Borrow.{Bor}
use Rattle.gv_text.specs.Grammar.{more_words, line_of_words}
use Rattle.gv_text.proofs.ValueSteps.{no_slice}
use Rattle.gv_text.proofs.parse.of_words.Goals as goal

many_words : (xs : List (Bor (List ℕ))) (d : Bor (List ℕ)) → 6 ≤ length xs → more_words (get_or xs 0 d).now (get_or xs 1 d).now (get_or xs 2 d).now (map (λ w. w.now) (drop 3 xs)) ≡ line_of_words (map (λ w. w.now) xs)
many_words [] d many = absurd (omega arith)
many_words (a ∷ []) d many = absurd (omega arith)
many_words (a ∷ b ∷ []) d many = absurd (omega arith)
many_words (a ∷ b ∷ c ∷ []) d many = absurd (omega arith)
many_words (a ∷ b ∷ c ∷ e ∷ []) d many = absurd (omega arith)
many_words (a ∷ b ∷ c ∷ e ∷ f ∷ []) d many = absurd (omega arith)
many_words (a ∷ b ∷ c ∷ e ∷ f ∷ h ∷ xs) d many = refl

pub returns-in-len3-up-clause-value : goal.returns-in-len3-up-clause-value
returns-in-len3-up-clause-value c =
    let words = c.args.words.now in
    c.of_more_words.ensures.value
    ∙ ap (λ (ws : List (Bor (List ℕ))). more_words (get_or words 0 no_slice).now (get_or words 1 no_slice).now (get_or words 2 no_slice).now (map (λ w. w.now) ws)) (take_rest words 3)
    ∙ many_words words no_slice c.in-len3-up.len_at_least
