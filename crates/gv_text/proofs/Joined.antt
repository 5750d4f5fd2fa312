-- Words that a separator joins.
use Rattle.std.proofs.Common.{◌≡◌, ℕ, List, [], ◌∷◌, ◌++◌, refl, ap, sym, ◌∙◌}
use Rattle.std.proofs.lemmas.List.{append_assoc}
use Rattle.std.specs.List.{join_with_byte}

pub join_with_byte-push : (c : ℕ) (w : List ℕ) (ws : List (List ℕ)) (last : List ℕ) → join_with_byte c (w ∷ ws ++ last ∷ []) ≡ join_with_byte c (w ∷ ws) ++ c ∷ last
join_with_byte-push c w [] last = refl
join_with_byte-push c w (v ∷ ws) last = ap (λ rest. w ++ c ∷ rest) (join_with_byte-push c v ws last) ∙ sym (append_assoc w (c ∷ join_with_byte c (v ∷ ws)) (c ∷ last))
