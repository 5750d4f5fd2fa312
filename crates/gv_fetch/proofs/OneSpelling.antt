-- Items have one spelling.
use Rattle.std.proofs.Common.{◌≡◌, ℕ, Bool, true, false, List, [], ◌++◌, refl, ap, sym, subst, ◌∙◌, append_assoc}
use Rattle.std.specs.Bool.{MatchBool}
use Rattle.gv_cmd.specs.Table.{kind_of}
use Rattle.gv_cmd.specs.declared.stands.Stands.{Stands}
use Rattle.gv_cmd.specs.declared.stands.Stands.TheVariants.{Ring}
use Rattle.gv_fetch.specs.Items.{Items, none, command, batch, inside, is_fetched_start, is_end, MayAllStand}
use Rattle.gv_fetch.specs.Laws.{OneSpelling}
use Rattle.gv_fetch.specs.Flat.{flat}
use Rattle.gv_fetch.proofs.FrontCommands.{same_front, inside_no_ring, not_nil}

-- the same with the dwords written out
abbrev Same : Items → Type 0
Same a = (stands : Stands) (engine : ℕ) (b : Items) (x y : List ℕ) → MayAllStand stands engine a → MayAllStand stands engine b → (stands ≡ Ring → x ≡ []) → (stands ≡ Ring → y ≡ []) → flat a ++ x ≡ flat b ++ y → (a ≡ b) × (x ≡ y)

-- behind an equal command that ends a batch, or doesn't
behind_command : (e : Bool) (stands : Stands) (engine : ℕ) (ws : List ℕ) (a b : Items) (x y : List ℕ) → Same a
    → MatchBool e (a ≡ none) (MayAllStand stands engine a) → MatchBool e (b ≡ none) (MayAllStand stands engine b)
    → (stands ≡ Ring → x ≡ []) → (stands ≡ Ring → y ≡ []) → flat a ++ x ≡ flat b ++ y → (a ≡ b) × (x ≡ y)
behind_command true stands engine ws a b x y same p q f g is =
    (p ∙ sym q, sym (ap (λ i. flat i ++ x) p) ∙ is ∙ ap (λ i. flat i ++ y) q)
behind_command false stands engine ws a b x y same p q f g is = same stands engine b x y p q f g is

same_items : (a : Items) → Same a
same_items none stands engine none x y p q f g is = (refl, is)
same_items none stands engine (command ws b) x y p q f g is =
    absurd (not_nil ws (flat b ++ y) q.0.command (sym (append_assoc ws (flat b) y) ∙ sym is ∙ f p))
same_items none stands engine (batch ws i b) x y p q f g is =
    absurd (not_nil ws (flat i ++ flat b ++ y) q.0.command (simp append_assoc (sym (simp append_assoc at is) ∙ f p)))
same_items (command ws a) stands engine none x y p q f g is =
    absurd (not_nil ws (flat a ++ x) p.0.command (sym (append_assoc ws (flat a) x) ∙ is ∙ g q))
same_items (command ws a) stands engine (command vs b) x y p q f g is =
    let front = same_front ws vs (flat a ++ x) (flat b ++ y) p.0.command q.0.command (sym (append_assoc ws (flat a) x) ∙ is ∙ append_assoc vs (flat b) y) in
    let ends = ap (λ l. is_end (kind_of l)) front.0 in
    let other : MatchBool (is_end (kind_of ws)) (b ≡ none) (MayAllStand stands engine b) = (let P : Bool → Type 0 = λ e. MatchBool e (b ≡ none) (MayAllStand stands engine b) in subst P (sym ends) q.2) in
    let rest = behind_command (is_end (kind_of ws)) stands engine ws a b x y (same_items a) p.2 other f g front.1 in
    (ap (λ l. command l a) front.0 ∙ ap (command vs) rest.0, rest.1)
same_items (command ws a) stands engine (batch vs i b) x y p q f g is =
    let front = same_front ws vs (flat a ++ x) (flat i ++ flat b ++ y) p.0.command q.0.command (sym (append_assoc ws (flat a) x) ∙ is ∙ append_assoc vs (flat i ++ flat b) y) in
    let starts = sym p.1 ∙ ap (λ l. is_fetched_start (kind_of l)) front.0 ∙ q.1 in
    absurd cc
same_items (batch ws i a) stands engine none x y p q f g is =
    absurd (not_nil ws (flat i ++ flat a ++ x) p.0.command (sym (append_assoc ws (flat i ++ flat a) x) ∙ is ∙ g q))
same_items (batch ws i a) stands engine (command vs b) x y p q f g is =
    let front = same_front ws vs (flat i ++ flat a ++ x) (flat b ++ y) p.0.command q.0.command (sym (append_assoc ws (flat i ++ flat a) x) ∙ is ∙ append_assoc vs (flat b) y) in
    let starts = sym p.1 ∙ ap (λ l. is_fetched_start (kind_of l)) front.0 ∙ q.1 in
    absurd cc
same_items (batch ws i a) stands engine (batch vs j b) x y p q f g is =
    let front = same_front ws vs (flat i ++ flat a ++ x) (flat j ++ flat b ++ y) p.0.command q.0.command (sym (append_assoc ws (flat i ++ flat a) x) ∙ is ∙ append_assoc vs (flat j ++ flat b) y) in
    let within = same_items i (inside stands) engine j (flat a ++ x) (flat b ++ y) p.2 q.2 (λ r. absurd (inside_no_ring stands r)) (λ r. absurd (inside_no_ring stands r)) (sym (append_assoc (flat i) (flat a) x) ∙ front.1 ∙ append_assoc (flat j) (flat b) y) in
    let rest = same_items a stands engine b x y p.3 q.3 f g within.1 in
    (ap (λ l. batch l i a) front.0 ∙ ap (λ k. batch vs k a) within.0 ∙ ap (batch vs j) rest.0, rest.1)

pub one_spelling : OneSpelling
one_spelling stands engine a b words x y first second =
    same_items a stands engine b x y first.stand second.stand first.ends second.ends (sym first.split ∙ second.split)
