-- The nodes as a function from level and frame: which node it gives, and what a change of a node does to it.
use Rattle.std.proofs.Common.{ℕ, ◌≡◌, ◌≢◌, Bool, true, false, eqb, cond, List, [], ◌∷◌, Option, None, Some, is_some, refl, sym, ap, ◌∙◌, subst, ⊎_elim, ◌||◌}
use Rattle.std.specs.List.{list_any}
use Rattle.std.proofs.lemmas.Bool.{eqb-true, eq-eqb, and_parts, and_from, cases_eq}
use Rattle.std.specs.Ordering.{nat_cmp, eq_by_cmp, is_eq}
use Rattle.std.specs.declared.cmp.Ordering.TheVariants.{Less, Equal, Greater}
use Rattle.std.specs.FinMap.{keys, contains_key-keys, nat_cmp-IsAntisymmetric}
use Rattle.gv_nodes.specs.declared.nodes.Node.{Node}
use Rattle.gv_nodes.specs.NodeMap.{NodeMap, node_at, AreNodes, ChangesNode}
use Rattle.gv_nodes.specs.NodeOf.{is_of, if_of, node_among, node_of}

some_or_none : {A : Type 0} (o : Option A) (P : Type 0) → ((x : A) → o ≡ Some x → P) → (o ≡ None → P) → P
some_or_none (Some x) P some none = some x refl
some_or_none None P some none = none refl

-- two options that have the same
same_option : {A : Type 0} (a b : Option A) → ((x : A) → a ≡ Some x → b ≡ Some x) → ((x : A) → b ≡ Some x → a ≡ Some x) → a ≡ b
same_option (Some x) b there back = sym (there x refl)
same_option None b there back = some_or_none b _ (λ x is. back x is ∙ sym is) (λ none. sym none)

is_of-parts : (level frame : ℕ) (node : Node) → is_of level frame node ≡ true → (node.level ≡ level) × (node.frame ≡ frame)
is_of-parts level frame node h = let both = and_parts (eqb node.level level) (eqb node.frame frame) h in (eqb-true _ _ both.0, eqb-true _ _ both.1)

is_of-from : (level frame : ℕ) (node : Node) → node.level ≡ level → node.frame ≡ frame → is_of level frame node ≡ true
is_of-from level frame node l f = and_from (eqb node.level level) (eqb node.frame frame) (eq-eqb _ _ l) (eq-eqb _ _ f)

pub same_number : (q k : ℕ) → eq_by_cmp nat_cmp q k ≡ true → q ≡ k
same_number q k h = nat_cmp-IsAntisymmetric q k (equal (nat_cmp q k) h)
  where
    equal : (o : _) → is_eq o ≡ true → o ≡ Equal
    equal Less e = cc
    equal Equal e = refl
    equal Greater e = cc

module _ (s : NodeMap) (level frame : ℕ) where
  among-from : (ks : List ℕ) (node : Node) → node_among s level frame ks ≡ Some node → (key : ℕ) × ((node_at s key ≡ Some node) × (is_of level frame node ≡ true))
  among-from [] node h = cc
  among-from (k ∷ ks) node h = at (among-from ks node) (node_at s k) refl h
    where
      keep : (b : Bool) (n : Node) → is_of level frame n ≡ b → node_at s k ≡ Some n → cond b (Some n) (node_among s level frame ks) ≡ Some node → (node_among s level frame ks ≡ Some node → (key : ℕ) × ((node_at s key ≡ Some node) × (is_of level frame node ≡ true))) → (key : ℕ) × ((node_at s key ≡ Some node) × (is_of level frame node ≡ true))
      keep true n b is e again = let same : n ≡ node = cc in (k, (is ∙ e, subst (λ x. is_of level frame x ≡ true) same b))
      keep false n b is e again = again e

      at : (node_among s level frame ks ≡ Some node → (key : ℕ) × ((node_at s key ≡ Some node) × (is_of level frame node ≡ true))) → (o : Option Node) → node_at s k ≡ o → if_of level frame o (node_among s level frame ks) ≡ Some node → (key : ℕ) × ((node_at s key ≡ Some node) × (is_of level frame node ≡ true))
      at again None is e = again e
      at again (Some n) is e = keep (is_of level frame n) n refl is e again

  -- what stands under a key of the list is found, or another of the pair
  among-some : (ks : List ℕ) (key : ℕ) (node : Node) → list_any (eq_by_cmp nat_cmp key) ks ≡ true → node_at s key ≡ Some node → is_of level frame node ≡ true → node_among s level frame ks ≡ None → ⊥
  among-some [] key node h is of' none = cc
  among-some (k ∷ ks) key node h is of' none = at (λ e. among-some ks key node e is of' (later (node_at s k) refl none)) (eq_by_cmp nat_cmp key k) refl h
    where
      later : (o : Option Node) → node_at s k ≡ o → if_of level frame o (node_among s level frame ks) ≡ None → node_among s level frame ks ≡ None
      later None e f = f
      later (Some n) e f = go (is_of level frame n) f
        where
          go : (b : Bool) → cond b (Some n) (node_among s level frame ks) ≡ None → node_among s level frame ks ≡ None
          go true f = cc
          go false f = f

      at : (list_any (eq_by_cmp nat_cmp key) ks ≡ true → ⊥) → (b : Bool) → eq_by_cmp nat_cmp key k ≡ b → (b || list_any (eq_by_cmp nat_cmp key) ks) ≡ true → ⊥
      at again true b e =
          let there : node_at s k ≡ Some node = ap (node_at s) (sym (same_number key k b)) ∙ is in
          let found : if_of level frame (node_at s k) (node_among s level frame ks) ≡ Some node = ap (λ o. if_of level frame o (node_among s level frame ks)) there ∙ ap (λ b. cond b (Some node) (node_among s level frame ks)) of' in
          let clash : Some node ≡ None = sym found ∙ none in
          cc
      at again false b e = again e

  pub node_of-from : (node : Node) → node_of s level frame ≡ Some node → (key : ℕ) × ((node_at s key ≡ Some node) × ((node.level ≡ level) × (node.frame ≡ frame)))
  unfolding node_of
  node_of-from node h = let at = among-from (keys s.nodes) node h in (at.0, (at.1.0, is_of-parts level frame node at.1.1))

  some-there : (key : ℕ) (node : Node) → node_at s key ≡ Some node → node.level ≡ level → node.frame ≡ frame → node_of s level frame ≡ None → ⊥
  unfolding node_of
  some-there key node is l f none =
      among-some (keys s.nodes) key node (sym (contains_key-keys s.nodes key) ∙ ap is_some is) is (is_of-from level frame node l f) none

  pub node_of-is : AreNodes s → (key : ℕ) (node : Node) → node_at s key ≡ Some node → node.level ≡ level → node.frame ≡ frame → node_of s level frame ≡ Some node
  node_of-is nodes key node is l f =
      some_or_none (node_of s level frame) _
      (λ other found.
      let at = node_of-from other found in
      let same = nodes.once frame level at.0 key
      (record { node = other; under = at.1.0; of_frame = at.1.1.1; at_level = at.1.1.0 })
      (record { node = node; under = is; of_frame = f; at_level = l }) in
      let e : Some other ≡ Some node = sym at.1.0 ∙ ap (node_at s) same ∙ is in
      found ∙ e)
      (λ none. absurd (some-there key node is l f none))

-- What a change of the node under a key does: the pair has what the key has, and every other pair what it had.
module _ (old new : NodeMap) (key level frame : ℕ) (o : Option Node) (before : AreNodes old) (after : AreNodes new) (changes : ChangesNode old new key o)
    (was : (node : Node) → node_at old key ≡ Some node → (node.level ≡ level) × (node.frame ≡ frame))
    (is : (node : Node) → o ≡ Some node → (node.level ≡ level) × (node.frame ≡ frame)) where
  pub node_of-other : (k f : ℕ) → ((k ≡ level) → (f ≡ frame) → ⊥) → node_of new k f ≡ node_of old k f
  node_of-other k f apart = same_option (node_of new k f) (node_of old k f)
      (λ node h.
      let at = node_of-from new k f node h in
      let differ : at.0 ≢ key = λ same.
      let pair = is node (sym changes.changed ∙ ap (node_at new) (sym same) ∙ at.1.0) in
      apart (sym at.1.1.0 ∙ pair.0) (sym at.1.1.1 ∙ pair.1) in
      node_of-is old k f before at.0 node (sym (changes.others at.0 differ) ∙ at.1.0) at.1.1.0 at.1.1.1)
      (λ node h.
      let at = node_of-from old k f node h in
      let differ : at.0 ≢ key = λ same.
      let pair = was node (ap (node_at old) (sym same) ∙ at.1.0) in
      apart (sym at.1.1.0 ∙ pair.0) (sym at.1.1.1 ∙ pair.1) in
      node_of-is new k f after at.0 node (changes.others at.0 differ ∙ at.1.0) at.1.1.0 at.1.1.1)

  pub node_of-here : ((node : Node) → node_of old level frame ≡ Some node → node_at old key ≡ Some node) → node_of new level frame ≡ o
  node_of-here under = same_option (node_of new level frame) o
      (λ node h.
      let at = node_of-from new level frame node h in
      ⊎_elim
      (λ same. sym changes.changed ∙ ap (node_at new) (sym same) ∙ at.1.0)
      (λ differ.
      let there = sym (changes.others at.0 differ) ∙ at.1.0 in
      let found = node_of-is old level frame before at.0 node there at.1.1.0 at.1.1.1 in
      let same = before.once frame level at.0 key
      (record { node = node; under = there; of_frame = at.1.1.1; at_level = at.1.1.0 })
      (record { node = node; under = under node found; of_frame = at.1.1.1; at_level = at.1.1.0 }) in
      absurd (differ same))
      (cases_eq at.0 key))
      (λ node h. let pair = is node h in node_of-is new level frame after key node (changes.changed ∙ h) pair.0 pair.1)
