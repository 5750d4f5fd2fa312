-- What the calls of the nodes do to the functions from level and frame.
use Rattle.std.proofs.Common.{ℕ, ◌+◌, ◌≡◌, Option, None, Some, refl, sym, ap, ◌∙◌, ⊎_elim}
use Rattle.std.proofs.lemmas.Bool.{cases_eq}
use Rattle.std.specs.Option.{option_map_or}
use Rattle.gv_nodes.specs.NodeMap.{parents_of as parents_under}
use Rattle.gv_nodes.specs.declared.nodes.Node.{Node}
use Rattle.gv_nodes.specs.NodeMap.{NodeMap, node_at, IsKeyOf, IsAbsent, AreNodes, ChangesNode, new_node, recounted, reserved}
use Rattle.std.proofs.Common.{List, [], ◌∷◌}
use Rattle.std.specs.FinMap.{keys}
use Rattle.gv_nodes.specs.NodeOf.{node_of, node_among, if_of}
use Rattle.gv_nodes.proofs.NodeOf.{node_of-is, node_of-from, node_of-other, node_of-here}
use Rattle.gv_sppgtt.specs.Sound.{page_of_node, parents_of_node, pages_in, parents_in}

pub are_reserved : (s : NodeMap) (n : ℕ) → AreNodes s → AreNodes (reserved s n)
are_reserved s n are = record { placed = are.placed; once = λ frame level j k a b. are.once frame level j k (back a) (back b) }
  where
    back : {frame level key : ℕ} → IsKeyOf (reserved s n) frame level key → IsKeyOf s frame level key
    back k = record { node = k.node; under = k.under; of_frame = k.of_frame; at_level = k.at_level }

no_page : (o : Option Node) → page_of_node o ≡ None → o ≡ None
no_page None e = refl
no_page (Some n) e = cc

-- a pair without a page has no key
pub absent-key : (s : NodeMap) (level frame : ℕ) → AreNodes s → pages_in s level frame ≡ None → IsAbsent s frame level
absent-key s level frame are none key is =
    let found = node_of-is s level frame are key is.node is.under is.at_level is.of_frame in
    let clash : Some is.node ≡ None = sym found ∙ no_page (node_of s level frame) none in
    cc

pub key-absent : (s : NodeMap) (level frame : ℕ) → IsAbsent s frame level → pages_in s level frame ≡ None
key-absent s level frame never = by (node_of s level frame) refl
  where
    by : (o : Option Node) → node_of s level frame ≡ o → page_of_node o ≡ None
    by None e = refl
    by (Some n) e = let at = node_of-from s level frame n e in absurd (never at.0 (record { node = n; under = at.1.0; of_frame = at.1.1.1; at_level = at.1.1.0 }))

-- a node comes under a new pair
module _ (old new : NodeMap) (key level frame page : ℕ) (before : AreNodes old) (after : AreNodes new) (fresh : node_at old key ≡ None) (absent : IsAbsent old frame level)
    (changes : ChangesNode old new key (Some (new_node frame level page))) where
  was : (node : Node) → node_at old key ≡ Some node → (node.level ≡ level) × (node.frame ≡ frame)
  was node e = let clash : None ≡ Some node = sym fresh ∙ e in cc

  is : (node : Node) → Some (new_node frame level page) ≡ Some node → (node.level ≡ level) × (node.frame ≡ frame)
  is node e = let same : new_node frame level page ≡ node = cc in (ap (λ (n : Node). n.level) (sym same), ap (λ (n : Node). n.frame) (sym same))

  pub inserted-other : (k f : ℕ) → (k ≡ level → f ≡ frame → ⊥) → node_of new k f ≡ node_of old k f
  inserted-other = node_of-other old new key level frame (Some (new_node frame level page)) before after changes was is

  pub inserted-here : node_of new level frame ≡ Some (new_node frame level page)
  inserted-here = node_of-here old new key level frame (Some (new_node frame level page)) before after changes was is
      (λ node h. let at = node_of-from old level frame node h in absurd (absent at.0 (record { node = node; under = at.1.0; of_frame = at.1.1.1; at_level = at.1.1.0 })))

-- the count of parents of a node changes
module _ (old new : NodeMap) (key level frame parents : ℕ) (node : Node) (before : AreNodes old) (after : AreNodes new) (under : node_at old key ≡ Some node)
    (at_level : node.level ≡ level) (of_frame : node.frame ≡ frame) (changes : ChangesNode old new key (recounted (node_at old key) parents)) where
  abbrev counted : Node
  counted = record node { parents = parents }

  counted_is : recounted (node_at old key) parents ≡ Some counted
  counted_is = ap (λ o. recounted o parents) under

  was' : (n : Node) → node_at old key ≡ Some n → (n.level ≡ level) × (n.frame ≡ frame)
  was' n e = let same : node ≡ n = cc in (ap (λ (x : Node). x.level) (sym same) ∙ at_level, ap (λ (x : Node). x.frame) (sym same) ∙ of_frame)

  is' : (n : Node) → recounted (node_at old key) parents ≡ Some n → (n.level ≡ level) × (n.frame ≡ frame)
  is' n e = let same : Some counted ≡ Some n = sym counted_is ∙ e in let same' : counted ≡ n = cc in (ap (λ (x : Node). x.level) (sym same') ∙ at_level, ap (λ (x : Node). x.frame) (sym same') ∙ of_frame)

  pub recounted-other : (k f : ℕ) → (k ≡ level → f ≡ frame → ⊥) → node_of new k f ≡ node_of old k f
  recounted-other = node_of-other old new key level frame (recounted (node_at old key) parents) before after changes was' is'

  pub recounted-here : node_of new level frame ≡ Some counted
  recounted-here = node_of-here old new key level frame (recounted (node_at old key) parents) before after changes was' is'
      (λ n h. under ∙ sym (node_of-is old level frame before key node under at_level of_frame) ∙ h) ∙ counted_is

  pub recounted-was : node_of old level frame ≡ Some node
  recounted-was = node_of-is old level frame before key node under at_level of_frame

-- memory for more nodes changes no node
module _ (s : NodeMap) (n : ℕ) where
  among_reserved : (level frame : ℕ) (ks : List ℕ) → node_among (reserved s n) level frame ks ≡ node_among s level frame ks
  among_reserved level frame [] = refl
  among_reserved level frame (k ∷ ks) = ap (if_of level frame (node_at s k)) (among_reserved level frame ks)

  pub node_of-reserved : node_of (reserved s n) ≡ node_of s
  unfolding node_of
  node_of-reserved = λ i level frame. among_reserved level frame (keys s.nodes) i

pub key-parents : (s : NodeMap) (level frame key : ℕ) → AreNodes s → IsKeyOf s frame level key → parents_under s key ≡ parents_in s level frame
key-parents s level frame key are k =
    ap (λ o. option_map_or (λ (n : Node). n.parents) o 0) k.under ∙ sym (ap parents_of_node (node_of-is s level frame are key k.node k.under k.at_level k.of_frame))

-- one more parent for the node under a key, seen by level and frame
module _ (old new : NodeMap) (key level frame : ℕ) (result : Node) (before : AreNodes old) (after : AreNodes new) (k : IsKeyOf old frame level key)
    (changes : ChangesNode old new key (recounted (node_at old key) (parents_under old key + 1))) (read : node_at new key ≡ Some result) where
  pub more-there : pages_in old level frame ≡ Some result.page
  more-there =
      let same : Some result ≡ Some (record k.node { parents = parents_under old key + 1 }) = sym read ∙ changes.changed ∙ ap (λ o. recounted o (parents_under old key + 1)) k.under in
      let node : result ≡ record k.node { parents = parents_under old key + 1 } = cc in
      ap page_of_node (node_of-is old level frame before key k.node k.under k.at_level k.of_frame) ∙ ap (λ (n : Node). Some n.page) (sym node)

  pub more-here : parents_in new level frame ≡ parents_in old level frame + 1
  more-here = ap parents_of_node (recounted-here old new key level frame (parents_under old key + 1) k.node before after k.under k.at_level k.of_frame changes) ∙ ap (λ n. n + 1) (key-parents old level frame key before k)

  pub more-parents : (j f : ℕ) → (j ≡ level → f ≡ frame → ⊥) → parents_in new j f ≡ parents_in old j f
  more-parents j f apart = ap parents_of_node (recounted-other old new key level frame (parents_under old key + 1) k.node before after k.under k.at_level k.of_frame changes j f apart)

  pub more-pages : (j f : ℕ) → pages_in new j f ≡ pages_in old j f
  more-pages j f =
      ⊎_elim (λ a. ⊎_elim
      (λ b. ap (λ x. pages_in new x f) a ∙ ap (pages_in new level) b
      ∙ ap page_of_node (recounted-here old new key level frame (parents_under old key + 1) k.node before after k.under k.at_level k.of_frame changes ∙ refl)
      ∙ sym (ap (λ x. pages_in old x f) a ∙ ap (pages_in old level) b ∙ ap page_of_node (node_of-is old level frame before key k.node k.under k.at_level k.of_frame)))
      (λ b. other (λ _ e. b e)) (cases_eq f frame))
      (λ a. other (λ e _. a e)) (cases_eq j level)
    where
      other : (j ≡ level → f ≡ frame → ⊥) → pages_in new j f ≡ pages_in old j f
      other apart = ap page_of_node (recounted-other old new key level frame (parents_under old key + 1) k.node before after k.under k.at_level k.of_frame changes j f apart)

-- a node goes
module _ (old new : NodeMap) (key level frame : ℕ) (before : AreNodes old) (after : AreNodes new) (k : IsKeyOf old frame level key) (changes : ChangesNode old new key None) where
  was'' : (n : Node) → node_at old key ≡ Some n → (n.level ≡ level) × (n.frame ≡ frame)
  was'' n e = let same : Some k.node ≡ Some n = sym k.under ∙ e in let same' : k.node ≡ n = cc in (ap (λ (x : Node). x.level) (sym same') ∙ k.at_level, ap (λ (x : Node). x.frame) (sym same') ∙ k.of_frame)

  is'' : (n : Node) → None ≡ Some n → (n.level ≡ level) × (n.frame ≡ frame)
  is'' n e = cc

  pub removed-other : (j f : ℕ) → (j ≡ level → f ≡ frame → ⊥) → node_of new j f ≡ node_of old j f
  removed-other = node_of-other old new key level frame None before after changes was'' is''

  pub removed-here : node_of new level frame ≡ None
  removed-here = node_of-here old new key level frame None before after changes was'' is''
      (λ n h. k.under ∙ sym (node_of-is old level frame before key k.node k.under k.at_level k.of_frame) ∙ h)

-- a count of parents is set, seen by level and frame
module _ (old new : NodeMap) (key level frame parents : ℕ) (result : Node) (before : AreNodes old) (after : AreNodes new) (k : IsKeyOf old frame level key)
    (changes : ChangesNode old new key (recounted (node_at old key) parents)) (read : node_at new key ≡ Some result) where
  pub set-there : pages_in new level frame ≡ Some result.page
  set-there =
      let same : Some result ≡ Some (record k.node { parents = parents }) = sym read ∙ changes.changed ∙ ap (λ o. recounted o parents) k.under in
      let node : result ≡ record k.node { parents = parents } = cc in
      ap page_of_node (recounted-here old new key level frame parents k.node before after k.under k.at_level k.of_frame changes) ∙ ap (λ (n : Node). Some n.page) (sym node)

  pub set-here : parents_in new level frame ≡ parents
  set-here = ap parents_of_node (recounted-here old new key level frame parents k.node before after k.under k.at_level k.of_frame changes)

  pub set-under : parents_under new key ≡ parents
  set-under = ap (λ o. option_map_or (λ (n : Node). n.parents) o 0) (changes.changed ∙ ap (λ o. recounted o parents) k.under)

  pub set-parents : (j f : ℕ) → (j ≡ level → f ≡ frame → ⊥) → parents_in new j f ≡ parents_in old j f
  set-parents j f apart = ap parents_of_node (recounted-other old new key level frame parents k.node before after k.under k.at_level k.of_frame changes j f apart)

  pub set-pages : (j f : ℕ) → pages_in new j f ≡ pages_in old j f
  set-pages j f =
      ⊎_elim (λ a. ⊎_elim
      (λ b. ap (λ x. pages_in new x f) a ∙ ap (pages_in new level) b
      ∙ ap page_of_node (recounted-here old new key level frame parents k.node before after k.under k.at_level k.of_frame changes)
      ∙ sym (ap (λ x. pages_in old x f) a ∙ ap (pages_in old level) b ∙ ap page_of_node (node_of-is old level frame before key k.node k.under k.at_level k.of_frame)))
      (λ b. other (λ _ e. b e)) (cases_eq f frame))
      (λ a. other (λ e _. a e)) (cases_eq j level)
    where
      other : (j ≡ level → f ≡ frame → ⊥) → pages_in new j f ≡ pages_in old j f
      other apart = ap page_of_node (recounted-other old new key level frame parents k.node before after k.under k.at_level k.of_frame changes j f apart)

pub none-parents : (s : NodeMap) (level frame : ℕ) → pages_in s level frame ≡ None → parents_in s level frame ≡ 0
none-parents s level frame is = by (node_of s level frame) is
  where
    by : (o : Option Node) → page_of_node o ≡ None → parents_of_node o ≡ 0
    by None e = refl
    by (Some n) e = cc
