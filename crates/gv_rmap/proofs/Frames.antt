-- The chains of all frames, when one of them is written.
use Rattle.std.proofs.Common.{refl, ◌≡◌, ◌≢◌, ℕ, zero, suc, ◌+◌, ◌^◌, ◌<◌, List, [], ◌∷◌, replicate, length, map, set, get_or, get_or-set_same, get_or-set_other, Option, sum_by, sym, ap, subst, ◌∙◌, inl, inr, arith}
use Rattle.std.proofs.lemmas.Bool.{cases_order}
use Rattle.std.proofs.lemmas.List.{map-set, get_or-map, length-map}
use Rattle.std.proofs.lemmas.List.Sums.{sum_by-set, get_or-le-sum_by}
use Rattle.gv_rmap.specs.declared.leaf.Leaf.{Leaf}
use Rattle.gv_rmap.specs.declared.tree.Tree.{Tree, Empty}
use Rattle.gv_rmap.specs.Leaves.{IsInOrder, leaf_at}
use Rattle.gv_rmap.specs.Chains.{ReverseMap, chain_of, ChangesLeaf}
use Rattle.gv_rmap.specs.Tree.{leaves, height, IsBalanced}
use Rattle.gv_rmap.proofs.Heights.{few-high}

pub frame_within : (trees : List Tree) (now : List (List Leaf)) (frame : ℕ) → map leaves trees ≡ now → frame < length now → frame < length trees
frame_within trees now frame seen h = omega (arith, simp length-map at (ap length seen))

-- the leaves of a frame's tree are its chain
pub chain-of_tree : (trees : List Tree) (now : List (List Leaf)) (frame : ℕ) (tree : Tree) → map leaves trees ≡ now → frame < length now → tree ≡ get_or trees frame tree → leaves tree ≡ get_or now frame []
chain-of_tree trees now frame tree seen h is =
    ap leaves is ∙ sym (get_or-map leaves trees frame tree [] (frame_within trees now frame seen h)) ∙ ap (λ l. get_or l frame []) seen

-- a tree is written, and with it a chain
pub chains-set : (trees : List Tree) (now : List (List Leaf)) (frame : ℕ) (tree : Tree) (chain : List Leaf) → map leaves trees ≡ now → leaves tree ≡ chain → map leaves (set trees frame tree) ≡ set now frame chain
chains-set trees now frame tree chain seen is = map-set leaves trees frame tree ∙ ap (λ l. set l frame (leaves tree)) seen ∙ ap (set now frame) is

-- all chains stay in order where the one that is written is in order
pub order-set : (now : List (List Leaf)) (frame : ℕ) (chain : List Leaf) → frame < length now → ((f : ℕ) → IsInOrder (get_or now f [])) → IsInOrder chain → (f : ℕ) → IsInOrder (get_or (set now frame chain) f [])
order-set now frame chain h order good f =
    elim (cases_order f frame) [
      | inl same ↦ subst (λ k. IsInOrder (get_or (set now frame chain) k [])) (sym same) (subst IsInOrder (sym (get_or-set_same now frame chain [] h)) good)
      | inr other ↦ let apart : f ≢ frame = elim other [ inl lt ↦ omega arith | inr gt ↦ omega arith ] in subst IsInOrder (sym (get_or-set_other now frame f chain [] apart)) (order f)
    ]

-- how many leaves there are
pub count-set : (now : List (List Leaf)) (frame : ℕ) (chain : List Leaf) → frame < length now → sum_by length (set now frame chain) + length (get_or now frame []) ≡ sum_by length now + length chain
count-set now frame chain h = sum_by-set length now frame chain [] h

-- what the change of one key of one chain means
pub changes-set : (old new : ReverseMap) (frame p : ℕ) (leaf : Option Leaf) (chain : List Leaf) → frame < length old.chains → new.chains ≡ set old.chains frame chain → leaf_at chain p ≡ leaf → ((q : ℕ) → q ≢ p → leaf_at chain q ≡ leaf_at (chain_of old frame) q) → ChangesLeaf old new frame p leaf
changes-set old new frame p leaf chain h written here others =
    let at : chain_of new frame ≡ chain = ap (λ l. get_or l frame []) written ∙ get_or-set_same old.chains frame chain [] h in
    record {
      here = ap (λ l. leaf_at l p) at ∙ here;
      other_places = λ q apart. ap (λ l. leaf_at l q) at ∙ others q apart;
      other_frames = λ f apart. ap (λ l. get_or l f []) written ∙ get_or-set_other old.chains frame f chain [] apart;
    }

-- all trees stay balanced where the one that is written is
pub balanced-set : (trees : List Tree) (frame : ℕ) (tree : Tree) → frame < length trees → ((f : ℕ) → IsBalanced (get_or trees f Empty)) → IsBalanced tree → (f : ℕ) → IsBalanced (get_or (set trees frame tree) f Empty)
balanced-set trees frame tree h balanced good f =
    elim (cases_order f frame) [
      | inl same ↦ subst (λ k. IsBalanced (get_or (set trees frame tree) k Empty)) (sym same) (subst IsBalanced (sym (get_or-set_same trees frame tree Empty h)) good)
      | inr other ↦ let apart : f ≢ frame = elim other [ inl lt ↦ omega arith | inr gt ↦ omega arith ] in subst IsBalanced (sym (get_or-set_other trees frame f tree Empty apart)) (balanced f)
    ]

pub balanced-new : (n f : ℕ) → IsBalanced (get_or (replicate n Empty) f Empty)
balanced-new zero f = tt
balanced-new (suc n) zero = tt
balanced-new (suc n) (suc f) = balanced-new n f

-- the tree at a frame, whatever else stands past the end
pub tree-at : (trees : List Tree) (frame : ℕ) (tree : Tree) → frame < length trees → tree ≡ get_or trees frame tree → tree ≡ get_or trees frame Empty
tree-at [] frame tree h is = absurd (omega arith)
tree-at (t ∷ trees) zero tree h is = is
tree-at (t ∷ trees) (suc frame) tree h is = tree-at trees frame tree (omega arith) is

-- No tree is too high, since all leaves can be counted; so a tree that is written over a balanced one is balanced.
pub balanced-written : (trees : List Tree) (frame : ℕ) (tree new : Tree) → frame < length trees → tree ≡ get_or trees frame tree → ((f : ℕ) → IsBalanced (get_or trees f Empty)) → sum_by length (map leaves trees) < 2 ^ 64
    → (IsBalanced tree → height tree < 200 → IsBalanced new) → (f : ℕ) → IsBalanced (get_or (set trees frame new) f Empty)
balanced-written trees frame tree new h is balanced few write =
    let own : IsBalanced tree = subst IsBalanced (sym (tree-at trees frame tree h is)) (balanced frame) in
    let long : length (leaves tree) ≡ length (get_or (map leaves trees) frame []) = ap length (chain-of_tree trees (map leaves trees) frame tree refl (subst (λ n. frame < n) (sym (simp length-map refl)) h) is) in
    let part = get_or-le-sum_by length (map leaves trees) frame [] (subst (λ n. frame < n) (sym (simp length-map refl)) h) in
    balanced-set trees frame new h balanced (write own (few-high tree own (omega (arith, long, part, few))))
