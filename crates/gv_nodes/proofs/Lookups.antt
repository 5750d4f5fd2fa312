-- What stands under a key, after a node was put there or taken out.
use Rattle.std.proofs.Common.{◌≡◌, ◌≢◌, ℕ, zero, suc, ◌+◌, ◌-◌, ◌<◌, true, false, cond, List, [], ◌∷◌, get_or, Option, Some, None, refl, sym, ap, ◌∙◌, inl, inr, add-zero, zero-add, arith}
use Rattle.std.proofs.lemmas.Bool.{cases_eq, cases_lt}
use Rattle.std.specs.Ordering.{nat_cmp, eq_by_cmp, is_eq}
use Rattle.std.specs.declared.cmp.Ordering.TheVariants.{Less, Equal, Greater}
use Rattle.std.specs.Cmp.{nat_cmp_is, nat_cmp_total}
use Rattle.std.specs.FinMap.{FinMap, get, find, from_entries, get-insert, get-remove, get-from_entries, same_map, nat_cmp-IsAntisymmetric}
use Rattle.slab.specs.Slab.{Slab, entries_from, entries, Updates}
use Rattle.slab.specs.Slab as slab
use Rattle.gv_nodes.specs.declared.nodes.Node.{Node}
use Rattle.gv_nodes.specs.NodeMap.{NodeMap, node_at, with_node, inserted, removed, recounted, with_parents, ChangesNode}

same_key : (q : ℕ) → eq_by_cmp nat_cmp q q ≡ true
same_key q = ap is_eq (sym (nat_cmp_is q q Equal refl))

other_key : (q k : ℕ) → q ≢ k → eq_by_cmp nat_cmp q k ≡ false
other_key q k apart =
    elim (cases_lt q k) [
      | inl below ↦ ap is_eq (sym (nat_cmp_is q k Less below))
      | inr above ↦ ap is_eq (sym (nat_cmp_is q k Greater (omega arith)))
    ]

module _ {X : Type 0} where
  none_below : (first : ℕ) (slots : List (Option X)) (q : ℕ) → q < first → find nat_cmp q (entries_from first slots) ≡ None
  none_below first [] q below = refl
  none_below first (None ∷ rest) q below = none_below (first + 1) rest q (omega arith)
  none_below first (Some v ∷ rest) q below =
      let apart : q ≢ first = omega arith in
      ap (λ b. cond b (Some v) (find nat_cmp q (entries_from (first + 1) rest))) (other_key q first apart) ∙ none_below (first + 1) rest q (omega arith)

  find-entries_from : (first : ℕ) (slots : List (Option X)) (i : ℕ) → find nat_cmp (first + i) (entries_from first slots) ≡ get_or slots i None
  find-entries_from first [] i = refl
  find-entries_from first (None ∷ rest) zero = none_below (first + 1) rest (first + 0) (omega arith)
  find-entries_from first (None ∷ rest) (suc i) =
      let later : first + suc i ≡ first + 1 + i = omega arith in
      ap (λ q. find nat_cmp q (entries_from (first + 1) rest)) later ∙ find-entries_from (first + 1) rest i
  find-entries_from first (Some v ∷ rest) zero =
      ap (λ q. find nat_cmp q (entries_from first (Some v ∷ rest))) (add-zero first)
      ∙ ap (λ b. cond b (Some v) (find nat_cmp first (entries_from (first + 1) rest))) (same_key first)
  find-entries_from first (Some v ∷ rest) (suc i) =
      let later : first + suc i ≡ first + 1 + i = omega arith in
      let apart : first + 1 + i ≢ first = omega arith in
      ap (λ q. find nat_cmp q (entries_from first (Some v ∷ rest))) later
      ∙ ap (λ b. cond b (Some v) (find nat_cmp (first + 1 + i) (entries_from (first + 1) rest))) (other_key (first + 1 + i) first apart)
      ∙ find-entries_from (first + 1) rest i

  abbrev pub map_of : Slab X → FinMap nat_cmp X
  map_of s = from_entries (entries s)

  -- the map of a slab has under each key what the slab has
  pub get-map_of : (s : Slab X) (q : ℕ) → get (map_of s) q ≡ slab.get s q
  get-map_of s q =
      get-from_entries nat_cmp_total (entries s) q
      ∙ ap (λ k. find nat_cmp k (entries s)) (sym (zero-add q)) ∙ find-entries_from 0 s.slots q

-- a key, after it got a node or lost it, and each other key
pub get-with_node_same : (m : FinMap nat_cmp Node) (k : ℕ) (o : Option Node) → get (with_node m k o) k ≡ o
get-with_node_same m k None = get-remove nat_cmp_total m k k ∙ ap (λ b. cond b None (get m k)) (same_key k)
get-with_node_same m k (Some v) = get-insert nat_cmp_total m k v k ∙ ap (λ b. cond b (Some v) (get m k)) (same_key k)

pub get-with_node_other : (m : FinMap nat_cmp Node) (k : ℕ) (o : Option Node) (q : ℕ) → q ≢ k → get (with_node m k o) q ≡ get m q
get-with_node_other m k None q apart = get-remove nat_cmp_total m k q ∙ ap (λ b. cond b None (get m q)) (other_key q k apart)
get-with_node_other m k (Some v) q apart = get-insert nat_cmp_total m k v q ∙ ap (λ b. cond b (Some v) (get m q)) (other_key q k apart)

written_at : (old new : Slab Node) (key : ℕ) (slot : Option Node) → Updates old new key slot → (q : ℕ) → get (map_of new) q ≡ get (with_node (map_of old) key slot) q
written_at old new key slot updates q =
    elim (cases_eq q key) [
      | inl same ↦
          ap (get (map_of new)) same ∙ get-map_of new key ∙ updates.changed ∙ sym (get-with_node_same (map_of old) key slot)
          ∙ ap (get (with_node (map_of old) key slot)) (sym same)
      | inr apart ↦ get-map_of new q ∙ updates.others q apart ∙ sym (get-map_of old q) ∙ sym (get-with_node_other (map_of old) key slot q apart)
    ]

-- what a slab's update is to its map
pub map_of-updates : (old new : Slab Node) (key : ℕ) (slot : Option Node) → Updates old new key slot → map_of new ≡ with_node (map_of old) key slot
map_of-updates old new key slot updates =
    same_map nat_cmp_total nat_cmp-IsAntisymmetric (map_of new) (with_node (map_of old) key slot) (written_at old new key slot updates)

-- For callers: what the definitions of the calls mean, key by key.
changes : (s : NodeMap) (key spare : ℕ) (node : Option Node) → ChangesNode s (record s { nodes = with_node s.nodes key node; spare = spare }) key node
changes s key spare node = record {
  changed = get-with_node_same s.nodes key node;
  others = get-with_node_other s.nodes key node;
}

pub changes-inserted : (s : NodeMap) (key : ℕ) (node : Node) → ChangesNode s (inserted s key node) key (Some node)
changes-inserted s key node = changes s key (s.spare - 1) (Some node)

pub changes-removed : (s : NodeMap) (key : ℕ) → ChangesNode s (removed s key) key None
changes-removed s key = changes s key (s.spare + 1) None

pub changes-with_parents : (s : NodeMap) (key parents : ℕ) → ChangesNode s (with_parents s key parents) key (recounted (node_at s key) parents)
changes-with_parents s key parents = changes s key s.spare (recounted (node_at s key) parents)
