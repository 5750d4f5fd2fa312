-- Tables without nodes serve any memory.
use Rattle.std.proofs.Common.{ℕ, zero, suc, ◌+◌, ◌*◌, ◌≤◌, ◌<◌, ◌^◌, ◌≡◌, Bool, true, false, ◌&&◌, ltb, eqb, List, [], Option, None, Some, is_some, length, get_or, replicate, refl, sym, ap, ◌∙◌, subst, arith}
use Rattle.std.proofs.lemmas.List.{length-replicate}
use Rattle.gv_entry.specs.declared.process.Process.{Process}
use Rattle.gv_entry.specs.declared.process.Process.TheVariants.{Absent}
use Rattle.gv_gpu.specs.Device.{Device}
use Rattle.gv_guest.specs.Placed.{Placed, Hosts, memory_in}
use Rattle.gv_types.specs.Memory.{Memory}
use Rattle.gv_nodes.specs.NodeMap.{NodeMap, AreNodes, no_nodes, node_at}
use Rattle.gv_nodes.specs.declared.nodes.Node.{Node}
use Rattle.gv_nodes.specs.NodeOf.{node_of}
use Rattle.gv_nodes.proofs.NodeOf.{node_of-from}
use Rattle.std.specs.FinMap.{get-empty}
use Rattle.std.specs.Ordering.{nat_cmp}
use Rattle.gv_rmap.specs.declared.leaf.Leaf.{Leaf}
use Rattle.gv_rmap.specs.Leaves.{IsInOrder, leaf_at}
use Rattle.gv_rmap.specs.Chains.{ReverseMap, no_leaves, chain_of}
use Rattle.gv_shape.specs.Shadow.{Readings}
use Rattle.gv_shape.specs.Counts.{total, uses, namings, above, names_node, leaves, maps, one_if, is_among}
use Rattle.gv_shape.proofs.Totals.{total-same}
use Rattle.gv_sppgtt.specs.Sound.{AreInOrder, page_of_node, flag, reading_at}
use Rattle.gv_sppgtt.specs.Grown.{count_of, nodes_of, splits_of}
use Rattle.gv_sppgtt.specs.State.{pages_of, parents_of, readings_of, is_table}
use Rattle.gv_sppgtt.specs.Serving.{roots_of, Serves, IsReady}
use Rattle.gv_sppgtt.specs.Clearing.{AreNone}
use Rattle.gv_sppgtt.specs.declared.tables.Tables.{Tables}
use Rattle.gv_sppgtt.proofs.NodePairs.{none-parents}
use Rattle.gv_sppgtt.proofs.Serving.{is-root}

total-zero : (n : ℕ) → total n (λ _. 0) ≡ 0
unfolding total
total-zero zero = refl
total-zero (suc n) = let rest = total-zero n in omega arith

pub total-none : (n : ℕ) (f : ℕ → ℕ) → ((j : ℕ) → f j ≡ 0) → total n f ≡ 0
total-none n f none = total-same n f (λ _. 0) (λ j b. none j) ∙ total-zero n

pub uses-none : (n : ℕ) (r : Readings) (level : ℕ) (test : Process → Bool) → ((k f i : ℕ) → r k f i ≡ Absent) → test Absent ≡ false → uses n r level test ≡ 0
uses-none n r level test none is = total-none n _ (λ f. total-none 512 _ (λ i. ap (λ e. one_if (test e)) (none level f i) ∙ ap one_if is))

same_get : {A : Type 0} (n i : ℕ) (x : A) → get_or (replicate n x) i x ≡ x
same_get zero i x = refl
same_get (suc n) zero x = refl
same_get (suc n) (suc i) x = same_get n i x

none-under : (frames key : ℕ) → node_at (no_nodes frames) key ≡ None
none-under frames key = get-empty nat_cmp key

no-node : (frames k f : ℕ) → node_of (no_nodes frames) k f ≡ None
no-node frames k f = by (node_of (no_nodes frames) k f) refl
  where
    by : (o : Option Node) → node_of (no_nodes frames) k f ≡ o → o ≡ None
    by None e = refl
    by (Some node) e =
        let at = node_of-from (no_nodes frames) k f node e in
        let clash : None ≡ Some node = sym (none-under frames at.0) ∙ at.1.0 in
        cc

are-none : (frames : ℕ) → AreNodes (no_nodes frames)
are-none frames = record {
  placed = λ key node h. let clash : None ≡ Some node = sym (none-under frames key) ∙ h in absurd (no_some node clash);
  once = λ frame level j k a b. let clash : None ≡ Some a.node = sym (none-under frames j) ∙ a.under in absurd (no_some a.node clash);
}
  where
    no_some : (node : Node) → None ≡ Some node → ⊥
    no_some node e = cc

-- tables without nodes
module _ (t : Tables) (none : AreNone (pages_of t)) where
  no_parents : (k f : ℕ) → parents_of t k f ≡ 0
  no_parents k f = none-parents t.nodes k f (none k f)

  pub clash : {A : Type 0} (k f p : ℕ) → pages_of t k f ≡ Some p → A
  clash k f p is = let e : None ≡ Some p = sym (none k f) ∙ is in cc

  pub no_root : (f : ℕ) → is_among (roots_of t) f ≡ false
  no_root f = is-root t f ∙ ap (λ o. ltb f t.nodes.frames && is_some o) (none 4 f) ∙ never (ltb f t.nodes.frames)
    where
      never : (b : Bool) → (b && false) ≡ false
      never true = refl
      never false = refl

  no_table : (f : ℕ) → is_table (pages_of t) f ≡ false
  no_table f = rw (none 4 f, none 3 f, none 2 f, none 1 f) refl

  module _ (d : Device) (placed : Placed) where
    absent : (k f i : ℕ) → readings_of d t k f i ≡ Absent
    absent k f i = ap (λ o. reading_at d.words t.owners.items k o i) (none k f)

    no_names : (k f : ℕ) → namings (length placed.pages) (readings_of d t) k f ≡ 0
    no_names k f = uses-none (length placed.pages) (readings_of d t) (above k) (names_node k f) absent refl

    pub no_leaf : (h : ℕ) → leaves (length placed.pages) (readings_of d t) h ≡ 0
    no_leaf h =
        let one = uses-none (length placed.pages) (readings_of d t) 1 (maps h) absent refl in
        let five = uses-none (length placed.pages) (readings_of d t) 5 (maps h) absent refl in
        let six = uses-none (length placed.pages) (readings_of d t) 6 (maps h) absent refl in
        omega arith

    pub no_count : count_of (length placed.pages) (pages_of t) ≡ 0
    no_count =
        let one = total-none (length placed.pages) (nodes_of (pages_of t)) (λ f. rw (none 1 f, none 2 f, none 3 f, none 4 f) refl) in
        let two = total-none 32 (splits_of (pages_of t)) (λ j. rw (none 5 (j * 512), none 6 (j * 512)) refl) in
        omega arith

    -- they serve any words of memory, where nothing is told and no chain has a leaf
    module _ (pins : List ℕ) (m : Memory) (stands : Hosts d placed) (frames : t.nodes.frames ≡ length placed.pages) (chains : length t.chains.chains ≡ length placed.pages) (told : length t.told.items ≡ length placed.pages)
        (owners : length t.owners.items ≡ 131072) (ordered : AreInOrder t.chains) (no_chain : (h q : ℕ) (leaf : Leaf) → leaf_at (chain_of t.chains h) q ≡ Some leaf → ⊥) (guarded : (f : ℕ) → flag t.told.items f ≡ false)
        (clean : (block : ℕ) → flag t.touched block ≡ false) (counted : length pins ≡ length placed.pages) (some : (h : ℕ) → h < length placed.pages → get_or pins h 0 ≤ 2 ^ 24)
        (owner : t.guest.0 ≡ placed.guest) (few : length placed.pages ≤ 16384) (nodes : AreNodes t.nodes) (room : d.live + (4 * length placed.pages + 64) ≤ 131072) where
      pub empty-serves : Serves d placed pins t m
      empty-serves = record {
        holds = record {
          stands = stands;
          sound = record {
            frames = frames;
            chains_long = chains;
            told_long = told;
            owners_long = owners;
            boarded = record {
              low = λ k f p is. clash k f p is;
              whole = λ k f p is. clash k f p is;
              long = λ k f p is. clash k f p is;
              below = λ k f p is. clash k f p is;
              apart = λ k f j g p is other. clash k f p is;
              owner = λ k f p is. clash k f p is;
            };
            local = record { labelled = λ k f p is. clash k f p is; names = λ k f p i is small. clash k f p is };
            chained = record { ordered = ordered; linked = λ k f p i h w leafy is small reads. clash k f p is; leaves = λ h q leaf is. absurd (no_chain h q leaf is) };
            counted = λ k f one. let z = no_names k f in omega arith;
          };
          pinned = (counted, λ h low. let z = no_leaf h in let b = some h low in (omega arith, omega arith));
          guest = owner;
          few = few;
          nodes = nodes;
          room = (let z = no_count in omega arith);
        };
        rests = record {
          counted = λ k f one. no_parents k f ∙ sym (rw (no_names k f, no_root f) (off (eqb k 4)));
          alive = λ k f p is. clash k f p is;
          same = λ k f p i is small apart. clash k f p is;
        };
        told = λ f. guarded f ∙ sym (no_table f);
        untouched = clean;
      }
        where
          off : (b : Bool) → 0 + one_if (b && false) ≡ 0
          off true = refl
          off false = refl

module _ (t : Tables) (guest frames : ℕ) (nodes : t.nodes ≡ no_nodes frames) (chains : t.chains ≡ no_leaves frames) (owners : length t.owners.items ≡ 131072) (told : t.told.items ≡ replicate frames false)
    (clean : (block : ℕ) → flag t.touched block ≡ false) (owner : t.guest.0 ≡ guest) (few : frames ≤ 16384) (d : Device) (placed : Placed) (pins : List ℕ) (r : IsReady guest frames d placed pins) where
  none : (k f : ℕ) → node_of t.nodes k f ≡ None
  none k f = ap (λ (s : NodeMap). node_of s k f) nodes ∙ no-node frames k f

  no_page : (k f : ℕ) → pages_of t k f ≡ None
  no_page k f = ap page_of_node (none k f)

  no_chain : (h q : ℕ) (leaf : Leaf) → leaf_at (chain_of t.chains h) q ≡ Some leaf → ⊥
  no_chain h q leaf is =
      let empty : chain_of t.chains h ≡ [] = ap (λ (s : ReverseMap). chain_of s h) chains ∙ same_get frames h [] in
      let e : None ≡ Some leaf = ap (λ l. leaf_at l q) (sym empty) ∙ is in
      cc

  ordered : AreInOrder t.chains
  ordered h =
      let empty : chain_of t.chains h ≡ [] = ap (λ (s : ReverseMap). chain_of s h) chains ∙ same_get frames h [] in
      subst IsInOrder (sym empty) tt

  pub fresh-serves : Serves d placed pins t (memory_in d placed)
  fresh-serves =
      let long = r.long in
      let room = r.room in
      empty-serves t no_page d placed pins (memory_in d placed) r.stands
      (ap (λ (s : NodeMap). s.frames) nodes ∙ sym r.long)
      (ap (λ (s : ReverseMap). length s.chains) chains ∙ length-replicate frames [] ∙ sym r.long)
      (ap length told ∙ length-replicate frames false ∙ sym r.long)
      owners ordered no_chain (λ f. ap (λ (l : List Bool). flag l f) told ∙ same_get frames f false) clean r.counted r.few (owner ∙ sym r.owner) (omega arith) (subst AreNodes (sym nodes) (are-none frames)) (omega arith)
