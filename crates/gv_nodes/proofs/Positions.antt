-- The list of keys and the slab beside it, as the calls leave them.
use Rattle.std.proofs.Common.{◌≡◌, ◌≢◌, ℕ, ◌+◌, ◌*◌, ◌-◌, ◌<◌, ◌≤◌, cond, List, length, get_or, set, Option, Some, None, is_some, IfSome, IfNone, count_by, refl, sym, ap, subst, ◌∙◌, inl, inr, arith, length-set, get_or-set_same, get_or-set_other}
use Rattle.std.proofs.lemmas.Bool.{cases_eq}
use Rattle.std.proofs.lemmas.List.{get_or_default}
use Rattle.std.proofs.lemmas.List.Sums.{sum_by-set}
use Rattle.slab.specs.Slab.{Slab, get, ContainsKey, slab_len, with_value, Updates}
use Rattle.std.specs.FinMap.{FinMap}
use Rattle.std.specs.Ordering.{nat_cmp}
use Rattle.std.specs.Option.{option_map_or}
use Rattle.slab.proofs.SlabLemmas.{ContainsKey-within, Updates-with_value}
use Rattle.gv_nodes.specs.declared.nodes.Node.{Node}
use Rattle.gv_nodes.specs.declared.nodes.Nodes.TheInside.{Inside}
use Rattle.gv_nodes.specs.NodeMap.{NodeMap, node_at, IsKeyOf, IsAbsent, IsPlaced, AreNodes, HasNode, parents_of, with_node, inserted, removed, recounted, with_parents}
use Rattle.gv_nodes.specs.Keys.{position_of, key_at, node_map, AreKeys}
use Rattle.gv_nodes.proofs.Lookups.{get-map_of, map_of-updates}

-- a position is that of one frame and level
same_position-frame : (f g j k : ℕ) → 1 ≤ j → j ≤ 6 → 1 ≤ k → k ≤ 6 → position_of f j ≡ position_of g k → f ≡ g
same_position-frame f g j k one six one' six' same = omega arith

same_position-level : (f g j k : ℕ) → 1 ≤ j → j ≤ 6 → 1 ≤ k → k ≤ 6 → position_of f j ≡ position_of g k → j ≡ k
same_position-level f g j k one six one' six' same = omega arith

module _ (keys : List (Option ℕ)) (tables : Slab Node) (frames spare : ℕ) where
  -- what the map has under a key is what the slab has
  pub node_at-map : (key : ℕ) → node_at (node_map frames tables spare) key ≡ get tables key
  node_at-map key = get-map_of tables key

  -- the key of a frame's node at a level stands in its position
  pub listed_key : AreKeys keys tables frames spare → (frame level key : ℕ) → IsKeyOf (node_map frames tables spare) frame level key → key_at keys frame level ≡ Some key
  listed_key kept frame level key is =
      let there = kept.listed key is.node (sym (node_at-map key) ∙ is.under) in
      ap (λ f. key_at keys f level) (sym is.of_frame) ∙ ap (λ l. key_at keys is.node.frame l) (sym is.at_level) ∙ there

  pub are_nodes : AreKeys keys tables frames spare → AreNodes (node_map frames tables spare)
  are_nodes kept = record {
    placed = λ key node under. kept.placed key node (sym (node_at-map key) ∙ under);
    once = λ frame level j k is_j is_k. let a = listed_key kept frame level j is_j in let b = listed_key kept frame level k is_k in cc;
  }

  pub found_key : AreKeys keys tables frames spare → (frame level key : ℕ) → 1 ≤ level → level ≤ 6 → key_at keys frame level ≡ Some key → IsKeyOf (node_map frames tables spare) frame level key
  found_key kept frame level key low high listed =
      let found = kept.kept (position_of frame level) key listed in
      let placed = kept.placed key found.0 found.1 in
      record {
        node = found.0;
        under = node_at-map key ∙ found.1;
        of_frame = same_position-frame found.0.frame frame found.0.level level placed.low placed.high low high found.2;
        at_level = same_position-level found.0.frame frame found.0.level level placed.low placed.high low high found.2;
      }

  -- what `find` answers
  pub found : AreKeys keys tables frames spare → (frame level : ℕ) → 1 ≤ level → level ≤ 6 → (o : Option ℕ) → o ≡ key_at keys frame level
      → IfSome o (IsKeyOf (node_map frames tables spare) frame level)
  found kept frame level low high None is = tt
  found kept frame level low high (Some key) is = found_key kept frame level key low high (sym is)

  pub none : AreKeys keys tables frames spare → (frame level : ℕ) → (o : Option ℕ) → o ≡ key_at keys frame level → IfNone o (IsAbsent (node_map frames tables spare) frame level)
  none kept frame level None is = λ key it. let there = listed_key kept frame level key it in cc
  none kept frame level (Some key) is = tt

  pub free : AreKeys keys tables frames spare → (frame level : ℕ) → 1 ≤ level → level ≤ 6 → IsAbsent (node_map frames tables spare) frame level
      → (o : Option ℕ) → o ≡ key_at keys frame level → o ≡ None
  free kept frame level low high gone None is = refl
  free kept frame level low high gone (Some key) is = absurd (gone key (found_key kept frame level key low high (sym is)))

abbrev one_key : Option ℕ → ℕ
one_key o = cond (is_some o) 1 0

-- one position of the list is written: how many keys there are then
count-put : (keys : List (Option ℕ)) (position key : ℕ) → position < length keys → get_or keys position None ≡ None → count_by is_some (set keys position (Some key)) ≡ count_by is_some keys + 1
count-put keys position key within free =
    let counted = sum_by-set one_key keys position (Some key) None within in
    let none : one_key (get_or keys position None) ≡ 0 = ap one_key free in
    omega (arith, none, counted)

count-take : (keys : List (Option ℕ)) (position key : ℕ) → position < length keys → get_or keys position None ≡ Some key → count_by is_some (set keys position None) + 1 ≡ count_by is_some keys
count-take keys position key within there =
    let counted = sum_by-set one_key keys position None None within in
    let one : one_key (get_or keys position None) ≡ 1 = ap one_key there in
    omega (arith, one, counted)

position_within : (frames frame level n : ℕ) → frame < frames → 1 ≤ level → level ≤ 6 → n ≡ frames * 6 → position_of frame level < n
position_within frames frame level n small low high is = omega arith

module _ (keys : List (Option ℕ)) (old new : Slab Node) (frames spare : ℕ) (are : AreKeys keys old frames spare) where
  -- a node is put under a key that had none, and the key into the node's position
  pub keys-put : (key : ℕ) (node : Node) → IsPlaced frames node → key_at keys node.frame node.level ≡ None → get old key ≡ None → Updates old new key (Some node)
      → slab_len new ≡ slab_len old + 1 → new.capacity ≡ old.capacity → 1 ≤ spare
      → AreKeys (set keys (position_of node.frame node.level) (Some key)) new frames (spare - 1)
  keys-put key node placed free fresh updates len capacity some =
      let position = position_of node.frame node.level in
      let after = set keys position (Some key) in
      let within : position < length keys = position_within frames node.frame node.level (length keys) placed.frame placed.low placed.high are.positions in
      record {
        positions = length-set keys position (Some key) ∙ are.positions;
        placed = λ k n under. elim (cases_eq k key) [
          | inl same ↦
              let both : Some n ≡ Some node = sym under ∙ ap (get new) same ∙ updates.changed in
              let is : node ≡ n = cc in
              subst (IsPlaced frames) is placed
          | inr apart ↦ are.placed k n (sym (updates.others k apart) ∙ under)
        ];
        listed = λ k n under. elim (cases_eq k key) [
          | inl same ↦
              let both : Some n ≡ Some node = sym under ∙ ap (get new) same ∙ updates.changed in
              let is : n ≡ node = cc in
              ap (λ (m : Node). key_at after m.frame m.level) is ∙ get_or-set_same keys position (Some key) None within ∙ ap Some (sym same)
          | inr apart ↦
              let there = are.listed k n (sym (updates.others k apart) ∙ under) in
              let elsewhere : position_of n.frame n.level ≢ position = λ e. absurd (let here = ap (λ (p : ℕ). get_or keys p None) e in cc) in
              get_or-set_other keys position (position_of n.frame n.level) (Some key) None elsewhere ∙ there
        ];
        kept = λ p k there. elim (cases_eq p position) [
          | inl same ↦
              let both : Some k ≡ Some key = sym there ∙ ap (λ (q : ℕ). get_or after q None) same ∙ get_or-set_same keys position (Some key) None within in
              let is : k ≡ key = cc in
              (node, ap (get new) is ∙ updates.changed, sym same)
          | inr apart ↦
              let was = are.kept p k (sym (get_or-set_other keys position p (Some key) None apart) ∙ there) in
              let other : k ≢ key = λ e. absurd (let had = ap (get old) e in let it = was.1 in cc) in
              (was.0, updates.others k other ∙ was.1, was.2)
        ];
        count = count-put keys position key within free ∙ ap (λ n. n + 1) are.count ∙ sym len;
        room = let room = are.room in omega arith;
        bounded = let bounded = are.bounded in omega arith;
      }

  -- a node is taken out, and its key out of its position
  pub keys-take : (key : ℕ) (node : Node) → get old key ≡ Some node → Updates old new key None
      → slab_len new + 1 ≡ slab_len old → new.capacity ≡ old.capacity
      → AreKeys (set keys (position_of node.frame node.level) None) new frames (spare + 1)
  keys-take key node there updates len capacity =
      let placed = are.placed key node there in
      let position = position_of node.frame node.level in
      let after = set keys position None in
      let listed = are.listed key node there in
      let within : position < length keys = position_within frames node.frame node.level (length keys) placed.frame placed.low placed.high are.positions in
      let other : (k : ℕ) (n : Node) → get new k ≡ Some n → k ≢ key = λ k n under e. absurd (let it = ap (get new) e in let gone = updates.changed in cc) in
      let before : (k : ℕ) (n : Node) → get new k ≡ Some n → get old k ≡ Some n = λ k n under. sym (updates.others k (other k n under)) ∙ under in
      record {
        positions = length-set keys position None ∙ are.positions;
        placed = λ k n under. are.placed k n (before k n under);
        listed = λ k n under.
            let there = are.listed k n (before k n under) in
            let elsewhere : position_of n.frame n.level ≢ position = λ e. absurd (other k n under (let here = ap (λ (p : ℕ). get_or keys p None) e in cc)) in
            get_or-set_other keys position (position_of n.frame n.level) None None elsewhere ∙ there;
        kept = λ p k stands. elim (cases_eq p position) [
          | inl same ↦ absurd (let none = sym stands ∙ ap (λ (q : ℕ). get_or after q None) same ∙ get_or-set_same keys position None None within in cc)
          | inr apart ↦
              let was = are.kept p k (sym (get_or-set_other keys position p None None apart) ∙ stands) in
              let other : k ≢ key = λ e. absurd (apart (let had = ap (get old) e in let it = was.1 in let both : was.0 ≡ node = cc in sym was.2 ∙ ap (λ (n : Node). position_of n.frame n.level) both)) in
              (was.0, updates.others k other ∙ was.1, was.2)
        ];
        count = let counted = count-take keys position key within listed in let counts = are.count in omega arith;
        room = let room = are.room in omega arith;
        bounded = let bounded = are.bounded in omega arith;
      }

  -- the node under a key gives way to another of the same frame and level
  pub keys-replace : (key : ℕ) (node other : Node) → get old key ≡ Some node → other.frame ≡ node.frame → other.level ≡ node.level → Updates old new key (Some other)
      → slab_len new ≡ slab_len old → new.capacity ≡ old.capacity → AreKeys keys new frames spare
  keys-replace key node other there frame level updates len capacity =
      let placed = are.placed key node there in
      record {
        positions = are.positions;
        placed = λ k n under. elim (cases_eq k key) [
          | inl same ↦
              let both : Some n ≡ Some other = sym under ∙ ap (get new) same ∙ updates.changed in
              let is : n ≡ other = cc in
              let f = ap (λ (m : Node). m.frame) is in
              let l = ap (λ (m : Node). m.level) is in
              record { frame = omega arith; low = omega arith; high = omega arith }
          | inr apart ↦ are.placed k n (sym (updates.others k apart) ∙ under)
        ];
        listed = λ k n under. elim (cases_eq k key) [
          | inl same ↦
              let both : Some n ≡ Some other = sym under ∙ ap (get new) same ∙ updates.changed in
              let is : n ≡ other = cc in
              ap (λ (m : Node). key_at keys m.frame m.level) is ∙ ap (λ (f : ℕ). key_at keys f other.level) frame ∙ ap (λ (l : ℕ). key_at keys node.frame l) level
              ∙ are.listed key node there ∙ ap Some (sym same)
          | inr apart ↦ are.listed k n (sym (updates.others k apart) ∙ under)
        ];
        kept = λ p k listed. let was = are.kept p k listed in elim (cases_eq k key) [
          | inl same ↦
              let had = ap (get old) same in
              let it = was.1 in
              let both : node ≡ was.0 = cc in
              (other, ap (get new) same ∙ updates.changed, ap (λ (f : ℕ). position_of f other.level) frame ∙ ap (λ (l : ℕ). position_of node.frame l) level ∙ ap (λ (m : Node). position_of m.frame m.level) both ∙ was.2)
          | inr apart ↦ (was.0, updates.others k apart ∙ was.1, was.2)
        ];
        count = are.count ∙ sym len;
        room = let room = are.room in omega arith;
        bounded = let bounded = are.bounded in omega arith;
      }

abbrev one_node : Option Node → ℕ
one_node o = cond (is_some o) 1 0

pub slab_len-with_value : (tables : Slab Node) (key : ℕ) (node other : Node) → get tables key ≡ Some node → slab_len (with_value tables key other) ≡ slab_len tables
slab_len-with_value tables key node other there =
    let within = ContainsKey-within tables key (ap is_some there) in
    let counted = sum_by-set one_node tables.slots key (Some other) None within in
    let one : one_node (get tables key) ≡ 1 = ap one_node there in
    omega (arith, one, counted)

-- the map that callers see of these fields
module _ (s : Inside) (now : NodeMap) (seen : node_map s.frames s.tables s.spare ≡ now) where
  pub under : (key : ℕ) → node_at now key ≡ get s.tables key
  under key = ap (λ (m : NodeMap). node_at m key) (sym seen) ∙ get-map_of s.tables key

  pub spare_is : now.spare ≡ s.spare
  spare_is = sym (ap (λ (m : NodeMap). m.spare) seen)

  pub contains : (key : ℕ) → HasNode now key → ContainsKey s.tables key
  contains key has = ap is_some (sym (under key)) ∙ has

  pub parents_now : (key : ℕ) (node : Node) → get s.tables key ≡ Some node → parents_of now key ≡ node.parents
  parents_now key node there = ap (λ (o : Option Node). option_map_or (λ (n : Node). n.parents) o 0) (under key ∙ there)

  pub node_now : (key : ℕ) (node : Node) → get s.tables key ≡ Some node → (parents : ℕ) → recounted (node_at now key) parents ≡ Some (record node { parents = parents })
  node_now key node there parents = ap (λ (o : Option Node). recounted o parents) (under key ∙ there)

  pub parents_left : (key : ℕ) (node : Node) (parents : ℕ) → get s.tables key ≡ Some node
      → parents_of (node_map s.frames (with_value s.tables key (record node { parents = parents })) s.spare) key ≡ parents
  parents_left key node parents there =
      let other : Node = record node { parents = parents } in
      ap (λ (o : Option Node). option_map_or (λ (n : Node). n.parents) o 0)
      (get-map_of (with_value s.tables key other) key ∙ (Updates-with_value s.tables key other (ap is_some there)).changed)

  pub all_nodes : AreKeys s.keys.items s.tables s.frames s.spare → AreNodes now
  all_nodes are = subst AreNodes seen (are_nodes s.keys.items s.tables s.frames s.spare are)

  -- the map after an update of the slab
  view-updated : (new : Slab Node) (key : ℕ) (node : Option Node) (spare : ℕ) → Updates s.tables new key node → node_map s.frames new spare ≡ record now { nodes = with_node now.nodes key node; spare = spare }
  view-updated new key node spare updates =
      ap (λ (nodes : FinMap nat_cmp Node). let m : NodeMap = record { frames = s.frames; nodes = nodes; spare = spare } in m) (map_of-updates s.tables new key node updates)
      ∙ ap (λ (m : NodeMap). let n : NodeMap = record m { nodes = with_node m.nodes key node; spare = spare } in n) seen

  pub view-inserted : (new : Slab Node) (key : ℕ) (node : Node) → Updates s.tables new key (Some node) → node_map s.frames new (s.spare - 1) ≡ inserted now key node
  view-inserted new key node updates =
      ap (λ (spare : ℕ). node_map s.frames new (spare - 1)) (sym spare_is) ∙ view-updated new key (Some node) (now.spare - 1) updates

  pub view-removed : (new : Slab Node) (key : ℕ) → Updates s.tables new key None → node_map s.frames new (s.spare + 1) ≡ removed now key
  view-removed new key updates =
      ap (λ (spare : ℕ). node_map s.frames new (spare + 1)) (sym spare_is) ∙ view-updated new key None (now.spare + 1) updates

  pub view-parents : (key : ℕ) (node : Node) (parents : ℕ) → get s.tables key ≡ Some node
      → node_map s.frames (with_value s.tables key (record node { parents = parents })) s.spare ≡ with_parents now key parents
  view-parents key node parents there =
      let other : Node = record node { parents = parents } in
      ap (λ (spare : ℕ). node_map s.frames (with_value s.tables key other) spare) (sym spare_is)
      ∙ view-updated (with_value s.tables key other) key (Some other) now.spare (Updates-with_value s.tables key other (ap is_some there))
      ∙ ap (λ (o : Option Node). let m : NodeMap = record now { nodes = with_node now.nodes key o } in m) (sym (node_now key node there parents))

  -- the node has another count of parents
  pub keys-parents : (key : ℕ) (node : Node) (parents : ℕ) → get s.tables key ≡ Some node → AreKeys s.keys.items s.tables s.frames s.spare
      → AreKeys s.keys.items (with_value s.tables key (record node { parents = parents })) s.frames s.spare
  keys-parents key node parents there are =
      let other : Node = record node { parents = parents } in
      keys-replace s.keys.items s.tables (with_value s.tables key other) s.frames s.spare are key node other there refl refl
      (Updates-with_value s.tables key other (ap is_some there)) (slab_len-with_value s.tables key node other there) refl

  pub frame_within : (frame : ℕ) → frame < now.frames → frame < s.frames
  frame_within frame within = let same = ap (λ (m : NodeMap). m.frames) seen in omega arith

  module _ (are : AreKeys s.keys.items s.tables s.frames s.spare) (frame level position : ℕ) (within : frame < now.frames) (low : 1 ≤ level) (high : level ≤ 6) (is_position : position ≡ position_of frame level) where
    -- what is read at the position
    read : (o : Option ℕ) → o ≡ get_or s.keys.items position o → o ≡ key_at s.keys.items frame level
    read o there =
        let inside : position < length s.keys.items = rw is_position (position_within s.frames frame level (length s.keys.items) (frame_within frame within) low high are.positions) in
        there ∙ get_or_default s.keys.items position o None inside ∙ ap (λ (p : ℕ). get_or s.keys.items p None) is_position

    pub found_now : (o : Option ℕ) → o ≡ get_or s.keys.items position o → IfSome o (IsKeyOf now frame level)
    found_now o there =
        subst (λ (m : NodeMap). IfSome o (IsKeyOf m frame level)) seen
        (found s.keys.items s.tables s.frames s.spare are frame level low high o (read o there))

    pub none_now : (o : Option ℕ) → o ≡ get_or s.keys.items position o → IfNone o (IsAbsent now frame level)
    none_now o there =
        subst (λ (m : NodeMap). IfNone o (IsAbsent m frame level)) seen
        (none s.keys.items s.tables s.frames s.spare are frame level o (read o there))

    pub free_now : IsAbsent now frame level → key_at s.keys.items frame level ≡ None
    free_now gone =
        free s.keys.items s.tables s.frames s.spare are frame level low high
        (subst (λ (m : NodeMap). IsAbsent m frame level) (sym seen) gone) (key_at s.keys.items frame level) refl
