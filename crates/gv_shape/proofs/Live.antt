-- Where nothing is left to do, the nodes are exactly the live tables.
use Rattle.std.proofs.Common.{ℕ, zero, suc, ◌+◌, ◌≤◌, ◌<◌, ◌≡◌, Bool, true, false, ◌&&◌, eqb, ltb, cond, List, Option, None, Some, length, get_or, refl, sym, ap, ◌∙◌, arith, ⊎_elim}
use Rattle.std.specs.List.{list_any, range_with_len}
use Rattle.std.proofs.lemmas.Bool.{eqb-true, eq-eqb, and_parts, and_from, cases_lt, false≢true, ltb-true, ne_eqb}
use Rattle.std.proofs.lemmas.Bool.Decides.{nat_tests}
use Rattle.std.proofs.lemmas.List.Folds.{Any-from_list_any, list_any_at}
use Rattle.std.proofs.lemmas.List.FromFn.{length-range_with_len, get_or-range_with_len}
use Rattle.std.proofs.lemmas.Map.Views.{any-filter_same}
use Rattle.std.proofs.lemmas.List.{get_or_default}
use Rattle.gv_types.specs.Memory.{Memory}
use Rattle.gv_entry.specs.declared.process.Process.{Process}
use Rattle.gv_entry.specs.declared.process.Process.TheVariants.{Absent, Table, Large, Page, Bad}
use Rattle.gv_entry.specs.Entry.{process_entry}
use Rattle.gv_entry.specs.Tables.{level_entry, names, names_large, frame_words, any_entry, tables_named, live}
use Rattle.gv_shape.specs.Shadow.{Pages, Readings, split_level, wanted, is_live, is_split}
use Rattle.gv_shape.specs.Counts.{total, one_if, uses, namings, names_node, is_among, Settled}
use Rattle.gv_shape.proofs.Totals.{total-some, total-at}

-- the first place that passes
found : {X : Type 0} (p : X → Bool) (xs : List X) (d : X) → list_any p xs ≡ true → (k : ℕ) × (k < length xs) × (p (get_or xs k d) ≡ true)
found p xs d h =
    let any = Any-from_list_any p xs h in
    (any.0, any.2, ap p (get_or_default xs any.0 d any.1 any.2 ∙ any.3) ∙ any.4)

in_range : (n f : ℕ) → f < n → list_any (λ t. eqb t f) (range_with_len 0 n) ≡ true
in_range n f b = list_any_at (λ t. eqb t f) (range_with_len 0 n) f 0 (rw length-range_with_len b) (eq-eqb _ f (get_or-range_with_len 0 n f 0 b ∙ omega arith))

range_below : (n f : ℕ) → list_any (λ t. eqb t f) (range_with_len 0 n) ≡ true → f < n
range_below n f h =
    let at = found (λ t. eqb t f) (range_with_len 0 n) 0 h in
    let k = at.0 in
    let b : k < n = rw length-range_with_len at at.1 in
    let is = eqb-true (get_or (range_with_len 0 n) k 0) f at.2 in
    let was = get_or-range_with_len 0 n k 0 b in
    omega arith

module _ (m : Memory) (level : ℕ) (tables : List ℕ) (f : ℕ) where
  named_is : list_any (λ t. eqb t f) (tables_named m level tables) ≡ (list_any (any_entry m level (names f)) tables && list_any (λ t. eqb t f) (range_with_len 0 (length m)))
  named_is = any-filter_same (λ t. eqb t f) (λ frame. list_any (any_entry m level (names frame)) tables) (list_any (any_entry m level (names f)) tables)
      (λ k h. ap (λ frame. list_any (any_entry m level (names frame)) tables) (eqb-true k f h)) (range_with_len 0 (length m))

  -- a table of the level names the frame
  pub named_at : list_any (λ t. eqb t f) (tables_named m level tables) ≡ true
      → (f < length m) × ((t i : ℕ) × ((list_any (λ x. eqb x t) tables ≡ true) × ((i < length (frame_words m t)) × (names f (level_entry m level t i) ≡ true))))
  named_at h =
      let both = and_parts (list_any (any_entry m level (names f)) tables) (list_any (λ t. eqb t f) (range_with_len 0 (length m))) (sym named_is ∙ h) in
      let at = found (any_entry m level (names f)) tables 0 both.0 in
      let t = get_or tables at.0 0 in
      let word = found (λ w. names f (process_entry w level (length m))) (frame_words m t) 0 at.2 in
      (range_below (length m) f both.1, (t, word.0, (list_any_at (λ x. eqb x t) tables at.0 0 at.1 (eq-eqb t t refl), (word.1, word.2))))

  pub named_by : (t i : ℕ) → f < length m → list_any (λ x. eqb x t) tables ≡ true → i < length (frame_words m t) → names f (level_entry m level t i) ≡ true → list_any (λ x. eqb x f) (tables_named m level tables) ≡ true
  named_by t i low there within is =
      let at = found (λ x. eqb x t) tables 0 there in
      let which = eqb-true (get_or tables at.0 0) t at.2 in
      let word : any_entry m level (names f) t ≡ true = list_any_at (λ w. names f (process_entry w level (length m))) (frame_words m t) i 0 within is in
      let any : list_any (any_entry m level (names f)) tables ≡ true = list_any_at (any_entry m level (names f)) tables at.0 0 at.1 (ap (any_entry m level (names f)) which ∙ word) in
      named_is ∙ and_from _ _ any (in_range (length m) f low)

some_or_none : {A : Type 0} (o : Option A) (P : Type 0) → ((x : A) → o ≡ Some x → P) → (o ≡ None → P) → P
some_or_none (Some x) P some none = some x refl
some_or_none None P some none = none refl

-- what names a table isn't an absent entry
named_some : (f : ℕ) (e : Process) → e ≡ Absent → names f e ≡ true → ⊥
named_some f Absent is h = cc
named_some f (Table t) is h = cc
named_some f (Large b w) is h = cc
named_some f (Page t w) is h = cc
named_some f Bad is h = cc

abbrev live_of : Memory → List ℕ → List ℕ
live_of m roots = live m roots 2

same_name : (level f : ℕ) (e : Process) → ltb level 5 ≡ true → names_node level f e ≡ names f e
same_name level f Absent h = refl
same_name level f (Table t) h = ap (λ b. b && eqb t f) h
same_name level f (Large b w) h = other w
  where
    high : (w : Bool) → eqb (split_level w) level ≡ false
    high true = ne_eqb 5 level (λ e. let low = ltb-true level 5 h in omega arith)
    high false = ne_eqb 6 level (λ e. let low = ltb-true level 5 h in omega arith)

    other : (w : Bool) → (eqb (split_level w) level && eqb b f) ≡ false
    other w = ap (λ x. x && eqb b f) (high w)
same_name level f (Page t w) h = refl
same_name level f Bad h = refl

same_large : (w : Bool) (b : ℕ) (e : Process) → names_node (split_level w) b e ≡ names_large b w e
same_large true b Absent = refl
same_large true b (Table t) = refl
same_large true b (Large c true) = by (eqb c b)
  where
    by : (x : Bool) → x ≡ (x && true)
    by true = refl
    by false = refl
same_large true b (Large c false) = by (eqb c b)
  where
    by : (x : Bool) → false ≡ (x && false)
    by true = refl
    by false = refl
same_large true b (Page t w) = refl
same_large true b Bad = refl
same_large false b Absent = refl
same_large false b (Table t) = refl
same_large false b (Large c true) = by (eqb c b)
  where
    by : (x : Bool) → false ≡ (x && false)
    by true = refl
    by false = refl
same_large false b (Large c false) = by (eqb c b)
  where
    by : (x : Bool) → x ≡ (x && true)
    by true = refl
    by false = refl
same_large false b (Page t w) = refl
same_large false b Bad = refl

one_true : (b : Bool) → 1 ≤ one_if b → b ≡ true
one_true true h = refl
one_true false h = absurd (omega arith)

true_one : (b : Bool) → b ≡ true → one_if b ≡ 1
true_one true h = refl
true_one false h = cc

module _ (frames : ℕ) (m : Memory) (roots : List ℕ) (done : ℕ) (pages : Pages) (parents : ℕ → ℕ → ℕ) (readings : Readings)
    (long : length m ≡ frames) (whole : (f : ℕ) → f < frames → length (frame_words m f) ≡ 512) (s : Settled frames m roots done pages parents readings) where
  -- a word that passes a test, at a level that is done
  passed_at : (level : ℕ) (test : Process → Bool) → test Absent ≡ false → done < level → 1 ≤ uses frames readings level test → (t i p : ℕ) × ((pages level t ≡ Some p) × ((i < 512) × (test (wanted m level t i) ≡ true)))
  passed_at level test none up h =
      let outer = total-some frames (λ t. total 512 (λ i. one_if (test (readings level t i)))) h in
      let t = outer.0 in
      let inner = total-some 512 (λ i. one_if (test (readings level t i))) outer.2 in
      let i = inner.0 in
      let is : test (readings level t i) ≡ true = one_true (test (readings level t i)) inner.2 in
      some_or_none (pages level t) _
      (λ p there. (t, i, p, (there, (inner.1, ap test (sym (s.same level t p i up there inner.1)) ∙ is))))
      (λ gone. absurd (false≢true (sym none ∙ ap test (sym (s.empty level t i gone)) ∙ is)))

  passed_by : (level t i p : ℕ) (test : Process → Bool) → done < level → pages level t ≡ Some p → i < 512 → test (wanted m level t i) ≡ true → 1 ≤ uses frames readings level test
  passed_by level t i p test up there within is =
      let here : test (readings level t i) ≡ true = ap test (s.same level t p i up there within) ∙ is in
      let one : one_if (test (readings level t i)) ≡ 1 = true_one _ here in
      let inner = total-at 512 i (λ i. one_if (test (readings level t i))) within in
      let outer = total-at frames t (λ t. total 512 (λ i. one_if (test (readings level t i)))) (s.low level t p there).0 in
      omega arith

  low_level : (level : ℕ) → level ≤ 4 → ltb level 5 ≡ true
  low_level level few = grind (arith, nat_tests)

  is_entry : (level t i : ℕ) → level ≤ 4 → wanted m level t i ≡ level_entry m level t i
  is_entry level t i few = λ x. cond (low_level level few x) (level_entry m level t i) (Page (t + i) (eqb level 5))

  is_naming : (level f : ℕ) → level ≤ 4 → namings frames readings level f ≡ uses frames readings (level + 1) (names f)
  is_naming level f few = λ x. uses frames readings (cond (low_level level few x) (level + 1) 2) (λ e. same_name level f e (low_level level few) x)

  -- a node below a root has a word that names it
  named_from : (level f : ℕ) → level ≤ 3 → done ≤ level → 1 ≤ uses frames readings (level + 1) (names f) → (t i p : ℕ) × ((pages (level + 1) t ≡ Some p) × ((i < 512) × (names f (level_entry m (level + 1) t i) ≡ true)))
  named_from level f few up h =
      let at = passed_at (level + 1) (names f) refl (omega arith) h in
      (at.0, at.1, at.2, (at.3.0, (at.3.1.0, ap (names f) (sym (is_entry (level + 1) at.0 at.1 (omega arith))) ∙ at.3.1.1)))

  named_to : (level f t i p : ℕ) → 1 ≤ level → level ≤ 3 → done ≤ level → pages (level + 1) t ≡ Some p → i < 512 → names f (level_entry m (level + 1) t i) ≡ true → 1 ≤ parents level f
  named_to level f t i p some few up there within is =
      let by = passed_by (level + 1) t i p (names f) (omega arith) there within (ap (names f) (is_entry (level + 1) t i (omega arith)) ∙ is) in
      let counted = s.counted level f some in
      let naming = is_naming level f (omega arith) in
      omega arith

  exists : (level f : ℕ) → 1 ≤ parents level f → (p : ℕ) × (pages level f ≡ Some p)
  exists level f h = some_or_none (pages level f) _ (λ p is. (p, is)) (λ none. let zero = s.none level f none in absurd (omega arith))

  record AreLive (level : ℕ) : Type 0 where
    nodes_live : (f p : ℕ) → pages level f ≡ Some p → is_live m roots level f ≡ true
    live_nodes : (f : ℕ) → is_live m roots level f ≡ true → (p : ℕ) × (pages level f ≡ Some p)

  -- no leaf of a split table names a table
  no_fifth : done ≤ 4 → (f : ℕ) → uses frames readings 5 (names f) ≡ 0
  no_fifth four f = at_most (uses frames readings 5 (names f)) (λ h. let at = passed_at 5 (names f) refl (omega arith) h in false≢true at.3.1.1)
    where
      at_most : (n : ℕ) → (1 ≤ n → ⊥) → n ≡ 0
      at_most n never = ⊎_elim (λ z. omega arith) (λ some. absurd (never some)) (cases_lt n 1)

  roots_live : done ≤ 4 → AreLive 4
  roots_live four = record {
    nodes_live = λ f p is.
        let counted = s.counted 4 f (omega arith) in
        let naming = is_naming 4 f (omega arith) in
        let none = no_fifth four f in
        let alive = s.alive 4 f p is in
        one_true (is_among roots f) (let h : 1 ≤ one_if (is_among roots f) = omega arith in h);
    live_nodes = λ f is.
        let counted = s.counted 4 f (omega arith) in
        let one : one_if (is_among roots f) ≡ 1 = true_one _ is in
        exists 4 f (omega arith);
  }

  module _ (level : ℕ) (some : 1 ≤ level) (few : level < 4) (here : done ≤ level) (step : live m roots level ≡ tables_named m (level + 1) (live m roots (level + 1))) where
    not_root : (f : ℕ) → one_if (eqb level 4 && is_among roots f) ≡ 0
    not_root f = grind (arith, nat_tests)

    lower : AreLive (level + 1) → AreLive level
    lower up = record {
      nodes_live = λ f p is.
          let counted = s.counted level f some in
          let alive = s.alive level f p is in
          let other = not_root f in
          let naming = is_naming level f (omega arith) in
          let from = named_from level f (omega arith) here (omega arith) in
          let t = from.0 in
          let i = from.1 in
          let low = (s.low level f p is).0 in
          let there = (s.low (level + 1) t from.2 from.3.0).0 in
          ap (list_any (λ x. eqb x f)) step
          ∙ named_by m (level + 1) (live m roots (level + 1)) f t i (rw long low) (up.nodes_live t from.2 from.3.0) (rw (whole t there) from.3.1.0) from.3.1.1;
      live_nodes = λ f is.
          let at = named_at m (level + 1) (live m roots (level + 1)) f (ap (list_any (λ x. eqb x f)) (sym step) ∙ is) in
          let t = at.1.0 in
          let i = at.1.1 in
          let node = up.live_nodes t at.1.2.0 in
          let low = (s.low (level + 1) t node.0 node.1).0 in
          exists level f (named_to level f t i node.0 some (omega arith) here node.1 (let w : i < length (frame_words m t) = at.1.2.1.0 in rw (whole t low) at w) at.1.2.1.1);
    }

  third_live : done ≤ 3 → AreLive 3
  third_live h = lower 3 (omega arith) (omega arith) h refl (roots_live (omega arith))

  second_live : done ≤ 2 → AreLive 2
  second_live h = lower 2 (omega arith) (omega arith) h refl (third_live (omega arith))

  first_live : done ≤ 1 → AreLive 1
  first_live h = lower 1 (omega arith) (omega arith) h refl (second_live (omega arith))

  -- A node exists exactly for each live pair and each split key.
  pub node-live : (level f p : ℕ) → level ≤ 4 → done ≤ level → pages level f ≡ Some p → is_live m roots level f ≡ true
  node-live zero f p few h is = let low = (s.low 0 f p is).1 in absurd (omega arith)
  node-live (suc zero) f p few h is = (first_live h).nodes_live f p is
  node-live (suc (suc zero)) f p few h is = (second_live h).nodes_live f p is
  node-live (suc (suc (suc zero))) f p few h is = (third_live h).nodes_live f p is
  node-live (suc (suc (suc (suc zero)))) f p few h is = (roots_live h).nodes_live f p is
  node-live (suc (suc (suc (suc (suc k))))) f p few h is = absurd (omega arith)

  pub live-node : (level f : ℕ) → 1 ≤ level → level ≤ 4 → done ≤ level → is_live m roots level f ≡ true → (p : ℕ) × (pages level f ≡ Some p)
  live-node zero f low high h is = absurd (omega arith)
  live-node (suc zero) f low high h is = (first_live h).live_nodes f is
  live-node (suc (suc zero)) f low high h is = (second_live h).live_nodes f is
  live-node (suc (suc (suc zero))) f low high h is = (third_live h).live_nodes f is
  live-node (suc (suc (suc (suc zero)))) f low high h is = (roots_live h).live_nodes f is
  live-node (suc (suc (suc (suc (suc k))))) f low high h is = absurd (omega arith)

  -- what a split table's parents are
  is_large_naming : (w : Bool) (b : ℕ) → namings frames readings (split_level w) b ≡ uses frames readings 2 (names_large b w)
  is_large_naming true b = λ x. uses frames readings 2 (λ e. same_large true b e x)
  is_large_naming false b = λ x. uses frames readings 2 (λ e. same_large false b e x)

  split_counted : done ≤ 1 → (w : Bool) (b : ℕ) → parents (split_level w) b ≡ uses frames readings 2 (names_large b w)
  split_counted h true b = let counted = s.counted 5 b (omega arith) in let naming = is_large_naming true b in omega arith
  split_counted h false b = let counted = s.counted 6 b (omega arith) in let naming = is_large_naming false b in omega arith

  pub node-split : (w : Bool) (b p : ℕ) → done ≤ 1 → pages (split_level w) b ≡ Some p → is_split m roots b w ≡ true
  node-split w b p h is =
      let counted = split_counted h w b in
      let alive = s.alive (split_level w) b p is in
      let at = passed_at 2 (names_large b w) refl (omega arith) (omega arith) in
      let t = at.0 in
      let i = at.1 in
      let low = (s.low 2 t at.2 at.3.0).0 in
      let live = (second_live (omega arith)).nodes_live t at.2 at.3.0 in
      let found_at = found (λ x. eqb x t) (live_of m roots) 0 live in
      let which = eqb-true (get_or (live_of m roots) found_at.0 0) t found_at.2 in
      let within : i < length (frame_words m t) = rw (whole t low) at.3.1.0 in
      let word : any_entry m 2 (names_large b w) t ≡ true = list_any_at (λ word. names_large b w (process_entry word 2 (length m))) (frame_words m t) i 0 within at.3.1.1 in
      list_any_at (any_entry m 2 (names_large b w)) (live_of m roots) found_at.0 0 found_at.1 (ap (any_entry m 2 (names_large b w)) which ∙ word)

  pub split-node : (w : Bool) (b : ℕ) → done ≤ 1 → is_split m roots b w ≡ true → (p : ℕ) × (pages (split_level w) b ≡ Some p)
  split-node w b h is =
      let at = found (any_entry m 2 (names_large b w)) (live_of m roots) 0 is in
      let t = get_or (live_of m roots) at.0 0 in
      let word = found (λ word. names_large b w (process_entry word 2 (length m))) (frame_words m t) 0 at.2 in
      let node = (second_live (omega arith)).live_nodes t (list_any_at (λ x. eqb x t) (live_of m roots) at.0 0 at.1 (eq-eqb t t refl)) in
      let low = (s.low 2 t node.0 node.1).0 in
      let within : word.0 < 512 = (let b : word.0 < length (frame_words m t) = word.1 in rw (whole t low) at b) in
      let by = passed_by 2 t word.0 node.0 (names_large b w) (omega arith) node.1 within word.2 in
      let counted = split_counted h w b in
      exists (split_level w) b (omega arith)
