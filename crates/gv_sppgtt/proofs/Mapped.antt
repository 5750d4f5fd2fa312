-- Leaves map exactly the frames that the guest's own tables map.
use Rattle.std.proofs.Common.{ℕ, zero, suc, ◌+◌, ◌-◌, ◌^◌, ◌≤◌, ◌<◌, ◌≡◌, Bool, true, false, ◌||◌, eqb, ltb, List, Option, None, Some, length, get_or, refl, sym, ap, ◌∙◌, arith, ⊎_elim}
use Rattle.std.specs.List.{list_any}
use Rattle.std.proofs.lemmas.Bool.{eqb-true, eq-eqb, cases_lt, false≢true}
use Rattle.std.proofs.lemmas.Bool.Decides.{nat_tests}
use Rattle.std.proofs.lemmas.List.Folds.{Any-from_list_any, list_any_at}
use Rattle.std.proofs.lemmas.List.{get_or_default}
use Rattle.gv_types.specs.Memory.{Memory}
use Rattle.gv_entry.specs.declared.process.Process.{Process}
use Rattle.gv_entry.specs.declared.process.Process.TheVariants.{Absent, Table, Large, Page, Bad}
use Rattle.gv_entry.specs.Entry.{process_entry}
use Rattle.gv_entry.specs.Tables.{level_entry, names_large, frame_words, any_entry, live}
use Rattle.gv_entry.specs.Grants.{is_mapped, maps as maps_frame}
use Rattle.gv_shape.specs.Shadow.{Pages, Readings, split_level, wanted, is_live, is_split}
use Rattle.gv_shape.specs.Counts.{total, one_if, uses, maps, leaves, Settled}
use Rattle.gv_shape.proofs.Totals.{total-some, total-at, total-bound}
use Rattle.gv_shape.proofs.Live.{node-live, live-node, node-split, split-node}
use Rattle.gv_sppgtt.proofs.BadEntries.{page-is, large-is}

found : {X : Type 0} (p : X → Bool) (xs : List X) (d : X) → list_any p xs ≡ true → (k : ℕ) × (k < length xs) × (p (get_or xs k d) ≡ true)
found p xs d h =
    let any = Any-from_list_any p xs h in
    (any.0, any.2, ap p (get_or_default xs any.0 d any.1 any.2 ∙ any.3) ∙ any.4)

-- a test that passes where another does
any-weaker : {X : Type 0} (p q : X → Bool) (xs : List X) (d : X) → ((x : X) → p x ≡ true → q x ≡ true) → list_any p xs ≡ true → list_any q xs ≡ true
any-weaker p q xs d weaker h = let at = found p xs d h in list_any_at q xs at.0 d at.1 (weaker (get_or xs at.0 d) at.2)

one_true : (b : Bool) → 1 ≤ one_if b → b ≡ true
one_true true h = refl
one_true false h = absurd (omega arith)

true_one : (b : Bool) → b ≡ true → one_if b ≡ 1
true_one true h = refl
true_one false h = cc

one_most : (b : Bool) → one_if b ≤ 1
one_most true = omega arith
one_most false = omega arith

some_or_none : {A : Type 0} (o : Option A) (P : Type 0) → ((x : A) → o ≡ Some x → P) → (o ≡ None → P) → P
some_or_none (Some x) P some none = some x refl
some_or_none None P some none = none refl

or-left : (a b : Bool) → a ≡ true → (a || b) ≡ true
or-left true b h = refl
or-left false b h = cc

or-right : (a b : Bool) → b ≡ true → (a || b) ≡ true
or-right true b h = refl
or-right false b h = h

-- of a sum whose terms are at most 1, and one alone above 0
total-once : (n : ℕ) (f : ℕ → ℕ) → ((j : ℕ) → f j ≤ 1) → ((j k : ℕ) → j < n → k < n → 1 ≤ f j → 1 ≤ f k → j ≡ k) → total n f ≤ 1
unfolding total
total-once zero f most one = omega arith
total-once (suc n) f most one = ⊎_elim
    (λ none. let rest = total-once n f most (λ j k a b. one j k (omega arith) (omega arith)) in omega arith)
    (λ some. ⊎_elim
    (λ zero. let last = most n in omega arith)
    (λ more. let at = total-some n f more in let low = at.1 in let clash = one at.0 n (omega arith) (omega arith) at.2 some in absurd (omega arith))
    (cases_lt (total n f) 1))
    (cases_lt (f n) 1)

-- an entry of the guest's tables that maps a frame, by its level
maps-one : (frame : ℕ) (e : Process) → maps frame e ≡ true → maps_frame frame e ≡ true
maps-one frame Absent h = h
maps-one frame (Table t) h = h
maps-one frame (Large b w) h = cc
maps-one frame (Page f w) h = h
maps-one frame Bad h = h

maps-page : (frame : ℕ) (e : Process) → ((b : ℕ) (w : Bool) → e ≡ Large b w → ⊥) → maps_frame frame e ≡ true → maps frame e ≡ true
maps-page frame Absent small h = h
maps-page frame (Table t) small h = h
maps-page frame (Large b w) small h = absurd (small b w refl)
maps-page frame (Page f w) small h = h
maps-page frame Bad small h = h

maps-large : (frame b : ℕ) (w : Bool) (e : Process) → b ≤ frame → frame < b + 512 → names_large b w e ≡ true → maps_frame frame e ≡ true
maps-large frame b w Absent low high h = h
maps-large frame b w (Table t) low high h = h
maps-large frame b w (Large c v) low high h = grind (arith, nat_tests)
maps-large frame b w (Page f v) low high h = cc
maps-large frame b w Bad low high h = h

names-itself : (b : ℕ) (w : Bool) → names_large b w (Large b w) ≡ true
names-itself b true = rw (eq-eqb b b refl) refl
names-itself b false = rw (eq-eqb b b refl) refl

maps-some : (frame : ℕ) (e : Process) → ((f : ℕ) (w : Bool) → e ≡ Page f w → ⊥) → maps_frame frame e ≡ true → (b : ℕ) × (w : Bool) × (e ≡ Large b w) × ((b ≤ frame) × (frame < b + 512))
maps-some frame Absent large h = cc
maps-some frame (Table t) large h = cc
maps-some frame (Large b w) large h = (b, w, refl, (grind (arith, nat_tests), grind (arith, nat_tests)))
maps-some frame (Page f w) large h = absurd (large f w refl)
maps-some frame Bad large h = cc

module _ (frames : ℕ) (m : Memory) (roots : List ℕ) (pages : Pages) (parents : ℕ → ℕ → ℕ) (readings : Readings) (few : frames ≤ 16384)
    (long : length m ≡ frames) (whole : (f : ℕ) → f < frames → length (frame_words m f) ≡ 512) (s : Settled frames m roots 0 pages parents readings) (frame : ℕ) where
  abbrev there : List ℕ
  there = live m roots 2

  -- a leaf that maps the frame
  from-uses : (level : ℕ) → 1 ≤ level → 1 ≤ uses frames readings level (maps frame) → (t i p : ℕ) × ((pages level t ≡ Some p) × ((i < 512) × (maps frame (wanted m level t i) ≡ true)))
  from-uses level up h =
      let outer = total-some frames (λ t. total 512 (λ i. one_if (maps frame (readings level t i)))) h in
      let t = outer.0 in
      let inner = total-some 512 (λ i. one_if (maps frame (readings level t i))) outer.2 in
      let i = inner.0 in
      let is : maps frame (readings level t i) ≡ true = one_true (maps frame (readings level t i)) inner.2 in
      some_or_none (pages level t) _
      (λ p here. (t, i, p, (here, (inner.1, ap (maps frame) (sym (s.same level t p i up here inner.1)) ∙ is))))
      (λ gone. absurd (false≢true (ap (maps frame) (sym (s.empty level t i gone)) ∙ is)))

  to-uses : (level t i p : ℕ) → 1 ≤ level → pages level t ≡ Some p → i < 512 → maps frame (wanted m level t i) ≡ true → 1 ≤ uses frames readings level (maps frame)
  to-uses level t i p up here within is =
      let one : one_if (maps frame (readings level t i)) ≡ 1 = true_one _ (ap (maps frame) (s.same level t p i up here within) ∙ is) in
      let inner = total-at 512 i (λ i. one_if (maps frame (readings level t i))) within in
      let outer = total-at frames t (λ t. total 512 (λ i. one_if (maps frame (readings level t i)))) (s.low level t p here).0 in
      omega arith

  -- a word of a live table that passes a test
  any-live : (level t i : ℕ) (test : Process → Bool) → is_live m roots level t ≡ true → t < frames → i < 512 → test (level_entry m level t i) ≡ true → list_any (any_entry m level test) (live m roots level) ≡ true
  any-live level t i test is low within passes =
      let at = found (λ x. eqb x t) (live m roots level) 0 is in
      let which = eqb-true (get_or (live m roots level) at.0 0) t at.2 in
      let inside : i < length (frame_words m t) = rw (whole t low) within in
      let word : any_entry m level test t ≡ true = list_any_at (λ word. test (process_entry word level (length m))) (frame_words m t) i 0 inside passes in
      list_any_at (any_entry m level test) (live m roots level) at.0 0 at.1 (ap (any_entry m level test) which ∙ word)

  live-any : (level : ℕ) (test : Process → Bool) → 1 ≤ level → level ≤ 4 → list_any (any_entry m level test) (live m roots level) ≡ true → (t i p : ℕ) × ((pages level t ≡ Some p) × ((i < 512) × (test (level_entry m level t i) ≡ true)))
  live-any level test low high h =
      let at = found (any_entry m level test) (live m roots level) 0 h in
      let t = get_or (live m roots level) at.0 0 in
      let word = found (λ word. test (process_entry word level (length m))) (frame_words m t) 0 at.2 in
      let node = live-node frames m roots 0 pages parents readings long whole s level t low high (omega arith) (list_any_at (λ x. eqb x t) (live m roots level) at.0 0 at.1 (eq-eqb t t refl)) in
      let small = (s.low level t node.0 node.1).0 in
      let within : word.0 < 512 = (let b : word.0 < length (frame_words m t) = word.1 in rw (whole t small) at b) in
      (t, word.0, node.0, (node.1, (within, word.2)))

  from-page : 1 ≤ uses frames readings 1 (maps frame) → list_any (any_entry m 1 (maps_frame frame)) (live m roots 1) ≡ true
  from-page h =
      let at = from-uses 1 (omega arith) h in
      any-live 1 at.0 at.1 (maps_frame frame) (node-live frames m roots 0 pages parents readings long whole s 1 at.0 at.2 (omega arith) (omega arith) at.3.0) (s.low 1 at.0 at.2 at.3.0).0 at.3.1.0 (maps-one frame (level_entry m 1 at.0 at.1) at.3.1.1)

  from-split : (w : Bool) → 1 ≤ uses frames readings (split_level w) (maps frame) → list_any (any_entry m 2 (maps_frame frame)) there ≡ true
  from-split true h =
      let at = from-uses 5 (omega arith) h in
      let is = eqb-true (at.0 + at.1) frame at.3.1.1 in
      let within = at.3.1.0 in
      any-weaker (any_entry m 2 (names_large at.0 true)) (any_entry m 2 (maps_frame frame)) there 0
      (λ t. any-weaker (λ word. names_large at.0 true (process_entry word 2 (length m))) (λ word. maps_frame frame (process_entry word 2 (length m))) (frame_words m t) 0 (λ word. maps-large frame at.0 true (process_entry word 2 (length m)) (omega arith) (omega arith)))
      (node-split frames m roots 0 pages parents readings long whole s true at.0 at.2 (omega arith) at.3.0)
  from-split false h =
      let at = from-uses 6 (omega arith) h in
      let is = eqb-true (at.0 + at.1) frame at.3.1.1 in
      let within = at.3.1.0 in
      any-weaker (any_entry m 2 (names_large at.0 false)) (any_entry m 2 (maps_frame frame)) there 0
      (λ t. any-weaker (λ word. names_large at.0 false (process_entry word 2 (length m))) (λ word. maps_frame frame (process_entry word 2 (length m))) (frame_words m t) 0 (λ word. maps-large frame at.0 false (process_entry word 2 (length m)) (omega arith) (omega arith)))
      (node-split frames m roots 0 pages parents readings long whole s false at.0 at.2 (omega arith) at.3.0)

  to-page : list_any (any_entry m 1 (maps_frame frame)) (live m roots 1) ≡ true → 1 ≤ uses frames readings 1 (maps frame)
  to-page h =
      let at = live-any 1 (maps_frame frame) (omega arith) (omega arith) h in
      to-uses 1 at.0 at.1 at.2 (omega arith) at.3.0 at.3.1.0
      (maps-page frame (level_entry m 1 at.0 at.1) (λ b w is. let x = (large-is (get_or (frame_words m at.0) at.1 0) 1 (length m) b w is).0 in omega arith) at.3.1.1)

  to-split : (w : Bool) (b : ℕ) → b ≤ frame → frame < b + 512 → is_split m roots b w ≡ true → 1 ≤ uses frames readings (split_level w) (maps frame)
  to-split true b low high is =
      let node = split-node frames m roots 0 pages parents readings long whole s true b (omega arith) is in
      to-uses 5 b (frame - b) node.0 (omega arith) node.1 (omega arith) (eq-eqb (b + (frame - b)) frame (omega arith))
  to-split false b low high is =
      let node = split-node frames m roots 0 pages parents readings long whole s false b (omega arith) is in
      to-uses 6 b (frame - b) node.0 (omega arith) node.1 (omega arith) (eq-eqb (b + (frame - b)) frame (omega arith))

  split_use : (w : Bool) → 1 ≤ uses frames readings (split_level w) (maps frame) → 1 ≤ leaves frames readings frame
  split_use true h = omega arith
  split_use false h = omega arith

  large-leaf : (t i p b : ℕ) (w : Bool) → pages 2 t ≡ Some p → i < 512 → level_entry m 2 t i ≡ Large b w → b ≤ frame → frame < b + 512 → 1 ≤ leaves frames readings frame
  large-leaf t i p b w here within is low high =
      let live_table = node-live frames m roots 0 pages parents readings long whole s 2 t p (omega arith) (omega arith) here in
      let names : names_large b w (level_entry m 2 t i) ≡ true = ap (names_large b w) is ∙ names-itself b w in
      split_use w (to-split w b low high (any-live 2 t i (names_large b w) live_table (s.low 2 t p here).0 within names))

  to-large : list_any (any_entry m 2 (maps_frame frame)) there ≡ true → 1 ≤ leaves frames readings frame
  to-large h =
      let at = live-any 2 (maps_frame frame) (omega arith) (omega arith) h in
      let large = maps-some frame (level_entry m 2 at.0 at.1) (λ f w is. let x = (page-is (get_or (frame_words m at.0) at.1 0) 2 (length m) f w is).0 in omega arith) at.3.1.1 in
      large-leaf at.0 at.1 at.2 large.0 large.1 at.3.0 at.3.1.0 large.2 large.3.0 large.3.1

  mapped : 1 ≤ leaves frames readings frame → is_mapped m roots frame ≡ true
  mapped h = ⊎_elim
      (λ none. or-right _ _ (⊎_elim
      (λ no_fifth. from-split false (let x = none in let y = no_fifth in omega arith))
      (λ fifth. from-split true fifth)
      (cases_lt (uses frames readings 5 (maps frame)) 1)))
      (λ some. or-left _ _ (from-page some))
      (cases_lt (uses frames readings 1 (maps frame)) 1)

  has-leaf : (a b : Bool) → (a ≡ true → 1 ≤ leaves frames readings frame) → (b ≡ true → 1 ≤ leaves frames readings frame) → (a || b) ≡ true → 1 ≤ leaves frames readings frame
  has-leaf true b first second h = first refl
  has-leaf false b first second h = second h

  has-leaves : is_mapped m roots frame ≡ true → 1 ≤ leaves frames readings frame
  has-leaves h = has-leaf (list_any (any_entry m 1 (maps_frame frame)) (live m roots 1)) (list_any (any_entry m 2 (maps_frame frame)) there) (λ x. let y = to-page x in omega arith) to-large h

  pub leaves-mapped : ltb 0 (leaves frames readings frame) ≡ is_mapped m roots frame
  leaves-mapped = by (is_mapped m roots frame) refl
    where
      by : (b : Bool) → is_mapped m roots frame ≡ b → ltb 0 (leaves frames readings frame) ≡ is_mapped m roots frame
      by true is = let some = has-leaves is in let e : ltb 0 (leaves frames readings frame) ≡ true = grind (arith, nat_tests) in e ∙ sym is
      by false is = let none : 1 ≤ leaves frames readings frame → ⊥ = λ h. false≢true (sym is ∙ mapped h) in let e : ltb 0 (leaves frames readings frame) ≡ false = grind (arith, nat_tests) in e ∙ sym is

  -- a split table maps a frame once at the most
  split-once : (level t : ℕ) → 5 ≤ level → total 512 (λ i. one_if (maps frame (readings level t i))) ≤ 1
  split-once level t high = total-once 512 (λ i. one_if (maps frame (readings level t i))) (λ i. one_most (maps frame (readings level t i)))
      (λ j k a b one two. let x = place j a one in let y = place k b two in omega arith)
    where
      leaf : (i p : ℕ) → pages level t ≡ Some p → i < 512 → readings level t i ≡ Page (t + i) (eqb level 5)
      leaf i p here within = s.same level t p i (omega arith) here within ∙ high_wanted
        where
          high_wanted : wanted m level t i ≡ Page (t + i) (eqb level 5)
          high_wanted = let past : ltb level 5 ≡ false = grind (arith, nat_tests) in rw past refl

      place : (i : ℕ) → i < 512 → 1 ≤ one_if (maps frame (readings level t i)) → t + i ≡ frame
      place i within one =
          let is : maps frame (readings level t i) ≡ true = one_true (maps frame (readings level t i)) one in
          some_or_none (pages level t) _
          (λ p here. eqb-true (t + i) frame (ap (maps frame) (sym (leaf i p here within)) ∙ is))
          (λ gone. absurd (false≢true (ap (maps frame) (sym (s.empty level t i gone)) ∙ is)))

  pub leaves-few : leaves frames readings frame < 2 ^ 24
  leaves-few =
      let first = total-bound frames 512 (λ t. total 512 (λ i. one_if (maps frame (readings 1 t i)))) (λ t. let x = total-bound 512 1 (λ i. one_if (maps frame (readings 1 t i))) (λ i. one_most (maps frame (readings 1 t i))) in omega arith) in
      let fifth = total-bound frames 1 (λ t. total 512 (λ i. one_if (maps frame (readings 5 t i)))) (λ t. split-once 5 t (omega arith)) in
      let sixth = total-bound frames 1 (λ t. total 512 (λ i. one_if (maps frame (readings 6 t i)))) (λ t. split-once 6 t (omega arith)) in
      omega arith
