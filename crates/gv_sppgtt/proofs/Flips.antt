-- The leaves of a frame are rewritten one after another.
use Rattle.std.proofs.Common.{ℕ, ◌+◌, ◌*◌, ◌^◌, ◌<◌, ◌≤◌, ◌≡◌, Bool, true, false, ◌&&◌, ◌||◌, eqb, cond, List, [], ◌∷◌, ◌++◌, Option, None, Some, length, filter, length-append, get_or, set, get_or-set_same, get_or-set_other, refl, sym, ap, ◌∙◌, subst, arith, ⊎_elim}
use Rattle.std.specs.List.{list_any, All}
use Rattle.std.proofs.lemmas.Bool.{cases_eq, eq-eqb, ne_eqb}
use Rattle.std.proofs.lemmas.List.{length-set}
use Rattle.std.proofs.lemmas.List.Elements.{filter-append}
use Rattle.std.proofs.lemmas.List.Folds.{list_any-append}
use Rattle.std.proofs.lemmas.Grind.{common_steps}
use Rattle.gv_entry.specs.declared.process.Process.{Process}
use Rattle.gv_entry.specs.declared.process.Process.TheVariants.{Absent, Table, Page, Bad, Large}
use Rattle.gv_gpu.specs.Device.{Device, poked}
use Rattle.gv_gpu.specs.Part.{outside}
use Rattle.gv_guest.specs.Placed.{Placed}
use Rattle.gv_rmap.specs.declared.leaf.Leaf.{Leaf}
use Rattle.gv_rmap.specs.Leaves.{leaf_at, key}
use Rattle.gv_rmap.specs.Chains.{chain_of}
use Rattle.gv_shape.specs.Shadow.{Names, Local, leaf_word, has_leaves}
use Rattle.gv_shape.specs.Shadow.{Readings}
use Rattle.gv_shape.specs.Counts.{one_if}
use Rattle.gv_sppgtt.specs.Sound.{reading_at, Boarded, Chained, Counted, Pinned, flag}
use Rattle.gv_sppgtt.specs.State.{parents_of}
use Rattle.gv_sppgtt.specs.State.{own_in, own_part, pages_of, readings_of, shadow_part}
use Rattle.gv_sppgtt.specs.Holding.{Holds}
use Rattle.gv_sppgtt.specs.declared.tables.Tables.{Tables}
use Rattle.gv_sppgtt.proofs.Flipped.{Guards, LocalBy, with_guard, names-guards, local-flipped, local-passed, flipped-readings}
use Rattle.gv_sppgtt.proofs.OwnPages.{own-poked, page-own}
use Rattle.gv_sppgtt.proofs.Outside.{shadow-poked, stands-shadow}

abbrev pub guards_after : List Bool → ℕ → Bool → List Leaf → Guards
guards_after told frame new done q x = cond (list_any (λ leaf. eqb (key leaf) q) done && eqb x frame) new (flag told x)

pub record Flipping (start now : Device) (placed : Placed) (t : Tables) (frame : ℕ) (new : Bool) (done rest : List Leaf) : Type 0 where
  pub split : done ++ rest ≡ chain_of t.chains frame
  pub boarded : Boarded now (length placed.pages) (pages_of t) t.owners.items
  pub local : LocalBy now placed (pages_of t) (guards_after t.told.items frame new done) (readings_of now t)
  pub readings : (k f i : ℕ) → readings_of now t k f i ≡ readings_of start t k f i
  pub own : outside (own_part placed.guest t) now ≡ outside (own_part placed.guest t) start
  pub outside : outside (shadow_part placed.guest) now ≡ outside (shadow_part placed.guest) start
  pub live : now.live ≡ start.live
  pub pokes : now.pokes ≤ start.pokes + length (filter (λ leaf. leaf.writable) done)

one_more : (done : List Leaf) (leaf : Leaf) → length (filter (λ l. l.writable) (done ++ leaf ∷ [])) ≡ length (filter (λ l. l.writable) done) + one_if leaf.writable
one_more done leaf = ap length (filter-append (λ l. l.writable) done (leaf ∷ [])) ∙ length-append (filter (λ l. l.writable) done) (filter (λ l. l.writable) (leaf ∷ [])) ∙ ap (λ n. length (filter (λ l. l.writable) done) + n) (last leaf.writable)
  where
    last : (b : Bool) → length (cond b (leaf ∷ []) []) ≡ one_if b
    last true = refl
    last false = refl

same_eqb : (a b : ℕ) → eqb a b ≡ eqb b a
same_eqb a b = ⊎_elim (λ e. eq-eqb a b e ∙ sym (eq-eqb b a (sym e))) (λ n. ne_eqb a b n ∙ sym (ne_eqb b a (λ e. n (sym e)))) (cases_eq a b)

truth : {A : Type 0} (a l b : Bool) (new t : A) → cond ((a || (l || false)) && b) new t ≡ cond (l && b) new (cond (a && b) new t)
truth true true true new t = refl
truth true true false new t = refl
truth true false true new t = refl
truth true false false new t = refl
truth false true true new t = refl
truth false true false new t = refl
truth false false true new t = refl
truth false false false new t = refl

more_guards : (told : List Bool) (frame : ℕ) (new : Bool) (ys : List Leaf) (leaf : Leaf) → guards_after told frame new (ys ++ leaf ∷ []) ≡ with_guard (guards_after told frame new ys) (key leaf) frame new
more_guards told frame new ys leaf = λ i q x. at q x i
  where
    at : (q x : ℕ) → guards_after told frame new (ys ++ leaf ∷ []) q x ≡ with_guard (guards_after told frame new ys) (key leaf) frame new q x
    at q x =
        ap (λ b. cond (b && eqb x frame) new (flag told x)) (list_any-append (λ l. eqb (key l) q) ys (leaf ∷ []))
        ∙ truth (list_any (λ l. eqb (key l) q) ys) (eqb (key leaf) q) (eqb x frame) new (flag told x)
        ∙ ap (λ b. cond (b && eqb x frame) new (guards_after told frame new ys q x)) (same_eqb (key leaf) q)

-- what is found is there
found_any : (q : ℕ) (xs : List Leaf) (leaf : Leaf) → leaf_at xs q ≡ Some leaf → list_any (λ l. eqb (key l) q) xs ≡ true
found_any q [] leaf e = cc
found_any q (x ∷ xs) leaf e = by (found_any q xs leaf) (eqb (key x) q) e
  where
    by : (leaf_at xs q ≡ Some leaf → list_any (λ l. eqb (key l) q) xs ≡ true) → (b : Bool) → cond b (Some x) (leaf_at xs q) ≡ Some leaf → (b || list_any (λ l. eqb (key l) q) xs) ≡ true
    by again true e = refl
    by again false e = again e

middle : (xs ys : List Leaf) (leaf : Leaf) → get_or (xs ++ leaf ∷ ys) (length xs) leaf ≡ leaf
middle [] ys leaf = refl
middle (x ∷ xs) ys leaf = grind (arith, common_steps)

inside : (xs ys : List Leaf) (leaf : Leaf) → length xs < length (xs ++ leaf ∷ ys)
inside xs ys leaf = grind (arith, common_steps)

module _ (start now : Device) (placed : Placed) (t : Tables) (pins : List ℕ) (frame : ℕ) (new : Bool) (h : Holds start placed t pins) where
  module _ (done rest : List Leaf) (leaf : Leaf) (g : Flipping start now placed t frame new done (leaf ∷ rest))
      (no_other : All (λ l. leaf_at (chain_of t.chains frame) (key l) ≡ Some l) (chain_of t.chains frame)) where
    there : leaf_at (chain_of t.chains frame) (key leaf) ≡ Some leaf
    there =
        let at = no_other (length done) leaf (subst (λ (l : List Leaf). length done < length l) g.split (inside done rest leaf)) in
        let is : get_or (chain_of t.chains frame) (length done) leaf ≡ leaf = ap (λ (l : List Leaf). get_or l (length done) leaf) (sym g.split) ∙ middle done rest leaf in
        subst (λ (l : Leaf). leaf_at (chain_of t.chains frame) (key l) ≡ Some l) is at

    pub known : (k f : ℕ) × ((has_leaves k ≡ true) × ((pages_of t k f ≡ Some leaf.page) × ((leaf.index < 512) × ((key leaf ≡ key leaf) × (readings_of start t k f leaf.index ≡ Page frame leaf.writable)))))
    known = h.sound.chained.leaves frame (key leaf) leaf there

    abbrev after : Device
    after = poked now leaf.page leaf.index (leaf_word (get_or placed.pages frame 0) leaf.writable new)

    reads : readings_of now t known.0 known.1 leaf.index ≡ Page frame leaf.writable
    reads = g.readings known.0 known.1 leaf.index ∙ known.2.1.1.1.1

    some_or_none : {A : Type 0} (o : Option A) (P : Type 0) → ((x : A) → o ≡ Some x → P) → (o ≡ None → P) → P
    some_or_none (Some x) P some none = some x refl
    some_or_none None P some none = none refl

    same_words : (k f i : ℕ) → readings_of after t k f i ≡ readings_of now t k f i
    same_words k f i = some_or_none (pages_of t k f) _
        (λ p is. flipped-readings now placed (length placed.pages) (pages_of t) (guards_after t.told.items frame new done) t.owners.items g.boarded g.local known.0 known.2.0 known.1 leaf.page leaf.index frame leaf.writable new known.2.1.0 known.2.1.1.0 reads k f p i is)
        (λ none. ap (λ o. reading_at after.words t.owners.items k o i) none ∙ sym (ap (λ o. reading_at now.words t.owners.items k o i) none))

    at_page : after.words leaf.page ≡ set (now.words leaf.page) leaf.index (leaf_word (get_or placed.pages frame 0) leaf.writable new)
    at_page = ap (λ b. cond b (set (now.words leaf.page) leaf.index (leaf_word (get_or placed.pages frame 0) leaf.writable new)) (now.words leaf.page)) (eq-eqb leaf.page leaf.page refl)

    grouped : (xs ys : List Leaf) (l : Leaf) → (xs ++ l ∷ []) ++ ys ≡ xs ++ l ∷ ys
    grouped xs ys l = grind (arith, common_steps)

    flip-step : leaf.writable ≡ true → Flipping start after placed t frame new (done ++ leaf ∷ []) rest
    flip-step open_to = record {
      split = grouped done rest leaf ∙ g.split;
      boarded = record {
        low = g.boarded.low;
        whole = g.boarded.whole;
        long = λ k f p is. ⊎_elim
            (λ same. ap (λ q. length (after.words q)) same ∙ ap length at_page ∙ length-set (now.words leaf.page) leaf.index (leaf_word (get_or placed.pages frame 0) leaf.writable new) ∙ g.boarded.long known.0 known.1 leaf.page known.2.1.0)
            (λ other. ap (λ b. length (cond b (set (now.words leaf.page) leaf.index (leaf_word (get_or placed.pages frame 0) leaf.writable new)) (now.words p))) (ne_eqb p leaf.page other) ∙ g.boarded.long k f p is)
            (cases_eq p leaf.page);
        below = g.boarded.below;
        apart = g.boarded.apart;
        owner = g.boarded.owner;
      };
      local = subst (λ (G : Guards). LocalBy after placed (pages_of t) G (readings_of after t)) (sym (more_guards t.told.items frame new done leaf))
          (local-flipped now placed (length placed.pages) (pages_of t) (guards_after t.told.items frame new done) t.owners.items g.boarded g.local known.0 known.2.0 known.1 leaf.page leaf.index frame leaf.writable new known.2.1.0 known.2.1.1.0 reads);
      readings = λ k f i. same_words k f i ∙ g.readings k f i;
      outside = shadow-poked now placed.guest leaf.page leaf.index (leaf_word (get_or placed.pages frame 0) leaf.writable new) (g.local.labelled known.0 known.1 leaf.page known.2.1.0) ∙ g.outside;
      own = own-poked placed.guest (own_in t.nodes) now leaf.page leaf.index (leaf_word (get_or placed.pages frame 0) leaf.writable new) (g.local.labelled known.0 known.1 leaf.page known.2.1.0) (page-own t.nodes known.0 known.1 leaf.page known.2.1.0) ∙ g.own;
      live = g.live;
      pokes = let more = one_more done leaf in let one : one_if leaf.writable ≡ 1 = ap one_if open_to in let p = g.pokes in omega arith;
    }

    flip-pass : leaf.writable ≡ false → Flipping start now placed t frame new (done ++ leaf ∷ []) rest
    flip-pass shut = record {
      split = grouped done rest leaf ∙ g.split;
      boarded = g.boarded;
      local = subst (λ (G : Guards). LocalBy now placed (pages_of t) G (readings_of now t)) (sym (more_guards t.told.items frame new done leaf))
          (local-passed now placed (length placed.pages) (pages_of t) (guards_after t.told.items frame new done) t.owners.items g.boarded g.local known.0 known.2.0 known.1 leaf.page leaf.index frame leaf.writable new known.2.1.0 known.2.1.1.0 reads shut);
      readings = g.readings;
      outside = g.outside;
      own = g.own;
      live = g.live;
      pokes = let more = one_more done leaf in let none : one_if leaf.writable ≡ 0 = ap one_if shut in let p = g.pokes in omega arith;
    }

    pub flip-next : Flipping start (cond leaf.writable after now) placed t frame new (done ++ leaf ∷ []) rest
    flip-next = by leaf.writable refl
      where
        by : (b : Bool) → leaf.writable ≡ b → Flipping start (cond b after now) placed t frame new (done ++ leaf ∷ []) rest
        by true is = flip-step is
        by false is = flip-pass is

  -- all leaves are rewritten
  pub flip-end : (done : List Leaf) → frame < length t.told.items → Flipping start now placed t frame new done [] → Local now placed (pages_of t) (flag (set t.told.items frame new)) (readings_of now t)
  flip-end done low g = record {
    labelled = g.local.labelled;
    names = λ k f p i is small. names-guards placed (pages_of t) (guards_after t.told.items frame new done (p * 2 ^ 16 + i)) (flag (set t.told.items frame new)) k (readings_of now t k f i) (get_or (now.words p) i 0)
        (λ x w e. ⊎_elim
        (λ same.
        let leafy : has_leaves k ≡ true = level_one k (readings_of now t k f i) x w e (get_or (now.words p) i 0) (guards_after t.told.items frame new done (p * 2 ^ 16 + i)) (g.local.names k f p i is small) in
        let start_reads : readings_of start t k f i ≡ Page frame w = sym (g.readings k f i) ∙ e ∙ ap (λ z. Page z w) same in
        let at = h.sound.chained.linked k f p i frame w leafy is small start_reads in
        let whole : done ≡ chain_of t.chains frame = sym (no_more done) ∙ g.split in
        let any : list_any (λ l. eqb (key l) (p * 2 ^ 16 + i)) done ≡ true = ap (list_any (λ l. eqb (key l) (p * 2 ^ 16 + i))) whole ∙ found_any (p * 2 ^ 16 + i) (chain_of t.chains frame) _ at in
        ap (λ b. cond (b && eqb x frame) new (flag t.told.items x)) any ∙ ap (λ b. cond b new (flag t.told.items x)) (eq-eqb x frame same) ∙ sym (ap (flag (set t.told.items frame new)) same ∙ get_or-set_same t.told.items frame new false low))
        (λ other. ap (λ b. cond b new (flag t.told.items x)) (off (list_any (λ l. eqb (key l) (p * 2 ^ 16 + i)) done) (eqb x frame) (ne_eqb x frame other)) ∙ sym (get_or-set_other t.told.items frame x new false other))
        (cases_eq x frame))
        (g.local.names k f p i is small);
  }
    where
      off : (a b : Bool) → b ≡ false → (a && b) ≡ false
      off true b e = e
      off false b e = refl

      no_more : (xs : List Leaf) → xs ++ [] ≡ xs
      no_more xs = grind (arith, common_steps)

      level_one : (k : ℕ) (r : Process) (x : ℕ) (w : Bool) → r ≡ Page x w → (word : ℕ) (G : ℕ → Bool) → Names placed (pages_of t) G k r word → has_leaves k ≡ true
      level_one k Absent x w e word G n = cc
      level_one k (Table z) x w e word G n = cc
      level_one k (Large z v) x w e word G n = cc
      level_one k (Page z v) x w e word G n = n.0
      level_one k Bad x w e word G n = absurd n

  pub flip-holds : (u : Tables) (done : List Leaf) → frame < length t.told.items → Flipping start now placed t frame new done []
      → u.nodes ≡ t.nodes → u.chains ≡ t.chains → u.owners ≡ t.owners → u.guest ≡ t.guest → u.told.items ≡ set t.told.items frame new → Holds now placed u pins
  flip-holds u done low g nodes chains owners guest told =
      let words : readings_of now t ≡ readings_of start t = λ i k f j. g.readings k f j i in
      record {
        stands = stands-shadow start now placed g.outside h.stands;
        sound = rw (nodes, chains, owners, told) (record {
          frames = h.sound.frames;
          chains_long = h.sound.chains_long;
          told_long = length-set t.told.items frame new ∙ h.sound.told_long;
          owners_long = h.sound.owners_long;
          boarded = g.boarded;
          local = flip-end done low g;
          chained = subst (λ (r : Readings). Chained (pages_of t) r t.chains) (sym words) h.sound.chained;
          counted = subst (λ (r : Readings). Counted (length placed.pages) (parents_of t) r) (sym words) h.sound.counted;
        });
        pinned = (h.pinned.0, rw (nodes, owners) (subst (λ (r : Readings). Pinned (length placed.pages) pins r) (sym words) h.pinned.1));
        guest = ap (λ x. x.0) guest ∙ h.guest;
        few = h.few;
        nodes = rw nodes h.nodes;
        room = let live = g.live in let room = h.room in rw nodes (omega arith);
      }
