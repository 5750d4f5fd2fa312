-- From a step to what holds between calls: roots, and what the caller was told.
use Rattle.std.proofs.Common.{ℕ, zero, suc, ◌+◌, ◌-◌, ◌≤◌, ◌<◌, ◌≡◌, Bool, true, false, not, ◌&&◌, ◌||◌, eqb, ltb, cond, List, [], ◌∷◌, Option, None, Some, is_some, length, get_or, refl, sym, ap, ◌∙◌, subst, arith, ⊎_elim}
use Rattle.std.specs.List.{list_any, range_with_len, filter}
use Rattle.std.proofs.lemmas.Bool.{cases_lt, eqb-true, eq-eqb, ne_eqb, lt-ltb}
use Rattle.std.proofs.lemmas.Bool.Decides.{nat_tests}
use Rattle.std.proofs.lemmas.List.Folds.{list_any_at}
use Rattle.std.proofs.lemmas.List.FromFn.{length-range_with_len, get_or-range_with_len}
use Rattle.std.proofs.lemmas.Map.Views.{any-filter_same}
use Rattle.gv_types.specs.Memory.{Memory}
use Rattle.gv_entry.specs.Entry.{process_entry}
use Rattle.gv_entry.specs.Tables.{frame_words, has_bad_entry}
use Rattle.gv_gpu.specs.Device.{Device}
use Rattle.gv_guest.specs.Placed.{Placed, memory_in}
use Rattle.gv_shape.specs.Shadow.{wanted}
use Rattle.gv_shape.specs.Counts.{is_among, namings, one_if}
use Rattle.gv_shape.proofs.Levels.{wanted-low, wanted-high}
use Rattle.gv_sppgtt.specs.Sound.{flag, pages_in, parents_in}
use Rattle.gv_sppgtt.specs.Grown.{Rests}
use Rattle.gv_sppgtt.specs.State.{pages_of, parents_of, readings_of, sketch_of, is_table}
use Rattle.gv_sppgtt.specs.Holding.{Holds}
use Rattle.gv_sppgtt.specs.Telling.{Telling}
use Rattle.gv_sppgtt.specs.Serving.{roots_of, guarded_of, Serves, Tells, without_root, ChangedAt}
use Rattle.gv_sppgtt.specs.declared.tables.Tables.{Tables}
use Rattle.gv_sppgtt.proofs.Resting.{rests-live, live-rests}
use Rattle.gv_sppgtt.proofs.Finished.{rests-good}

same_test : (o : Option ℕ) (b : Bool) → ((p : ℕ) → o ≡ Some p → b ≡ true) → (b ≡ true → (p : ℕ) × (o ≡ Some p)) → is_some o ≡ b
same_test (Some p) b there back = sym (there p refl)
same_test None true there back = let at = back refl in cc (at.1)
same_test None false there back = refl

in_range : (n f : ℕ) → f < n → list_any (λ t. eqb t f) (range_with_len 0 n) ≡ true
in_range n f b = list_any_at (λ t. eqb t f) (range_with_len 0 n) f 0 (rw length-range_with_len b) (eq-eqb _ f (get_or-range_with_len 0 n f 0 b ∙ omega arith))

-- a filter of the numbers below n, seen by membership
pub any-filter-range : (p : ℕ → Bool) (n f : ℕ) → (p f ≡ true → f < n) → is_among (filter p (range_with_len 0 n)) f ≡ p f
any-filter-range p n f low =
    any-filter_same (λ t. eqb t f) p (p f) (λ k h. ap p (eqb-true k f h)) (range_with_len 0 n) ∙ by (p f) low
  where
    by : (b : Bool) → (b ≡ true → f < n) → (b && list_any (λ t. eqb t f) (range_with_len 0 n)) ≡ b
    by true low = in_range n f (low refl)
    by false low = refl

pub filter-same : (p q : ℕ → Bool) (xs : List ℕ) → ((f : ℕ) → p f ≡ q f) → filter p xs ≡ filter q xs
filter-same p q xs same = λ i. filter (λ f. same f i) xs

pub filter-none : (xs : List ℕ) → filter (λ (_ : ℕ). false) xs ≡ []
filter-none [] = refl
filter-none (x ∷ xs) = filter-none xs

module _ (d : Device) (placed : Placed) (t : Tables) (pins : List ℕ) (h : Holds d placed t pins) where
  low_four : (f : ℕ) → is_some (pages_of t 4 f) ≡ true → f < t.nodes.frames
  low_four f is = some_low (pages_of t 4 f) refl is
    where
      some_low : (o : Option ℕ) → pages_of t 4 f ≡ o → is_some o ≡ true → f < t.nodes.frames
      some_low (Some p) e is = subst (λ n. f < n) (sym h.sound.frames) (h.sound.boarded.low 4 f p e).0
      some_low None e is = cc

  pub among-roots : (f : ℕ) → is_among (roots_of t) f ≡ is_some (pages_of t 4 f)
  unfolding roots_of
  among-roots f = any-filter-range (λ x. is_some (pages_of t 4 x)) t.nodes.frames f (low_four f)

  module _ (roots : List ℕ) (x y : ℕ) (r : Rests (length placed.pages) (memory_in d placed) roots 0 x y (sketch_of d t)) where
    pub roots-among : (f : ℕ) → is_some (pages_of t 4 f) ≡ is_among roots f
    roots-among f = same_test (pages_of t 4 f) (is_among roots f)
        (λ p is. rests-live d placed t pins roots 0 x y h r 4 f p (omega arith) (omega arith) is)
        (λ is. live-rests d placed t pins roots 0 x y h r 4 f (omega arith) (omega arith) (omega arith) is)

    pub roots-same : (f : ℕ) → is_among roots f ≡ is_among (roots_of t) f
    roots-same f = sym (roots-among f) ∙ sym (among-roots f)

    pub roots-listed : roots_of t ≡ filter (is_among roots) (range_with_len 0 (length placed.pages))
    unfolding roots_of
    roots-listed = filter-same (λ f. is_some (pages_of t 4 f)) (is_among roots) (range_with_len 0 t.nodes.frames) roots-among ∙ ap (λ n. filter (is_among roots) (range_with_len 0 n)) h.sound.frames

    -- the same of the roots that are listed, and for any word
    pub rests-listed : (v w : ℕ) → Rests (length placed.pages) (memory_in d placed) (roots_of t) 0 v w (sketch_of d t)
    rests-listed v w = record {
      counted = λ k f one. subst (λ b. parents_of t k f ≡ namings (length placed.pages) (readings_of d t) k f + one_if (eqb k 4 && b)) (roots-same f) (r.counted k f one);
      alive = r.alive;
      same = λ k f p i is small apart. let low = (h.sound.boarded.low k f p is).1.0 in r.same k f p i is small (λ down _ _. omega arith);
    }

-- a frame that has no node isn't told of, behind memory
module _ (d : Device) (placed : Placed) (t : Tables) (pins : List ℕ) (h : Holds d placed t pins) where
  none_high : (k f : ℕ) → length placed.pages ≤ f → is_some (pages_of t k f) ≡ false
  none_high k f high = by (pages_of t k f) refl
    where
      by : (o : Option ℕ) → pages_of t k f ≡ o → is_some o ≡ false
      by None e = refl
      by (Some p) e = let low = (h.sound.boarded.low k f p e).0 in absurd (omega arith)

  pub no_table : (f : ℕ) → length placed.pages ≤ f → is_table (pages_of t) f ≡ false
  no_table f high = rw (none_high 4 f high, none_high 3 f high, none_high 2 f high, none_high 1 f high) refl

-- After the caller was told of all frames, the tables serve.
module _ (placed : Placed) (d e : Device) (t u v : Tables) (pins roots came went : List ℕ) (x y : ℕ) (h : Holds d placed t pins) (after : Holds e placed v pins)
    (r : Rests (length placed.pages) (memory_in d placed) roots 0 x y (sketch_of d t))
    (g : Telling placed d t (length placed.pages) e u came went) (nodes : v.nodes ≡ u.nodes) (owners : v.owners ≡ u.owners) (told : v.told ≡ u.told)
    (clean : (block : ℕ) → flag v.touched block ≡ false) where
  pages : pages_of v ≡ pages_of t
  pages = ap pages_in (nodes ∙ g.nodes)

  parents : parents_of v ≡ parents_of t
  parents = ap parents_in (nodes ∙ g.nodes)

  readings : readings_of e v ≡ readings_of d t
  readings = (λ i. readings_of e (record v { nodes = nodes i; owners = owners i })) ∙ (λ i k f j. g.readings k f j i)

  sketch : sketch_of e v ≡ sketch_of d t
  sketch = λ i. record { pages = pages i; parents = parents i; readings = readings i }

  rests : Rests (length placed.pages) (memory_in e placed) roots 0 x y (sketch_of e v)
  rests = subst (λ s. Rests (length placed.pages) (memory_in e placed) roots 0 x y s) (sym sketch) (subst (λ m. Rests (length placed.pages) m roots 0 x y (sketch_of d t)) (sym g.memory) r)

  all_told : (f : ℕ) → guarded_of v f ≡ is_table (pages_of v) f
  all_told f = ap (λ z. flag z.items f) told ∙ g.told f ∙ ⊎_elim
      (λ low. ap (λ b. cond b (is_table (pages_of t) f) (flag t.told.items f)) (lt-ltb f (length placed.pages) low))
      (λ high. ap (λ b. cond b (is_table (pages_of t) f) (flag t.told.items f)) (not_below f high) ∙ past f high ∙ sym (no_table d placed t pins h f high))
      (cases_lt f (length placed.pages))
      ∙ sym (ap (λ p. is_table p f) pages)
    where
      not_below : (f : ℕ) → length placed.pages ≤ f → ltb f (length placed.pages) ≡ false
      not_below f high = grind (arith, nat_tests)

      past : (f : ℕ) → length placed.pages ≤ f → flag t.told.items f ≡ false
      past f high = behind t.told.items f (subst (λ n. n ≤ f) (sym h.sound.told_long) high)
        where
          behind : (xs : List Bool) (i : ℕ) → length xs ≤ i → get_or xs i false ≡ false
          behind [] i b = refl
          behind (b ∷ xs) zero low = absurd (omega arith)
          behind (b ∷ xs) (suc i) low = behind xs i (omega arith)

  pub serves : Serves e placed pins v (memory_in e placed)
  serves = record { holds = after; rests = rests-listed e placed v pins after roots x y rests 0 0; told = all_told; untouched = clean }

  pub serves-roots : roots_of v ≡ filter (is_among roots) (range_with_len 0 (length placed.pages))
  serves-roots = roots-listed e placed v pins after roots x y rests

  -- the two lists are the difference
  pub serves-tells : (before : ℕ → Bool) → ((f : ℕ) → flag t.told.items f ≡ before f) → Tells before (guarded_of v) (length placed.pages) came went
  serves-tells before same =
      let now : (f : ℕ) → is_table (pages_of t) f ≡ guarded_of v f = λ f. sym (ap (λ p. is_table p f) pages) ∙ sym (all_told f) in
      record {
        guarded = g.guarded ∙ (λ i. filter (λ f. not (same f i) && now f i) (range_with_len 0 (length placed.pages)));
        unguarded = g.unguarded ∙ (λ i. filter (λ f. same f i && not (now f i)) (range_with_len 0 (length placed.pages)));
      }

  pub serves-good : has_bad_entry (memory_in e placed) roots ≡ false
  serves-good = rests-good e placed v pins roots x y after rests

-- a change of one word of memory, seen by what the nodes' words have to stand for
pub wanted-changed : (m n : Memory) (frame index : ℕ) → ChangedAt m n frame index → (k f i : ℕ) → (k ≤ 4 → f ≡ frame → i ≡ index → ⊥) → wanted n k f i ≡ wanted m k f i
wanted-changed m n frame index c k f i apart = ⊎_elim
    (λ low. wanted-low n k f i low ∙ ap (λ w. process_entry w k (length n)) (c.others f i (apart (omega arith))) ∙ ap (process_entry (get_or (frame_words m f) i 0) k) c.frames ∙ sym (wanted-low m k f i low))
    (λ high. wanted-high n k f i high ∙ sym (wanted-high m k f i high))
    (cases_lt k 5)

-- membership in a filter of the numbers below n, for any number
pub among-filter : (p : ℕ → Bool) (n f : ℕ) → is_among (filter p (range_with_len 0 n)) f ≡ (ltb f n && p f)
among-filter p n f =
    any-filter_same (λ t. eqb t f) p (p f) (λ k h. ap p (eqb-true k f h)) (range_with_len 0 n) ∙ ap (λ b. p f && b) (range_is n) ∙ swap (p f) (ltb f n)
  where
    swap : (a b : Bool) → (a && b) ≡ (b && a)
    swap true true = refl
    swap true false = refl
    swap false true = refl
    swap false false = refl

    below : (a n : ℕ) → (f < a → ⊥) → f < a + n → list_any (λ t. eqb t f) (range_with_len a n) ≡ true
    below a n not_low high = list_any_at (λ t. eqb t f) (range_with_len a n) (f - a) 0 (rw length-range_with_len (omega arith)) (eq-eqb _ f (get_or-range_with_len a n (f - a) 0 (omega arith) ∙ omega arith))

    behind : (a n : ℕ) → a + n ≤ f → list_any (λ t. eqb t f) (range_with_len a n) ≡ false
    behind a zero high = refl
    behind a (suc n) high = ap (λ b. b || list_any (λ t. eqb t f) (range_with_len (a + 1) n)) (ne_eqb a f (λ e. absurd (omega arith))) ∙ behind (a + 1) n (omega arith)

    range_is : (n : ℕ) → list_any (λ t. eqb t f) (range_with_len 0 n) ≡ ltb f n
    range_is n = ⊎_elim (λ low. in_range n f low ∙ sym (lt-ltb f n low)) (λ high. behind 0 n (omega arith) ∙ sym (not_below n high)) (cases_lt f n)
      where
        not_below : (n : ℕ) → n ≤ f → ltb f n ≡ false
        not_below n high = grind (arith, nat_tests)

pub is-root : (t : Tables) (f : ℕ) → is_among (roots_of t) f ≡ (ltb f t.nodes.frames && is_some (pages_of t 4 f))
unfolding roots_of
is-root t f = among-filter (λ x. is_some (pages_of t 4 x)) t.nodes.frames f

filter-filter : (p q : ℕ → Bool) (xs : List ℕ) → filter q (filter p xs) ≡ filter (λ x. q x && p x) xs
filter-filter p q [] = refl
filter-filter p q (x ∷ xs) = by (filter-filter p q xs) (p x) (q x) refl refl
  where
    by : filter q (filter p xs) ≡ filter (λ x. q x && p x) xs → (a b : Bool) → p x ≡ a → q x ≡ b → filter q (filter p (x ∷ xs)) ≡ filter (λ x. q x && p x) (x ∷ xs)
    by again true true pa qb = rw (pa, qb) (ap (λ l. x ∷ l) again)
    by again true false pa qb = rw (pa, qb) again
    by again false true pa qb = rw (pa, qb) again
    by again false false pa qb = rw (pa, qb) again

-- the roots of the tables, listed again by membership
pub roots-self : (d : Device) (placed : Placed) (t : Tables) (pins : List ℕ) → Holds d placed t pins → filter (is_among (roots_of t)) (range_with_len 0 (length placed.pages)) ≡ roots_of t
unfolding roots_of
roots-self d placed t pins h = filter-same (is_among (roots_of t)) (λ f. is_some (pages_of t 4 f)) (range_with_len 0 (length placed.pages)) (among-roots d placed t pins h) ∙ ap (λ n. filter (λ f. is_some (pages_of t 4 f)) (range_with_len 0 n)) (sym h.sound.frames)

pub roots-without : (d : Device) (placed : Placed) (t : Tables) (pins : List ℕ) → Holds d placed t pins → (root : ℕ)
    → filter (is_among (without_root (roots_of t) root)) (range_with_len 0 (length placed.pages)) ≡ without_root (roots_of t) root
unfolding roots_of
roots-without d placed t pins h root =
    filter-same (is_among (without_root (roots_of t) root)) (λ f. not (eqb f root) && is_some (pages_of t 4 f)) (range_with_len 0 (length placed.pages))
    (λ f. any-filter_same (λ q. eqb q f) (λ frame. not (eqb frame root)) (not (eqb f root)) (λ k e. ap (λ q. not (eqb q root)) (eqb-true k f e)) (roots_of t) ∙ ap (λ b. not (eqb f root) && b) (among-roots d placed t pins h f))
    ∙ ap (λ n. filter (λ f. not (eqb f root) && is_some (pages_of t 4 f)) (range_with_len 0 n)) (sym h.sound.frames)
    ∙ sym (filter-filter (λ f. is_some (pages_of t 4 f)) (λ f. not (eqb f root)) (range_with_len 0 t.nodes.frames))
