-- The calls: from a step that leaves nothing to do, over the telling, to tables that serve.
use Rattle.std.proofs.Common.{ℕ, ◌/◌, ◌<◌, ◌≡◌, Bool, true, false, not, ◌&&◌, ◌||◌, eqb, ltb, List, [], ◌∷◌, None, is_some, length, refl, sym, ap, ◌∙◌, subst, ⊎_elim}
use Rattle.std.specs.List.{range_with_len, filter}
use Rattle.std.proofs.lemmas.List.{length-map}
use Rattle.std.proofs.lemmas.Bool.{cases_eq, eq-eqb, eqb-true, ne_eqb, lt-ltb}
use Rattle.std.proofs.lemmas.Map.Views.{any-filter_same}
use Rattle.gv_types.specs.Memory.{Memory}
use Rattle.gv_entry.specs.Tables.{has_bad_entry}
use Rattle.gv_gpu.specs.Device.{Device}
use Rattle.gv_guest.specs.Placed.{Placed, memory_in}
use Rattle.gv_shape.specs.Shadow.{is_live}
use Rattle.gv_shape.specs.Counts.{is_among}
use Rattle.gv_sppgtt.specs.Sound.{flag}
use Rattle.gv_sppgtt.specs.Grown.{Growing, Dropped, Rests}
use Rattle.gv_sppgtt.specs.State.{pages_of, sketch_of, is_table}
use Rattle.gv_sppgtt.specs.Holding.{Holds, Keeps}
use Rattle.gv_sppgtt.specs.Telling.{Telling}
use Rattle.gv_sppgtt.specs.Serving.{roots_of, guarded_of, Serves, Tells, with_root, without_root, is_refused, ChangedAt}
use Rattle.gv_sppgtt.specs.declared.tables.Tables.{Tables}
use Rattle.gv_sppgtt.proofs.Roots.{rests-created, rests-destroyed, rests-changed}
use Rattle.gv_sppgtt.proofs.Finished.{rests-good}
use Rattle.gv_sppgtt.proofs.Serving.{any-filter-range, among-roots, serves, serves-roots, serves-tells, filter-same, filter-none, roots-self, wanted-changed}

-- what tell requires: each frame outside of touched blocks is as the caller knows it
pub others-told : (placed : Placed) (d e : Device) (t u : Tables) (pins mid : List ℕ) (m : Memory) → Serves d placed pins t m → Keeps placed d e t u pins mid
    → (f : ℕ) → flag u.touched (f / 128) ≡ false → guarded_of u f ≡ is_table (pages_of u) f
others-told placed d e t u pins mid m s k f clean = ap (λ z. flag z.items f) k.told ∙ s.told f ∙ sym (k.tables f clean)

module _ (placed : Placed) (d e f : Device) (t u w v : Tables) (pins mid roots came went : List ℕ) (x y : ℕ)
    (keeps : Keeps placed d e t u pins mid) (holds : Holds e placed u mid) (rests : Rests (length placed.pages) (memory_in e placed) roots 0 x y (sketch_of e u))
    (g : Telling placed e u (length placed.pages) f w came went) (after : Holds f placed v mid) (nodes : v.nodes ≡ w.nodes) (owners : v.owners ≡ w.owners) (told : v.told ≡ w.told)
    (clean : (block : ℕ) → flag v.touched block ≡ false) where
  pub done-serves : Serves f placed mid v (memory_in f placed)
  done-serves = serves placed e f u w v mid roots came went x y holds after rests g nodes owners told clean

  pub done-roots : roots_of v ≡ filter (is_among roots) (range_with_len 0 (length placed.pages))
  done-roots = serves-roots placed e f u w v mid roots came went x y holds after rests g nodes owners told clean

  pub done-tells : Tells (guarded_of t) (guarded_of v) (length placed.pages) came went
  done-tells = serves-tells placed e f u w v mid roots came went x y holds after rests g nodes owners told clean (guarded_of t) (λ q. ap (λ z. flag z.items q) keeps.told)

  pub done-good : has_bad_entry (memory_in d placed) (roots_of v) ≡ false
  done-good = ap (λ m. has_bad_entry m (roots_of v)) (sym (g.memory ∙ keeps.memory)) ∙ rests-good f placed v mid (roots_of v) 0 0 after done-serves.rests

-- ---- creation

pub rests-added : (placed : Placed) (d e : Device) (t u : Tables) (pins mid : List ℕ) (root : ℕ) → Serves d placed pins t (memory_in d placed) → pages_of t 4 root ≡ None
    → Growing (length placed.pages) (memory_in d placed) 4 root 512 (sketch_of d t) (sketch_of e u) → Keeps placed d e t u pins mid → Rests (length placed.pages) (memory_in e placed) (root ∷ roots_of t) 0 0 0 (sketch_of e u)
rests-added placed d e t u pins mid root s new grown keeps =
    subst (λ m. Rests (length placed.pages) m (root ∷ roots_of t) 0 0 0 (sketch_of e u)) (sym keeps.memory)
    (rests-created (length placed.pages) (memory_in d placed) (roots_of t) 0 0 root (sketch_of d t) (sketch_of e u) (among-roots d placed t pins s.holds root ∙ ap is_some new) grown s.rests)

module _ (m : Memory) (frames : ℕ) (long : length m ≡ frames) (roots : List ℕ) (root : ℕ) (low : root < frames) where
  inside : ltb root (length m) ≡ true
  inside = lt-ltb root (length m) (rw long low)

  pub refused-not : has_bad_entry m (with_root frames roots root) ≡ false → is_refused m roots root ≡ false
  refused-not good = ap (λ b. not b || has_bad_entry m (with_root (length m) roots root)) inside ∙ ap (λ n. has_bad_entry m (with_root n roots root)) long ∙ good

  pub refused-so : has_bad_entry m (with_root (length m) roots root) ≡ true → is_refused m roots root ≡ true
  refused-so bad = ap (λ b. not b || has_bad_entry m (with_root (length m) roots root)) inside ∙ bad

  pub root-live : is_live m (with_root (length m) roots root) 4 root ≡ true
  root-live = any-filter-range (λ f. eqb root f || is_among roots f) (length m) root (λ _. rw long low) ∙ ap (λ b. b || is_among roots root) (eq-eqb root root refl)

pub refused-outside : (m : Memory) (roots : List ℕ) (root : ℕ) → ltb root (length m) ≡ false → is_refused m roots root ≡ true
refused-outside m roots root high = ap (λ b. not b || has_bad_entry m (with_root (length m) roots root)) high

-- ---- destruction

pub rests-removed : (placed : Placed) (d e : Device) (t u : Tables) (pins mid : List ℕ) (root : ℕ) → Serves d placed pins t (memory_in d placed) → is_among (roots_of t) root ≡ true
    → Dropped (length placed.pages) 4 root (sketch_of d t) (sketch_of e u) → Keeps placed d e t u pins mid → Rests (length placed.pages) (memory_in e placed) (without_root (roots_of t) root) 0 0 0 (sketch_of e u)
rests-removed placed d e t u pins mid root s there dropped keeps =
    subst (λ m. Rests (length placed.pages) m (without_root (roots_of t) root) 0 0 0 (sketch_of e u)) (sym keeps.memory)
    (rests-destroyed (length placed.pages) (memory_in d placed) (roots_of t) (without_root (roots_of t) root) 0 0 root (sketch_of d t) (sketch_of e u) there
    (λ f. any-filter_same (λ q. eqb q f) (λ frame. not (eqb frame root)) (not (eqb f root)) (λ k h. ap (λ q. not (eqb q root)) (number k f h)) (roots_of t)) dropped s.rests)
  where
    number : (k f : ℕ) → eqb k f ≡ true → k ≡ f
    number k f h = eqb-true k f h

-- ---- a changed word

pub rests-word : (placed : Placed) (d : Device) (t : Tables) (pins : List ℕ) (m : Memory) (frame index : ℕ) → Serves d placed pins t m → ChangedAt m (memory_in d placed) frame index
    → Rests (length placed.pages) (memory_in d placed) (roots_of t) 4 frame index (sketch_of d t)
rests-word placed d t pins m frame index s changed =
    rests-changed (length placed.pages) m (memory_in d placed) (roots_of t) 0 0 frame index (sketch_of d t) (λ k q p is. (s.holds.sound.boarded.low k q p is).1.0) (wanted-changed m (memory_in d placed) frame index changed) s.rests

-- ---- a root that is there

module _ (placed : Placed) (d : Device) (t : Tables) (pins : List ℕ) (root : ℕ) (s : Serves d placed pins t (memory_in d placed)) (there : is_some (pages_of t 4 root) ≡ true) where
  same_there : (f : ℕ) → (eqb root f || is_among (roots_of t) f) ≡ is_among (roots_of t) f
  same_there f = ⊎_elim
      (λ same. ap (λ b. b || is_among (roots_of t) f) (eq-eqb root f same) ∙ sym (ap (is_among (roots_of t)) (sym same) ∙ among-roots d placed t pins s.holds root ∙ there))
      (λ other. ap (λ b. b || is_among (roots_of t) f) (ne_eqb root f other))
      (cases_eq root f)

  pub with-there : with_root (length placed.pages) (roots_of t) root ≡ roots_of t
  with-there = filter-same (λ f. eqb root f || is_among (roots_of t) f) (is_among (roots_of t)) (range_with_len 0 (length placed.pages)) same_there ∙ roots-self d placed t pins s.holds

  pub good-there : root < length placed.pages → is_refused (memory_in d placed) (roots_of t) root ≡ false
  good-there low = refused-not (memory_in d placed) (length placed.pages) (length-map placed.pages d.words) (roots_of t) root low
      (ap (has_bad_entry (memory_in d placed)) with-there ∙ rests-good d placed t pins (roots_of t) 0 0 s.holds s.rests)

pub tells-none : (before : ℕ → Bool) (frames : ℕ) (came went : List ℕ) → came ≡ [] → went ≡ [] → Tells before before frames came went
tells-none before frames came went a b = record {
  guarded = a ∙ sym (filter-same (λ f. not (before f) && before f) (λ _. false) (range_with_len 0 frames) (λ f. never (before f)) ∙ filter-none (range_with_len 0 frames));
  unguarded = b ∙ sym (filter-same (λ f. before f && not (before f)) (λ _. false) (range_with_len 0 frames) (λ f. never' (before f)) ∙ filter-none (range_with_len 0 frames));
}
  where
    never : (b : Bool) → (not b && b) ≡ false
    never true = refl
    never false = refl

    never' : (b : Bool) → (b && not b) ≡ false
    never' true = refl
    never' false = refl
