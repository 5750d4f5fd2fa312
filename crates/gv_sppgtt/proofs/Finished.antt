-- Where nothing is left to do: what the tables promise.
use Rattle.std.proofs.Common.{ℕ, ◌+◌, ◌≤◌, ◌<◌, ◌≡◌, Bool, true, false, List, Some, length, get_or, refl, ap, ◌∙◌, subst, arith}
use Rattle.std.specs.List.{list_any}
use Rattle.std.proofs.Common.{◌||◌, eqb}
use Rattle.std.proofs.lemmas.List.{get_or_default}
use Rattle.std.proofs.lemmas.Bool.{eq-eqb, false_from_ne_true}
use Rattle.std.proofs.lemmas.List.Folds.{Any-from_list_any, list_any_at}
use Rattle.gv_entry.specs.declared.process.Process.{Process}
use Rattle.gv_entry.specs.declared.process.Process.TheVariants.{Absent, Table, Page, Bad, Large}
use Rattle.gv_entry.specs.Entry.{process_entry}
use Rattle.gv_entry.specs.Tables.{frame_words, any_entry, is_bad_entry, has_bad_entry, live, is_guarded}
use Rattle.gv_entry.specs.Grants.{read_grant, write_grant}
use Rattle.gv_gpu.specs.Device.{Device}
use Rattle.gv_gpu.specs.Physical.{read_page, write_page}
use Rattle.gv_guest.specs.Placed.{Placed, memory_in}
use Rattle.gv_shape.specs.Shadow.{Names, Local, wanted, is_live, split_level, leaf_word}
use Rattle.gv_shape.specs.Shadows.{host_page}
use Rattle.gv_shape.proofs.Walk.{read-equals, write-equals}
use Rattle.gv_sppgtt.specs.Sound.{flag}
use Rattle.gv_sppgtt.specs.State.{pages_of, readings_of, sketch_of}
use Rattle.gv_sppgtt.specs.Grown.{Rests}
use Rattle.gv_sppgtt.specs.Holding.{Holds}
use Rattle.gv_sppgtt.specs.declared.tables.Tables.{Tables}
use Rattle.gv_sppgtt.proofs.Resting.{live-rests}
use Rattle.gv_sppgtt.proofs.BadEntries.{frame-words}
use Rattle.gv_shape.proofs.Levels.{wanted-low}

module _ (d : Device) (placed : Placed) (t : Tables) (pins roots : List ℕ) (frame index : ℕ) (h : Holds d placed t pins)
    (r : Rests (length placed.pages) (memory_in d placed) roots 0 frame index (sketch_of d t)) where
  same : (k f p i : ℕ) → pages_of t k f ≡ Some p → i < 512 → readings_of d t k f i ≡ wanted (memory_in d placed) k f i
  same k f p i is small = let low = (h.sound.boarded.low k f p is).1.0 in r.same k f p i is small (λ down _ _. omega arith)

  -- the local form over the guest's own entries
  pub guest-local : Local d placed (pages_of t) (flag t.told.items) (wanted (memory_in d placed))
  guest-local = record {
    labelled = h.sound.local.labelled;
    names = λ k f p i is small. subst (λ e. Names placed (pages_of t) (flag t.told.items) k e (get_or (d.words p) i 0)) (same k f p i is small) (h.sound.local.names k f p i is small);
  }

  not_bad : (k f p i : ℕ) → pages_of t k f ≡ Some p → i < 512 → wanted (memory_in d placed) k f i ≡ Bad → ⊥
  not_bad k f p i is small bad = subst (λ e. Names placed (pages_of t) (flag t.told.items) k e (get_or (d.words p) i 0)) bad (guest-local.names k f p i is small)

  -- no live table has a bad entry at a level
  good_level : (k : ℕ) → 1 ≤ k → k ≤ 4 → list_any (any_entry (memory_in d placed) k is_bad_entry) (live (memory_in d placed) roots k) ≡ true → ⊥
  good_level k low high bad =
      let m = memory_in d placed in
      let at = Any-from_list_any (any_entry m k is_bad_entry) (live m roots k) bad in
      let f = at.1 in
      let there : is_live m roots k f ≡ true = list_any_at (λ x. eqb x f) (live m roots k) at.0 f at.2 (eq-eqb _ f at.3) in
      let node = live-rests d placed t pins roots 0 frame index h r k f low high (omega arith) there in
      let word = Any-from_list_any (λ w. is_bad_entry (process_entry w k (length m))) (frame_words m f) at.4 in
      let frame_low = (h.sound.boarded.low k f node.0 node.1).0 in
      let small = rw (frame-words d placed f h.stands frame_low) at word.2 in
      not_bad k f node.0 word.0 node.1 small (wanted-low m k f word.0 (omega arith) ∙ bad_is _ (ap (λ w. is_bad_entry (process_entry w k (length m))) (get_or_default (frame_words m f) word.0 0 word.1 word.2 ∙ word.3) ∙ word.4))
    where
      bad_is : (e : Process) → is_bad_entry e ≡ true → e ≡ Bad
      bad_is Absent e = cc
      bad_is (Table x) e = cc
      bad_is (Large b w) e = cc
      bad_is (Page x w) e = cc
      bad_is Bad e = refl

  pub rests-good : has_bad_entry (memory_in d placed) roots ≡ false
  rests-good =
      or_false4
      (false_from_ne_true _ (good_level 4 (omega arith) (omega arith)))
      (false_from_ne_true _ (good_level 3 (omega arith) (omega arith)))
      (false_from_ne_true _ (good_level 2 (omega arith) (omega arith)))
      (false_from_ne_true _ (good_level 1 (omega arith) (omega arith)))
    where
      or_false4 : {a b c e : Bool} → a ≡ false → b ≡ false → c ≡ false → e ≡ false → (a || (b || (c || (e || false)))) ≡ false
      or_false4 p q s t = rw (p, q, s, t) refl

  -- reading and writing go through the tables exactly where the guest's own grant it
  module _ (told : flag t.told.items ≡ is_guarded (memory_in d placed) roots) (root page at : ℕ) (node : pages_of t 4 root ≡ Some page) where
    pub finished-read : read_page d page false at ≡ host_page placed (read_grant (memory_in d placed) root at)
    finished-read = read-equals d placed (pages_of t) (flag t.told.items) (memory_in d placed) roots root page at h.stands guest-local node told

    pub finished-write : write_page d page false at ≡ host_page placed (write_grant (memory_in d placed) roots root at)
    finished-write = write-equals d placed (pages_of t) (flag t.told.items) (memory_in d placed) roots root page at h.stands guest-local node told

  -- the local form's sentence on split tables
  pub split-words : (w : Bool) (b p i : ℕ) → pages_of t (split_level w) b ≡ Some p → i < 512 → (b + i < length placed.pages) × (get_or (d.words p) i 0 ≡ leaf_word (get_or placed.pages (b + i) 0) w (flag t.told.items (b + i)))
  split-words true b p i is small = let leaf = guest-local.names 5 b p i is small in (leaf.1, leaf.2)
  split-words false b p i is small = let leaf = guest-local.names 6 b p i is small in (leaf.1, leaf.2)
