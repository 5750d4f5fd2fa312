-- The announcement of a root, on both sides.
use Rattle.std.proofs.Common.{◌≡◌, ℕ, ◌<◌, Bool, true, false, not, ◌||◌, cond, eqb, ltb, List, [], ◌∷◌, is_some, length, refl, sym, ap, ◌∙◌, subst, arith, Ok, Err}
use Rattle.std.specs.List.{filter, range_with_len}
use Rattle.std.proofs.lemmas.Bool.{false≢true, lt-ltb}
use Rattle.std.proofs.lemmas.Bool.Decides.{nat_tests}
use Rattle.gv_types.specs.declared.reply.Reason.TheVariants.{Entry}
use Rattle.gv_entry.specs.Tables.{has_bad_entry}
use Rattle.gv_fetch.specs.Fetch.{check}
use Rattle.gv_gpu.specs.Device.{Device}
use Rattle.gv_guest.specs.Placed.{Placed}
use Rattle.gv_private.specs.Device.{PrivateDevice}
use Rattle.gv_private.specs.Roots.{announced, with_root, without_root}
use Rattle.gv_shape.specs.Counts.{is_among}
use Rattle.gv_sppgtt.specs.Holding.{Holds}
use Rattle.gv_sppgtt.specs.Serving.{roots_of, is_refused, with_root as with_root_in}
use Rattle.gv_sppgtt.specs.State.{pages_of}
use Rattle.gv_sppgtt.specs.declared.tables.Tables.{Tables}
use Rattle.gv_sppgtt.proofs.Serving.{among-roots, filter-same}
use Rattle.gv_gtt.proofs.Lists.{with-chosen}

-- the roots, as they are listed
pub roots-are : (t : Tables) → roots_of t ≡ filter (λ f. is_some (pages_of t 4 f)) (range_with_len 0 t.nodes.frames)
unfolding roots_of
roots-are t = refl

-- One root more, in rising order, is the same list on both sides.
module _ (d : Device) (placed : Placed) (t : Tables) (pins : List ℕ) (holds : Holds d placed t pins) (root : ℕ) (low : root < length placed.pages) where
  pub with-same : with_root (roots_of t) root ≡ with_root_in (length placed.pages) (roots_of t) root
  with-same =
      ap (λ (rs : List ℕ). with_root rs root) (roots-are t)
      ∙ with-chosen (λ f. is_some (pages_of t 4 f)) root 0 t.nodes.frames (omega arith) (let l : root < t.nodes.frames = subst (λ n. root < n) (sym holds.sound.frames) low in omega arith)
      ∙ filter-same (λ f. eqb root f || is_some (pages_of t 4 f)) (λ f. eqb root f || is_among (roots_of t) f) (range_with_len 0 t.nodes.frames) (λ f. ap (λ b. eqb root f || b) (sym (among-roots d placed t pins holds f)))
      ∙ ap (λ n. filter (λ f. eqb root f || is_among (roots_of t) f) (range_with_len 0 n)) holds.sound.frames

-- ---- the two tests

module _ (p : PrivateDevice) (root : ℕ) (wanted : List ℕ) (same : root < length p.memory → with_root p.roots root ≡ wanted) where
  announced_by : (b c : Bool) → ltb root (length p.memory) ≡ b → (root < length p.memory → has_bad_entry p.memory wanted ≡ c)
      → announced p root ≡ cond b (cond c (Err Entry) (Ok (record p { roots = wanted }))) (Err Entry)
  announced_by false c out bad = ap (λ b. check b Entry (check (not (has_bad_entry p.memory (with_root p.roots root))) Entry (Ok (record p { roots = with_root p.roots root })))) out
  announced_by true c inside bad =
      let low : root < length p.memory = grind (arith, nat_tests) in
      ap (λ b. check b Entry (check (not (has_bad_entry p.memory (with_root p.roots root))) Entry (Ok (record p { roots = with_root p.roots root })))) inside
      ∙ ap (λ (rs : List ℕ). check (not (has_bad_entry p.memory rs)) Entry (Ok (record p { roots = rs }))) (same low)
      ∙ ap (λ b. check (not b) Entry (Ok (record p { roots = wanted }))) (bad low)
      ∙ by c
    where
      by : (c : Bool) → check (not c) Entry (Ok (record p { roots = wanted })) ≡ cond c (Err Entry) (Ok (record p { roots = wanted }))
      by true = refl
      by false = refl

-- what the shadow tables refuse is what the private device refuses
module _ (p : PrivateDevice) (root : ℕ) (same : root < length p.memory → with_root p.roots root ≡ with_root_in (length p.memory) p.roots root) where
  abbrev wanted : List ℕ
  wanted = with_root_in (length p.memory) p.roots root

  refused : (b : Bool) → ltb root (length p.memory) ≡ b → is_refused p.memory p.roots root ≡ (not b || has_bad_entry p.memory wanted)
  refused b is = ap (λ c. not c || has_bad_entry p.memory wanted) is

  pub announced-ok : is_refused p.memory p.roots root ≡ false → announced p root ≡ Ok (record p { roots = wanted })
  announced-ok good = by (ltb root (length p.memory)) refl
    where
      by : (b : Bool) → ltb root (length p.memory) ≡ b → announced p root ≡ Ok (record p { roots = wanted })
      by true is = announced_by p root wanted same true false is (λ low. sym (refused true is) ∙ good)
      by false is = absurd (false≢true (sym good ∙ refused false is))

  pub announced-err : is_refused p.memory p.roots root ≡ true → announced p root ≡ Err Entry
  announced-err bad = by (ltb root (length p.memory)) refl
    where
      by : (b : Bool) → ltb root (length p.memory) ≡ b → announced p root ≡ Err Entry
      by true is = announced_by p root wanted same true true is (λ low. sym (refused true is) ∙ bad)
      by false is = announced_by p root wanted same false true is (λ low. let l : ⊥ = false≢true (sym is ∙ lt-ltb root (length p.memory) low) in absurd l)

-- ---- a root that isn't there

pub without-none : (roots : List ℕ) (root : ℕ) → is_among roots root ≡ false → without_root roots root ≡ roots
without-none [] root none = refl
without-none (x ∷ xs) root none = by (eqb x root) none (without-none xs root)
  where
    by : (b : Bool) → (b || is_among xs root) ≡ false → (is_among xs root ≡ false → without_root xs root ≡ xs) → cond (not b) (x ∷ without_root xs root) (without_root xs root) ≡ x ∷ xs
    by true none rest = cc
    by false none rest = ap (λ (ys : List ℕ). x ∷ ys) (rest none)
