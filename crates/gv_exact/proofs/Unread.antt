-- The record is whole: what it doesn't name as read doesn't matter.
use Rattle.std.proofs.Common.{◌≡◌, ℕ, ◌+◌, Bool, true, false, not, ◌&&◌, ◌||◌, List, [], ◌∷◌, ◌++◌, drop, Option, Some, None, cond, length, get_or, set, refl, sym, ap, ◌∙◌, subst, eqb, ltb, arith}
use Rattle.std.proofs.lemmas.Grind.{common_steps}
use Rattle.std.proofs.lemmas.Bool.Decides.{nat_tests}
use Rattle.std.proofs.lemmas.List.Folds.{list_any-append}
use Rattle.gv_types.specs.Memory.{Memory}
use Rattle.gv_cmd.specs.Bits.{register}
use Rattle.gv_cmd.specs.Effect.{Operations, Effect, general_of, is_skipped, ran, general_read_by, general_set_by, general_loaded_by, engine_register_set, engine_registers_set, engine_register_read, dwords_stored, post_written, rows_copied, rows_filled, compares, waited, performed, effect_of, effect}
use Rattle.gv_cmd.specs.Rows.{rows}
use Rattle.gv_cmd.specs.Table.{kind_of}
use Rattle.gv_cmd.specs.declared.blit.Blit.{Blit}
use Rattle.gv_cmd.specs.declared.blit.RowPair.{RowPair}
use Rattle.gv_cmd.specs.declared.kind.PostWrite.{PostWrite}
use Rattle.gv_cmd.specs.declared.kind.Kind.{Kind}
use Rattle.gv_cmd.specs.declared.kind.Kind.TheVariants.{Noop, UserInterrupt, ArbCheck, ArbOnOff, BatchEnd, SemaphoreWait, Store, LoadRegisters, StoreRegister, LoadRegister, MoveRegister, CopyMemory, Flush, PipeControl, BatchStart, ColourBlit, CopyBlit}
use Rattle.gv_exact.specs.Touched.{Touch, Reach, Recorded, recorded, untouched, dword_touched, row_read, row_written}
use Rattle.gv_exact.specs.Laws.{reads_hit, reads_word}

pub or_left : (a b : Bool) → (a || b) ≡ false → a ≡ false
or_left true b is = is
or_left false b is = refl

pub or_right : (a b : Bool) → (a || b) ≡ false → b ≡ false
or_right true b is = cc
or_right false b is = is

module _ (frame index : ℕ) where
  abbrev pub Safe : List Touch → Type 0
  Safe trace = reads_word trace frame index ≡ false

  pub safe_left : (xs ys : List Touch) → Safe (xs ++ ys) → Safe xs
  safe_left xs ys none = or_left _ (reads_word ys frame index) (sym (list_any-append (reads_hit frame index) xs ys) ∙ none)

  pub safe_right : (xs ys : List Touch) → Safe (xs ++ ys) → Safe ys
  safe_right xs ys none = or_right (reads_word xs frame index) _ (sym (list_any-append (reads_hit frame index) xs ys) ∙ none)

-- operations that agree on two states where what they read is safe
pub record Alike {S : Type 0} (ops : Operations S) (reach : Reach S) (frame index : ℕ) (Same : S → S → Type 0) : Type 0 where
  pub load : (x y : S) (global : Bool) (at : ℕ) → Same x y → Safe frame index (dword_touched false (reach.reads x global at) at) → ops.load_gives x global at ≡ ops.load_gives y global at
  pub left : (x y : S) (global : Bool) (at : ℕ) → Same x y → Same (ops.load_leaves x global at) (ops.load_leaves y global at)
  pub stored : (x y : S) (global : Bool) (at value : ℕ) → Same x y → Same (ops.stored x global at value) (ops.stored y global at value)
  pub copied : (x y : S) (to from n : ℕ) → Same x y → Safe frame index (row_read reach x from n) → Same (ops.row_copied x to from n) (ops.row_copied y to from n)
  pub filled : (x y : S) (to n colour depth : ℕ) → Same x y → Same (ops.row_filled x to n colour depth) (ops.row_filled y to n colour depth)
  pub gives : (x y : S) (n : ℕ) → Same x y → ops.general_gives x n ≡ ops.general_gives y n
  pub set : (x y : S) (n value : ℕ) → Same x y → Same (ops.general_set x n value) (ops.general_set y n value)

module _ {S : Type 0} (ops : Operations S) (reach : Reach S) (frame index : ℕ) (Same : S → S → Type 0) (alike : Alike ops reach frame index Same) where
  abbrev rec : Operations (Recorded S)
  rec = recorded ops reach

  abbrev Fine : Recorded S → Type 0
  Fine r = Safe frame index r.trace

  -- the same, where what was read is safe
  abbrev Rel : Recorded S → S → Type 0
  Rel r s = Fine r → Same r.now s

  loaded : (r : Recorded S) (s : S) (global : Bool) (at : ℕ) → Rel r s → Fine (rec.load_leaves r global at) → ops.load_gives r.now global at ≡ ops.load_gives s global at
  loaded r s global at rel fine =
      let touches = dword_touched false (reach.reads r.now global at) at in
      alike.load r.now s global at (rel (safe_left frame index r.trace touches fine)) (safe_right frame index r.trace touches fine)

  left : (r : Recorded S) (s : S) (global : Bool) (at : ℕ) → Rel r s → Rel (rec.load_leaves r global at) (ops.load_leaves s global at)
  left r s global at rel fine = alike.left r.now s global at (rel (safe_left frame index r.trace (dword_touched false (reach.reads r.now global at) at) fine))

  -- the value may be equal only where that is safe
  stored : (r : Recorded S) (s : S) (global : Bool) (at v w : ℕ) → (Fine r → v ≡ w) → Rel r s → Rel (rec.stored r global at v) (ops.stored s global at w)
  stored r s global at v w is rel fine =
      let before : Fine r = safe_left frame index r.trace (dword_touched true (reach.writes r.now global at) at) fine in
      subst (λ u. Same (ops.stored r.now global at v) (ops.stored s global at u)) (is before) (alike.stored r.now s global at v (rel before))

  sets : (r : Recorded S) (s : S) (n : Option ℕ) (v w : ℕ) → (Fine r → v ≡ w) → Rel r s → Rel (general_set_by rec r n v) (general_set_by ops s n w)
  sets r s None v w is rel = rel
  sets r s (Some n) v w is rel = λ fine. subst (λ u. Same (ops.general_set r.now n v) (ops.general_set s n u)) (is fine) (alike.set r.now s n v (rel fine))

  reads_general : (r : Recorded S) (s : S) (n : Option ℕ) → Rel r s → Fine r → general_read_by rec r n ≡ general_read_by ops s n
  reads_general r s None rel fine = refl
  reads_general r s (Some n) rel fine = alike.gives r.now s n (rel fine)

  registers : (engine : ℕ) (r : Recorded S) (s : S) (ws : List ℕ) → Rel r s → Rel (engine_registers_set rec engine r ws) (engine_registers_set ops engine s ws)
  registers engine r s [] rel = rel
  registers engine r s (w ∷ []) rel = rel
  registers engine r s (w ∷ value ∷ ws) rel =
      registers engine (engine_register_set rec engine r (register (w ∷ []) 0) value) (engine_register_set ops engine s (register (w ∷ []) 0) value) ws
      (sets r s (general_of engine (register (w ∷ []) 0)) value value (λ fine. refl) rel)

  loads : (r : Recorded S) (s : S) (n : Option ℕ) (global : Bool) (at : ℕ) → Rel r s → Rel (general_loaded_by rec r n global at) (general_loaded_by ops s n global at)
  loads r s None global at rel = rel
  loads r s (Some n) global at rel =
      sets (rec.load_leaves r global at) (ops.load_leaves s global at) (Some n) (ops.load_gives r.now global at) (ops.load_gives s global at) (loaded r s global at rel) (left r s global at rel)

  dwords : (r : Recorded S) (s : S) (global : Bool) (at low : ℕ) (high : Option ℕ) → Rel r s → Rel (dwords_stored rec r global at low high) (dwords_stored ops s global at low high)
  dwords r s global at low None rel = stored r s global at low low (λ fine. refl) rel
  dwords r s global at low (Some high) rel =
      stored (rec.stored r global at low) (ops.stored s global at low) global (at + 4) high high (λ fine. refl) (stored r s global at low low (λ fine. refl) rel)

  post : (r : Recorded S) (s : S) (w : Option PostWrite) → Rel r s → Rel (post_written rec r w) (post_written ops s w)
  post r s None rel = rel
  post r s (Some w) rel = dwords r s w.global w.at w.low w.high rel

  one_filled : (r : Recorded S) (s : S) (to n colour depth : ℕ) → Rel r s → Rel (rec.row_filled r to n colour depth) (ops.row_filled s to n colour depth)
  one_filled r s to n colour depth rel fine =
      alike.filled r.now s to n colour depth (rel (safe_left frame index r.trace (row_written reach (λ k. ops.row_filled r.now to k colour depth) to n) fine))

  one_copied : (r : Recorded S) (s : S) (to from n : ℕ) → Rel r s → Rel (rec.row_copied r to from n) (ops.row_copied s to from n)
  one_copied r s to from n rel fine =
      let first = row_read reach r.now from n in
      let then = row_written reach (λ k. ops.row_copied r.now to from k) to n in
      alike.copied r.now s to from n (rel (safe_left frame index r.trace (first ++ then) fine)) (safe_left frame index first then (safe_right frame index r.trace (first ++ then) fine))

  filled : (b : Blit) (r : Recorded S) (s : S) (rs : List RowPair) → Rel r s → Rel (rows_filled rec r b rs) (rows_filled ops s b rs)
  filled b r s [] rel = rel
  filled b r s (row ∷ rs) rel =
      filled b (rec.row_filled r row.to row.bytes b.colour b.bytes) (ops.row_filled s row.to row.bytes b.colour b.bytes) rs (one_filled r s row.to row.bytes b.colour b.bytes rel)

  copied : (r : Recorded S) (s : S) (rs : List RowPair) → Rel r s → Rel (rows_copied rec r rs) (rows_copied ops s rs)
  copied r s [] rel = rel
  copied r s (row ∷ rs) rel =
      copied (rec.row_copied r row.to row.from row.bytes) (ops.row_copied s row.to row.from row.bytes) rs (one_copied r s row.to row.from row.bytes rel)

  pub record SameDone (e : Effect (Recorded S)) (f : Effect S) : Type 0 where
    pub after : Rel e.after f.after
    pub raise : Fine e.after → e.raise ≡ f.raise

  waits : (a b : Bool) (r : Recorded S) (s : S) → (Fine r → a ≡ b) → Rel r s → SameDone (waited a r) (waited b s)
  waits true true r s is rel = record { after = rel; raise = λ fine. refl }
  waits true false r s is rel = record { after = rel; raise = λ fine. let no_way : true ≡ false = is fine in cc }
  waits false true r s is rel = record { after = rel; raise = λ fine. let no_way : false ≡ true = is fine in cc }
  waits false false r s is rel = record { after = rel; raise = λ fine. refl }

  module _ (ws : List ℕ) (engine : ℕ) (r : Recorded S) (s : S) (rel : Rel r s) where
    done : (kind : Kind) → SameDone (performed rec ws engine r kind) (performed ops ws engine s kind)
    done Noop = record { after = rel; raise = λ fine. refl }
    done UserInterrupt = record { after = rel; raise = λ fine. refl }
    done ArbCheck = record { after = rel; raise = λ fine. refl }
    done ArbOnOff = record { after = rel; raise = λ fine. refl }
    done BatchEnd = record { after = rel; raise = λ fine. refl }
    done (SemaphoreWait global compare operand at) =
        waits (compares compare (ops.load_gives r.now global at) operand) (compares compare (ops.load_gives s global at) operand) (rec.load_leaves r global at) (ops.load_leaves s global at)
        (λ fine. ap (λ memory. compares compare memory operand) (loaded r s global at rel fine)) (left r s global at rel)
    done (Store global at low high) = record { after = dwords r s global at low high rel; raise = λ fine. refl }
    done (LoadRegisters pairs) = record { after = registers engine r s (drop 1 ws) rel; raise = λ fine. refl }
    done (StoreRegister global register at) = record {
      after = stored r s global at (engine_register_read rec engine r register) (engine_register_read ops engine s register) (reads_general r s (general_of engine register) rel) rel;
      raise = λ fine. refl;
    }
    done (LoadRegister global register at) = record { after = loads r s (general_of engine register) global at rel; raise = λ fine. refl }
    done (MoveRegister from to) = record {
      after = sets r s (general_of engine to) (engine_register_read rec engine r from) (engine_register_read ops engine s from) (reads_general r s (general_of engine from) rel) rel;
      raise = λ fine. refl;
    }
    done (CopyMemory from_global from to_global to) = record {
      after = stored (rec.load_leaves r from_global from) (ops.load_leaves s from_global from) to_global to (ops.load_gives r.now from_global from) (ops.load_gives s from_global from)
          (loaded r s from_global from rel) (left r s from_global from rel);
      raise = λ fine. refl;
    }
    done (Flush write) = record { after = post r s write rel; raise = λ fine. refl }
    done (PipeControl notify write) = record { after = post r s write rel; raise = λ fine. refl }
    done (BatchStart live second at) = record { after = rel; raise = λ fine. refl }
    done (ColourBlit b) = record { after = filled b r s (rows b) rel; raise = λ fine. refl }
    done (CopyBlit b) = record { after = copied r s (rows b) rel; raise = λ fine. refl }

    unless_skipped : (kind : Kind) (skipped : Bool) → SameDone (cond skipped (ran r 0) (performed rec ws engine r kind)) (cond skipped (ran s 0) (performed ops ws engine s kind))
    unless_skipped kind true = record { after = rel; raise = λ fine. refl }
    unless_skipped kind false = done kind

    by_kind : (privileged : Bool) (kind : Option Kind) → SameDone (effect_of rec ws engine privileged r kind) (effect_of ops ws engine privileged s kind)
    by_kind privileged None = record { after = rel; raise = λ fine. refl }
    by_kind privileged (Some kind) = unless_skipped kind (not privileged && is_skipped engine kind)

  pub same_done : (ws : List ℕ) (engine : ℕ) (privileged : Bool) (x y : S) → Same x y → SameDone (effect rec ws engine privileged (untouched x)) (effect ops ws engine privileged y)
  same_done ws engine privileged x y same = by_kind ws engine (untouched x) y (λ fine. same) privileged (kind_of ws)

-- ---- words of a memory

pub word_after : (m : Memory) (f j w g k : ℕ)
    → get_or (get_or (set m f (set (get_or m f []) j w)) g []) k 0 ≡ cond (eqb g f && eqb k j && (ltb f (length m) && ltb j (length (get_or m f [])))) w (get_or (get_or m g []) k 0)
word_after m f j w g k = grind (arith, common_steps, nat_tests)

pub length_after : (m : Memory) (f j w g : ℕ) → length (get_or (set m f (set (get_or m f []) j w)) g []) ≡ length (get_or m g [])
length_after m f j w g = grind (arith, common_steps, nat_tests)
