-- A write to memory, as a change of one word of a frame; and the frames that are live tables.
use Rattle.std.proofs.Common.{◌≡◌, ℕ, ◌+◌, ◌*◌, ◌/◌, ◌%◌, ◌<◌, ◌≤◌, Bool, true, false, not, ◌||◌, cond, eqb, ltb, List, [], is_some, length, get_or, set, refl, sym, ap, ◌∙◌, subst, ⊎_elim, arith}
use Rattle.std.proofs.lemmas.Bool.{cases_eq, lt-ltb}
use Rattle.std.proofs.lemmas.List.{length-set, get_or-set_same, get_or-set_other, get_or_past}
use Rattle.gv_types.specs.Memory.{Memory, memory_write, with_value, with_word, with_half, word_of}
use Rattle.gv_types.specs.declared.event.Width.{Width}
use Rattle.gv_types.specs.declared.event.Width.TheVariants.{Four, Eight}
use Rattle.gv_entry.specs.Tables.{frame_words, has_bad_entry, is_guarded}
use Rattle.gv_gpu.specs.Device.{Device}
use Rattle.gv_sppgtt.specs.Serving.{ChangedAt, roles_of, bit_if}
use Rattle.gv_sppgtt.specs.State.{pages_of, is_table}
use Rattle.gv_sppgtt.specs.declared.tables.Tables.{Tables}
use Rattle.gv_sppgtt.proofs.Finished.{rests-good}
use Rattle.gv_sppgtt.proofs.Meaning.{serving_tables_tell}
use Rattle.gv_gtt.specs.Gtt.{memory_of, roots_in}
use Rattle.gv_gtt.specs.Standing.{Translates}
use Rattle.gv_gtt.specs.declared.gtt.Gtt.{Gtt}

changed-word : (m : Memory) (number value frame index : ℕ) → frame ≡ number / 512 → index ≡ number % 512 → frame < length m → ChangedAt m (with_word m number value) frame index
changed-word m number value frame index at_frame at_index low = record {
  frames = length-set m (number / 512) (set (get_or m (number / 512) []) (number % 512) value);
  others = λ f i apart. ⊎_elim
      (λ same.
      let place : f ≡ frame = same ∙ sym at_frame in
      let inside : number / 512 < length m = subst (λ n. n < length m) at_frame low in
      subst (λ k. get_or (frame_words (with_word m number value) k) i 0 ≡ get_or (frame_words m k) i 0) (sym same)
      (ap (λ (ws : List ℕ). get_or ws i 0) (get_or-set_same m (number / 512) (set (get_or m (number / 512) []) (number % 512) value) [] inside)
      ∙ get_or-set_other (get_or m (number / 512) []) (number % 512) i value 0 (λ e. apart place (e ∙ sym at_index))))
      (λ other. ap (λ (ws : List ℕ). get_or ws i 0) (get_or-set_other m (number / 512) f (set (get_or m (number / 512) []) (number % 512) value) [] other))
      (cases_eq f (number / 512));
}

-- a write to memory changes a word of one frame
pub changed-write : (m : Memory) (width : Width) (at value : ℕ) → at < length m * 4096 → ChangedAt m (memory_write m width at value) (at / 4096) (at % 4096 / 8)
changed-write m width at value low = subst (λ b. ChangedAt m (cond b (with_value m width at value) m) (at / 4096) (at % 4096 / 8)) (sym inside) (by width)
  where
    inside : ltb at (length m * 4096) ≡ true
    inside = lt-ltb at (length m * 4096) low

    by : (width : Width) → ChangedAt m (with_value m width at value) (at / 4096) (at % 4096 / 8)
    by Four = changed-word m (at / 8) (with_half (word_of m (at / 8)) at value) (at / 4096) (at % 4096 / 8) (omega arith) (omega arith) (omega arith)
    by Eight = changed-word m (at / 8) value (at / 4096) (at % 4096 / 8) (omega arith) (omega arith) (omega arith)

-- a frame is a table where it has a role
bits : (a b c e : Bool) → not (eqb (bit_if a 1 + bit_if b 2 + bit_if c 4 + bit_if e 8) 0) ≡ (e || (c || (b || a)))
bits true true true true = refl
bits true true true false = refl
bits true true false true = refl
bits true true false false = refl
bits true false true true = refl
bits true false true false = refl
bits true false false true = refl
bits true false false false = refl
bits false true true true = refl
bits false true true false = refl
bits false true false true = refl
bits false true false false = refl
bits false false true true = refl
bits false false true false = refl
bits false false false true = refl
bits false false false false = refl

pub roles-table : (t : Tables) (frame : ℕ) → not (eqb (roles_of t frame) 0) ≡ is_table (pages_of t) frame
roles-table t frame = bits (is_some (pages_of t 1 frame)) (is_some (pages_of t 2 frame)) (is_some (pages_of t 3 frame)) (is_some (pages_of t 4 frame))

module _ (d : Device) (g : Gtt) (s : Translates d g) where
  pub guarded-table : (frame : ℕ) → is_guarded (memory_of d g) (roots_in g) frame ≡ is_table (pages_of g.tables) frame
  guarded-table frame = sym (serving_tables_tell d g.memory.frames g.memory.pins g.tables s.serving.serves frame) ∙ s.serving.serves.told frame

  -- no frame outside of memory
  pub outside-free : (frame : ℕ) → length g.memory.frames.pages ≤ frame → is_guarded (memory_of d g) (roots_in g) frame ≡ false
  outside-free frame high =
      let long = s.serving.stands.holds.sound.told_long in
      sym (serving_tables_tell d g.memory.frames g.memory.pins g.tables s.serving.serves frame) ∙ get_or_past g.tables.told.items frame false (omega arith)

  pub good : has_bad_entry (memory_of d g) (roots_in g) ≡ false
  good = rests-good d g.memory.frames g.tables g.memory.pins (roots_in g) 0 0 s.serving.serves.holds s.serving.serves.rests
