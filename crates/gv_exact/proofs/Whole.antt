-- The record is whole: what it doesn't name as written stays.
use Rattle.std.proofs.Common.{◌≡◌, ℕ, zero, suc, ◌+◌, ◌*◌, ◌/◌, ◌%◌, ◌^◌, Bool, true, false, ◌&&◌, ◌||◌, List, [], ◌++◌, Option, Some, None, Result, Ok, Err, cond, get_or, refl, sym, ap, ◌∙◌, eqb, arith}
use Rattle.std.proofs.lemmas.Grind.{common_steps}
use Rattle.std.proofs.lemmas.List.Folds.{list_any-append}
use Rattle.gv_types.specs.Bits.{with_byte}
use Rattle.gv_types.specs.Memory.{with_half}
use Rattle.gv_cmd.specs.Allowed.{is_allowed}
use Rattle.gv_cmd.specs.Command.{decoded}
use Rattle.gv_cmd.specs.Effect.{effect, colour_byte}
use Rattle.gv_cmd.specs.Simulation.{Simulates}
use Rattle.gv_cmd.specs.Table.{kind_of}
use Rattle.gv_cmd.specs.declared.command.Unlisted.{Unlisted as UnlistedError}
use Rattle.gv_cmd.proofs.Simulation.{effects_agree}
use Rattle.gv_gpu.specs.Device.{Device, Loaded, with_page_word, with_loaded}
use Rattle.gv_gpu.specs.declared.step.Step.TheVariants.{Unlisted, Ended}
use Rattle.gv_gpu.specs.Physical.{word_in, word_stored, read_page, write_page, byte_at, byte_stored, operand_stored, write_strays}
use Rattle.gv_gpu.specs.Step.{Stepping, operations, bytes_stored, bytes_stray, stands_at, runs_privileged, head_read, settled, stepped_by, stepped_with, command_step, front_step, has_ended, step_with, physical_step}
use Rattle.gv_exact.specs.Touched.{Touch, Recorded, untouched, byte_touched, dword_touched, bytes_touched}
use Rattle.gv_exact.specs.Exact.{recorded_operations, at_front, live_code_touched, operands_touched, front_touched, touched_with, step_touched}
use Rattle.gv_exact.specs.Laws.{hits, writes_word, OnlyRecordedIsWritten}
use Rattle.gv_exact.proofs.Touches.{Any, any_do}
use Rattle.gv_exact.proofs.Unread.{or_left, or_right}

-- a word of another page, or another word
other_word : (d : Device) (q i word page index : ℕ) → (eqb q page && eqb i index) ≡ false → get_or ((with_page_word d q i word).words page) index 0 ≡ get_or (d.words page) index 0
other_word d q i word page index none = grind (arith, common_steps)

-- one more byte
abbrev with_more : ℕ → (ℕ → ℕ) → ℕ → Stepping → Stepping
with_more at bytes n t = record t {
  device = byte_stored t.device t.context.root false (at + n) (bytes n);
  strayed = t.strayed || write_strays t.device t.context false (at + n);
}

-- whether something strayed before makes no other difference
alike : (s : Stepping) (a : Bool) (at : ℕ) (bytes : ℕ → ℕ) (n : ℕ) → (b : Bool) × (bytes_stored (record s { strayed = a }) at bytes n ≡ record (bytes_stored s at bytes n) { strayed = b })
unfolding bytes_stored
alike s a at bytes zero = (a, refl)
alike s a at bytes (suc n) =
    let before = alike s a at bytes n in
    let t = bytes_stored s at bytes n in
    (before.0 || write_strays t.device t.context false (at + n), ap (with_more at bytes n) before.1)

module _ (page index : ℕ) where
  abbrev word : Device → ℕ
  word d = get_or (d.words page) index 0

  dword_kept : (d : Device) (o : Option ℕ) (at value : ℕ) → writes_word (dword_touched true o at) page index ≡ false → word (word_stored d o at value) ≡ word d
  dword_kept d None at value none = refl
  dword_kept d (Some q) at value none =
      let same : at % 4096 / 4 * 4 / 8 ≡ at % 4096 / 8 = omega arith in
      other_word d q (at % 4096 / 8) value page index (ap (λ i. eqb q page && eqb i index) (sym same) ∙ or_left _ _ none)

  byte_kept : (d : Device) (o : Option ℕ) (at value : ℕ) → writes_word (byte_touched true o at) page index ≡ false → word (word_stored d o at value) ≡ word d
  byte_kept d None at value none = refl
  byte_kept d (Some q) at value none = other_word d q (at % 4096 / 8) value page index (or_left _ _ none)

  split_left : (xs ys : List Touch) → writes_word (xs ++ ys) page index ≡ false → writes_word xs page index ≡ false
  split_left xs ys none = or_left _ (writes_word ys page index) (sym (list_any-append (hits page index) xs ys) ∙ none)

  split_right : (xs ys : List Touch) → writes_word (xs ++ ys) page index ≡ false → writes_word ys page index ≡ false
  split_right xs ys none = or_right (writes_word xs page index) _ (sym (list_any-append (hits page index) xs ys) ∙ none)

  -- bytes that are stored in order: s k is the state with the first k of them
  bytes_kept : (s : Stepping) (pages : ℕ → Option ℕ) (at : ℕ) (bytes : ℕ → ℕ)
      → ((k : ℕ) → pages k ≡ write_page (bytes_stored s at bytes k).device (bytes_stored s at bytes k).context.root false (at + k))
      → (n : ℕ) → writes_word (bytes_touched true pages at n) page index ≡ false → word (bytes_stored s at bytes n).device ≡ word s.device
  unfolding bytes_stored bytes_touched byte_stored
  bytes_kept s pages at bytes is zero none = refl
  bytes_kept s pages at bytes is (suc n) none =
      let t = bytes_stored s at bytes n in
      let o = write_page t.device t.context.root false (at + n) in
      byte_kept t.device o (at + n) (with_byte (word_in t.device o (at + n)) (at + n) (bytes n))
      (ap (λ o. writes_word (byte_touched true o (at + n)) page index) (sym (is n)) ∙ split_right (bytes_touched true pages at n) (byte_touched true (pages n) (at + n)) none)
      ∙ bytes_kept s pages at bytes is n (split_left (bytes_touched true pages at n) (byte_touched true (pages n) (at + n)) none)

  copied : (s : Stepping) (to from n : ℕ)
      → writes_word (bytes_touched true (λ k. write_page (operations.row_copied s to from k).device (operations.row_copied s to from k).context.root false (to % 2 ^ 48 + k)) (to % 2 ^ 48) n) page index ≡ false
      → word (operations.row_copied s to from n).device ≡ word s.device
  copied s to from n none = bytes_kept (record s { strayed = strayed n }) _ (to % 2 ^ 48) bytes page_same n none
    where
      strayed : ℕ → Bool
      strayed k = s.strayed || bytes_stray s.device s.context (from % 2 ^ 48) k

      bytes : ℕ → ℕ
      bytes k = byte_at s.device s.context.root false (from % 2 ^ 48 + k)

      page_of : ℕ → Stepping → Option ℕ
      page_of k t = write_page t.device t.context.root false (to % 2 ^ 48 + k)

      page_same : (k : ℕ) → page_of k (bytes_stored (record s { strayed = strayed k }) (to % 2 ^ 48) bytes k) ≡ page_of k (bytes_stored (record s { strayed = strayed n }) (to % 2 ^ 48) bytes k)
      page_same k = ap (page_of k) (alike s (strayed k) (to % 2 ^ 48) bytes k).1 ∙ sym (ap (page_of k) (alike s (strayed n) (to % 2 ^ 48) bytes k).1)

  module _ (start : Device) where
    record Kept (r : Recorded Stepping) (s : Stepping) : Type 0 where
      now : r.now ≡ s
      kept : writes_word r.trace page index ≡ false → word r.now.device ≡ word start

    -- what is touched more, and what is kept while that is touched
    more : (r : Recorded Stepping) (s : Stepping) (e : Device) (ys : List Touch) → Kept r s → (writes_word ys page index ≡ false → word e ≡ word r.now.device) → writes_word (r.trace ++ ys) page index ≡ false → word e ≡ word start
    more r s e ys k step none = step (split_right r.trace ys none) ∙ k.kept (split_left r.trace ys none)

    stays : Simulates recorded_operations operations Kept Any
    unfolding operand_stored
    stays = record {
      load_gives = λ r s global at k may. ap (λ (x : Stepping). operations.load_gives x global at) k.now;
      load_leaves = λ r s global at k may. record {
        now = ap (λ (x : Stepping). operations.load_leaves x global at) k.now;
        kept = more r s r.now.device _ k (λ none. refl);
      };
      stored = λ r s global at value k may. record {
        now = ap (λ (x : Stepping). operations.stored x global at value) k.now;
        kept = more r s (operations.stored r.now global at value).device _ k (λ none.
            let o = write_page r.now.device r.now.context.root global at in
            dword_kept r.now.device o at (with_half (word_in r.now.device o at) at value) none);
      };
      row_copied = λ r s to from n k. record {
        now = ap (λ (x : Stepping). operations.row_copied x to from n) k.now;
        kept = more r s (operations.row_copied r.now to from n).device _ k (λ none. copied r.now to from n (split_right (bytes_touched false (λ j. read_page r.now.device r.now.context.root false (from % 2 ^ 48 + j)) (from % 2 ^ 48) n) _ none));
      };
      row_filled = λ r s to n colour depth k. record {
        now = ap (λ (x : Stepping). operations.row_filled x to n colour depth) k.now;
        kept = more r s (operations.row_filled r.now to n colour depth).device _ k (λ none. bytes_kept r.now _ (to % 2 ^ 48) (colour_byte colour depth) (λ j. refl) n none);
      };
      general_gives = λ r s n small k. ap (λ (x : Stepping). operations.general_gives x n) k.now;
      general_set = λ r s n value small k. record { now = ap (λ (x : Stepping). operations.general_set x n value) k.now; kept = k.kept };
    }

    command_kept : (ws : List ℕ) (engine : ℕ) (privileged : Bool) (s : Stepping) → s.device ≡ start
        → writes_word (effect recorded_operations ws engine privileged (untouched s)).after.trace page index ≡ false → word (effect operations ws engine privileged s).after.device ≡ word start
    command_kept ws engine privileged s is none =
        let k = (effects_agree recorded_operations operations Kept Any stays ws engine privileged (untouched s) s (record { now = refl; kept = λ none. ap word is }) (any_do engine privileged (kind_of ws))).after in
        ap (λ (x : Stepping). word x.device) (sym k.now) ∙ k.kept none

  -- ---- a step

  by_raise : (engine : ℕ) (l : Loaded) (ws : List ℕ) (dwords : ℕ) (s : Stepping) (raise : Option ℕ) → word (stepped_by engine l ws dwords s raise).after ≡ word s.device
  by_raise engine l ws dwords s None = refl
  by_raise engine l ws dwords s (Some raise) = refl

  module _ (d : Device) (engine : ℕ) (l : Loaded) where
    if_allowed : (ws : List ℕ) (dwords : ℕ) (b : Bool)
        → writes_word (cond b ((effect recorded_operations ws engine (runs_privileged l.place) (untouched (at_front d engine l))).after.trace) []) page index ≡ false
        → word (cond b (stepped_with engine l ws dwords (effect operations ws engine (runs_privileged l.place) (at_front d engine l))) (record { after = settled (at_front d engine l); answer = Unlisted })).after ≡ word d
    if_allowed ws dwords true none =
        by_raise engine l ws dwords (effect operations ws engine (runs_privileged l.place) (at_front d engine l)).after (effect operations ws engine (runs_privileged l.place) (at_front d engine l)).raise
        ∙ command_kept d ws engine (runs_privileged l.place) (at_front d engine l) refl none
    if_allowed ws dwords false none = refl

    by_command : (r : Result (List ℕ × ℕ) UnlistedError) → writes_word (operands_touched d engine l r) page index ≡ false → word (command_step (at_front d engine l) r).after ≡ word d
    by_command (Err e) none = refl
    by_command (Ok (ws, dwords)) none = if_allowed ws dwords (is_allowed ws (stands_at l.place) engine) none

    at_end : (b : Bool) → writes_word (cond b [] (front_touched d engine l)) page index ≡ false → word (cond b (record { after = with_loaded d engine None; answer = Ended }) (front_step d engine l)).after ≡ word d
    unfolding front_step
    at_end true none = refl
    at_end false none = by_command (decoded (head_read d l).words) (split_right (live_code_touched d l (runs_privileged l.place)) (operands_touched d engine l (decoded (head_read d l).words)) none)

  by_loaded : (d : Device) (engine : ℕ) (o : Option Loaded) → writes_word (touched_with d engine o) page index ≡ false → word (step_with d engine o).after ≡ word d
  by_loaded d engine None none = refl
  by_loaded d engine (Some l) none = at_end d engine l (has_ended l) none

  step_kept : (d : Device) (engine : ℕ) → writes_word (step_touched d engine) page index ≡ false → word (physical_step d engine).after ≡ word d
  unfolding step_touched physical_step
  step_kept d engine none = by_loaded d engine (d.loaded engine) none

pub only_recorded_is_written : OnlyRecordedIsWritten
only_recorded_is_written d engine page index none = step_kept page index d engine none
