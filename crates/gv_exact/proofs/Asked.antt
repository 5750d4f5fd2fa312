-- Where the grants stay while a command runs, it touches what it asks for and these grants give.
use Rattle.std.proofs.Common.{◌≡◌, ℕ, zero, suc, ◌+◌, ◌*◌, ◌%◌, ◌^◌, Bool, true, false, not, ◌&&◌, List, [], ◌∷◌, ◌++◌, drop, Option, Some, None, cond, refl, sym, ap, ◌∙◌, arith}
use Rattle.std.specs.List.{flat_map}
use Rattle.std.proofs.lemmas.List.{append_assoc, append-nil}
use Rattle.std.proofs.lemmas.Grind.{flat_map-append}
use Rattle.gv_cmd.specs.Bits.{register}
use Rattle.gv_cmd.specs.Effect.{Operations, general_of, is_skipped, ran, general_set_by, general_loaded_by, engine_register_set, engine_registers_set, engine_register_read, dwords_stored, post_written, rows_copied, rows_filled, compares, waited, performed, effect_of, effect}
use Rattle.gv_cmd.specs.Rows.{rows}
use Rattle.gv_cmd.specs.Table.{kind_of}
use Rattle.gv_cmd.specs.declared.blit.Blit.{Blit}
use Rattle.gv_cmd.specs.declared.blit.RowPair.{RowPair}
use Rattle.gv_cmd.specs.declared.kind.PostWrite.{PostWrite}
use Rattle.gv_cmd.specs.declared.kind.Kind.{Kind}
use Rattle.gv_cmd.specs.declared.kind.Kind.TheVariants.{Noop, UserInterrupt, ArbCheck, ArbOnOff, BatchEnd, SemaphoreWait, Store, LoadRegisters, StoreRegister, LoadRegister, MoveRegister, CopyMemory, Flush, PipeControl, BatchStart, ColourBlit, CopyBlit}
use Rattle.gv_place.proofs.Kept.{aligned-test}
use Rattle.gv_exact.specs.Touched.{Touch, Reach, Recorded, recorded, untouched, byte_touched, dword_touched, bytes_touched, code_touched, codes_touched}
use Rattle.gv_exact.specs.Asked.{Ask, read_dword, write_dword, local_byte, dwords_asked, post_asked, load_asked, bytes_asked, fill_asked, copy_asked, operands_asked, asked_by, command_asked, codes_asked, given_one, given}

-- the states of a space that grant the same, and which its operations keep
pub record Steady {S : Type 0} (ops : Operations S) (reach : Reach S) (Fine : S → Type 0) (R W : Bool → ℕ → Option ℕ) : Type 0 where
  pub reads : (s : S) → Fine s → (global : Bool) (at : ℕ) → reach.reads s global at ≡ R global at
  pub writes : (s : S) → Fine s → (global : Bool) (at : ℕ) → reach.writes s global at ≡ W global at
  pub load : (s : S) (global : Bool) (at : ℕ) → Fine s → Fine (ops.load_leaves s global at)
  pub stored : (s : S) (global : Bool) (at value : ℕ) → Fine s → Fine (ops.stored s global at value)
  pub copied : (s : S) (to from n : ℕ) → Fine s → Fine (ops.row_copied s to from n)
  pub filled : (s : S) (to n colour depth : ℕ) → Fine s → Fine (ops.row_filled s to n colour depth)
  pub set : (s : S) (n value : ℕ) → Fine s → Fine (ops.general_set s n value)

-- ---- bytes in order

module _ (R W : Bool → ℕ → Option ℕ) where
  bytes_read : (page : ℕ → Option ℕ) (at : ℕ) → ((k : ℕ) → page k ≡ R false (at + k)) → (n : ℕ) → bytes_touched false page at n ≡ given R W (bytes_asked false at n)
  unfolding bytes_touched bytes_asked
  bytes_read page at is zero = refl
  bytes_read page at is (suc n) =
      (λ i. bytes_read page at is n i ++ byte_touched false (is n i) (at + n))
      ∙ ap (λ l. given R W (bytes_asked false at n) ++ l) (sym (append-nil (byte_touched false (R false (at + n)) (at + n))))
      ∙ sym (flat_map-append (given_one R W) (bytes_asked false at n) (local_byte false (at + n) ∷ []))

  bytes_written : (page : ℕ → Option ℕ) (at : ℕ) → ((k : ℕ) → page k ≡ W false (at + k)) → (n : ℕ) → bytes_touched true page at n ≡ given R W (bytes_asked true at n)
  unfolding bytes_touched bytes_asked
  bytes_written page at is zero = refl
  bytes_written page at is (suc n) =
      (λ i. bytes_written page at is n i ++ byte_touched true (is n i) (at + n))
      ∙ ap (λ l. given R W (bytes_asked true at n) ++ l) (sym (append-nil (byte_touched true (W false (at + n)) (at + n))))
      ∙ sym (flat_map-append (given_one R W) (bytes_asked true at n) (local_byte true (at + n) ∷ []))

  by_alignment : ℕ → Bool → List Touch
  by_alignment at b = cond b (dword_touched false (R false at) at) (bytes_touched false (λ k. R false (at + k)) at 4)

  code_given : (at : ℕ) → at % 4 ≡ 0 → code_touched (R false) at ≡ dword_touched false (R false at) at
  unfolding by_alignment
  code_given at fit = ap (by_alignment at) (aligned-test at fit)

  four : (at n : ℕ) → at % 4 ≡ 0 → (at + 4 * n) % 4 ≡ 0
  four at n fit = omega arith

  pub codes_given : (at n : ℕ) → at % 4 ≡ 0 → codes_touched (R false) at n ≡ given R W (codes_asked at n)
  unfolding codes_touched codes_asked
  codes_given at zero fit = refl
  codes_given at (suc n) fit =
      (λ i. codes_given at n fit i ++ (code_given (at + 4 * n) (four at n fit) ∙ sym (append-nil (dword_touched false (R false (at + 4 * n)) (at + 4 * n)))) i)
      ∙ sym (flat_map-append (given_one R W) (codes_asked at n) (read_dword false (at + 4 * n) ∷ []))

-- ---- a command

module _ {S : Type 0} (ops : Operations S) (reach : Reach S) (Fine : S → Type 0) (R W : Bool → ℕ → Option ℕ) (steady : Steady ops reach Fine R W) where
  abbrev rec : Operations (Recorded S)
  rec = recorded ops reach

  -- from one state to another these were asked for
  record Does (r s : Recorded S) (asks : List Ask) : Type 0 where
    fine : Fine s.now
    trace : s.trace ≡ r.trace ++ given R W asks

  nothing : (r : Recorded S) → Fine r.now → Does r r []
  nothing r fine = record { fine = fine; trace = sym (append-nil r.trace) }

  and_then : (r q s : Recorded S) (xs ys : List Ask) → Does r q xs → Does q s ys → Does r s (xs ++ ys)
  and_then r q s xs ys first second = record {
    fine = second.fine;
    trace = second.trace ∙ ap (λ l. l ++ given R W ys) first.trace ∙ append_assoc r.trace (given R W xs) (given R W ys)
        ∙ ap (λ l. r.trace ++ l) (sym (flat_map-append (given_one R W) xs ys));
  }

  loads : (r : Recorded S) (global : Bool) (at : ℕ) → Fine r.now → Does r (rec.load_leaves r global at) (read_dword global at ∷ [])
  loads r global at fine = record {
    fine = steady.load r.now global at fine;
    trace = ap (λ l. r.trace ++ l) (ap (λ o. dword_touched false o at) (steady.reads r.now fine global at) ∙ sym (append-nil (dword_touched false (R global at) at)));
  }

  stores : (r : Recorded S) (global : Bool) (at value : ℕ) → Fine r.now → Does r (rec.stored r global at value) (write_dword global at ∷ [])
  stores r global at value fine = record {
    fine = steady.stored r.now global at value fine;
    trace = ap (λ l. r.trace ++ l) (ap (λ o. dword_touched true o at) (steady.writes r.now fine global at) ∙ sym (append-nil (dword_touched true (W global at) at)));
  }

  fills : (r : Recorded S) (to n colour depth : ℕ) → Fine r.now → Does r (rec.row_filled r to n colour depth) (bytes_asked true (to % 2 ^ 48) n)
  fills r to n colour depth fine = record {
    fine = steady.filled r.now to n colour depth fine;
    trace = ap (λ l. r.trace ++ l) (bytes_written R W _ (to % 2 ^ 48) (λ k. steady.writes (ops.row_filled r.now to k colour depth) (steady.filled r.now to k colour depth fine) false (to % 2 ^ 48 + k)) n);
  }

  copies : (r : Recorded S) (to from n : ℕ) → Fine r.now → Does r (rec.row_copied r to from n) (bytes_asked false (from % 2 ^ 48) n ++ bytes_asked true (to % 2 ^ 48) n)
  copies r to from n fine = record {
    fine = steady.copied r.now to from n fine;
    trace = ap (λ l. r.trace ++ l)
        ((λ i. bytes_read R W (λ k. reach.reads r.now false (from % 2 ^ 48 + k)) (from % 2 ^ 48) (λ k. steady.reads r.now fine false (from % 2 ^ 48 + k)) n i
        ++ bytes_written R W (λ k. reach.writes (ops.row_copied r.now to from k) false (to % 2 ^ 48 + k)) (to % 2 ^ 48) (λ k. steady.writes (ops.row_copied r.now to from k) (steady.copied r.now to from k fine) false (to % 2 ^ 48 + k)) n i)
        ∙ sym (flat_map-append (given_one R W) (bytes_asked false (from % 2 ^ 48) n) (bytes_asked true (to % 2 ^ 48) n)));
  }

  sets : (r : Recorded S) (n : Option ℕ) (value : ℕ) → Fine r.now → Does r (general_set_by rec r n value) []
  sets r None value fine = nothing r fine
  sets r (Some n) value fine = record { fine = steady.set r.now n value fine; trace = sym (append-nil r.trace) }

  registers : (engine : ℕ) (r : Recorded S) (ws : List ℕ) → Fine r.now → Does r (engine_registers_set rec engine r ws) []
  registers engine r [] fine = nothing r fine
  registers engine r (w ∷ []) fine = nothing r fine
  registers engine r (w ∷ value ∷ ws) fine =
      let first = sets r (general_of engine (register (w ∷ []) 0)) value fine in
      and_then r (engine_register_set rec engine r (register (w ∷ []) 0) value) _ [] [] first (registers engine (engine_register_set rec engine r (register (w ∷ []) 0) value) ws first.fine)

  loads_by : (r : Recorded S) (n : Option ℕ) (global : Bool) (at : ℕ) → Fine r.now → Does r (general_loaded_by rec r n global at) (load_asked n global at)
  loads_by r None global at fine = nothing r fine
  loads_by r (Some n) global at fine =
      let first = loads r global at fine in
      record { fine = steady.set (ops.load_leaves r.now global at) n (ops.load_gives r.now global at) first.fine; trace = first.trace }

  dwords : (r : Recorded S) (global : Bool) (at low : ℕ) (high : Option ℕ) → Fine r.now → Does r (dwords_stored rec r global at low high) (dwords_asked global at high)
  dwords r global at low None fine = stores r global at low fine
  dwords r global at low (Some high) fine =
      let first = stores r global at low fine in
      and_then r (rec.stored r global at low) _ (write_dword global at ∷ []) (write_dword global (at + 4) ∷ []) first (stores (rec.stored r global at low) global (at + 4) high first.fine)

  post : (r : Recorded S) (w : Option PostWrite) → Fine r.now → Does r (post_written rec r w) (post_asked w)
  post r None fine = nothing r fine
  post r (Some w) fine = dwords r w.global w.at w.low w.high fine

  all_filled : (b : Blit) (r : Recorded S) (rs : List RowPair) → Fine r.now → Does r (rows_filled rec r b rs) (flat_map fill_asked rs)
  all_filled b r [] fine = nothing r fine
  all_filled b r (row ∷ rs) fine =
      let first = fills r row.to row.bytes b.colour b.bytes fine in
      and_then r _ _ (fill_asked row) (flat_map fill_asked rs) first (all_filled b (rec.row_filled r row.to row.bytes b.colour b.bytes) rs first.fine)

  all_copied : (r : Recorded S) (rs : List RowPair) → Fine r.now → Does r (rows_copied rec r rs) (flat_map copy_asked rs)
  all_copied r [] fine = nothing r fine
  all_copied r (row ∷ rs) fine =
      let first = copies r row.to row.from row.bytes fine in
      and_then r _ _ (copy_asked row) (flat_map copy_asked rs) first (all_copied (rec.row_copied r row.to row.from row.bytes) rs first.fine)

  module _ (ws : List ℕ) (engine : ℕ) (r : Recorded S) (fine : Fine r.now) where
    waits : (holds : Bool) (s : Recorded S) (asks : List Ask) → Does r s asks → Does r (waited holds s).after asks
    waits true s asks does = does
    waits false s asks does = does

    done : (kind : Kind) → Does r (performed rec ws engine r kind).after (operands_asked engine kind)
    done Noop = nothing r fine
    done UserInterrupt = nothing r fine
    done ArbCheck = nothing r fine
    done ArbOnOff = nothing r fine
    done BatchEnd = nothing r fine
    done (SemaphoreWait global compare operand at) = waits (compares compare (ops.load_gives r.now global at) operand) (rec.load_leaves r global at) (read_dword global at ∷ []) (loads r global at fine)
    done (Store global at low high) = dwords r global at low high fine
    done (LoadRegisters pairs) = registers engine r (drop 1 ws) fine
    done (StoreRegister global register at) = stores r global at (engine_register_read rec engine r register) fine
    done (LoadRegister global register at) = loads_by r (general_of engine register) global at fine
    done (MoveRegister from to) = sets r (general_of engine to) (engine_register_read rec engine r from) fine
    done (CopyMemory from_global from to_global to) =
        let first = loads r from_global from fine in
        and_then r (rec.load_leaves r from_global from) _ (read_dword from_global from ∷ []) (write_dword to_global to ∷ []) first
        (stores (rec.load_leaves r from_global from) to_global to (ops.load_gives r.now from_global from) first.fine)
    done (Flush write) = post r write fine
    done (PipeControl notify write) = post r write fine
    done (BatchStart live second at) = nothing r fine
    done (ColourBlit b) = all_filled b r (rows b) fine
    done (CopyBlit b) = all_copied r (rows b) fine

    unless_skipped : (kind : Kind) (skipped : Bool) → Does r (cond skipped (ran r 0) (performed rec ws engine r kind)).after (cond skipped [] (operands_asked engine kind))
    unless_skipped kind true = nothing r fine
    unless_skipped kind false = done kind

    by_kind : (privileged : Bool) (kind : Option Kind) → Does r (effect_of rec ws engine privileged r kind).after (asked_by engine privileged kind)
    by_kind privileged None = nothing r fine
    by_kind privileged (Some kind) = unless_skipped kind (not privileged && is_skipped engine kind)

  -- a command from a state touches what it asks for and the grants of that state give
  pub command_given : (ws : List ℕ) (engine : ℕ) (privileged : Bool) (s : S) → Fine s → (effect rec ws engine privileged (untouched s)).after.trace ≡ given R W (command_asked ws engine privileged)
  command_given ws engine privileged s fine = (by_kind ws engine (untouched s) fine privileged (kind_of ws)).trace
