-- The register file's map, and what writing and resetting do to it.
use Rattle.std.proofs.Common.{length-take, rules, ◌%◌, ⊎_elim, ◌≡◌, ℕ, zero, suc, ◌+◌, ◌-◌, ◌*◌, ◌/◌, ◌<◌, ◌≤◌, Bool, true, false, not, ◌&&◌, ◌||◌, cond, eqb, leb, ltb, List, [], ◌∷◌, ◌++◌, length, get_or, set, take, drop, replicate, Option, Some, None, refl, sym, ap, ◌∙◌, subst, arith, if◌then◌else◌}
use Rattle.std.proofs.lemmas.Bool.{cases_lt, false≢true, and_parts, eqb-true, ltb-true, eq-eqb}
use Rattle.std.proofs.lemmas.Bool.Decides.{nat_tests}
use Rattle.std.proofs.lemmas.List.{get_or-append_right, get_or-drop, places, get_or-set_same, get_or-set_other}
use borrow.Rule.Slice.PartMut.{put_mid}
use Rattle.std.proofs.lemmas.List.Quantifiers.{position-Some}
use Rattle.std.specs.List.{find, list_all, range_with_len}
use Rattle.gv_regs.specs.declared.table.Kind.{Kind}
use Rattle.gv_regs.specs.Table.{Row, registers, covers, row_at, kind_at, reset_of, reset_at, engine_at, row_kind, target_of}
use Rattle.gv_regs.specs.Registers.{is_own, is_written, keeps, dword_after, with_register, register_written, reset_registers, is_number, engine_reset, kept_offsets, slot_of, dword_in}
use Rattle.gv_regs.specs.Decoded.{IsOwn}
use Rattle.gv_regs.proofs.Finds.{found, at_number}

-- ---- slots

place_of : (offset slot : ℕ) → slot_of offset ≡ Some slot → (slot < length kept_offsets) × (get_or kept_offsets slot 0 ≡ offset)
unfolding slot_of
place_of offset slot is =
    let known = position-Some (λ at. eqb at offset) kept_offsets slot 0 is in
    (known.0, eqb-true (get_or kept_offsets slot 0) offset known.1)

many : length kept_offsets ≡ 33
unfolding kept_offsets
many = refl

-- ---- writing

put_by : (q offset slot value : ℕ) (dwords : List ℕ) (same : Bool) (at : Option ℕ) → eqb offset q ≡ same → slot_of q ≡ at → slot_of offset ≡ Some slot → slot < length dwords
    → dword_in (set dwords slot value) at ≡ cond same value (dword_in dwords at)
put_by q offset slot value dwords true None e is has below =
    let both : Some slot ≡ None = sym has ∙ ap slot_of (eqb-true offset q e) ∙ is in cc
put_by q offset slot value dwords true (Some s) e is has below =
    let both : Some slot ≡ Some s = sym has ∙ ap slot_of (eqb-true offset q e) ∙ is in
    let s_is : slot ≡ s = cc in
    subst (λ k. get_or (set dwords slot value) k 0 ≡ value) s_is (get_or-set_same dwords slot value 0 below)
put_by q offset slot value dwords false None e is has below = refl
put_by q offset slot value dwords false (Some s) e is has below =
    get_or-set_other dwords slot s value 0
    (λ s_is. false≢true (sym e ∙ eq-eqb offset q (sym (place_of offset slot has).1 ∙ ap (λ k. get_or kept_offsets k 0) (sym s_is) ∙ (place_of q s is).1)))

written_own : (map : ℕ → ℕ) (offset value slot : ℕ) (kind : Kind) → IsOwn kind slot offset → is_written kind ≡ true → register_written map offset value ≡ with_register map offset (dword_after kind (map offset) value)
written_own map offset value slot kind own writes =
    ap (λ t. if is_own t && is_written (kind_at offset) then with_register map offset (dword_after (kind_at offset) (map offset) value) else map) own.target
    ∙ ap (λ k. if is_written k then with_register map offset (dword_after k (map offset) value) else map) own.kind
    ∙ ap (λ w. if w then with_register map offset (dword_after kind (map offset) value) else map) writes

-- a kept register is written in its slot
pub written : (dwords : List ℕ) (slot offset value new : ℕ) (kind : Kind) → length dwords ≡ 33 → IsOwn kind slot offset → is_written kind ≡ true → slot < 33 → slot_of offset ≡ Some slot → new ≡ dword_after kind (get_or dwords slot 0) value
    → (λ q. dword_in (set dwords slot new) (slot_of q)) ≡ register_written (λ q. dword_in dwords (slot_of q)) offset value
written dwords slot offset value new kind same own writes below has is =
    let map : ℕ → ℕ = λ q. dword_in dwords (slot_of q) in
    let pointwise : (q : ℕ) → dword_in (set dwords slot new) (slot_of q) ≡ with_register map offset new q
    = λ q. put_by q offset slot new dwords (eqb offset q) (slot_of q) refl refl has (omega arith) in
    (λ i q. pointwise q i)
    ∙ ap (with_register map offset) (is ∙ ap (λ at. dword_after kind (dword_in dwords at) value) (sym has))
    ∙ sym (written_own map offset value slot kind own writes)

-- ---- reset values

-- a register that the map holds resets to 0
abbrev resets_right : Row → Bool
resets_right row = list_all (λ number. not (is_own (row.target number) && is_written row.kind) || eqb row.reset 0) (range_with_len 0 row.dwords)

implied : (a b : Bool) → (not a || b) ≡ true → a ≡ true → b ≡ true
implied true b h is = h
implied false b h is = absurd (false≢true is)

all_right : list_all resets_right registers ≡ true
all_right = refl

some_by : (aligned : Bool) (found row : Option Row) → (if aligned then found else None) ≡ row → (row ≡ None → ⊥) → found ≡ row
some_by true found row is other = is
some_by false found row is other = absurd (other (sym is))

in_table : (offset : ℕ) (row : Row) → row_at offset ≡ Some row → find (λ r. covers r offset) registers ≡ Some row
unfolding row_at
in_table offset row is = some_by (eqb (offset % 4) 0) (find (λ r. covers r offset) registers) (Some row) is (λ none. cc)

number_below : (first dwords offset : ℕ) → (leb first offset && ltb offset (first + 4 * dwords)) ≡ true → (offset - first) / 4 < dwords
number_below first dwords offset covers =
    let parts = and_parts (leb first offset) (ltb offset (first + 4 * dwords)) covers in
    let below : offset < first + 4 * dwords = ltb-true offset (first + 4 * dwords) parts.1 in
    let from : first ≤ offset = grind (arith, nat_tests) in
    omega arith

zero_by : (offset : ℕ) (row : Option Row) → row_at offset ≡ row → (is_own (target_of row offset) && is_written (row_kind row)) ≡ true → reset_of row ≡ 0
zero_by offset None is kept = refl
zero_by offset (Some row) is kept =
    let known = found (λ r. covers r offset) resets_right registers row all_right (in_table offset row is) in
    let number : ℕ = (offset - row.first) / 4 in
    let test = at_number (λ n. not (is_own (row.target n) && is_written row.kind) || eqb row.reset 0) 0 row.dwords number known.1 (number_below row.first row.dwords offset known.0) in
    let zero : 0 + number ≡ number = omega arith in
    let kept_there : (is_own (row.target (0 + number)) && is_written row.kind) ≡ true = ap (λ n. is_own (row.target n) && is_written row.kind) zero ∙ kept in
    eqb-true row.reset 0 (implied _ (eqb row.reset 0) test kept_there)

pub reset_at-zero : (offset : ℕ) → keeps offset ≡ true → reset_at offset ≡ 0
reset_at-zero offset kept = zero_by offset (row_at offset) refl kept

-- ---- resetting

zeros_at : (dwords : List ℕ) (slot : ℕ) → list_all (λ dword. eqb dword 0) dwords ≡ true → get_or dwords slot 0 ≡ 0
zeros_at [] slot all = refl
zeros_at (dword ∷ dwords) zero all = eqb-true dword 0 (and_parts (eqb dword 0) _ all).0
zeros_at (dword ∷ dwords) (suc slot) all = zeros_at dwords slot (and_parts (eqb dword 0) _ all).1

zeros_in : (dwords : List ℕ) (at : Option ℕ) → list_all (λ dword. eqb dword 0) dwords ≡ true → dword_in dwords at ≡ 0
zeros_in dwords None all = refl
zeros_in dwords (Some slot) all = zeros_at dwords slot all

chosen : (b : Bool) (value other : ℕ) → (b ≡ true → value ≡ 0) → cond b 0 other ≡ cond b value other
chosen true value other is = sym (is refl)
chosen false value other is = refl

same_choice : (b : Bool) (value : ℕ) → value ≡ cond b value value
same_choice true value = refl
same_choice false value = refl

-- where each dword is 0, the registers are reset
pub reset_is : (dwords : List ℕ) → list_all (λ dword. eqb dword 0) dwords ≡ true → (λ q. dword_in dwords (slot_of q)) ≡ reset_registers
reset_is dwords all =
    let pointwise : (q : ℕ) → dword_in dwords (slot_of q) ≡ reset_registers q
    = λ q. zeros_in dwords (slot_of q) all ∙ same_choice (keeps q) 0 ∙ chosen (keeps q) (reset_at q) 0 (reset_at-zero q) in
    λ i q. pointwise q i

-- ---- resetting an engine

abbrev is_engine_slot : ℕ → ℕ → Bool
is_engine_slot engine slot = leb (engine * 6) slot && ltb slot (engine * 6 + 6)

abbrev is_kept_of : ℕ → ℕ → Bool
is_kept_of engine offset = keeps offset && is_number engine (engine_at offset)

abbrev are_same : Bool → Bool → Bool
are_same a b = if a then b else not b

same_is : (a b : Bool) → are_same a b ≡ true → a ≡ b
same_is true b h = sym h
same_is false true h = cc
same_is false false h = refl

-- the first slots are the registers of the engines, six of each
slots_right : list_all (λ slot. list_all (λ engine. are_same (is_kept_of engine (get_or kept_offsets slot 0)) (is_engine_slot engine slot)) (range_with_len 0 4)) (range_with_len 0 33) ≡ true
unfolding kept_offsets row_at
slots_right = refl

slot_right : (engine slot : ℕ) → engine < 4 → slot < 33 → is_kept_of engine (get_or kept_offsets slot 0) ≡ is_engine_slot engine slot
slot_right engine slot few below =
    let here = at_number (λ s. list_all (λ e. are_same (is_kept_of e (get_or kept_offsets s 0)) (is_engine_slot e s)) (range_with_len 0 4)) 0 33 slot slots_right below in
    let both = at_number (λ e. are_same (is_kept_of e (get_or kept_offsets (0 + slot) 0)) (is_engine_slot e (0 + slot))) 0 4 engine here few in
    let s : 0 + slot ≡ slot = omega arith in
    let e : 0 + engine ≡ engine = omega arith in
    same_is (is_kept_of engine (get_or kept_offsets slot 0)) (is_engine_slot engine slot)
    (subst (λ m. are_same (is_kept_of m (get_or kept_offsets slot 0)) (is_engine_slot m slot) ≡ true) e
    (subst (λ n. are_same (is_kept_of (0 + engine) (get_or kept_offsets n 0)) (is_engine_slot (0 + engine) n) ≡ true) s both))

below_cleared : (a s : ℕ) (dwords zeros : List ℕ) → length dwords ≡ 33 → a ≤ 23 → s < a → get_or (put_mid a 6 dwords zeros) s 0 ≡ get_or dwords s 0
below_cleared a s dwords zeros same few below = search (rules, places)

in_cleared : (a s : ℕ) (dwords : List ℕ) → length dwords ≡ 33 → a ≤ 23 → a ≤ s → s < a + 6 → get_or (put_mid a 6 dwords (replicate 6 0)) s 0 ≡ 0
in_cleared a s dwords same few from below = search (rules, places)

above_cleared : (a s : ℕ) (dwords zeros : List ℕ) → length dwords ≡ 33 → length zeros ≡ 6 → a ≤ 23 → a + 6 ≤ s → get_or (put_mid a 6 dwords zeros) s 0 ≡ get_or dwords s 0
above_cleared a s dwords zeros same six few above =
    let front : length (take a dwords) ≡ a = simp length-take (omega arith) in
    get_or-append_right (take a dwords) (zeros ++ drop 6 (drop a dwords)) a s 0 front (omega arith)
    ∙ get_or-append_right zeros (drop 6 (drop a dwords)) 6 (s - a) 0 six (omega arith)
    ∙ get_or-drop 6 (drop a dwords) (s - a - 6) 0
    ∙ get_or-drop a dwords (6 + (s - a - 6)) 0
    ∙ ap (λ k. get_or dwords k 0) (omega arith)

in_span : (a s value old : ℕ) → a ≤ s → s < a + 6 → cond (leb a s && ltb s (a + 6)) value old ≡ value
in_span a s value old from below = grind (arith, nat_tests)

out_below : (a s value old : ℕ) → s < a → cond (leb a s && ltb s (a + 6)) value old ≡ old
out_below a s value old below = grind (arith, nat_tests)

out_above : (a s value old : ℕ) → a + 6 ≤ s → cond (leb a s && ltb s (a + 6)) value old ≡ old
out_above a s value old above = grind (arith, nat_tests)

cleared_at : (a s : ℕ) (dwords : List ℕ) → length dwords ≡ 33 → a ≤ 23 → get_or (put_mid a 6 dwords (replicate 6 0)) s 0 ≡ cond (leb a s && ltb s (a + 6)) 0 (get_or dwords s 0)
cleared_at a s dwords same few =
    ⊎_elim
    (λ below. below_cleared a s dwords (replicate 6 0) same few below ∙ sym (out_below a s 0 (get_or dwords s 0) below))
    (λ from. ⊎_elim
    (λ below. in_cleared a s dwords same few from below ∙ sym (in_span a s 0 (get_or dwords s 0) from below))
    (λ above. above_cleared a s dwords (replicate 6 0) same refl few above ∙ sym (out_above a s 0 (get_or dwords s 0) above))
    (cases_lt s (a + 6)))
    (cases_lt s a)

cleared_by : (engine q : ℕ) (dwords : List ℕ) (at : Option ℕ) → engine < 4 → length dwords ≡ 33 → slot_of q ≡ at
    → dword_in (put_mid (engine * 6) 6 dwords (replicate 6 0)) at ≡ cond (is_kept_of engine q) (reset_at q) (dword_in dwords at)
cleared_by engine q dwords None few same is = same_choice (is_kept_of engine q) 0 ∙ chosen (is_kept_of engine q) (reset_at q) 0 (λ kept. reset_at-zero q (and_parts (keeps q) _ kept).0)
cleared_by engine q dwords (Some s) few same is =
    let place = place_of q s is in
    let right : is_kept_of engine q ≡ is_engine_slot engine s = ap (is_kept_of engine) (sym place.1) ∙ slot_right engine s few (omega (arith, place.0, many)) in
    cleared_at (engine * 6) s dwords same (omega arith)
    ∙ ap (λ b. cond b 0 (get_or dwords s 0)) (sym right)
    ∙ chosen (is_kept_of engine q) (reset_at q) (get_or dwords s 0) (λ kept. reset_at-zero q (and_parts (keeps q) _ kept).0)

-- where the six dwords of an engine are 0, its registers are reset
pub engine_cleared : (engine : ℕ) → engine < 4 → (dwords zeros : List ℕ) → length dwords ≡ 33 → zeros ≡ replicate 6 0
    → (λ q. dword_in (put_mid (engine * 6) (engine * 6 + 6 - engine * 6) dwords zeros) (slot_of q)) ≡ engine_reset engine (λ q. dword_in dwords (slot_of q))
engine_cleared engine few dwords zeros same is =
    let six : engine * 6 + 6 - engine * 6 ≡ 6 = omega arith in
    let pointwise : (q : ℕ) → dword_in (put_mid (engine * 6) 6 dwords (replicate 6 0)) (slot_of q) ≡ engine_reset engine (λ o. dword_in dwords (slot_of o)) q
    = λ q. cleared_by engine q dwords (slot_of q) few same refl in
    ap (λ n. λ q. dword_in (put_mid (engine * 6) n dwords zeros) (slot_of q)) six
    ∙ ap (λ zs. λ q. dword_in (put_mid (engine * 6) 6 dwords zs) (slot_of q)) is
    ∙ (λ i q. pointwise q i)
