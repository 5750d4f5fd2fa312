-- What the code's rows say of an offset is what the register table says.
use Rattle.std.proofs.Common.{if◌then◌else◌, ◌≡◌, ℕ, ◌+◌, ◌-◌, ◌*◌, ◌/◌, ◌%◌, ◌<◌, ◌≤◌, Bool, true, false, ◌&&◌, eqb, leb, ltb, List, map, Option, Some, None, refl, sym, ap, ◌∙◌, subst, arith}
use Rattle.std.proofs.lemmas.Bool.{and_parts, eqb-true, ltb-true, eq-eqb}
use Rattle.std.proofs.lemmas.Bool.Decides.{nat_tests}
use Rattle.std.specs.List.{find, list_all, range_with_len}
use Rattle.std.specs.Option.{option_map}
use Rattle.gv_types.specs.declared.ids.EngineId.{EngineId}
use Rattle.gv_irq.specs.Irq.{is_interrupt_register}
use Rattle.gv_regs.specs.declared.effect.Target.{Target}
use Rattle.gv_regs.specs.declared.effect.Target.TheVariants.{Own, Elsp, Status, StatusPointer, General, Interrupts, EngineReset, Notify, Absent}
use Rattle.gv_regs.specs.declared.table.Kind.{Kind}
use Rattle.gv_regs.specs.declared.table.Row.{Row as CodeRow}
use Rattle.gv_regs.specs.declared.table.TheConstants.{ENGINE_ROWS, SHARED_ROWS}
use Rattle.gv_regs.specs.Table.{Row, EngineBlock, engines, engine_rows, shared_rows, registers, id_of, covers, row_at, row_kind, target_of, kind_at, target_at}
use Rattle.gv_regs.specs.Registers.{is_number, kept_offsets, slot_of}
use Rattle.gv_regs.specs.Decoded.{row_covers, target_in, register_by, register_of, stands_in, number_in, dword_read_by, HasSlot, StandsAt}
use Rattle.gv_regs.proofs.Finds.{found, find-map, at_number}
use Rattle.gv_regs.proofs.Blocks.{rows_near, near}

-- ---- what has to hold of each dword of each row

abbrev has_slot : Option ℕ → ℕ → Bool
has_slot None slot = true
has_slot (Some at) slot = ltb slot 33 && is_number slot (slot_of at)

abbrev is_target : ℕ → Target → Bool
is_target offset (Elsp engine) = ltb engine.0 4
is_target offset (Status engine number) = ltb engine.0 4 && ltb number 12
is_target offset (StatusPointer engine) = ltb engine.0 4
is_target offset (General engine number) = ltb engine.0 4 && ltb number 32
is_target offset Interrupts = is_interrupt_register offset
is_target offset target = true

abbrev dword_is_right : Target → Kind → ℕ → ℕ → Bool
dword_is_right Own kind offset slot = has_slot (dword_read_by kind offset) slot
dword_is_right target kind offset slot = is_target offset target

abbrev row_is_right : ℕ → EngineId → ℕ → CodeRow → Bool
row_is_right base id first_slot row =
    eqb (row.0 % 4) 0
    && list_all (λ number. dword_is_right (target_in row.3 id number) row.2 (base + row.0 + 4 * number) (first_slot + row.4 + number)) (range_with_len 0 row.1)

number_is : (slot : ℕ) (at : Option ℕ) → is_number slot at ≡ true → at ≡ Some slot
number_is slot None h = cc
number_is slot (Some n) h = ap Some (eqb-true n slot h)

slot-has : (at : Option ℕ) (slot : ℕ) → has_slot at slot ≡ true → HasSlot at slot
slot-has None slot h = tt
slot-has (Some at) slot h =
    let parts = and_parts (ltb slot 33) (is_number slot (slot_of at)) h in
    (ltb-true slot 33 parts.0, number_is slot (slot_of at) parts.1)

stands_by : (offset slot : ℕ) (target : Target) (kind : Kind) → target_at offset ≡ target → kind_at offset ≡ kind → dword_is_right target kind offset slot ≡ true → StandsAt offset (register_by target kind slot)
stands_by offset slot Own kind t k h = record { target = t; kind = k; slot_is = slot-has (dword_read_by kind offset) slot h }
stands_by offset slot (Elsp engine) kind t k h = record { target = t; other = refl; form = ltb-true engine.0 4 h }
stands_by offset slot (Status engine number) kind t k h =
    let parts = and_parts (ltb engine.0 4) (ltb number 12) h in record { target = t; other = refl; form = (ltb-true engine.0 4 parts.0, ltb-true number 12 parts.1) }
stands_by offset slot (StatusPointer engine) kind t k h = record { target = t; other = refl; form = ltb-true engine.0 4 h }
stands_by offset slot (General engine number) kind t k h =
    let parts = and_parts (ltb engine.0 4) (ltb number 32) h in record { target = t; other = refl; form = (ltb-true engine.0 4 parts.0, ltb-true number 32 parts.1) }
stands_by offset slot Interrupts kind t k h = record { target = t; other = refl; form = h }
stands_by offset slot EngineReset kind t k h = record { target = t; other = refl; form = tt }
stands_by offset slot Notify kind t k h = record { target = t; other = refl; form = tt }
stands_by offset slot Absent kind t k h = t

-- ---- a row of the register table, but for its reset value, from the code's

abbrev plain : Row → Row
plain row = record row { reset = 0 }

abbrev described : ℕ → Option ℕ → EngineId → CodeRow → Row
described base engine id row = record { first = base + row.0; dwords = row.1; engine = engine; kind = row.2; target = target_in row.3 id; reset = 0 }

kind-plain : (row : Option Row) → row_kind (option_map plain row) ≡ row_kind row
kind-plain None = refl
kind-plain (Some row) = refl

target-plain : (row : Option Row) (offset : ℕ) → target_of (option_map plain row) offset ≡ target_of row offset
target-plain None offset = refl
target-plain (Some row) offset = refl

shifted : (base first many offset at : ℕ) → offset ≡ base + at → (leb (base + first) offset && ltb offset (base + first + many)) ≡ (leb first at && ltb at (first + many))
shifted base first many offset at is = grind (arith, nat_tests)

behind_first : (first many at : ℕ) → (leb first at && ltb at (first + many)) ≡ true → (first ≤ at) × (at < first + many)
behind_first first many at h = let parts = and_parts (leb first at) (ltb at (first + many)) h in (grind (arith, nat_tests), ltb-true at (first + many) parts.1)

module _ (base : ℕ) (engine : Option ℕ) (id : EngineId) (first_slot : ℕ) (rows : List Row) (table : List CodeRow) (same : map (described base engine id) table ≡ map plain rows) (right : list_all (row_is_right base id first_slot) table ≡ true)
    (offset at : ℕ) (is : offset ≡ base + at) (aligned : at % 4 ≡ 0) (row_is : row_at offset ≡ find (λ row. covers row offset) rows) where
  abbrev hit : Row → Bool
  hit row = covers row offset

  abbrev code_row : Option CodeRow
  code_row = find (λ row. row_covers row at) table

  row_found : option_map plain (row_at offset) ≡ option_map (described base engine id) code_row
  row_found =
      ap (option_map plain) row_is ∙ sym (find-map hit plain rows) ∙ ap (find hit) (sym same) ∙ find-map hit (described base engine id) table
      ∙ ap (λ p. option_map (described base engine id) (find p table)) (λ i row. shifted base row.0 (4 * row.1) offset at is i)

  target_found : target_at offset ≡ target_of (option_map (described base engine id) code_row) offset
  target_found = sym (target-plain (row_at offset) offset) ∙ ap (λ row. target_of row offset) row_found

  kind_found : kind_at offset ≡ row_kind (option_map (described base engine id) code_row)
  kind_found = sym (kind-plain (row_at offset)) ∙ ap row_kind row_found

  stands_at : (row : Option CodeRow) → code_row ≡ row → StandsAt offset (register_of row at id first_slot)
  stands_at None none = target_found ∙ ap (λ row. target_of (option_map (described base engine id) row) offset) none
  stands_at (Some row) some =
      let known = found (λ r. row_covers r at) (row_is_right base id first_slot) table row right some in
      let bounds = behind_first row.0 (4 * row.1) at known.0 in
      let parts = and_parts (eqb (row.0 % 4) 0) _ known.1 in
      let even : row.0 % 4 ≡ 0 = eqb-true (row.0 % 4) 0 parts.0 in
      let number : ℕ = (at - row.0) / 4 in
      let few : number < row.1 = omega arith in
      let here : base + row.0 + 4 * number ≡ offset = omega arith in
      let same_number : (offset - (base + row.0)) / 4 ≡ number = ap (λ n. n / 4) (omega arith) in
      let zero : 0 + number ≡ number = omega arith in
      let test : ℕ → Bool = λ n. dword_is_right (target_in row.3 id n) row.2 (base + row.0 + 4 * n) (first_slot + row.4 + n) in
      let ok = subst (λ n. test n ≡ true) zero (at_number test 0 row.1 number parts.1 few) in
      stands_by offset (first_slot + row.4 + number) (target_in row.3 id number) row.2
      (target_found ∙ ap (λ r. target_of (option_map (described base engine id) r) offset) some ∙ ap (target_in row.3 id) same_number)
      (kind_found ∙ ap (λ r. row_kind (option_map (described base engine id) r)) some)
      (subst (λ o. dword_is_right (target_in row.3 id number) row.2 o (first_slot + row.4 + number) ≡ true) here ok)

  pub stands : StandsAt offset (register_of code_row at id first_slot)
  stands = stands_at code_row refl

-- ---- the look-up

found_by : (aligned : Bool) (row : Option Row) → aligned ≡ true → (if aligned then row else None) ≡ row
found_by true row is = refl
found_by false row is = cc

pub row_at-near : (offset : ℕ) → offset % 4 ≡ 0 → row_at offset ≡ find (λ row. covers row offset) (rows_near (find (stands_in offset) engines))
unfolding row_at
row_at-near offset aligned = found_by (eqb (offset % 4) 0) (find (λ row. covers row offset) registers) (eq-eqb (offset % 4) 0 aligned) ∙ near offset

pub row_at-unaligned : (offset : ℕ) → eqb (offset % 4) 0 ≡ false → row_at offset ≡ None
unfolding row_at
row_at-unaligned offset odd = rw odd refl

-- an engine's base is a multiple of 4 KiB, and its rows are right
abbrev engine_is_right : EngineBlock → Bool
engine_is_right e = eqb (e.base % 0x1000) 0 && list_all (row_is_right e.base (id_of e) (e.number * 6)) ENGINE_ROWS

engines_are_right : list_all engine_is_right engines ≡ true
unfolding slot_of kept_offsets
engines_are_right = refl

shared_are_right : list_all (row_is_right 0 (record { 0 = 0 }) 24) SHARED_ROWS ≡ true
unfolding slot_of kept_offsets
shared_are_right = refl

abbrev IsAnswer : ℕ → ℕ → Type 0
IsAnswer offset number = StandsAt offset (register_of (find (λ row. row_covers row (offset % 0x1000)) ENGINE_ROWS) (offset % 0x1000) (record { 0 = number }) (number * 6))

engine_by : (offset number : ℕ) (e : Option EngineBlock) → offset % 4 ≡ 0 → find (stands_in offset) engines ≡ e → Some number ≡ number_in e → IsAnswer offset number
engine_by offset number None aligned is same = cc
engine_by offset number (Some e) aligned is same =
    let known = found (stands_in offset) engine_is_right engines e engines_are_right is in
    let parts = and_parts (eqb (e.base % 0x1000) 0) _ known.1 in
    let bounds = behind_first e.base 0x1000 offset known.0 in
    let whole : e.base % 0x1000 ≡ 0 = eqb-true (e.base % 0x1000) 0 parts.0 in
    let at_is : offset ≡ e.base + offset % 0x1000 = omega arith in
    let number_is : e.number ≡ number = cc in
    subst (IsAnswer offset) number_is
    (stands e.base (Some e.number) (id_of e) (e.number * 6) (engine_rows e) ENGINE_ROWS refl parts.1 offset (offset % 0x1000) at_is (omega arith) (row_at-near offset aligned ∙ ap (λ found. find (λ row. covers row offset) (rows_near found)) is))

pub engine_stands : (offset number : ℕ) → offset % 4 ≡ 0 → Some number ≡ number_in (find (stands_in offset) engines) → IsAnswer offset number
engine_stands offset number aligned same = engine_by offset number (find (stands_in offset) engines) aligned refl same

shared_by : (offset : ℕ) (e : Option EngineBlock) → offset % 4 ≡ 0 → find (stands_in offset) engines ≡ e → None ≡ number_in e → StandsAt offset (register_of (find (λ row. row_covers row offset) SHARED_ROWS) offset (record { 0 = 0 }) 24)
shared_by offset (Some e) aligned is same = cc
shared_by offset None aligned is same =
    stands 0 None (record { 0 = 0 }) 24 shared_rows SHARED_ROWS refl shared_are_right offset offset (omega arith) aligned
    (row_at-near offset aligned ∙ ap (λ found. find (λ row. covers row offset) (rows_near found)) is)

pub shared_stands : (offset : ℕ) → offset % 4 ≡ 0 → None ≡ number_in (find (stands_in offset) engines) → StandsAt offset (register_of (find (λ row. row_covers row offset) SHARED_ROWS) offset (record { 0 = 0 }) 24)
shared_stands offset aligned same = shared_by offset (find (stands_in offset) engines) aligned refl same
