-- The dword in front of notify is plain: a write of both that lacks memory for the second changed no engine by the first.
use Rattle.std.proofs.Common.{◌≡◌, ℕ, ◌+◌, ◌-◌, ◌*◌, ◌/◌, ◌%◌, ◌<◌, ◌≤◌, ◌&&◌, eqb, leb, ltb, Bool, true, false, Option, None, Some, if◌then◌else◌, refl, sym, ◌∙◌, subst, arith}
use Rattle.std.specs.List.{find, list_all, range_with_len}
use Rattle.std.proofs.lemmas.Bool.{and_parts, eqb-true, ltb-true}
use Rattle.std.proofs.lemmas.Bool.Decides.{nat_tests}
use Rattle.gv_regs.specs.Table.{Row, covers, registers, row_at, target_at, target_of}
use Rattle.gv_regs.specs.declared.effect.Target.{Target}
use Rattle.gv_regs.specs.declared.effect.Target.TheVariants.{Own, Elsp, Status, StatusPointer, General, Interrupts, EngineReset, Notify, Absent}
use Rattle.gv_regs.proofs.Finds.{at_number, found}
use Rattle.gv_vgpu.specs.Plain.{IsPlainTarget}

-- where notify stands, the test of the offset holds
abbrev passes : Target → Bool → Bool
passes Notify there = there
passes target there = true

notify-passes : (target : Target) (there : Bool) → target ≡ Notify → passes target there ≡ true → there ≡ true
notify-passes Notify there is holds = holds
notify-passes Own there is holds = cc
notify-passes (Elsp engine) there is holds = cc
notify-passes (Status engine n) there is holds = cc
notify-passes (StatusPointer engine) there is holds = cc
notify-passes (General engine n) there is holds = cc
notify-passes Interrupts there is holds = cc
notify-passes EngineReset there is holds = cc
notify-passes Absent there is holds = cc

-- of each dword of a row: notify is that of 0x78818
abbrev is_right : Row → Bool
is_right row = list_all (λ number. passes (row.target number) (eqb (row.first + 4 * number) 0x78818)) (range_with_len 0 row.dwords) && eqb (row.first % 4) 0

rows_are_right : list_all is_right registers ≡ true
rows_are_right = refl

behind_first : (first many at : ℕ) → (leb first at && ltb at (first + many)) ≡ true → (first ≤ at) × (at < first + many)
behind_first first many at h = let parts = and_parts (leb first at) (ltb at (first + many)) h in (grind (arith, nat_tests), ltb-true at (first + many) parts.1)

-- the row of an offset is among the table's
row-found : (offset : ℕ) (row : Row) → row_at offset ≡ Some row → (offset % 4 ≡ 0) × (find (λ r. covers r offset) registers ≡ Some row)
unfolding row_at
row-found offset row is = by (eqb (offset % 4) 0) refl is
  where
    by : (aligned : Bool) → eqb (offset % 4) 0 ≡ aligned → (if aligned then find (λ r. covers r offset) registers else None) ≡ Some row → (offset % 4 ≡ 0) × (find (λ r. covers r offset) registers ≡ Some row)
    by true even at = (eqb-true (offset % 4) 0 even, at)
    by false odd at = cc

in-row : (offset : ℕ) (row : Row) → row_at offset ≡ Some row → row.target ((offset - row.first) / 4) ≡ Notify → offset ≡ 0x78818
in-row offset row is notify =
    let at = row-found offset row is in
    let known = found (λ r. covers r offset) is_right registers row rows_are_right at.1 in
    let bounds = behind_first row.first (4 * row.dwords) offset known.0 in
    let right = and_parts (list_all (λ number. passes (row.target number) (eqb (row.first + 4 * number) 0x78818)) (range_with_len 0 row.dwords)) (eqb (row.first % 4) 0) known.1 in
    let number : ℕ = (offset - row.first) / 4 in
    let few : number < row.dwords = omega arith in
    let zero : 0 + number ≡ number = omega arith in
    let test : ℕ → Bool = λ n. passes (row.target n) (eqb (row.first + 4 * n) 0x78818) in
    let holds = subst (λ n. test n ≡ true) zero (at_number test 0 row.dwords number right.0 few) in
    let first : row.first % 4 ≡ 0 = eqb-true (row.first % 4) 0 right.1 in
    let even : offset % 4 ≡ 0 = at.0 in
    let there : row.first + 4 * number ≡ 0x78818 = eqb-true (row.first + 4 * number) 0x78818 (notify-passes (row.target number) (eqb (row.first + 4 * number) 0x78818) notify holds) in
    omega arith

notify-at : (offset : ℕ) → target_at offset ≡ Notify → offset ≡ 0x78818
notify-at offset notify = by (row_at offset) refl notify
  where
    by : (row : Option Row) → row_at offset ≡ row → target_of row offset ≡ Notify → offset ≡ 0x78818
    by None is at = cc
    by (Some row) is at = in-row offset row is at

-- nothing stands in front of it
front-absent : target_at 0x78814 ≡ Absent
unfolding row_at
front-absent = refl

pub front-plain : (offset : ℕ) → target_at (offset + 4) ≡ Notify → IsPlainTarget (target_at offset)
front-plain offset notify =
    let there : offset + 4 ≡ 0x78818 = notify-at (offset + 4) notify in
    let front : offset ≡ 0x78814 = omega arith in
    subst (λ t. IsPlainTarget t) (sym ((λ i. target_at (front i)) ∙ front-absent)) tt
