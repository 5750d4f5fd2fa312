-- The pins of a table, as an entry is written, and as a frame is guarded or no longer.
use Rattle.std.proofs.Common.{◌≡◌, ◌≢◌, ℕ, ◌+◌, ◌-◌, ◌<◌, ◌≤◌, List, [], ◌∷◌, Bool, true, false, cond, eqb, zero, suc, length, get_or, set, replicate, count_by, Option, None, Some, refl, ap, sym, ◌∙◌, subst, ⊎_elim, arith}
use Rattle.std.proofs.lemmas.Bool.{cases_eq, eq-eqb}
use Rattle.std.proofs.lemmas.Bool.Decides.{nat_tests}
use Rattle.std.proofs.lemmas.Grind.{common_steps}
use Rattle.std.proofs.lemmas.List.{length-set, length-replicate, get_or-set_same, get_or-set_other}
use Rattle.std.proofs.lemmas.List.Sums.{sum_by-set, sum_by-cons, count_by-le-length, get_or-le-sum_by}
use Rattle.gv_types.specs.declared.ranges.Ranges.{Ranges}
use Rattle.gv_entry.specs.Entry.{global_frame}
use Rattle.gv_entry.specs.Global.{pages_of}
use Rattle.gv_entry.specs.Grants.{unless}
use Rattle.gv_sggtt.specs.Linked.{is_frame, names}
use Rattle.gv_sggtt.specs.Pins.{table_pins, HasPins, ChangesOwnPins}
use Rattle.gv_sggtt.specs.Table.{Table, zero_table, entry_grant, table_guarding, guards}

-- A memory has the pins again.
pub has-pins : (old new : Table) (before after : List ℕ) → new.frames ≡ old.frames → HasPins old before → ChangesOwnPins old new before after → HasPins new after
has-pins old new before after same has changes = record {
  frames = changes.frames ∙ has.frames ∙ sym same;
  own = λ k h. let m = at k h in let o = has.own k (below k h) in omega arith;
  others = λ k h. let m = at k h in let o = has.others k (below k h) in omega arith;
}
  where
    below : (k : ℕ) → k < new.frames → k < old.frames
    below k h = omega arith

    at : (k : ℕ) → k < new.frames → get_or after k 0 + table_pins old k ≡ get_or before k 0 + table_pins new k
    at k h = changes.each k (let f = has.frames in omega arith)

pub own-changes-none : (t : Table) (pins : List ℕ) → ChangesOwnPins t t pins pins
own-changes-none t pins = record { frames = refl; each = λ k h. refl }

-- one change after another
pub own-changes-then : (s t u : Table) (a b c : List ℕ) → ChangesOwnPins s t a b → ChangesOwnPins t u b c → ChangesOwnPins s u a c
own-changes-then s t u a b c first second = record {
  frames = second.frames ∙ first.frames;
  each = λ k h. let f = first.each k h in let e = second.each k (let l = first.frames in omega arith) in omega arith;
}

-- ---- an entry is set

module _ (t : Table) (slot value : ℕ) (there : slot < length t.entries) where
  abbrev written : Table
  written = record t { entries = set t.entries slot value }

  abbrev old : Option ℕ
  old = entry_grant t (get_or t.entries slot 0)

  counted : (k : ℕ) → table_pins written k + cond (is_frame k old) 1 0 ≡ table_pins t k + cond (is_frame k (entry_grant t value)) 1 0
  counted k = sum_by-set (λ entry. cond (is_frame k (entry_grant t entry)) 1 0) t.entries slot value 0 there

  pub changes-written : (before between after : List ℕ) → length between ≡ length before → length after ≡ length between → ((k : ℕ) → get_or between k 0 + cond (is_frame k old) 1 0 ≡ get_or before k 0) → ((k : ℕ) → get_or after k 0 ≡ get_or between k 0 + cond (is_frame k (entry_grant t value)) 1 0) → ChangesOwnPins t written before after
  changes-written before between after first second less more = record {
    frames = second ∙ first;
    each = λ k h. let a = less k in let b = more k in let c = counted k in omega arith;
  }

  -- the frame that the entry grants has the pin
  pub one-own : (frame : ℕ) → old ≡ Some frame → 1 ≤ table_pins t frame
  one-own frame is =
      let one : ◌≡◌ {A = ℕ} (cond (is_frame frame old) 1 0) 1 = ap (λ o. cond (is_frame frame o) 1 0) is ∙ ap (λ b. cond b 1 0) (eq-eqb frame frame refl) in
      let least : cond (is_frame frame old) 1 0 ≤ table_pins t frame = get_or-le-sum_by (λ entry. cond (is_frame frame (entry_grant t entry)) 1 0) t.entries slot 0 there in
      omega arith

pub most-own : (t : Table) (frame : ℕ) → table_pins t frame ≤ length t.entries
most-own t frame = count_by-le-length (λ entry. is_frame frame (entry_grant t entry)) t.entries

-- ---- a frame is guarded, or no longer

module _ (guarded : List Bool) where
  pub own-grant : (frame : ℕ) (o : Option ℕ) → is_frame frame (unless (guards guarded) o) ≡ cond (guards guarded frame) false (is_frame frame o)
  own-grant frame None = both (guards guarded frame)
    where
      both : (b : Bool) → false ≡ cond b false false
      both true = refl
      both false = refl
  own-grant frame (Some k) = ⊎_elim
      (λ same. subst (λ k. is_frame frame (unless (guards guarded) (Some k)) ≡ cond (guards guarded frame) false (is_frame frame (Some k))) (sym same) (it (guards guarded frame)))
      (λ differ. other (guards guarded k) (guards guarded frame) (is_not differ))
      (cases_eq k frame)
    where
      it : (b : Bool) → is_frame frame (cond b None (Some frame)) ≡ cond b false (is_frame frame (Some frame))
      it true = refl
      it false = refl

      is_not : k ≢ frame → eqb k frame ≡ false
      is_not differ = grind (arith, nat_tests)

      other : (b c : Bool) → eqb k frame ≡ false → is_frame frame (cond b None (Some k)) ≡ cond c false (eqb k frame)
      other true true n = refl
      other true false n = sym n
      other false true n = n
      other false false n = refl

  -- another frame's flag
  pub other-grant : (frame : ℕ) (flag : Bool) (o : Option ℕ) → o ≢ Some frame → unless (guards (set guarded frame flag)) o ≡ unless (guards guarded) o
  other-grant frame flag None differ = refl
  other-grant frame flag (Some k) differ = ap (λ b. cond b None (Some k)) (get_or-set_other guarded frame k flag false (λ same. differ (ap (λ n. Some n) same)))

-- the count of none
none-counted : (test : ℕ → Bool) (n : ℕ) → test 0 ≡ false → count_by test (replicate n 0) ≡ 0
none-counted test zero fails = refl
none-counted test (suc n) fails = sum_by-cons (λ x. cond (test x) 1 0) 0 (replicate n 0) ∙ ap (λ b. cond b 1 0 + count_by test (replicate n 0)) fails ∙ (let rest = none-counted test n fails in omega arith)

never : (entries : List ℕ) → count_by (λ entry. false) entries ≡ 0
never [] = refl
never (entry ∷ entries) = sum_by-cons (λ x. 0) entry entries ∙ (let rest = never entries in omega arith)

pub own-counted : (t : Table) (frame : ℕ) (b : Bool) → guards t.guarded frame ≡ b → table_pins t frame ≡ count_by (λ entry. cond b false (names t.frames frame entry)) t.entries
own-counted t frame b is = ap (λ (test : ℕ → Bool). count_by test t.entries) (λ i entry. (own-grant t.guarded frame (global_frame entry t.frames) ∙ ap (λ c. cond c false (names t.frames frame entry)) is) i)

own-free : (t : Table) (frame : ℕ) → guards t.guarded frame ≡ false → table_pins t frame ≡ count_by (names t.frames frame) t.entries
own-free t frame is = own-counted t frame false is

own-guarded : (t : Table) (frame : ℕ) → guards t.guarded frame ≡ true → table_pins t frame ≡ 0
own-guarded t frame is = own-counted t frame true is ∙ never t.entries

module _ (t : Table) (frame : ℕ) (flag : Bool) (within : frame < length t.guarded) where
  abbrev after : Table
  after = table_guarding t frame flag

  guards-same : guards (set t.guarded frame flag) frame ≡ flag
  guards-same = get_or-set_same t.guarded frame flag false within

  other_pins : (k : ℕ) → k ≢ frame → table_pins after k ≡ table_pins t k
  other_pins k differ = own-counted after k (guards t.guarded k) (get_or-set_other t.guarded frame k flag false differ) ∙ sym (own-counted t k (guards t.guarded k) refl)

  module _ (before : List ℕ) (has : HasPins t before) (below : frame < t.frames) where
    inside : frame < length before
    inside = let f = has.frames in omega arith

    changes_at : (n : ℕ) → n + table_pins t frame ≡ get_or before frame 0 + table_pins after frame → ChangesOwnPins t after before (set before frame n)
    changes_at n is = record {
      frames = length-set before frame n;
      each = λ k h. ⊎_elim
          (λ same. subst (λ k. get_or (set before frame n) k 0 + table_pins t k ≡ get_or before k 0 + table_pins after k) (sym same)
          (ap (λ m. m + table_pins t frame) (get_or-set_same before frame n 0 inside) ∙ is))
          (λ differ. let o = other_pins k differ in let s : get_or (set before frame n) k 0 ≡ get_or before k 0 = get_or-set_other before frame k n 0 differ in omega arith)
          (cases_eq k frame);
    }

    pub changes-guarded : (count : ℕ) → flag ≡ true → guards t.guarded frame ≡ false → count ≡ count_by (names t.frames frame) t.entries → ChangesOwnPins t after before (set before frame (get_or before frame 0 - count))
    changes-guarded count is was counted =
        let free = own-free t frame was in
        let gone = own-guarded after frame (guards-same ∙ is) in
        let own = has.own frame below in
        changes_at (get_or before frame 0 - count) (omega arith)

    pub changes-freed : (count : ℕ) → flag ≡ false → guards t.guarded frame ≡ true → count ≡ count_by (names t.frames frame) t.entries → ChangesOwnPins t after before (set before frame (get_or before frame 0 + count))
    changes-freed count is was counted =
        let none = own-guarded t frame was in
        let back = own-free after frame (guards-same ∙ is) in
        changes_at (get_or before frame 0 + count) (omega arith)

-- a table whose entries are 0 has none
pub zero-pins : (t : Table) (n : ℕ) → t.entries ≡ replicate n 0 → (frame : ℕ) → table_pins t frame ≡ 0
zero-pins t n is frame = ap (λ entries. count_by (λ entry. is_frame frame (entry_grant t entry)) entries) is ∙ none-counted (λ entry. is_frame frame (entry_grant t entry)) n refl

pub has-pins-zero : (ranges : Ranges) (frames : ℕ) → HasPins (zero_table ranges frames) (replicate frames 0)
has-pins-zero ranges frames = record {
  frames = length-replicate frames 0;
  own = λ k h. let n = zero-pins (zero_table ranges frames) (pages_of ranges) refl k in omega arith;
  others = λ k h. let n = zero-pins (zero_table ranges frames) (pages_of ranges) refl k in let z = zero k in omega arith;
}
  where
    zero : (k : ℕ) → ◌≡◌ {A = ℕ} (get_or (replicate frames 0) k 0) 0
    zero k = grind (arith, common_steps)
