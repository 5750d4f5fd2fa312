-- A frame has a pin of the table's where an owned page grants it, and one that moves has none.
use Rattle.std.proofs.Common.{◌≡◌, ◌≢◌, ℕ, ◌+◌, ◌-◌, ◌*◌, ◌<◌, ◌≤◌, List, [], ◌∷◌, Bool, true, false, cond, suc, Option, None, Some, length, get_or, count_by, refl, ap, sym, ◌∙◌, subst, ⊎_elim, arith}
use Rattle.std.specs.Prelude.{nat_lt}
use Rattle.std.proofs.lemmas.Bool.{cases_eq}
use Rattle.std.proofs.lemmas.Bool.Decides.{nat_tests}
use Rattle.std.proofs.lemmas.List.Sums.{sum_by-cons}
use Rattle.gv_types.specs.declared.ranges.Ranges.{Ranges}
use Rattle.gv_entry.specs.Global.{slot_of, pages_of, entry_at}
use Rattle.gv_entry.specs.Ranges.{InParts, owns_page}
use Rattle.gv_gpu.specs.Device.{Device}
use Rattle.gv_guest.specs.Placed.{Placed}
use Rattle.gv_sggtt.specs.Linked.{is_frame}
use Rattle.gv_sggtt.specs.Mirror.{Mirrors, NamesFrame}
use Rattle.gv_sggtt.specs.Pins.{table_pins, PinsGranted}
use Rattle.gv_sggtt.specs.Table.{Table, IsTable, table_grant, entry_grant}
use Rattle.gv_sggtt.proofs.Guarded.{same_frame}
use Rattle.gv_sggtt.proofs.OwnPins.{one-own}
use Rattle.gv_sggtt.proofs.Slots.{slot-within}
use Rattle.gv_sggtt.proofs.Written.{grant-owned}

-- where some are counted, there is one
one-counted : (test : ℕ → Bool) (entries : List ℕ) → 1 ≤ count_by test entries → (i : ℕ) × (i < length entries) × (test (get_or entries i 0) ≡ true)
one-counted test [] some = absurd (omega arith)
one-counted test (entry ∷ entries) some = at (test entry) refl (λ fails. one-counted test entries (later fails))
  where
    later : test entry ≡ false → 1 ≤ count_by test entries
    later fails =
        let counted : count_by test (entry ∷ entries) ≡ 0 + count_by test entries = sum_by-cons (λ x. cond (test x) 1 0) entry entries ∙ ap (λ b. cond b 1 0 + count_by test entries) fails in
        omega arith

    at : (b : Bool) → test entry ≡ b → (test entry ≡ false → (i : ℕ) × (i < length entries) × (test (get_or entries i 0) ≡ true)) → (i : ℕ) × (i < length (entry ∷ entries)) × (test (get_or (entry ∷ entries) i 0) ≡ true)
    at true is rest = (0, omega arith, is)
    at false is rest = let r = rest is in (suc (r.0), omega (arith, r.1), r.2)

-- each slot is a page's
page-there : (ranges : Ranges) (slot : ℕ) → InParts ranges → slot < pages_of ranges → (page : ℕ) × (slot_of ranges page ≡ Some slot) × (owns_page ranges page ≡ true)
page-there ranges slot parts within = at (nat_lt slot ranges.low.pages) refl
  where
    at : (b : Bool) → nat_lt slot ranges.low.pages ≡ b → (page : ℕ) × (slot_of ranges page ≡ Some slot) × (owns_page ranges page ≡ true)
    at true is = (ranges.low.first + slot, grind (arith, nat_tests), grind (arith, nat_tests))
    at false is =
        let low = parts.low in let from = parts.from in
        (ranges.high.first + (slot - ranges.low.pages), grind (arith, nat_tests), grind (arith, nat_tests))

module _ (t : Table) (is : IsTable t) where
  granted_at : (page frame : ℕ) (b : Bool) (o : Option ℕ) → owns_page t.ranges page ≡ b → slot_of t.ranges page ≡ o → cond b (entry_grant t (entry_at t.entries o)) None ≡ Some frame → 1 ≤ table_pins t frame
  granted_at page frame false o own at grant = cc
  granted_at page frame true None own at grant = cc
  granted_at page frame true (Some slot) own at grant =
      let within = slot-within t.ranges page slot at in
      let whole = is.whole in
      one-own t slot 0 (omega arith) frame grant

  pub pins-granted : PinsGranted t
  pins-granted = record {
    each = λ page frame grant. granted_at page frame (owns_page t.ranges page) (slot_of t.ranges page) refl refl grant;
    no_other = λ frame some.
        let one = one-counted (λ entry. is_frame frame (entry_grant t entry)) t.entries some in
        let within = subst (λ n. one.0 < n) is.whole (one.1) in
        let page = page-there t.ranges (one.0) is.parts within in
        (page.0, grant-owned t (page.0) (page.2) ∙ ap (λ o. entry_grant t (entry_at t.entries o)) (page.1) ∙ same_frame frame (entry_grant t (get_or t.entries (one.0) 0)) (one.2));
  }

  -- A frame that no page grants goes into another host page.
  module _ (d e : Device) (old new : Placed) (frame : ℕ) (none : table_pins t frame ≡ 0) (others : (k : ℕ) → k ≢ frame → get_or new.pages k 0 ≡ get_or old.pages k 0) (same : (page : ℕ) → owns_page t.ranges page ≡ true → e.global page ≡ d.global page) where
    kept : (page entry : ℕ) (o : Option ℕ) → table_grant t page ≡ o → NamesFrame old o entry → NamesFrame new o entry
    kept page entry None grant names = names
    kept page entry (Some k) grant names = ⊎_elim
        (λ is_it. let some : 1 ≤ table_pins t frame = pins-granted.each page frame (grant ∙ ap (λ n. Some n) is_it) in absurd (omega arith))
        (λ differ. names ∙ ap (λ p. p * 4096 + 3) (sym (others k differ)))
        (cases_eq k frame)

    pub mirrors-moved : Mirrors d t old → Mirrors e t new
    mirrors-moved mirrors = record {
      each = λ page own. subst (NamesFrame new (table_grant t page)) (sym (same page own)) (kept page (d.global page) (table_grant t page) refl (mirrors.each page own));
    }
