-- A table mirrors where its part of the device is the same, and at first.
use Rattle.std.proofs.Common.{◌≡◌, ℕ, ◌%◌, true, false, cond, [], None, sym, ap, ◌∙◌, subst}
use Rattle.gv_types.specs.declared.ranges.Ranges.{Ranges}
use Rattle.gv_entry.specs.Global.{slot_of, pages_of}
use Rattle.gv_entry.specs.Ranges.{owns_page}
use Rattle.gv_gpu.specs.Device.{Device, IsEmpty}
use Rattle.gv_gpu.specs.Change.{Leaves}
use Rattle.gv_gpu.specs.Part.{Part, outside}
use Rattle.gv_gpu.proofs.Seen.{global-same}
use Rattle.gv_guest.specs.Placed.{Placed}
use Rattle.gv_sggtt.specs.Table.{Table, table_grant, entry_grant, zero_table}
use Rattle.gv_sggtt.specs.Mirror.{NamesFrame, AreAbsent, Mirrors}
use Rattle.gv_sggtt.proofs.Slots.{entry-zero}
use Rattle.gv_sggtt.proofs.Written.{grant-owned}

module _ (w : Part) (d e : Device) (ranges : Ranges) (own : (page : ℕ) → owns_page ranges page ≡ true → w.entry page ≡ true) (left : Leaves w d e) where
  pub mirrors-kept : (entries : Table) (placed : Placed) → entries.ranges ≡ ranges → Mirrors d entries placed → Mirrors e entries placed
  mirrors-kept t placed is mirrors = record {
    each = λ page mine. subst (NamesFrame placed (table_grant t page)) (sym (global-same w d e left.same page (own page (ap (λ r. owns_page r page) (sym is) ∙ mine)))) (mirrors.each page mine);
  }

  pub absent-kept : AreAbsent d ranges → AreAbsent e ranges
  absent-kept absent = record { each = λ page mine. subst (NamesFrame (record { guest = 0; pages = [] }) None) (sym (global-same w d e left.same page (own page mine))) (absent.each page mine) }

-- a table whose entries are 0 grants nothing
pub mirrors-zero : (d : Device) (ranges : Ranges) (frames : ℕ) (placed : Placed) → AreAbsent d ranges → Mirrors d (zero_table ranges frames) placed
mirrors-zero d ranges frames placed absent = record {
  each = λ page own. subst (λ o. NamesFrame placed o (d.global page)) (sym (nothing page own)) (absent.each page own);
}
  where
    nothing : (page : ℕ) → owns_page ranges page ≡ true → table_grant (zero_table ranges frames) page ≡ None
    nothing page own = grant-owned (zero_table ranges frames) page own ∙ ap (entry_grant (zero_table ranges frames)) (entry-zero (pages_of ranges) (slot_of ranges page))

-- What has no entry of the ranges was changed alone, over an empty device: their entries are absent.
pub absent-empty : (p : Part) (d e : Device) (ranges : Ranges) → IsEmpty d → ((page : ℕ) → p.entry page ≡ false) → outside p e ≡ outside p d → AreAbsent e ranges
absent-empty p d e ranges empty none same = record { each = λ page own. ap (λ entry. entry % 2) (at page) }
  where
    kept : (page : ℕ) → e.global page ≡ d.global page
    kept page = sym (ap (λ b. cond b 0 (e.global page)) (none page)) ∙ ap (λ (x : Device). x.global page) same ∙ ap (λ b. cond b 0 (d.global page)) (none page)

    at : (page : ℕ) → e.global page ≡ 0
    at page = kept page ∙ ap (λ (x : Device). x.global page) empty
