-- A frame is guarded, or no longer: its physical entries are those of the table again.
use Rattle.std.proofs.Common.{◌≡◌, ◌≢◌, ℕ, ◌<◌, Bool, true, false, cond, Option, None, Some, length, refl, ap, sym, ◌∙◌, subst, arith}
use Rattle.std.proofs.lemmas.Bool.{eq-eqb, false≢true}
use Rattle.std.proofs.lemmas.Bool.Decides.{nat_tests}
use Rattle.std.proofs.lemmas.List.{get_or-set_same}
use Rattle.gv_entry.specs.Entry.{global_frame}
use Rattle.gv_entry.specs.Grants.{unless}
use Rattle.gv_entry.specs.Ranges.{owns_page}
use Rattle.gv_gpu.specs.Device.{Device}
use Rattle.gv_guest.specs.Placed.{Placed}
use Rattle.gv_sggtt.specs.Linked.{is_frame}
use Rattle.gv_sggtt.specs.Mirror.{Mirrors, NamesFrame, SetsEntries}
use Rattle.gv_sggtt.specs.Table.{Table, table_entry, table_grant, table_guarding, guards}
use Rattle.gv_sggtt.proofs.OwnPins.{other-grant}
use Rattle.gv_sggtt.proofs.Written.{grant-owned}

pub same_frame : (frame : ℕ) (o : Option ℕ) → is_frame frame o ≡ true → o ≡ Some frame
same_frame frame None is = absurd (false≢true is)
same_frame frame (Some k) is = let same : k ≡ frame = grind (arith, nat_tests) in ap (λ n. Some n) same

not_frame : (frame : ℕ) (o : Option ℕ) → is_frame frame o ≡ false → o ≢ Some frame
not_frame frame o not same = false≢true (sym not ∙ ap (is_frame frame) same ∙ eq-eqb frame frame refl)

module _ (d e : Device) (t : Table) (placed : Placed) (frame entry : ℕ) (flag : Bool) (within : frame < length t.guarded) (sets : SetsEntries t.ranges t.entries t.frames frame entry d e) (fits : NamesFrame placed (cond flag None (Some frame)) entry) where
  abbrev after : Table
  after = table_guarding t frame flag

  abbrev named : ℕ → Option ℕ
  named page = global_frame (table_entry t page) t.frames

  at : (page : ℕ) (b : Bool) → is_frame frame (named page) ≡ b → owns_page t.ranges page ≡ true → NamesFrame placed (table_grant t page) (d.global page) → NamesFrame placed (table_grant after page) (e.global page)
  at page true is own before =
      let grant : table_grant after page ≡ cond flag None (Some frame) = grant-owned after page own ∙ ap (λ o. unless (guards after.guarded) o) (same_frame frame (named page) is) ∙ ap (λ b. cond b None (Some frame)) (get_or-set_same t.guarded frame flag false within) in
      subst (λ o. NamesFrame placed o (e.global page)) (sym grant) (subst (NamesFrame placed (cond flag None (Some frame))) (sym (sets.here page is)) fits)
  at page false is own before =
      let grant : table_grant t page ≡ table_grant after page = grant-owned t page own ∙ sym (other-grant t.guarded frame flag (named page) (not_frame frame (named page) is)) ∙ sym (grant-owned after page own) in
      subst (λ o. NamesFrame placed o (e.global page)) grant (subst (NamesFrame placed (table_grant t page)) (sym (sets.others page is)) before)

  pub mirrors-guarding : Mirrors d t placed → Mirrors e after placed
  mirrors-guarding mirrors = record { each = λ page own. at page (is_frame frame (named page)) refl own (mirrors.each page own) }
