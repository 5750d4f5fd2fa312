-- One entry of a table is written, and the physical one with it.
use Rattle.std.proofs.Common.{◌≡◌, ◌≢◌, ℕ, ◌<◌, true, None, Some, IsSome, length, get_or, cond, refl, ap, ◌∙◌, sym, subst, ⊎_elim, arith}
use Rattle.std.proofs.lemmas.Bool.{cases_eq}
use Rattle.std.proofs.lemmas.Grind.{common_steps}
use Rattle.gv_types.specs.Maps.{put}
use Rattle.gv_entry.specs.Global.{slot_of, pages_of, entry_at, with_entry_at}
use Rattle.gv_entry.specs.Ranges.{owns_page}
use Rattle.gv_gpu.specs.Device.{Device, with_global}
use Rattle.gv_guest.specs.Placed.{Placed, Hosts}
use Rattle.gv_sggtt.specs.Table.{Table, IsTable, table_entry, table_written, table_grant, entry_grant}
use Rattle.gv_sggtt.specs.Mirror.{NamesFrame, Mirrors}
use Rattle.gv_sggtt.proofs.Slots.{slot-once, entry-set, entry-other}

-- a memory that has frames has a live page
pub some-live : (d : Device) (placed : Placed) → Hosts d placed → 0 < length placed.pages → (page : ℕ) × IsSome (d.label page)
some-live d placed stands some = (get_or placed.pages 0 0, subst IsSome (sym (stands.labelled 0 some)) refl)

-- what an owned page grants
pub grant-owned : (t : Table) (page : ℕ) → owns_page t.ranges page ≡ true → table_grant t page ≡ entry_grant t (table_entry t page)
grant-owned t page own = ap (λ b. cond b (entry_grant t (table_entry t page)) None) own

module _ (d : Device) (t : Table) (placed : Placed) (page slot value entry : ℕ) (is : IsTable t) (at : slot_of t.ranges page ≡ Some slot) (within : slot < pages_of t.ranges) (names : NamesFrame placed (entry_grant t value) entry) where
  abbrev after : Device
  after = with_global d page entry

  abbrev written : Table
  written = table_written t page value

  new_entry : table_entry written page ≡ value
  new_entry =
      let there : slot < length t.entries = let whole = is.whole in omega arith in
      ap (λ o. entry_at (with_entry_at t.entries o value) o) at ∙ entry-set t.entries slot value there

  old_entry : (q : ℕ) → q ≢ page → table_entry written q ≡ table_entry t q
  old_entry q differ = ap (λ o. entry_at (with_entry_at t.entries o value) (slot_of t.ranges q)) at ∙ entry-other t.entries slot value (slot_of t.ranges q) (λ same. differ (slot-once t.ranges q page slot is.parts same at))

  here : (q : ℕ) → put d.global page entry page ≡ entry
  here q = grind (arith, common_steps)

  there : (q : ℕ) → q ≢ page → put d.global page entry q ≡ d.global q
  there q differ = grind (arith, common_steps)

  pub mirrors-written : Mirrors d t placed → Mirrors after written placed
  mirrors-written mirrors = record {
    each = λ q own. ⊎_elim
        (λ same. subst (λ k. owns_page t.ranges k ≡ true → NamesFrame placed (table_grant written k) (put d.global page entry k)) (sym same)
        (λ own.
        subst (λ o. NamesFrame placed o (put d.global page entry page)) (sym (grant-owned written page own ∙ ap (entry_grant t) new_entry))
        (subst (NamesFrame placed (entry_grant t value)) (sym (here q)) names))
        own)
        (λ differ.
        let same_grant : table_grant t q ≡ table_grant written q = grant-owned t q own ∙ ap (entry_grant t) (sym (old_entry q differ)) ∙ sym (grant-owned written q own) in
        subst (λ o. NamesFrame placed o (put d.global page entry q)) same_grant
        (subst (NamesFrame placed (table_grant t q)) (sym (there q differ)) (mirrors.each q own)))
        (cases_eq q page);
  }
