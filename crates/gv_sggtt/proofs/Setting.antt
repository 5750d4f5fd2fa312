-- The physical entries of all pages whose entries name a frame are set, one by one.
use Rattle.std.proofs.Common.{◌≡◌, ◌≢◌, ℕ, ◌+◌, ◌*◌, ◌<◌, List, [], ◌∷◌, true, false, zero, suc, length, get_or, count_by, Option, None, Some, ◌⊎◌, inl, inr, refl, ap, sym, ◌∙◌, subst, ⊎_elim, arith}
use Rattle.std.specs.Prelude.{All, Contains}
use Rattle.std.proofs.lemmas.Bool.{cases_eq, false≢true}
use Rattle.std.proofs.lemmas.Grind.{common_steps}
use Rattle.std.proofs.lemmas.List.Elements.{All-head, All-tail}
use Rattle.gv_types.specs.Maps.{put}
use Rattle.gv_types.specs.declared.ranges.Ranges.{Ranges}
use Rattle.gv_entry.specs.Global.{slot_of, pages_of, entry_at}
use Rattle.gv_entry.specs.Ranges.{InParts, owns_page}
use Rattle.gv_gpu.specs.Change.{ChangesOnly}
use Rattle.gv_gpu.specs.Device.{Device, with_global}
use Rattle.gv_gpu.specs.Part.{entries_part}
use Rattle.gv_gpu.proofs.Changes.{changes-then, changes-none, global-changes}
use Rattle.gv_rmap.specs.declared.leaf.Leaf.{Leaf}
use Rattle.gv_sggtt.specs.Linked.{names, leaf_of, leaves_from}
use Rattle.gv_sggtt.specs.Mirror.{page_names, SetsEntries}
use Rattle.gv_sggtt.proofs.Leaves.{IsLeafOf, contains-leaf, all-leaves, length-leaves, leaf-once, slot-back}
use Rattle.gv_sggtt.proofs.Slots.{slot-once}

module _ (ranges : Ranges) (values : List ℕ) (frames frame entry : ℕ) where
  -- What holds while some leaves are left.
  pub record Setting (start now : Device) (left : List Leaf) (count : ℕ) : Type 0 where
    pub counted : count + length left ≡ count_by (names frames frame) values
    pub users : All (IsLeafOf (names frames frame) values) left
    pub here : (page slot : ℕ) → slot_of ranges page ≡ Some slot → names frames frame (get_or values slot 0) ≡ true → (now.global page ≡ entry) ⊎ Contains left (leaf_of slot)
    pub others : (page : ℕ) → page_names ranges values frames frame page ≡ false → now.global page ≡ start.global page
    pub labels : now.label ≡ start.label
    pub changes : ChangesOnly (entries_part ranges) 0 start now

  pub setting-first : (start : Device) → length values ≡ pages_of ranges → ((page slot : ℕ) → slot_of ranges page ≡ Some slot → slot < pages_of ranges) → Setting start start (leaves_from 0 (names frames frame) values) 0
  setting-first start whole within = record {
    counted = let long = length-leaves (names frames frame) 0 values in omega arith;
    users = all-leaves (names frames frame) values;
    here = λ page slot at passes. inr (contains-leaf (names frames frame) slot values (let w = within page slot at in omega arith) passes);
    others = λ page fails. refl;
    labels = refl;
    changes = changes-none (entries_part ranges) 0 start;
  }

  module _ (start now : Device) (leaf : Leaf) (rest : List Leaf) (count : ℕ) (so_far : Setting start now (leaf ∷ rest) count) where
    abbrev user : IsLeafOf (names frames frame) values leaf
    user = All-head (IsLeafOf (names frames frame) values) leaf rest so_far.users

    the_slot : leaf.page * 512 + leaf.index ≡ user.0
    the_slot = ap (λ (l : Leaf). l.page * 512 + l.index) (user.1) ∙ slot-back (user.0)

    pub slot-there : leaf.page * 512 + leaf.index < length values
    slot-there = subst (λ i. i < length values) (sym the_slot) (user.2)

    module _ (page : ℕ) (parts : InParts ranges) (at : slot_of ranges page ≡ Some (leaf.page * 512 + leaf.index)) (own : owns_page ranges page ≡ true) where
      abbrev after : Device
      after = with_global now page entry

      at_slot : slot_of ranges page ≡ Some (user.0)
      at_slot = at ∙ ap (λ i. Some i) the_slot

      set_here : put now.global page entry page ≡ entry
      set_here = grind (arith, common_steps)

      set_other : (q : ℕ) → q ≢ page → put now.global page entry q ≡ now.global q
      set_other q differ = grind (arith, common_steps)

      is_user : page_names ranges values frames frame page ≡ true
      is_user = ap (λ o. names frames frame (entry_at values o)) at_slot ∙ user.3

      rest_has : (q slot : ℕ) → q ≢ page → slot_of ranges q ≡ Some slot → Contains (leaf ∷ rest) (leaf_of slot) → Contains rest (leaf_of slot)
      rest_has q slot differ at_q (zero, h, same) = absurd (differ (slot-once ranges q page slot parts at_q (at_slot ∙ ap (λ i. Some i) (leaf-once (user.0) slot (sym (user.1) ∙ same)))))
      rest_has q slot differ at_q (suc k, h, same) = (k, omega arith, same)

      pub setting-next : Setting start after rest (count + 1)
      setting-next = record {
        counted = let c = so_far.counted in omega arith;
        users = All-tail (IsLeafOf (names frames frame) values) leaf rest so_far.users;
        here = λ q slot at_q passes. ⊎_elim
            (λ same. inl (ap (put now.global page entry) same ∙ set_here))
            (λ differ. ⊎_elim
            (λ done. inl (set_other q differ ∙ done))
            (λ has. inr (rest_has q slot differ at_q has))
            (so_far.here q slot at_q passes))
            (cases_eq q page);
        others = λ q fails. set_other q (λ same. false≢true (sym fails ∙ ap (page_names ranges values frames frame) same ∙ is_user)) ∙ so_far.others q fails;
        labels = so_far.labels;
        changes = changes-then so_far.changes (global-changes (entries_part ranges) now page entry own);
      }

  pub setting-done : (start now : Device) (count : ℕ) → Setting start now [] count → SetsEntries ranges values frames frame entry start now
  setting-done start now count done = record {
    here = λ page is. at page (slot_of ranges page) refl is;
    others = done.others;
  }
    where
      at : (page : ℕ) (o : Option ℕ) → slot_of ranges page ≡ o → names frames frame (entry_at values (slot_of ranges page)) ≡ true → now.global page ≡ entry
      at page None at_page is = absurd (false≢true (sym (ap (λ o. names frames frame (entry_at values o)) at_page) ∙ is))
      at page (Some slot) at_page is = ⊎_elim (λ e. e) (λ has. absurd (omega (arith, has.1))) (done.here page slot at_page (sym (ap (λ o. names frames frame (entry_at values o)) at_page) ∙ is))
