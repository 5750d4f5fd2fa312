-- The chains as an entry is set to 0, and as one of 0 is set.
use Rattle.std.proofs.Common.{◌≡◌, ◌≢◌, ℕ, ◌+◌, ◌<◌, ◌≤◌, List, [], zero, suc, Bool, true, false, cond, length, get_or, set, replicate, count_by, Option, None, Some, IsSome, refl, ap, sym, ◌∙◌, subst, ⊎_elim, arith}
use Rattle.std.specs.Prelude.{is_none, IfSome}
use Rattle.std.proofs.lemmas.Bool.{cases_eq, eq-eqb}
use Rattle.std.proofs.lemmas.Bool.Decides.{nat_tests}
use Rattle.std.proofs.lemmas.Grind.{common_steps}
use Rattle.std.proofs.lemmas.List.{length-set, length-replicate, get_or-set_same, get_or-set_other}
use Rattle.std.proofs.lemmas.List.Sums.{sum_by-set, count_by-le-length}
use Rattle.gv_entry.specs.Entry.{global_frame}
use Rattle.gv_rmap.specs.declared.leaf.Leaf.{Leaf}
use Rattle.gv_rmap.specs.Leaves.{key, leaf_at, with_leaf, without_leaf}
use Rattle.gv_rmap.specs.Chains.{ReverseMap, chain_of, linked, unlinked}
use Rattle.gv_sggtt.specs.Linked.{AreLinked, is_frame, names, leaf_of, leaves_from, chains_with, chains_without}
use Rattle.gv_sggtt.proofs.Leaves.{with-set, without-set, same-set, none-at, some-at}

-- the frame of an entry is in memory
pub frame-below : (entry frames frame : ℕ) → global_frame entry frames ≡ Some frame → frame < frames
frame-below entry frames frame is = grind (arith, nat_tests)

is_that : (frame : ℕ) → is_frame frame (Some frame) ≡ true
is_that frame = eq-eqb frame frame refl

is_other : (frame other : ℕ) → other ≢ frame → is_frame frame (Some other) ≡ false
is_other frame other differ = grind (arith, nat_tests)

module _ (frames : ℕ) (values : List ℕ) (chains : ReverseMap) (are : AreLinked frames values chains) (slot : ℕ) (there : slot < length values) where
  abbrev free : ℕ → Bool
  free entry = is_none (global_frame entry frames)

  counted : (value : ℕ) → count_by free (set values slot value) + cond (free (get_or values slot 0)) 1 0 ≡ count_by free values + cond (free value) 1 0
  counted value = sum_by-set (λ entry. cond (free entry) 1 0) values slot value 0 there

  -- an entry that names the same frame as before
  same_frame : (value : ℕ) → global_frame value frames ≡ global_frame (get_or values slot 0) frames → AreLinked frames (set values slot value) chains
  same_frame value same = record {
    whole = are.whole;
    each = λ frame h. are.each frame h ∙ sym (same-set (names frames frame) 0 slot values value (ap (is_frame frame) same));
    room =
        let count : count_by free (set values slot value) + cond (is_none (global_frame (get_or values slot 0) frames)) 1 0 ≡ count_by free values + cond (is_none (global_frame (get_or values slot 0) frames)) 1 0 = counted value ∙ ap (λ o. count_by free values + cond (is_none o) 1 0) same in
        let room = are.room in
        omega arith;
  }

  module _ (named : ℕ) (was : global_frame (get_or values slot 0) frames ≡ Some named) where
    below : named < frames
    below = frame-below (get_or values slot 0) frames named was

    pub there-linked : IsSome (leaf_at (chain_of chains named) (key (leaf_of slot)))
    there-linked = rw (are.each named below) (some-at (names frames named) slot values there (ap (is_frame named) was ∙ is_that named))

    without_it : AreLinked frames (set values slot 0) (unlinked chains named (leaf_of slot))
    without_it = record {
      whole = length-set chains.chains named _ ∙ are.whole;
      each = λ frame h. ⊎_elim
          (λ same.
          let inside : named < length chains.chains = let whole = are.whole in let b = below in omega arith in
          subst (λ f. chain_of (unlinked chains named (leaf_of slot)) f ≡ leaves_from 0 (names frames f) (set values slot 0)) (sym same)
          (get_or-set_same chains.chains named _ [] inside
          ∙ ap (λ l. without_leaf (leaf_of slot) l) (are.each named below)
          ∙ without-set (names frames named) slot values 0 refl))
          (λ differ.
          get_or-set_other chains.chains named frame _ [] differ
          ∙ are.each frame h
          ∙ sym (same-set (names frames frame) 0 slot values 0 (sym (ap (is_frame frame) was ∙ is_other frame named (λ is. differ (sym is))))))
          (cases_eq frame named);
      room =
          let count : count_by free (set values slot 0) + 0 ≡ count_by free values + 1 = subst (λ o. count_by free (set values slot 0) + cond (is_none o) 1 0 ≡ count_by free values + 1) was (counted 0) in
          let room = are.room in
          omega arith;
    }

  pub linked-without : (o : Option ℕ) → global_frame (get_or values slot 0) frames ≡ o → AreLinked frames (set values slot 0) (chains_without chains o slot)
  linked-without None was = same_frame 0 (sym was)
  linked-without (Some named) was = without_it named was

  module _ (named value : ℕ) (was : global_frame (get_or values slot 0) frames ≡ None) (is : global_frame value frames ≡ Some named) where
    below_named : named < frames
    below_named = frame-below value frames named is

    pub absent-yet : leaf_at (chain_of chains named) (key (leaf_of slot)) ≡ None
    absent-yet = rw (are.each named below_named) (none-at (names frames named) slot values (ap (is_frame named) was))

    count_is : count_by free (set values slot value) + 1 ≡ count_by free values
    count_is =
        let first : count_by free (set values slot value) + 1 ≡ count_by free values + cond (free value) 1 0 = subst (λ o. count_by free (set values slot value) + cond (is_none o) 1 0 ≡ count_by free values + cond (free value) 1 0) was (counted value) in
        let second : count_by free (set values slot value) + 1 ≡ count_by free values + 0 = subst (λ o. count_by free (set values slot value) + 1 ≡ count_by free values + cond (is_none o) 1 0) is first in
        omega arith

    pub room-yet : 1 ≤ chains.spare
    room-yet = let count = count_is in let room = are.room in omega arith

    with_it : AreLinked frames (set values slot value) (linked chains named (leaf_of slot))
    with_it = record {
      whole = length-set chains.chains named _ ∙ are.whole;
      each = λ frame h. ⊎_elim
          (λ same.
          let inside : named < length chains.chains = let whole = are.whole in let b = below_named in omega arith in
          subst (λ f. chain_of (linked chains named (leaf_of slot)) f ≡ leaves_from 0 (names frames f) (set values slot value)) (sym same)
          (get_or-set_same chains.chains named _ [] inside
          ∙ ap (λ l. with_leaf (leaf_of slot) l) (are.each named below_named)
          ∙ with-set (names frames named) slot values value there (ap (is_frame named) was) (ap (is_frame named) is ∙ is_that named)))
          (λ differ.
          get_or-set_other chains.chains named frame _ [] differ
          ∙ are.each frame h
          ∙ sym (same-set (names frames frame) 0 slot values value (ap (is_frame frame) is ∙ is_other frame named (λ is. differ (sym is)) ∙ sym (ap (is_frame frame) was))))
          (cases_eq frame named);
      room = let count = count_is in let room = are.room in omega arith;
    }

  pub linked-with : (value : ℕ) (o : Option ℕ) → global_frame (get_or values slot 0) frames ≡ None → global_frame value frames ≡ o → AreLinked frames (set values slot value) (chains_with chains o slot)
  linked-with value None was is = same_frame value (is ∙ sym was)
  linked-with value (Some named) was is = with_it named value was is

-- what the calls of the chains ask
module _ (frames : ℕ) (values : List ℕ) (chains : ReverseMap) (are : AreLinked frames values chains) (slot : ℕ) (there : slot < length values) where
  pub all-within : (entry : ℕ) (o : Option ℕ) → global_frame entry frames ≡ o → IfSome o (λ frame. frame < length chains.chains)
  all-within entry None is = tt
  all-within entry (Some frame) is = let whole = are.whole in let below = frame-below entry frames frame is in omega arith

  pub all-linked : (o : Option ℕ) → global_frame (get_or values slot 0) frames ≡ o → IfSome o (λ frame. IsSome (leaf_at (chain_of chains frame) (key (leaf_of slot))))
  all-linked None is = tt
  all-linked (Some frame) is = there-linked frames values chains are slot there frame is

  pub all-absent : (value : ℕ) (o : Option ℕ) → global_frame (get_or values slot 0) frames ≡ None → global_frame value frames ≡ o → IfSome o (λ frame. leaf_at (chain_of chains frame) (key (leaf_of slot)) ≡ None)
  all-absent value None was is = tt
  all-absent value (Some frame) was is = absent-yet frames values chains are slot there frame value was is

  pub all-room : (value : ℕ) (o : Option ℕ) → global_frame (get_or values slot 0) frames ≡ None → global_frame value frames ≡ o → IfSome o (λ _. 1 ≤ chains.spare)
  all-room value None was is = tt
  all-room value (Some frame) was is = room-yet frames values chains are slot there frame value was is

-- entries of 0 name no frame
pub linked-zero : (frames count : ℕ) (chains : ReverseMap) → chains.chains ≡ replicate frames [] → count ≤ chains.spare → AreLinked frames (replicate count 0) chains
linked-zero frames count chains none room = record {
  whole = ap length none ∙ length-replicate frames [];
  each = λ frame h. ap (λ l. get_or l frame []) none ∙ empty frame ∙ sym (no_leaves frame 0 count);
  room =
      let most = count_by-le-length (λ entry. is_none (global_frame entry frames)) (replicate count 0) in
      let long = length-replicate {A = ℕ} count 0 in
      omega arith;
}
  where
    empty : (frame : ℕ) → get_or {A = List Leaf} (replicate frames []) frame [] ≡ []
    empty frame = grind (arith, common_steps)

    no_leaves : (frame k n : ℕ) → leaves_from k (names frames frame) (replicate n 0) ≡ []
    no_leaves frame k zero = refl
    no_leaves frame k (suc n) = no_leaves frame (k + 1) n
