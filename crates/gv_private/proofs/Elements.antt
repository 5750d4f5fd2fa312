-- What is left of an element at work stays, and its root is a root.
use Rattle.std.proofs.Common.{◌≡◌, ℕ, suc, zero, ◌+◌, ◌/◌, ◌%◌, ◌^◌, ◌<◌, Bool, true, false, not, ◌||◌, ◌&&◌, List, [], ◌∷◌, Option, None, Some, cond, refl, sym, ap, ◌∙◌, subst, arith, eqb, ltb, ⊎_elim, inl, inr, ◌⊎◌}
use Rattle.std.proofs.lemmas.Bool.{eqb-true, eq-eqb, or_cases, or_left, or_right, or_parts}
use Rattle.std.proofs.lemmas.Map.Views.{any-filter_same}
use Rattle.gv_types.specs.Maps.{put}
use Rattle.gv_types.specs.declared.event.Event.TheVariants.{Read, Write, Turn, Switch, Move, Reset}
use Rattle.gv_types.specs.declared.event.Place.{Place}
use Rattle.gv_types.specs.declared.event.Place.TheVariants as places
use Rattle.gv_types.specs.declared.event.Width.{Width}
use Rattle.gv_types.specs.declared.event.Width.TheVariants.{Four, Eight}
use Rattle.gv_entry.specs.SameTables.{has}
use Rattle.gv_regs.specs.Table.{target_at, engines_reset}
use Rattle.gv_regs.specs.declared.effect.Target.TheVariants.{EngineReset}
use Rattle.gv_private.specs.Device.{Engine, PrivateDevice, Working, with_engine, with_element, reset_engine}
use Rattle.gv_private.specs.Laws.{is_engine_reset, dword_resets, write_resets, ElementStays, HasRoots, FirstHasRoots, RootsStay}
use Rattle.gv_private.specs.Registers.{is_named}
use Rattle.gv_private.specs.Roots.{with_root, without_root, works_over, is_at_work}
use Rattle.gv_private.proofs.Keeps.{KeptByEvents, KeptByAccesses, KeptByTurns, Anything, MayWrite, write-keeps, turn-keeps, event-always}

-- ---- the element of an engine, after another one was changed or in another respect

same_by : (f : ℕ → Engine) (k n : ℕ) (e : Engine) (b : Bool) → eqb n k ≡ b → e.element ≡ (f k).element → (cond b e (f n)).element ≡ (f n).element
same_by f k n e true is same = same ∙ sym (ap (λ j. (f j).element) (eqb-true n k is))
same_by f k n e false is same = refl

element-same : (f : ℕ → Engine) (k : ℕ) (e : Engine) → e.element ≡ (f k).element → (n : ℕ) → (put f k e n).element ≡ (f n).element
element-same f k e same n = same_by f k n e (eqb n k) refl same

other_by : (f : ℕ → Engine) (k n : ℕ) (e : Engine) (b : Bool) → eqb n k ≡ b → eqb k n ≡ false → (cond b e (f n)).element ≡ (f n).element
other_by f k n e true is other = let same = eq-eqb k n (sym (eqb-true n k is)) in cc
other_by f k n e false is other = refl

element-other : (f : ℕ → Engine) (k : ℕ) (e : Engine) (n : ℕ) → eqb k n ≡ false → (put f k e n).element ≡ (f n).element
element-other f k e n other = other_by f k n e (eqb n k) refl other

-- ---- what is left stays

module _ (n : ℕ) (x : Option Working) where
  abbrev Stays : PrivateDevice → Type 0
  Stays q = q.failsafe ≡ false → (q.engines n).element ≡ x

  abbrev Spares : ℕ → Type 0
  Spares value = is_named (engines_reset value) n ≡ false

  destroyed-stays : (b : Bool) (q r : PrivateDevice) → Stays q → Stays r → Stays (cond b q r)
  destroyed-stays true q r first second = first
  destroyed-stays false q r first second = second

  events-stay : KeptByEvents Stays
  events-stay = record {
    interrupts = λ q i here. here;
    slots = λ q k s here. λ live. element-same q.engines k (record (q.engines k) { slots = s }) refl n ∙ here live;
    granted = λ q at value here. here;
  }

  accesses-stay : KeptByAccesses Stays Spares
  accesses-stay = record {
    events = events-stay;
    memory = λ q m same here. here;
    entries = λ q e here. here;
    registers = λ q r here. here;
    writes = λ q k ws here. λ live. element-same q.engines k (record (q.engines k) { writes = ws }) refl n ∙ here live;
    general = λ q k g here. λ live. element-same q.engines k (record (q.engines k) { general = g }) refl n ∙ here live;
    announced = λ q root here. here;
    destroyed = λ q root here. destroyed-stays (is_at_work q root) q (record q { roots = without_root q.roots root }) here here;
    reset = λ q value spares here. λ live. ap (λ b. (cond b reset_engine (q.engines n)).element) spares ∙ here live;
    failed = λ q here. λ live. cc;
  }

  turns-stay : (k : ℕ) → eqb k n ≡ false → KeptByTurns Stays Spares k
  turns-stay k other = record {
    accesses = accesses-stay;
    gone = λ q here. λ live. element-other q.engines k (record (q.engines k) { element = None }) n other ∙ here live;
    begun = λ q w there here. λ live. element-other q.engines k (record (q.engines k) { element = Some w }) n other ∙ here live;
    moved = λ q w left works here. λ live. element-other q.engines k (record (q.engines k) { element = Some (record w { left = left }) }) n other ∙ here live;
  }

and_right : (a b : Bool) → a ≡ true → (a && b) ≡ false → b ≡ false
and_right true b is none = none
and_right false b is none = cc

spares : (n offset value : ℕ) → dword_resets n offset value ≡ false → target_at offset ≡ EngineReset → is_named (engines_reset value) n ≡ false
spares n offset value none is = and_right (is_engine_reset (target_at offset)) (is_named (engines_reset value) n) (ap is_engine_reset is) none

may-write : (n : ℕ) (x : Option Working) (place : Place) (width : Width) (at value : ℕ) → write_resets n place width at value ≡ false → MayWrite (Stays n x) (Spares n x) (accesses-stay n x) place width at value
may-write n x places.Memory width at value none = tt
may-write n x places.Registers Four at value none = spares n at value none
may-write n x places.Registers Eight at value none =
    let both = or_parts (dword_resets n at (value % 2 ^ 32)) (dword_resets n (at + 4) (value / 2 ^ 32)) none in
    (spares n at (value % 2 ^ 32) both.0, spares n (at + 4) (value / 2 ^ 32) both.1)
may-write n x places.Aperture width at value none = tt

pub element_stays : ElementStays
element_stays p (Read guest place width at) n none live = refl
element_stays p (Write guest place width at value) n none live =
    let x = (p.engines n).element in
    write-keeps (Stays n x) (Spares n x) (accesses-stay n x) p place width at value (may-write n x place width at value none) (λ at_first. refl) live
element_stays p (Turn k) n none live =
    let x = (p.engines n).element in
    turn-keeps (Stays n x) (Spares n x) k.0 (turns-stay n x k.0 none) p (λ at_first. refl) live
element_stays p (Switch k) n none live = refl
element_stays p (Move guest frame) n none live = refl
element_stays p (Reset guest) n none live = cc

-- ---- roots

root_stays : (same below : Bool) (first root x : ℕ) (more : List ℕ) → (has more x ≡ true → has (with_root more root) x ≡ true) → has (first ∷ more) x ≡ true → has (cond same (first ∷ more) (cond below (root ∷ first ∷ more) (first ∷ with_root more root))) x ≡ true
root_stays true below first root x more next there = there
root_stays false true first root x more next there = or_right (eqb root x) (has (first ∷ more) x) there
root_stays false false first root x more next there =
    ⊎_elim (λ is. or_left (eqb first x) (has (with_root more root) x) is) (λ is. or_right (eqb first x) (has (with_root more root) x) (next is)) (or_cases (eqb first x) (has more x) there)

with_root-keeps : (roots : List ℕ) (root x : ℕ) → has roots x ≡ true → has (with_root roots root) x ≡ true
with_root-keeps [] root x there = cc
with_root-keeps (first ∷ more) root x there = root_stays (eqb root first) (ltb root first) first root x more (with_root-keeps more root x) there

without_root-keeps : (roots : List ℕ) (root x : ℕ) → eqb x root ≡ false → has roots x ≡ true → has (without_root roots root) x ≡ true
without_root-keeps roots root x other there =
    any-filter_same (λ y. eqb y x) (λ y. not (eqb y root)) true (λ y same. ap (λ k. not (eqb k root)) (eqb-true y x same) ∙ ap not other) roots ∙ there

at_work : (q : PrivateDevice) (root n : ℕ) → n < 4 → works_over root (q.engines n).element ≡ true → is_at_work q root ≡ true
at_work q root zero below is = or_left (works_over root (q.engines 0).element) (works_over root (q.engines 1).element || (works_over root (q.engines 2).element || (works_over root (q.engines 3).element || false))) is
at_work q root (suc zero) below is =
    or_right (works_over root (q.engines 0).element) (works_over root (q.engines 1).element || (works_over root (q.engines 2).element || (works_over root (q.engines 3).element || false)))
    (or_left (works_over root (q.engines 1).element) (works_over root (q.engines 2).element || (works_over root (q.engines 3).element || false)) is)
at_work q root (suc (suc zero)) below is =
    or_right (works_over root (q.engines 0).element) (works_over root (q.engines 1).element || (works_over root (q.engines 2).element || (works_over root (q.engines 3).element || false)))
    (or_right (works_over root (q.engines 1).element) (works_over root (q.engines 2).element || (works_over root (q.engines 3).element || false))
    (or_left (works_over root (q.engines 2).element) (works_over root (q.engines 3).element || false) is))
at_work q root (suc (suc (suc zero))) below is =
    or_right (works_over root (q.engines 0).element) (works_over root (q.engines 1).element || (works_over root (q.engines 2).element || (works_over root (q.engines 3).element || false)))
    (or_right (works_over root (q.engines 1).element) (works_over root (q.engines 2).element || (works_over root (q.engines 3).element || false))
    (or_right (works_over root (q.engines 2).element) (works_over root (q.engines 3).element || false)
    (or_left (works_over root (q.engines 3).element) false is)))
at_work q root (suc (suc (suc (suc n)))) below is = absurd (omega arith)

-- a root that isn't at work is none of an element's
not_at_work : (q : PrivateDevice) (root n : ℕ) (w : Working) (b : Bool) → eqb w.root root ≡ b → is_at_work q root ≡ false → n < 4 → (q.engines n).element ≡ Some w → eqb w.root root ≡ false
not_at_work q root n w true is none below works =
    let busy = at_work q root n below (ap (works_over root) works ∙ is) in cc
not_at_work q root n w false is none below works = is

destroyed-roots : (q : PrivateDevice) (root : ℕ) (b : Bool) → is_at_work q root ≡ b → HasRoots q → HasRoots (cond b q (record q { roots = without_root q.roots root }))
destroyed-roots q root true is here = here
destroyed-roots q root false is here = λ n w below works. without_root-keeps q.roots root w.root (not_at_work q root n w (eqb w.root root) refl is below works) (here n w below works)

reset-roots : (f : ℕ → Engine) (n : ℕ) (w : Working) (b : Bool) → (cond b reset_engine (f n)).element ≡ Some w → (f n).element ≡ Some w
reset-roots f n w true works = cc
reset-roots f n w false works = works

-- an engine's element after one was put
split_by : (f : ℕ → Engine) (k n : ℕ) (x : Option Working) (w : Working) (b : Bool) → eqb n k ≡ b → (cond b (record (f k) { element = x }) (f n)).element ≡ Some w → ((n ≡ k) × (x ≡ Some w)) ⊎ ((f n).element ≡ Some w)
split_by f k n x w true is works = inl (eqb-true n k is, works)
split_by f k n x w false is works = inr works

split : (q : PrivateDevice) (k n : ℕ) (x : Option Working) (w : Working) → ((with_element q k x).engines n).element ≡ Some w → ((n ≡ k) × (x ≡ Some w)) ⊎ ((q.engines n).element ≡ Some w)
split q k n x w works = split_by q.engines k n x w (eqb n k) refl works

kept-roots : (q : PrivateDevice) (k : ℕ) (e : Engine) → e.element ≡ (q.engines k).element → HasRoots q → HasRoots (with_engine q k e)
kept-roots q k e same here = λ n w below works. here n w below (sym (element-same q.engines k e same n) ∙ works)

events-have : KeptByEvents HasRoots
events-have = record {
  interrupts = λ q i here. here;
  slots = λ q k s here. kept-roots q k (record (q.engines k) { slots = s }) refl here;
  granted = λ q at value here. here;
}

accesses-have : KeptByAccesses HasRoots Anything
accesses-have = record {
  events = events-have;
  memory = λ q m same here. here;
  entries = λ q e here. here;
  registers = λ q r here. here;
  writes = λ q k ws here. kept-roots q k (record (q.engines k) { writes = ws }) refl here;
  general = λ q k g here. kept-roots q k (record (q.engines k) { general = g }) refl here;
  announced = λ q root here. λ n w below works. with_root-keeps q.roots root w.root (here n w below works);
  destroyed = λ q root here. destroyed-roots q root (is_at_work q root) refl here;
  reset = λ q value may here. λ n w below works. here n w below (reset-roots q.engines n w (is_named (engines_reset value) n) works);
  failed = λ q here. λ n w below works. cc;
}

turns-have : (k : ℕ) → KeptByTurns HasRoots Anything k
turns-have k = record {
  accesses = accesses-have;
  gone = λ q here. λ n w below works. ⊎_elim (λ own. cc (own.1)) (λ other. here n w below other) (split q k n None w works);
  begun = λ q v there here. λ n w below works.
      ⊎_elim
      (λ own. let same : v ≡ w = cc (own.1) in subst (λ (u : Working). has q.roots u.root ≡ true) same there)
      (λ other. here n w below other)
      (split q k n (Some v) w works);
  moved = λ q v left works_now here. λ n w below works.
      ⊎_elim
      (λ own. let same : record v { left = left } ≡ w = cc (own.1) in
      subst (λ (u : Working). has q.roots u.root ≡ true) same (here k v (subst (λ j. j < 4) own.0 below) works_now))
      (λ other. here n w below other)
      (split q k n (Some (record v { left = left })) w works);
}

pub first_has_roots : FirstHasRoots
first_has_roots number frames ranges = λ n w below works. cc

pub roots_stay : RootsStay
roots_stay p event here = event-always HasRoots turns-have (λ q there. λ n w below works. cc) p event here
