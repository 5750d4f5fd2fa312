-- What a guest's device is once engines were reset, and once it has started over.
use Rattle.std.proofs.Common.{◌≡◌, ◌≢◌, ℕ, ◌<◌, ◌≤◌, ◌&&◌, Bool, true, false, cond, ltb, None, List, [], length, get_or, refl, sym, ap, ◌∙◌, subst, arith, ⊎_elim}
use Rattle.std.proofs.lemmas.Bool.{cases_lt, false≢true}
use Rattle.std.proofs.lemmas.Bool.Decides.{nat_tests}
use Rattle.std.proofs.lemmas.List.{get_or-replicate, get_or_past, length-replicate}
use Rattle.std.proofs.lemmas.Option.{none-some}
use Rattle.gv_types.specs.Memory.{Memory}
use Rattle.gv_entry.specs.Global.{zero_entries}
use Rattle.gv_entry.specs.Ranges.{InParts}
use Rattle.gv_gpu.specs.Device.{Device}
use Rattle.gv_gpu.specs.Part.{guest_part, outside}
use Rattle.gv_gtt.specs.Changes.{Changes}
use Rattle.gv_gtt.specs.Gtt.{frames_of, memory_of, number_of, over, ranges_of}
use Rattle.gv_gtt.specs.Standing.{Translates}
use Rattle.gv_gtt.proofs.Others.{changes_stay_inside}
use Rattle.gv_mmio.specs.Mmio.{SameGuest, at_first, behind, guest_of, ports_at, rest_reset, ranges_of as mmio_ranges}
use Rattle.gv_mmio.specs.Port.{writes_of}
use Rattle.gv_private.specs.Device.{Engine as PrivateEngine, PrivateDevice, function_reset, new_device, reset_engine}
use Rattle.gv_private.specs.Registers.{is_named}
use Rattle.gv_vgpu.specs.Changes.{Keeps, own_live}
use Rattle.gv_vgpu.specs.Vgpu.{element_in, engine_at, engine_in, engines_of, general_in, no_engine, private_of}
use Rattle.gv_vgpu.specs.Reset.{AreReset, are_below, are_named_below, zero_engine}
use Rattle.gv_vgpu.specs.Standing.{HoldsBut, Occupies, OccupiesOn, StandsIdle, StandsOn}
use Rattle.gv_vgpu.specs.declared.engine.Engine.{Engine}
use Rattle.gv_vgpu.specs.declared.vgpu.Vgpu.{Vgpu}
use Rattle.gv_vgpu.proofs.Copies.{comes-gone}
use Rattle.gv_vgpu.proofs.Engines.{none-past}
use Rattle.gv_vgpu.proofs.Kept.{idle-on}
use Rattle.gv_vgpu.proofs.Same.{moves-then, moves-with-tables}

-- ---- one engine of the private device

no-registers : (d : Device) (k : ℕ) (here : Bool) (kept : List ℕ) → (here ≡ true → (n : ℕ) → d.general k n ≡ 0) → ((n : ℕ) → get_or kept n 0 ≡ 0) → general_in d k here kept ≡ (λ n. 0)
no-registers d k true kept zeros none = λ i n. zeros refl n i
no-registers d k false kept zeros none = λ i n. none n i

-- without an element and with zeros
blank-engine : (d : Device) (guest k : ℕ) (here : Bool) (e : Engine) → e.element ≡ None → (here ≡ true → (n : ℕ) → d.general k n ≡ 0) → ((n : ℕ) → get_or e.kept n 0 ≡ 0) → engine_in d guest k here e ≡ reset_engine
blank-engine d guest k here e none zeros kept = λ i. record reset_engine { general = no-registers d k here e.kept zeros kept i; element = element_in d guest k here (none i) }

zeros-kept : (n : ℕ) → get_or zero_engine.kept n 0 ≡ 0
zeros-kept n = ⊎_elim (λ few. get_or-replicate {A = ℕ} 16 n 0 0 few) (λ more. get_or_past zero_engine.kept n 0 (subst (λ m. m ≤ n) (sym (length-replicate {A = ℕ} 16 0)) more)) (cases_lt n 16)

-- there is no fifth
past-engine : (d : Device) (v : Vgpu) (guest k : ℕ) (here : Bool) → 4 ≤ k → here ≡ false → engine_in d guest k here (engine_at v k) ≡ reset_engine
past-engine d v guest k here past away =
    blank-engine d guest k here (engine_at v k) (λ i. (none-past v k past i).element) (λ own. absurd (false≢true (sym away ∙ own))) (λ n. ap (λ (e : Engine). get_or e.kept n 0) (none-past v k past))

-- ---- engines that were reset

module _ (named here : ℕ → Bool) (d e : Device) (old new : Vgpu) (r : AreReset named here d e old new) where
  own-engine : (guest k : ℕ) → k < 4 → named k ≡ true → engine_in e guest k (here k) (engine_at new k) ≡ reset_engine
  own-engine guest k below is =
      let blank : engine_at new k ≡ zero_engine = r.own k below is in
      blank-engine e guest k (here k) (engine_at new k) (λ i. (blank i).element) (λ own n. r.zeros k n is own) (λ n. ap (λ (e : Engine). get_or e.kept n 0) blank ∙ zeros-kept n)

  other-engine : (k : ℕ) → k < 4 → named k ≡ false → engine_in e (number_of old.gtt) k (here k) (engine_at new k) ≡ engine_in d (number_of old.gtt) k (here k) (engine_at old k)
  other-engine k below is =
      (λ i. engine_in e (number_of old.gtt) k (here k) (r.others k is i))
      ∙ (λ i. record reset_engine { general = cond (here k) (r.registers k is i) (λ n. get_or (engine_at old k).kept n 0); element = r.work k below is i })

  -- it has no element then
  own-idle : (k : ℕ) → k < 4 → named k ≡ true → StandsIdle e new k (here k)
  own-idle k below is = subst (λ x. OccupiesOn e new k (here k) x) (λ i. (r.own k below is i).element) (r.occupies.engines k below)

  -- the private device, with memory and engines as they are now
  abbrev with-engines : (ℕ → PrivateEngine) → Memory → PrivateDevice
  with-engines engines memory = record (private_of d old here) { memory = memory; engines = λ k. record (engines k) { writes = writes_of (ports_at old.mmio k).port; slots = (ports_at old.mmio k).slots } }

  private-now : private_of e new here ≡ with-engines (λ k. engine_in e (number_of old.gtt) k (here k) (engine_at new k)) (memory_of d old.gtt)
  private-now =
      (λ i. behind (over (record (new_device 0 0 (ranges_of (r.gtt i))) {
        failsafe = r.failsafe i;
        engines = λ k. engine_in e (number_of (r.gtt i)) k (here k) (engine_at new k);
      }) e (r.gtt i)) (r.mmio i))
      ∙ (λ i. with-engines (λ k. engine_in e (number_of old.gtt) k (here k) (engine_at new k)) (r.memory i))

-- ---- those that are named

module _ (named : List Bool) (here : ℕ → Bool) (d e : Device) (old new : Vgpu) (r : AreReset (are_named_below named 4) here d e old new) (holds : HoldsBut (is_named named) d old here) where
  is-below : (k : ℕ) (b : Bool) → k < 4 → is_named named k ≡ b → are_named_below named 4 k ≡ b
  is-below k b below is = let low : ltb k 4 ≡ true = grind (arith, nat_tests) in ap (λ c. c && is_named named k) low ∙ is

  abbrev engine-of : Device → Vgpu → ℕ → PrivateEngine
  engine-of f v k = record (engine_in f (number_of old.gtt) k (here k) (engine_at v k)) { writes = writes_of (ports_at old.mmio k).port; slots = (ports_at old.mmio k).slots }

  abbrev blank-of : ℕ → PrivateEngine
  blank-of k = record reset_engine { writes = writes_of (ports_at old.mmio k).port; slots = (ports_at old.mmio k).slots }

  engine-below : (k : ℕ) (b : Bool) → k < 4 → is_named named k ≡ b → engine-of e new k ≡ cond b (blank-of k) (engine-of d old k)
  engine-below k true below is = λ i. record (own-engine (are_named_below named 4) here d e old new r (number_of old.gtt) k below (is-below k true below is) i) { writes = writes_of (ports_at old.mmio k).port; slots = (ports_at old.mmio k).slots }
  engine-below k false below is = λ i. record (other-engine (are_named_below named 4) here d e old new r k below (is-below k false below is) i) { writes = writes_of (ports_at old.mmio k).port; slots = (ports_at old.mmio k).slots }

  blank-past : (f : Device) (v : Vgpu) (k : ℕ) → 4 ≤ k → engine-of f v k ≡ blank-of k
  blank-past f v k past = λ i. record (past-engine f v (number_of old.gtt) k (here k) past (holds.occupies.none_above k past) i) { writes = writes_of (ports_at old.mmio k).port; slots = (ports_at old.mmio k).slots }

  engine-past : (k : ℕ) (b : Bool) → 4 ≤ k → engine-of e new k ≡ cond b (blank-of k) (engine-of d old k)
  engine-past k true past = blank-past e new k past
  engine-past k false past = blank-past e new k past ∙ sym (blank-past d old k past)

  engine-now : (k : ℕ) → engine-of e new k ≡ cond (is_named named k) (blank-of k) (engine-of d old k)
  engine-now k = ⊎_elim (λ below. engine-below k (is_named named k) below refl) (λ past. engine-past k (is_named named k) past) (cases_lt k 4)

  pub named-device : private_of e new here ≡ rest_reset named (private_of d old here)
  named-device = private-now (are_named_below named 4) here d e old new r ∙ (λ i. record (private_of d old here) { engines = λ k. engine-now k i })

  stands-now : (k : ℕ) (b : Bool) → k < 4 → is_named named k ≡ b → StandsOn e new k (here k) (engine_at new k).element
  stands-now k true below is =
      subst (λ x. StandsOn e new k (here k) x) (λ i. (sym (r.own k below (is-below k true below is)) i).element) (own-idle (are_named_below named 4) here d e old new r k below (is-below k true below is))
  stands-now k false below is = r.stands k below (is-below k false below is) (holds.others k below is)

  pub named-keeps : Keeps here d e old new
  named-keeps = record {
    holds = record {
      translates = r.translates holds.translates;
      parts = r.occupies.parts;
      number = r.occupies.number;
      ranges = r.occupies.ranges;
      below = r.occupies.below;
      engines = λ k below. stands-now k (is_named named k) below refl;
      beside = r.occupies.beside;
      away = r.occupies.away;
      none_above = r.occupies.none_above;
      sixteen = r.occupies.sixteen;
      kept = r.occupies.kept;
    };
    changes = record {
      number = λ i. number_of (r.gtt i);
      frames = λ i. length (frames_of (r.gtt i)).pages;
      ranges = λ i. ranges_of (r.gtt i);
      outside = r.outside;
      live = r.live;
    };
    copies = r.copies;
  }

-- ---- all of them, and then memory and tables, registers and ports

module _ (here : ℕ → Bool) (d e f : Device) (old mid new : Vgpu) (failsafe : Bool) (occupies : Occupies d old here) (r : AreReset (are_below 4) here d e old mid) (changes : Changes e f mid.gtt new.gtt)
    (engines : new.engines ≡ mid.engines) (same : SameGuest mid.mmio new.mmio) where
  all-below : (k : ℕ) → k < 4 → are_below 4 k ≡ true
  all-below k below = grind (arith, nat_tests)

  engine-same : (k : ℕ) → engine_at new k ≡ engine_at mid k
  engine-same k = λ i. get_or (engines i) k no_engine

  none-below : (k : ℕ) → k < 4 → (engine_at new k).element ≡ None
  none-below k below = (λ i. (engine-same k i).element) ∙ (λ i. (r.own k below (all-below k below) i).element)

  none-at : (k : ℕ) → (engine_at new k).element ≡ None
  none-at k = ⊎_elim (λ below. none-below k below) (λ past. (λ i. (none-past new k past i).element)) (cases_lt k 4)

  kept-zeros : (k n : ℕ) → get_or (engine_at new k).kept n 0 ≡ 0
  kept-zeros k n = ⊎_elim
      (λ below. ap (λ (e : Engine). get_or e.kept n 0) (engine-same k ∙ r.own k below (all-below k below)) ∙ zeros-kept n)
      (λ past. ap (λ (e : Engine). get_or e.kept n 0) (none-past new k past)) (cases_lt k 4)

  zeros-now : (k : ℕ) → here k ≡ true → (n : ℕ) → f.general k n ≡ 0
  zeros-now k own n = (λ i. (changes.outside i).general k n) ∙ ⊎_elim
      (λ below. r.zeros k n (all-below k below) own)
      (λ past. absurd (false≢true (sym (occupies.none_above k past) ∙ own))) (cases_lt k 4)

  engine-blank : (guest k : ℕ) → engine_in f guest k (here k) (engine_at new k) ≡ reset_engine
  engine-blank guest k = blank-engine f guest k (here k) (engine_at new k) (none-at k) (zeros-now k) (kept-zeros k)

  ranges-mid : ranges_of mid.gtt ≡ mmio_ranges old.mmio
  ranges-mid = (λ i. ranges_of (r.gtt i)) ∙ sym occupies.ranges

  pub over-device : new.failsafe ≡ failsafe → ((p : PrivateDevice) → over p f new.gtt ≡ record (over p e mid.gtt) { entries = zero_entries (ranges_of mid.gtt); roots = [] })
      → ((p : PrivateDevice) → behind p new.mmio ≡ at_first p (guest_of mid.mmio) (mmio_ranges mid.mmio)) → private_of f new here ≡ record (function_reset (private_of d old here)) { failsafe = failsafe }
  over-device sets tables registers =
      registers (over (engines_of f new here) f new.gtt)
      ∙ (λ i. at_first (tables (engines_of f new here) i) (guest_of mid.mmio) (mmio_ranges mid.mmio))
      ∙ (λ i. record (function_reset (private_of d old here)) {
        number = guest_of (r.mmio i);
        ranges = mmio_ranges (r.mmio i);
        memory = memory_path i;
        entries = zero_entries (ranges-mid i);
        failsafe = sets i;
        engines = λ k. engine-blank (number_of new.gtt) k i;
      })
    where
      memory_path : memory_of e mid.gtt ≡ memory_of d old.gtt
      memory_path = (λ i. memory_of e (r.gtt i)) ∙ r.memory

  number-same : number_of new.gtt ≡ number_of old.gtt
  number-same = (λ i. (changes.frames i).guest) ∙ (λ i. number_of (r.gtt i))

  frames-same : length (frames_of new.gtt).pages ≡ length (frames_of mid.gtt).pages
  frames-same = λ i. length (changes.frames i).pages

  ranges-same : ranges_of new.gtt ≡ ranges_of old.gtt
  ranges-same = changes.ranges ∙ (λ i. ranges_of (r.gtt i))

  idle-now : (k : ℕ) → k < 4 → StandsOn f new k (here k) (engine_at new k).element
  idle-now k below = subst (λ x. StandsOn f new k (here k) x) (sym (none-below k below))
      (idle-on e f mid new k (here k) r.occupies.parts changes (own-idle (are_below 4) here d e old mid r k below (all-below k below)))

  pub over-keeps : Translates f new.gtt → Keeps here d f old new
  over-keeps translates = record {
    holds = record {
      translates = translates;
      parts = subst InParts (sym ranges-same) occupies.parts;
      number = same.guest ∙ (λ i. guest_of (r.mmio i)) ∙ occupies.number ∙ sym number-same;
      ranges = same.ranges ∙ (λ i. mmio_ranges (r.mmio i)) ∙ occupies.ranges ∙ sym ranges-same;
      below = subst (λ g. g < 8) (sym number-same) occupies.below;
      engines = idle-now;
      beside = λ j k x y differ is also. absurd (none-some x (sym (none-at j) ∙ is));
      away = λ k below other l is. subst (λ g. l.owner ≢ g) (sym (λ i. (changes.frames i).guest)) (r.occupies.away k below other l ((λ i. (sym changes.outside i).loaded k) ∙ is));
      none_above = occupies.none_above;
      sixteen = λ k n own above. zeros-now k own n;
      kept = λ k below. ap (λ (e : Engine). length e.kept) (engine-same k) ∙ r.occupies.kept k below;
    };
    changes = record {
      number = number-same;
      frames = frames-same ∙ (λ i. length (frames_of (r.gtt i)).pages);
      ranges = ranges-same;
      outside = subst (λ g. outside (guest_part (number_of g) (ranges_of g) here) f ≡ outside (guest_part (number_of g) (ranges_of g) here) e) r.gtt (changes_stay_inside e f mid.gtt new.gtt here changes) ∙ r.outside;
      live = moves-then d e f (own_live old) (own_live mid) (own_live new) r.live (moves-with-tables mid new (λ k i. (engine-same k i).element) e f frames-same changes.live);
    };
    copies = comes-gone d f old new none-at;
  }
