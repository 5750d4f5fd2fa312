-- Two writes one after the other, and those at which the device may fault.
use Rattle.std.proofs.Common.{◌≡◌, ℕ, ◌+◌, ◌<◌, ◌⊎◌, inl, inr, nat_lt, ◌==◌, not, Bool, true, false, List, [], ◌∷◌, Option, None, Ok, is_some, length, if◌then◌else◌, refl, sym, ◌∙◌, subst, arith}
use Rattle.std.specs.Prelude.{IsSome}
use Rattle.std.specs.Option.{option_or}
use Rattle.std.proofs.lemmas.Bool.{false≢true}
use Rattle.std.proofs.lemmas.Bool.Decides.{nat_tests}
use Rattle.gv_types.specs.declared.event.Place.TheVariants.{Registers}
use Rattle.gv_types.specs.declared.event.Width.{Width}
use Rattle.gv_types.specs.declared.event.Width.TheVariants.{Four, Eight}
use Rattle.gv_types.specs.declared.reply.Reason.TheVariants.{Entry}
use Rattle.gv_entry.specs.Tables.{has_bad_entry}
use Rattle.gv_csb.specs.Slots.{submission_answer}
use Rattle.gv_csb.specs.Status.{idle_to_active}
use Rattle.gv_csb.specs.declared.slots.Submitted.{Submitted}
use Rattle.gv_csb.specs.declared.slots.Submitted.TheVariants.{Dropped, Accepted}
use Rattle.gv_fetch.specs.Fetch.{check}
use Rattle.gv_gpu.specs.Device.{Device}
use Rattle.gv_regs.specs.Table.{target_at}
use Rattle.gv_regs.specs.declared.effect.Target.{Target}
use Rattle.gv_regs.specs.declared.effect.Target.TheVariants.{Own, Elsp, Status as StatusPair, StatusPointer, General, Interrupts, EngineReset, Notify, Absent}
use Rattle.gv_private.specs.Access.{dwords_written, range_written, table_at, table_written, value_written}
use Rattle.gv_private.specs.Device.{PrivateDevice, Written, and_then, quietly}
use Rattle.gv_private.specs.Registers.{dword_written, dword_written_by}
use Rattle.gv_private.specs.Roots.{left_or_failed, named_root, notify_written, root_created, root_destroyed, with_root}
use Rattle.gv_private.specs.Status.{events_given}
use Rattle.gv_private.specs.Submission.{port_written_after, starting_events, with_writes}
use Rattle.gv_vgpu.specs.Changes.{Makes}
use Rattle.gv_vgpu.specs.Listed.{MayFault, MayFaultAt, ReachesReset}
use Rattle.gv_vgpu.specs.Vgpu.{private_of}
use Rattle.gv_vgpu.specs.Pair.{pair_written}
use Rattle.gv_vgpu.specs.declared.vgpu.Vgpu.{Vgpu}
use Rattle.gv_vgpu.specs.declared.notice.Notice.{Notice}
use Rattle.gv_vgpu.proofs.Registers.{keeps-then}
use Rattle.gv_vgpu.proofs.Runs.{one-event}

-- ---- one after the other

module _ (here : ℕ → Bool) (d e : Device) (old middle : Vgpu) (w : Written) (next : PrivateDevice → Written) (first : Notice) (makes : Makes here d e old middle w first) where
  fails-as : w.device.failsafe ≡ middle.failsafe
  fails-as = λ i. (makes.written i).device.failsafe

  -- the first fails
  pub first-alone : middle.failsafe ≡ true → Makes here d e old middle (and_then w next) first
  first-alone failed = record {
    written = (λ i. if (fails-as ∙ failed) i then w else record (next w.device) { irq = option_or w.irq (next w.device).irq }) ∙ makes.written;
    keeps = makes.keeps;
  }

  -- it doesn't
  pub both :
      (f : Device) (last : Vgpu) (second notice : Notice) → middle.failsafe ≡ false → Makes here e f middle last (next (private_of e middle here)) second
      → notice.irq ≡ option_or first.irq second.irq → notice.failsafe ≡ second.failsafe → Makes here d f old last (and_then w next) notice
  both f last second notice awake after irq reason = record {
    written =
        (λ i. if (fails-as ∙ awake) i then w else record (next w.device) { irq = option_or w.irq (next w.device).irq })
        ∙ (λ i. record (next (makes.written i).device) { irq = option_or (makes.written i).irq (next (makes.written i).device).irq })
        ∙ (λ i. record (after.written i) { irq = option_or first.irq (after.written i).irq })
        ∙ (λ i. record { device = private_of f last here; irq = sym irq i; reason = sym reason i });
    keeps = keeps-then here d e f old middle last makes.keeps after.keeps;
  }

  pub second-reason : middle.failsafe ≡ false → IsSome (next (private_of e middle here)).reason → IsSome (and_then w next).reason
  second-reason awake some =
      (λ i. is_some (if (fails-as ∙ awake) i then w else record (next w.device) { irq = option_or w.irq (next w.device).irq }).reason)
      ∙ (λ i. is_some (next (makes.written i).device).reason)
      ∙ some

pub first-reason : (w : Written) (next : PrivateDevice → Written) → w.device.failsafe ≡ true → IsSome w.reason → IsSome (and_then w next).reason
first-reason w next failed some = (λ i. is_some (if failed i then w else record (next w.device) { irq = option_or w.irq (next w.device).irq }).reason) ∙ some

-- ---- a guest of which there is a reason is in failsafe

starts-quietly : (p : PrivateDevice) (engine : ℕ) (answer : Submitted) → (events_given p engine (starting_events answer)).reason ≡ None
starts-quietly p engine (Accepted true) = λ i. (one-event p engine idle_to_active i).reason
starts-quietly p engine (Accepted false) = refl
starts-quietly p engine Dropped = refl

port-quietly : (writes : List ℕ) (p : PrivateDevice) (engine value : ℕ) → (port_written_after writes p engine value).reason ≡ None
port-quietly [] p engine value = refl
port-quietly (a ∷ []) p engine value = refl
port-quietly (a ∷ b ∷ []) p engine value = refl
port-quietly (a ∷ b ∷ c ∷ []) p engine value = starts-quietly _ engine (submission_answer ((with_writes p engine []).engines engine).slots _)
port-quietly (a ∷ b ∷ c ∷ d ∷ more) p engine value = refl

none-some : {A : Type 0} (o : Option A) (P : Type 0) → o ≡ None → IsSome o → P
none-some o P none some = absurd (false≢true (sym (λ i. is_some (none i)) ∙ some))

created-fails : (a b : Bool) (p : PrivateDevice) (roots : List ℕ) → IsSome (left_or_failed p (check a Entry (check b Entry (Ok (record p { roots = roots }))))).reason
    → (left_or_failed p (check a Entry (check b Entry (Ok (record p { roots = roots }))))).device.failsafe ≡ true
created-fails false b p roots some = refl
created-fails true false p roots some = refl
created-fails true true p roots some = absurd (false≢true some)

notify-fails : (p : PrivateDevice) (value : ℕ) → IsSome (notify_written p value).reason → (notify_written p value).device.failsafe ≡ true
notify-fails p value some = choose (value == 4) (value == 5) some
  where
    choose : (a b : Bool) → IsSome (if a then root_created p (named_root p) else (if b then quietly (root_destroyed p (named_root p)) else quietly p)).reason
        → (if a then root_created p (named_root p) else (if b then quietly (root_destroyed p (named_root p)) else quietly p)).device.failsafe ≡ true
    choose true b is = created-fails (nat_lt (named_root p) (length p.memory)) (not (has_bad_entry p.memory (with_root p.roots (named_root p)))) p (with_root p.roots (named_root p)) is
    choose false true is = absurd (false≢true is)
    choose false false is = absurd (false≢true is)

dword-fails : (target : Target) (p : PrivateDevice) (offset value : ℕ) → IsSome (dword_written_by target p offset value).reason → (dword_written_by target p offset value).device.failsafe ≡ true
dword-fails Interrupts p offset value some = absurd (false≢true some)
dword-fails (Elsp engine) p offset value some = none-some (port_written_after (p.engines engine.0).writes p engine.0 value).reason _ (port-quietly (p.engines engine.0).writes p engine.0 value) some
dword-fails (StatusPointer engine) p offset value some = absurd (false≢true some)
dword-fails (General engine n) p offset value some = absurd (false≢true some)
dword-fails EngineReset p offset value some = absurd (false≢true some)
dword-fails Notify p offset value some = notify-fails p value some
dword-fails Own p offset value some = absurd (false≢true some)
dword-fails (StatusPair engine n) p offset value some = absurd (false≢true some)
dword-fails Absent p offset value some = absurd (false≢true some)

-- ---- faults

pub faults-first : (p : PrivateDevice) (offset low high : ℕ) → MayFaultAt p offset low → ReachesReset Eight offset ⊎ IsSome (pair_written p offset low high).reason
faults-first p offset low high (inl reset) = inl (inl reset)
faults-first p offset low high (inr some) = inr (first-reason (dword_written p offset low) (λ q. dword_written q (offset + 4) high) (dword-fails (target_at offset) p offset low some) some)

pub faults-second :
    (here : ℕ → Bool) (d e : Device) (old middle : Vgpu) (offset low high : ℕ) (first : Notice) → Makes here d e old middle (dword_written (private_of d old here) offset low) first → middle.failsafe ≡ false
    → MayFaultAt (private_of e middle here) (offset + 4) high → ReachesReset Eight offset ⊎ IsSome (pair_written (private_of d old here) offset low high).reason
faults-second here d e old middle offset low high first makes awake (inl reset) = inl (inr reset)
faults-second here d e old middle offset low high first makes awake (inr some) =
    inr (second-reason here d e old middle (dword_written (private_of d old here) offset low) (λ q. dword_written q (offset + 4) high) first makes awake some)

-- out of failsafe a write of the registers is one of dwords
awake-written : (p : PrivateDevice) (width : Width) (at value : ℕ) → p.failsafe ≡ false → at < table_at → value_written p Registers width at value ≡ dwords_written p width at value
awake-written p width at value awake below =
    (λ i. if awake i then quietly p else range_written p width at value)
    ∙ (λ i. if low i then dwords_written p width at value else quietly (table_written p width at value))
  where
    low : nat_lt at table_at ≡ true
    low = grind (arith, nat_tests)

pub faults-four : (p : PrivateDevice) (width : Width) (at value : ℕ) → width ≡ Four → p.failsafe ≡ false → at < table_at → MayFaultAt p at value → MayFault p Registers width at value
faults-four p width at value is awake below may = subst (λ w. MayFault p Registers w at value) (sym is) (choose may)
  where
    choose : MayFaultAt p at value → MayFault p Registers Four at value
    choose (inl reset) = inl reset
    choose (inr some) = inr ((λ i. is_some (awake-written p Four at value awake below i).reason) ∙ some)

pub faults-eight :
    (p : PrivateDevice) (width : Width) (at value low high : ℕ) → width ≡ Eight → p.failsafe ≡ false → at < table_at → dwords_written p Eight at value ≡ pair_written p at low high
    → ReachesReset Eight at ⊎ IsSome (pair_written p at low high).reason → MayFault p Registers width at value
faults-eight p width at value low high is awake below same may = subst (λ w. MayFault p Registers w at value) (sym is) (choose may)
  where
    choose : ReachesReset Eight at ⊎ IsSome (pair_written p at low high).reason → MayFault p Registers Eight at value
    choose (inl reset) = inl reset
    choose (inr some) = inr ((λ i. is_some (awake-written p Eight at value awake below i).reason) ∙ (λ i. is_some (same i).reason) ∙ some)
