-- A guest is told a reason exactly where it enters failsafe.
use Rattle.std.proofs.Common.{◌≡◌, ℕ, ◌+◌, ◌*◌, ◌/◌, ◌%◌, ◌^◌, Bool, true, false, not, List, [], ◌∷◌, Option, None, Some, Result, Ok, Err, cond, length, refl, ap, eqb, ltb}
use Rattle.std.specs.Prelude.{MatchOption, IfOk}
use Rattle.std.specs.Option.{option_or}
use Rattle.gv_types.specs.Memory.{memory_write}
use Rattle.gv_types.specs.declared.event.Event.TheVariants.{Read, Write, Turn, Switch, Move, Reset}
use Rattle.gv_types.specs.declared.event.Place.{Place}
use Rattle.gv_types.specs.declared.event.Place.TheVariants as places
use Rattle.gv_types.specs.declared.event.Width.{Width}
use Rattle.gv_types.specs.declared.event.Width.TheVariants.{Four, Eight}
use Rattle.gv_types.specs.declared.reply.Outcome.TheVariants as outcomes
use Rattle.gv_types.specs.declared.reply.Reason.{Reason}
use Rattle.gv_types.specs.declared.reply.Reason.TheVariants.{Entry, Command}
use Rattle.gv_cmd.specs.Allowed.{is_allowed}
use Rattle.gv_cmd.specs.Command.{decoded}
use Rattle.gv_cmd.specs.declared.command.Unlisted.{Unlisted}
use Rattle.gv_csb.specs.Slots.{submitted, submission_answer, completion_events}
use Rattle.gv_csb.specs.declared.status.Status.{Status}
use Rattle.gv_ctx.specs.Descriptor.{descriptor_of}
use Rattle.gv_entry.specs.Tables.{has_bad_entry}
use Rattle.gv_fetch.specs.Fetch.{check}
use Rattle.gv_fetch.specs.Left.{is_done, stands_of}
use Rattle.gv_regs.specs.Table.{target_at}
use Rattle.gv_regs.specs.declared.effect.Target.{Target}
use Rattle.gv_regs.specs.declared.effect.Target.TheVariants.{Own, Elsp, Status as StatusPair, StatusPointer, General, Interrupts, EngineReset, Notify, Absent}
use Rattle.gv_private.specs.Access.{table_at, table_written, aperture_written, dwords_written, range_written, value_written}
use Rattle.gv_private.specs.Device.{PrivateDevice, Working, Written, with_slots, and_then, quietly, fails, failed}
use Rattle.gv_private.specs.Laws.{FailsafeIsTold}
use Rattle.gv_private.specs.Load.{loaded}
use Rattle.gv_private.specs.Registers.{dword_written_by, dword_written}
use Rattle.gv_private.specs.Roots.{with_root, without_root, is_at_work, left_or_failed, root_created, root_destroyed, named_root, notify_written}
use Rattle.gv_private.specs.Space.{PrivateSpace}
use Rattle.gv_private.specs.Status.{bit_raised, bits_raised, user_interrupt, notify, event_given, events_given}
use Rattle.gv_private.specs.Submission.{starting_events, list_submitted, with_writes, port_written_after}
use Rattle.gv_private.specs.Turn.{Turned, turned_as, front_words, front_effect, ran_after, run_by, command_by, tail_written, without_front, finished, load_by, next_by, turned_by}
use Rattle.gv_private.proofs.Keeps.{loaded-good}
use Rattle.gv_types.specs.Bits.{has_bit}
use Rattle.std.specs.List.{filter}

module _ (p : PrivateDevice) where
  -- as p is, in failsafe or not
  abbrev Stays : PrivateDevice → Type 0
  Stays q = q.failsafe ≡ p.failsafe

  abbrev Told : Written → Type 0
  Told w = MatchOption w.reason (w.device.failsafe ≡ p.failsafe) (λ reason. w.device ≡ failed w.device)

  either : (b : Bool) (x y : Written) → Told x → Told y → Told (cond b x y)
  either true x y first second = first
  either false x y first second = second

  -- the first one didn't fail
  not_failed : (reason : Option Reason) (q : PrivateDevice) → q.failsafe ≡ false → MatchOption reason (q.failsafe ≡ p.failsafe) (λ r. q ≡ failed q) → Stays q
  not_failed None q live told = told
  not_failed (Some r) q live told = let on = ap (λ (t : PrivateDevice). t.failsafe) told in cc

  then_by : (first : Written) (next : PrivateDevice → Written) (b : Bool) → first.device.failsafe ≡ b → Told first → ((q : PrivateDevice) → Stays q → Told (next q)) → Told (cond b first (record (next first.device) { irq = option_or first.irq (next first.device).irq }))
  then_by first next true is told further = told
  then_by first next false is told further = further first.device (not_failed first.reason first.device is told)

  then_told : (first : Written) (next : PrivateDevice → Written) → Told first → ((q : PrivateDevice) → Stays q → Told (next q)) → Told (and_then first next)
  then_told first next told further = then_by first next first.device.failsafe refl told further

  events_told : (q : PrivateDevice) (engine : ℕ) (events : List Status) → Stays q → Told (events_given q engine events)
  events_told q engine [] here = here
  events_told q engine (status ∷ more) here = then_told (event_given q engine status) (λ r. events_given r engine more) here (λ r there. events_told r engine more there)

  bits_told : (q : PrivateDevice) (engine : ℕ) (bits : List ℕ) → Stays q → Told (bits_raised q engine bits)
  bits_told q engine [] here = here
  bits_told q engine (n ∷ more) here = then_told (bit_raised q engine n) (λ r. bits_raised r engine more) here (λ r there. bits_told r engine more there)

  list_told : (q : PrivateDevice) (engine first second : ℕ) → Stays q → Told (list_submitted q engine first second)
  list_told q engine first second here =
      events_told (with_slots q engine (submitted (q.engines engine).slots first second)) engine (starting_events (submission_answer (q.engines engine).slots first)) here

  port_told : (writes : List ℕ) (q : PrivateDevice) (engine value : ℕ) → Stays q → Told (port_written_after writes q engine value)
  port_told [] q engine value here = here
  port_told (a ∷ []) q engine value here = here
  port_told (a ∷ b ∷ []) q engine value here = here
  port_told (a ∷ b ∷ c ∷ []) q engine value here = list_told (with_writes q engine []) engine (c * 2 ^ 32 + value) (a * 2 ^ 32 + b) here
  port_told (a ∷ b ∷ c ∷ d ∷ more) q engine value here = here

  created_by : (b c : Bool) (q : PrivateDevice) (root : ℕ) → Stays q → Told (left_or_failed q (check b Entry (check c Entry (Ok (record q { roots = with_root q.roots root })))))
  created_by false c q root here = refl
  created_by true false q root here = refl
  created_by true true q root here = here

  destroyed_by : (b : Bool) (q r : PrivateDevice) → Stays q → Stays r → Told (quietly (cond b q r))
  destroyed_by true q r first second = first
  destroyed_by false q r first second = second

  notify_told : (q : PrivateDevice) (value : ℕ) → Stays q → Told (notify_written q value)
  notify_told q value here =
      either (eqb value 4) (root_created q (named_root q)) (cond (eqb value 5) (quietly (root_destroyed q (named_root q))) (quietly q))
      (created_by (ltb (named_root q) (length q.memory)) (not (has_bad_entry q.memory (with_root q.roots (named_root q)))) q (named_root q) here)
      (either (eqb value 5) (quietly (root_destroyed q (named_root q))) (quietly q)
      (destroyed_by (is_at_work q (named_root q)) q (record q { roots = without_root q.roots (named_root q) }) here here) here)

  dword_by : (target : Target) (q : PrivateDevice) (offset value : ℕ) → Stays q → Told (dword_written_by target q offset value)
  dword_by Interrupts q offset value here = here
  dword_by (Elsp engine) q offset value here = port_told (q.engines engine.0).writes q engine.0 value here
  dword_by (StatusPointer engine) q offset value here = here
  dword_by (General engine n) q offset value here = here
  dword_by EngineReset q offset value here = here
  dword_by Notify q offset value here = notify_told q value here
  dword_by Own q offset value here = here
  dword_by (StatusPair engine n) q offset value here = here
  dword_by Absent q offset value here = here

  dwords_told : (q : PrivateDevice) (width : Width) (offset value : ℕ) → Stays q → Told (dwords_written q width offset value)
  dwords_told q Four offset value here = dword_by (target_at offset) q offset value here
  dwords_told q Eight offset value here =
      then_told (dword_written q offset (value % 2 ^ 32)) (λ r. dword_written r (offset + 4) (value / 2 ^ 32))
      (dword_by (target_at offset) q offset (value % 2 ^ 32) here)
      (λ r there. dword_by (target_at (offset + 4)) r (offset + 4) (value / 2 ^ 32) there)

  write_told : (place : Place) (width : Width) (at value : ℕ) → Told (value_written p place width at value)
  write_told places.Memory width at value =
      let r = record p { memory = memory_write p.memory width at value } in
      either (has_bad_entry r.memory r.roots) (fails r Entry) (quietly r) refl refl
  write_told places.Registers width at value =
      either p.failsafe (quietly p) (range_written p width at value) refl
      (either (ltb at table_at) (dwords_written p width at value) (quietly (table_written p width at value)) (dwords_told p width at value refl) refl)
  write_told places.Aperture width at value = either p.failsafe (quietly p) (quietly (aperture_written p width at value)) refl refl

  -- ---- turns

  turn_either : (b : Bool) (x y : Turned) → Told x.left → Told y.left → Told (cond b x y).left
  turn_either true x y first second = first
  turn_either false x y first second = second

  run_told : (engine : ℕ) (w : Working) (ws : List ℕ) (dwords : ℕ) (s : PrivateSpace) (raise : Option ℕ) → Told (run_by p engine w ws dwords s raise).left
  run_told engine w ws dwords s None = refl
  run_told engine w ws dwords s (Some bits) = bits_told (ran_after p engine w ws dwords s) engine (filter (has_bit bits) (user_interrupt ∷ notify ∷ [])) refl

  command_told : (engine : ℕ) (w : Working) (r : Result (List ℕ × ℕ) Unlisted) → Told (command_by p engine w r).left
  command_told engine w (Err unlisted) = refl
  command_told engine w (Ok (ws, dwords)) =
      let e = front_effect p engine w ws in
      turn_either (is_allowed ws (stands_of w.left) engine) (run_by p engine w ws dwords e.after e.raise) (turned_as outcomes.Failed (fails p Command)) (run_told engine w ws dwords e.after e.raise) refl

  finished_told : (engine : ℕ) (w : Working) → Told (finished p engine w)
  finished_told engine w = events_told (without_front (tail_written p engine w) engine) engine (completion_events (p.engines engine).slots.running (p.engines engine).slots.pending) refl

  load_told : (r : Result PrivateDevice Reason) → IfOk r Stays → Told (load_by p r).left
  load_told (Ok q) good = good
  load_told (Err reason) good = refl

  next_told : (engine : ℕ) (running : List ℕ) → Told (next_by p engine running).left
  next_told engine [] = refl
  next_told engine (descriptor ∷ more) = load_told (loaded p engine descriptor) (loaded-good Stays engine (λ q root here. here) (λ q w there here. here) p (descriptor_of descriptor) refl)

  by_told : (engine : ℕ) (element : Option Working) → Told (turned_by p engine element).left
  by_told engine None = next_told engine (p.engines engine).slots.running
  by_told engine (Some w) =
      turn_either (is_done w.left) (turned_as outcomes.Ended (finished p engine w)) (command_by p engine w (decoded (front_words p engine w))) (finished_told engine w) (command_told engine w (decoded (front_words p engine w)))

pub failsafe_is_told : FailsafeIsTold
failsafe_is_told p (Read guest place width at) other = refl
failsafe_is_told p (Write guest place width at value) other = write_told p place width at value
failsafe_is_told p (Turn engine) other = turn_either p p.failsafe (turned_as outcomes.Idle (quietly p)) (turned_by p engine.0 (p.engines engine.0).element) refl (by_told p engine.0 (p.engines engine.0).element)
failsafe_is_told p (Switch engine) other = refl
failsafe_is_told p (Move guest frame) other = refl
failsafe_is_told p (Reset guest) other = cc
