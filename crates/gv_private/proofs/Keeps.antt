-- What holds of a device after each small change holds after every access and every turn.
use Rattle.std.proofs.Common.{◌≡◌, ℕ, ◌+◌, ◌*◌, ◌/◌, ◌%◌, ◌^◌, Bool, true, false, List, [], ◌∷◌, ◌++◌, Option, None, Some, Result, Ok, Err, not, ◌&&◌, cond, length, refl, sym, ap, ◌∙◌, eqb, ltb}
use Rattle.std.specs.Prelude.{IfOk}
use Rattle.std.proofs.lemmas.Bool.{eq-eqb, eqb-true, or_left, or_right}
use Rattle.std.proofs.lemmas.List.{length-set}
use Rattle.std.specs.Option.{option_or}
use Rattle.gv_types.specs.Maps.{put}
use Rattle.gv_types.specs.Memory.{Memory, memory_write, with_value}
use Rattle.gv_types.specs.declared.event.Event.{Event}
use Rattle.gv_types.specs.declared.event.Event.TheVariants.{Read, Write, Turn, Switch, Move, Reset}
use Rattle.gv_types.specs.declared.event.Place.{Place}
use Rattle.gv_types.specs.declared.event.Place.TheVariants as places
use Rattle.gv_types.specs.declared.event.Width.{Width}
use Rattle.gv_types.specs.declared.event.Width.TheVariants.{Four, Eight}
use Rattle.gv_types.specs.declared.reply.Reason.{Reason}
use Rattle.gv_types.specs.declared.reply.Reason.TheVariants.{Entry, Context, Range, Command}
use Rattle.gv_types.specs.declared.reply.Outcome.TheVariants as outcomes
use Rattle.gv_entry.specs.Global.{with_entry, global_entry}
use Rattle.gv_entry.specs.Ranges.{owns_page}
use Rattle.gv_entry.specs.SameTables.{has}
use Rattle.gv_entry.specs.Tables.{has_bad_entry}
use Rattle.gv_irq.specs.Irq.{Interrupts, raised, irq_written, interrupt_bit}
use Rattle.gv_csb.specs.Slots.{Execlists, pushed, submitted, submission_answer, pointer_written, completed, completion_events}
use Rattle.gv_csb.specs.declared.status.Status.{Status}
use Rattle.gv_cmd.specs.Allowed.{is_allowed}
use Rattle.gv_cmd.specs.Command.{decoded}
use Rattle.gv_cmd.specs.declared.command.Unlisted.{Unlisted}
use Rattle.gv_ctx.specs.Descriptor.{descriptor_of}
use Rattle.gv_ctx.specs.declared.descriptor.Descriptor.{Descriptor}
use Rattle.gv_ctx.specs.declared.image.Image.{Image}
use Rattle.gv_fetch.specs.Fetch.{check, then, fetched}
use Rattle.gv_fetch.specs.Items.{Items}
use Rattle.gv_fetch.specs.Left.{Left, is_done, is_privileged, moved, stands_of}
use Rattle.gv_regs.specs.Registers.{register_written}
use Rattle.gv_regs.specs.Table.{target_at, engines_reset}
use Rattle.gv_regs.specs.declared.effect.Target.{Target}
use Rattle.gv_regs.specs.declared.effect.Target.TheVariants.{Own, Elsp, Status as StatusPair, StatusPointer, General, Interrupts as InterruptTarget, EngineReset, Notify, Absent}
use Rattle.gv_private.specs.Access.{table_at, page_at, entry_after, table_written, aperture_frame, aperture_written, memory_written, dwords_written, range_written, value_written}
use Rattle.gv_private.specs.Device.{Engine, PrivateDevice, Working, Written, with_engine, with_slots, with_element, and_then, quietly, fails, failed, function_reset}
use Rattle.gv_private.specs.Inputs.{answer}
use Rattle.gv_private.specs.Grants.{frame_written, global_written}
use Rattle.gv_private.specs.Load.{global_space, image_in, work_of, fetched_into, loaded_by, loaded}
use Rattle.gv_private.specs.Registers.{with_general, engines_are_reset, dword_written_by, dword_written}
use Rattle.gv_private.specs.Roots.{with_root, announced, left_or_failed, root_created, root_destroyed, named_root, notify_written}
use Rattle.gv_private.specs.Space.{PrivateSpace, space_of, with_space}
use Rattle.gv_private.specs.Status.{bit_raised, bits_raised, status_at, in_ring, event_given, events_given, context_switch}
use Rattle.gv_private.specs.Submission.{starting_events, list_submitted, with_writes, port_written_after}
use Rattle.gv_private.specs.Turn.{Turned, turned_as, front_words, front_effect, ran_after, run_by, command_by, tail_written, without_front, finished, load_by, next_by, turned_by, turned}
use Rattle.gv_private.proofs.Effects.{Reached, effect-reached}

-- ---- lengths

with_value-length : (m : Memory) (width : Width) (at value : ℕ) → length (with_value m width at value) ≡ length m
with_value-length m Four at value = length-set m _ _
with_value-length m Eight at value = length-set m _ _

pub frame_written-length : (m : Memory) (width : Width) (at value : ℕ) (grant : Option ℕ) → length (frame_written m width at value grant) ≡ length m
frame_written-length m width at value None = refl
frame_written-length m width at value (Some frame) = with_value-length m width _ value

write-length : (b : Bool) (m n : Memory) → length n ≡ length m → length (cond b n m) ≡ length m
write-length true m n same = same
write-length false m n same = refl

-- ---- small changes

pub record KeptByEvents (P : PrivateDevice → Type 0) : Type 0 where
  pub interrupts : (q : PrivateDevice) (interrupts : Interrupts) → P q → P (record q { interrupts = interrupts })
  pub slots : (q : PrivateDevice) (engine : ℕ) (slots : Execlists) → P q → P (with_slots q engine slots)
  pub granted : (q : PrivateDevice) (at value : ℕ) → P q → P (global_written q at value)

pub record KeptByAccesses (P : PrivateDevice → Type 0) (May : ℕ → Type 0) : Type 0 where
  pub events : KeptByEvents P
  pub memory : (q : PrivateDevice) (m : Memory) → length m ≡ length q.memory → P q → P (record q { memory = m })
  pub entries : (q : PrivateDevice) (entries : List ℕ) → P q → P (record q { entries = entries })
  pub registers : (q : PrivateDevice) (registers : ℕ → ℕ) → P q → P (record q { registers = registers })
  pub writes : (q : PrivateDevice) (engine : ℕ) (writes : List ℕ) → P q → P (with_writes q engine writes)
  pub general : (q : PrivateDevice) (engine : ℕ) (general : ℕ → ℕ) → P q → P (with_engine q engine (record (q.engines engine) { general = general }))
  pub announced : (q : PrivateDevice) (root : ℕ) → P q → P (record q { roots = with_root q.roots root })
  pub destroyed : (q : PrivateDevice) (root : ℕ) → P q → P (root_destroyed q root)
  pub reset : (q : PrivateDevice) (value : ℕ) → May value → P q → P (engines_are_reset (engines_reset value) q)
  pub failed : (q : PrivateDevice) → P q → P (failed q)

pub record KeptByTurns (P : PrivateDevice → Type 0) (May : ℕ → Type 0) (engine : ℕ) : Type 0 where
  pub accesses : KeptByAccesses P May
  pub gone : (q : PrivateDevice) → P q → P (with_element q engine None)
  pub begun : (q : PrivateDevice) (w : Working) → has q.roots w.root ≡ true → P q → P (with_element q engine (Some w))
  pub moved : (q : PrivateDevice) (w : Working) (left : Left) → (q.engines engine).element ≡ Some w → P q → P (with_element q engine (Some (record w { left = left })))

-- ---- one after another

pub either-keeps : (P : PrivateDevice → Type 0) (b : Bool) (x y : Written) → P x.device → P y.device → P (cond b x y).device
either-keeps P true x y first second = first
either-keeps P false x y first second = second

pub and_then-keeps : (P : PrivateDevice → Type 0) (first : Written) (next : PrivateDevice → Written) → P first.device → ((q : PrivateDevice) → P q → P (next q).device) → P (and_then first next).device
and_then-keeps P first next here there =
    either-keeps P first.device.failsafe first (record (next first.device) { irq = option_or first.irq (next first.device).irq }) here (there first.device here)

-- ---- events

event-keeps : (P : PrivateDevice → Type 0) → KeptByEvents P → (q : PrivateDevice) (engine : ℕ) (status : Status) → P q → P (event_given q engine status).device
event-keeps P kept q engine status here =
    let r = in_ring q engine status in
    let index = (r.engines engine).slots.write in
    let one = global_written r (status_at r engine (0x10 + 2 * index)) status.word in
    let two = global_written one (status_at r engine (0x11 + 2 * index)) status.number in
    let three = global_written two (status_at r engine 0x1F) index in
    kept.interrupts three (raised three.interrupts (interrupt_bit engine context_switch))
    (kept.granted two (status_at r engine 0x1F) index
    (kept.granted one (status_at r engine (0x11 + 2 * index)) status.number
    (kept.granted r (status_at r engine (0x10 + 2 * index)) status.word
    (kept.slots q engine (pushed (q.engines engine).slots status) here))))

pub events-keep : (P : PrivateDevice → Type 0) → KeptByEvents P → (q : PrivateDevice) (engine : ℕ) (events : List Status) → P q → P (events_given q engine events).device
events-keep P kept q engine [] here = here
events-keep P kept q engine (status ∷ more) here =
    and_then-keeps P (event_given q engine status) (λ r. events_given r engine more) (event-keeps P kept q engine status here) (λ r there. events-keep P kept r engine more there)

pub bits-keep : (P : PrivateDevice → Type 0) → KeptByEvents P → (q : PrivateDevice) (engine : ℕ) (bits : List ℕ) → P q → P (bits_raised q engine bits).device
bits-keep P kept q engine [] here = here
bits-keep P kept q engine (n ∷ more) here =
    and_then-keeps P (bit_raised q engine n) (λ r. bits_raised r engine more) (kept.interrupts q (raised q.interrupts (interrupt_bit engine n)) here) (λ r there. bits-keep P kept r engine more there)

-- ---- accesses

module _ (P : PrivateDevice → Type 0) (May : ℕ → Type 0) (kept : KeptByAccesses P May) where
  list-keeps : (q : PrivateDevice) (engine first second : ℕ) → P q → P (list_submitted q engine first second).device
  list-keeps q engine first second here =
      let r = with_slots q engine (submitted (q.engines engine).slots first second) in
      events-keep P kept.events r engine (starting_events (submission_answer (q.engines engine).slots first)) (kept.events.slots q engine (submitted (q.engines engine).slots first second) here)

  port-keeps : (writes : List ℕ) (q : PrivateDevice) (engine value : ℕ) → P q → P (port_written_after writes q engine value).device
  port-keeps [] q engine value here = kept.writes q engine (value ∷ []) here
  port-keeps (a ∷ []) q engine value here = kept.writes q engine (a ∷ value ∷ []) here
  port-keeps (a ∷ b ∷ []) q engine value here = kept.writes q engine (a ∷ b ∷ value ∷ []) here
  port-keeps (a ∷ b ∷ c ∷ []) q engine value here = list-keeps (with_writes q engine []) engine (c * 2 ^ 32 + value) (a * 2 ^ 32 + b) (kept.writes q engine [] here)
  port-keeps (a ∷ b ∷ c ∷ d ∷ more) q engine value here = kept.writes q engine (a ∷ b ∷ c ∷ d ∷ (more ++ value ∷ [])) here

  created-by : (b c : Bool) (q : PrivateDevice) (root : ℕ) → P q → P (left_or_failed q (check b Entry (check c Entry (Ok (record q { roots = with_root q.roots root }))))).device
  created-by false c q root here = kept.failed q here
  created-by true false q root here = kept.failed q here
  created-by true true q root here = kept.announced q root here

  created-keeps : (q : PrivateDevice) (root : ℕ) → P q → P (root_created q root).device
  created-keeps q root here = created-by (ltb root (length q.memory)) (not (has_bad_entry q.memory (with_root q.roots root))) q root here

  notify-keeps : (q : PrivateDevice) (value : ℕ) → P q → P (notify_written q value).device
  notify-keeps q value here =
      either-keeps P (eqb value 4) (root_created q (named_root q)) (cond (eqb value 5) (quietly (root_destroyed q (named_root q))) (quietly q))
      (created-keeps q (named_root q) here)
      (either-keeps P (eqb value 5) (quietly (root_destroyed q (named_root q))) (quietly q) (kept.destroyed q (named_root q) here) here)

  dword-by : (target : Target) (q : PrivateDevice) (offset value : ℕ) → (target ≡ EngineReset → May value) → P q → P (dword_written_by target q offset value).device
  dword-by InterruptTarget q offset value may here = kept.events.interrupts q (irq_written q.interrupts offset value) here
  dword-by (Elsp engine) q offset value may here = port-keeps (q.engines engine.0).writes q engine.0 value here
  dword-by (StatusPointer engine) q offset value may here = kept.events.slots q engine.0 (pointer_written (q.engines engine.0).slots value) here
  dword-by (General engine n) q offset value may here = kept.general q engine.0 (with_general (q.engines engine.0).general n value) here
  dword-by EngineReset q offset value may here = kept.reset q value (may refl) here
  dword-by Notify q offset value may here = notify-keeps q value here
  dword-by Own q offset value may here = kept.registers q (register_written q.registers offset value) here
  dword-by (StatusPair engine n) q offset value may here = kept.registers q (register_written q.registers offset value) here
  dword-by Absent q offset value may here = kept.registers q (register_written q.registers offset value) here

  dword-keeps : (q : PrivateDevice) (offset value : ℕ) → (target_at offset ≡ EngineReset → May value) → P q → P (dword_written q offset value).device
  dword-keeps q offset value may here = dword-by (target_at offset) q offset value may here

  -- what a write of dwords may reset
  abbrev pub MayReset : Width → ℕ → ℕ → Type 0
  MayReset Four offset value = target_at offset ≡ EngineReset → May value
  MayReset Eight offset value = (target_at offset ≡ EngineReset → May (value % 2 ^ 32)) × (target_at (offset + 4) ≡ EngineReset → May (value / 2 ^ 32))

  dwords-keep : (q : PrivateDevice) (width : Width) (offset value : ℕ) → MayReset width offset value → P q → P (dwords_written q width offset value).device
  dwords-keep q Four offset value may here = dword-keeps q offset value may here
  dwords-keep q Eight offset value may here =
      and_then-keeps P (dword_written q offset (value % 2 ^ 32)) (λ r. dword_written r (offset + 4) (value / 2 ^ 32))
      (dword-keeps q offset (value % 2 ^ 32) may.0 here)
      (λ r there. dword-keeps r (offset + 4) (value / 2 ^ 32) may.1 there)

  range-keeps : (q : PrivateDevice) (width : Width) (offset value : ℕ) → MayReset width offset value → P q → P (range_written q width offset value).device
  range-keeps q width offset value may here =
      either-keeps P (ltb offset table_at) (dwords_written q width offset value) (quietly (table_written q width offset value))
      (dwords-keep q width offset value may here)
      (kept.entries q (with_entry q.ranges q.entries (page_at offset) (entry_after width offset (global_entry q.ranges q.entries (page_at offset)) value)) here)

  memory-keeps : (q : PrivateDevice) (width : Width) (at value : ℕ) → P q → P (memory_written q width at value).device
  memory-keeps q width at value here =
      let r = record q { memory = memory_write q.memory width at value } in
      let there = kept.memory q (memory_write q.memory width at value) (write-length _ q.memory (with_value q.memory width at value) (with_value-length q.memory width at value)) here in
      either-keeps P (has_bad_entry r.memory r.roots) (fails r Entry) (quietly r) (kept.failed r there) there

  abbrev pub MayWrite : Place → Width → ℕ → ℕ → Type 0
  MayWrite places.Registers width at value = MayReset width at value
  MayWrite place width at value = Unit {0}

  pub write-keeps : (q : PrivateDevice) (place : Place) (width : Width) (at value : ℕ) → MayWrite place width at value → P q → P (value_written q place width at value).device
  write-keeps q places.Memory width at value may here = memory-keeps q width at value here
  write-keeps q places.Registers width at value may here = either-keeps P q.failsafe (quietly q) (range_written q width at value) here (range-keeps q width at value may here)
  write-keeps q places.Aperture width at value may here =
      either-keeps P q.failsafe (quietly q) (quietly (aperture_written q width at value)) here
      (kept.memory q (frame_written q.memory width at value (aperture_frame q (at / 4096))) (frame_written-length q.memory width at value (aperture_frame q (at / 4096))) here)

-- ---- turns

turn_either : (P : PrivateDevice → Type 0) (b : Bool) (x y : Turned) → P x.left.device → P y.left.device → P (cond b x y).left.device
turn_either P true x y first second = first
turn_either P false x y first second = second

-- a set with another frame has it
with-has : (same below : Bool) (first root : ℕ) (more : List ℕ) → eqb root first ≡ same → has (with_root more root) root ≡ true → has (cond same (first ∷ more) (cond below (root ∷ first ∷ more) (first ∷ with_root more root))) root ≡ true
with-has true below first root more is there = or_left (eqb first root) (has more root) (eq-eqb first root (sym (eqb-true root first is)))
with-has false true first root more is there = or_left (eqb root root) (has (first ∷ more) root) (eq-eqb root root refl)
with-has false false first root more is there = or_right (eqb first root) (has (with_root more root) root) there

pub with_root-has : (roots : List ℕ) (root : ℕ) → has (with_root roots root) root ≡ true
with_root-has [] root = or_left (eqb root root) false (eq-eqb root root refl)
with_root-has (first ∷ more) root = with-has (eqb root first) (ltb root first) first root more refl (with_root-has more root)

put_here : {A : Type 0} (f : ℕ → A) (k : ℕ) (value : A) → put f k value k ≡ value
put_here f k value = ap (λ b. cond b value (f k)) (eq-eqb k k refl)

module _
    (P : PrivateDevice → Type 0)
    (engine : ℕ)
    (put_root : (q : PrivateDevice) (root : ℕ) → P q → P (record q { roots = with_root q.roots root }))
    (begun : (q : PrivateDevice) (w : Working) → has q.roots w.root ≡ true → P q → P (with_element q engine (Some w)))
  where
    -- what is loaded keeps it
    abbrev pub Good : Result PrivateDevice Reason → Type 0
    Good r = IfOk r P

    check-good : (b : Bool) (reason : Reason) (r : Result PrivateDevice Reason) → Good r → Good (check b reason r)
    check-good true reason r good = good
    check-good false reason r good = tt

    fetched-good : (q : PrivateDevice) (image : Image) (r : Result Items Reason) → has q.roots image.root ≡ true → P q → Good (then r (λ items. Ok (with_element q engine (Some (work_of image items)))))
    fetched-good q image (Err reason) there here = tt
    fetched-good q image (Ok items) there here = begun q (work_of image items) there here

    root-good : (b c : Bool) (q : PrivateDevice) (image : Image) → P q → Good (then (check b Entry (check c Entry (Ok (record q { roots = with_root q.roots image.root })))) (λ r. fetched_into r engine image))
    root-good false c q image here = tt
    root-good true false q image here = tt
    root-good true true q image here =
        let r = record q { roots = with_root q.roots image.root } in
        fetched-good r image (fetched (global_space r) engine image) (with_root-has q.roots image.root) (put_root q image.root here)

    image-good : (q : PrivateDevice) (r : Result Image Reason) → P q → Good (then r (λ image. then (announced q image.root) (λ t. fetched_into t engine image)))
    image-good q (Err reason) here = tt
    image-good q (Ok image) here = root-good (ltb image.root (length q.memory)) (not (has_bad_entry q.memory (with_root q.roots image.root))) q image here

    pub loaded-good : (q : PrivateDevice) (d : Descriptor) → P q → Good (loaded_by q engine d)
    loaded-good q d here =
        check-good (eqb d.mode 3) Context _
        (check-good (owns_page q.ranges d.page && owns_page q.ranges (d.page + 1)) Range _
        (image-good q (image_in q d.page) here))

module _ (P : PrivateDevice → Type 0) (May : ℕ → Type 0) (engine : ℕ) (kept : KeptByTurns P May engine) where
  space-keeps : (q : PrivateDevice) (w : Working) (s : PrivateSpace) → Reached (space_of q engine w.root) s → P q → P (with_space q engine s)
  space-keeps q w s reached here =
      kept.accesses.memory (with_engine q engine (record (q.engines engine) { general = s.general })) s.memory reached.tables.frames (kept.accesses.general q engine s.general here)

  run-keeps : (p : PrivateDevice) (w : Working) (ws : List ℕ) (dwords : ℕ) (s : PrivateSpace) (raise : Option ℕ) → (p.engines engine).element ≡ Some w → Reached (space_of p engine w.root) s → P p → P (run_by p engine w ws dwords s raise).left.device
  run-keeps p w ws dwords s None works reached here = here
  run-keeps p w ws dwords s (Some bits) works reached here =
      bits-keep P kept.accesses.events (ran_after p engine w ws dwords s) engine _
      (kept.moved (with_space p engine s) w (moved w.left ws dwords)
      (ap (λ (e : Engine). e.element) (put_here p.engines engine (record (p.engines engine) { general = s.general })) ∙ works)
      (space-keeps p w s reached here))

  command-keeps : (p : PrivateDevice) (w : Working) (r : Result (List ℕ × ℕ) Unlisted) → (p.engines engine).element ≡ Some w → P p → P (command_by p engine w r).left.device
  command-keeps p w (Err unlisted) works here = kept.accesses.failed p here
  command-keeps p w (Ok (ws, dwords)) works here =
      let e = front_effect p engine w ws in
      turn_either P (is_allowed ws (stands_of w.left) engine) (run_by p engine w ws dwords e.after e.raise) (turned_as outcomes.Failed (fails p Command))
      (run-keeps p w ws dwords e.after e.raise works (effect-reached ws engine (is_privileged w.left) (space_of p engine w.root)) here)
      (kept.accesses.failed p here)

  finished-keeps : (p : PrivateDevice) (w : Working) → P p → P (finished p engine w).device
  finished-keeps p w here =
      let q = tail_written p engine w in
      let r = with_slots q engine (completed (q.engines engine).slots) in
      events-keep P kept.accesses.events (without_front q engine) engine (completion_events (p.engines engine).slots.running (p.engines engine).slots.pending)
      (kept.gone r (kept.accesses.events.slots q engine (completed (q.engines engine).slots) (kept.accesses.events.granted p _ w.tail here)))

  load-keeps : (p : PrivateDevice) (r : Result PrivateDevice Reason) → IfOk r P → P p → P (load_by p r).left.device
  load-keeps p (Ok q) good here = good
  load-keeps p (Err reason) good here = kept.accesses.failed p here

  next-keeps : (p : PrivateDevice) (running : List ℕ) → P p → P (next_by p engine running).left.device
  next-keeps p [] here = here
  next-keeps p (descriptor ∷ more) here = load-keeps p (loaded p engine descriptor) (loaded-good P engine kept.accesses.announced kept.begun p (descriptor_of descriptor) here) here

  by-keeps : (p : PrivateDevice) (element : Option Working) → (p.engines engine).element ≡ element → P p → P (turned_by p engine element).left.device
  by-keeps p None works here = next-keeps p (p.engines engine).slots.running here
  by-keeps p (Some w) works here =
      turn_either P (is_done w.left) (turned_as outcomes.Ended (finished p engine w)) (command_by p engine w (decoded (front_words p engine w)))
      (finished-keeps p w here)
      (command-keeps p w (decoded (front_words p engine w)) works here)

  pub turn-keeps : (p : PrivateDevice) → P p → P (turned p engine).left.device
  turn-keeps p here =
      turn_either P p.failsafe (turned_as outcomes.Idle (quietly p)) (turned_by p engine (p.engines engine).element) here (by-keeps p (p.engines engine).element refl here)

-- ---- all events, where every engine may be reset

abbrev pub Anything : ℕ → Type 0
Anything value = Unit {0}

always : (P : PrivateDevice → Type 0) (kept : KeptByAccesses P Anything) (q : PrivateDevice) (place : Place) (width : Width) (at value : ℕ) → P q → P (value_written q place width at value).device
always P kept q places.Memory width at value here = write-keeps P Anything kept q places.Memory width at value tt here
always P kept q places.Registers Four at value here = write-keeps P Anything kept q places.Registers Four at value (λ is. tt) here
always P kept q places.Registers Eight at value here = write-keeps P Anything kept q places.Registers Eight at value ((λ is. tt), (λ is. tt)) here
always P kept q places.Aperture width at value here = write-keeps P Anything kept q places.Aperture width at value tt here

pub event-always : (P : PrivateDevice → Type 0) → ((engine : ℕ) → KeptByTurns P Anything engine) → ((q : PrivateDevice) → P q → P (function_reset q)) → (p : PrivateDevice) (event : Event) → P p → P (answer p event).left
event-always P kept reset p (Read guest place width at) here = here
event-always P kept reset p (Write guest place width at value) here = always P (kept 0).accesses p place width at value here
event-always P kept reset p (Turn engine) here = turn-keeps P Anything engine.0 (kept engine.0) p here
event-always P kept reset p (Switch engine) here = here
event-always P kept reset p (Move guest frame) here = here
event-always P kept reset p (Reset guest) here = reset p here
