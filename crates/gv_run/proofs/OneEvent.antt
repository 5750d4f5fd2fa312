-- What comes of one event over the shared device.
use Rattle.std.proofs.Common.{◌≡◌, ℕ, ◌<◌, ◌≤◌, false, Some, List, [], ◌∷◌, ◌++◌, length, map, refl, ap, sym, ◌∙◌, subst, arith}
use Rattle.std.proofs.lemmas.List.{append-nil, length-map}
use Rattle.gv_types.specs.declared.event.Event.{Event}
use Rattle.gv_types.specs.declared.event.Event.TheVariants.{Read, Write, Turn, Switch, Move, Reset}
use Rattle.gv_types.specs.declared.ids.EngineId.{EngineId}
use Rattle.gv_types.specs.declared.reply.Reply.{Reply}
use Rattle.gv_gpu.specs.Change.{Ran}
use Rattle.gv_gpu.specs.Device.{Device, JournalEntry}
use Rattle.gv_gtt.specs.Gtt.{number_of}
use Rattle.gv_sched.specs.Rota.{owner_of}
use Rattle.gv_private.specs.Inputs.{Input, event, answer}
use Rattle.gv_private.specs.Turn.{RanCommand}
use Rattle.gv_machine.specs.Course.{play}
use Rattle.gv_machine.specs.Machine.{Machine, Happened, Receiver, device, event_receiver, received, device_at, input_course, inputs_in, owner_told, owner_after, ran_of}
use Rattle.gv_machine.specs.Report.{told, said_all}
use Rattle.gv_machine.proofs.Courses.{onto-ended}
use Rattle.gv_machine.proofs.Joined.{length-played}
use Rattle.gv_machine.proofs.Named.{IsEventBelow, AreBelow}
use Rattle.gv_machine.proofs.OwnCourse.{IsWhole as Whole, whole-played}
use Rattle.gv_machine.proofs.Rotas.{OwnersAreThere, next-there}
use Rattle.gv_vgpu.specs.Vgpu.{private_of}
use Rattle.gv_vgpu.specs.declared.vgpu.Vgpu.{Vgpu}
use Rattle.gv_vgpu.specs.Changes.{journal_entry}
use Rattle.gv_mediator.specs.Rota.{owners_in, owns}
use Rattle.gv_mediator.specs.Event.{IsEvent, received_by, event_done, entries_ran}
use Rattle.gv_mediator.specs.Tied.{Tied, machine_of}
use Rattle.gv_mediator.specs.declared.mediator.Mediator.{Mediator}
use Rattle.gv_text.specs.declared.script_line.Line.{Line}
use Rattle.gv_text.specs.declared.script_line.Line.TheVariants.{Read as ReadLine, Switch as SwitchLine, Move as MoveLine, Reset as ResetLine}
use Rattle.gv_run.specs.Lines.{IsToldAlone, event_of}
use Rattle.gv_run.specs.Tied.{IsWhole, Stands, entries_in}

-- ---- a machine that is whole stays so

pub whole-of : (m : Machine) → IsWhole m → Whole m
whole-of m whole = record { numbers = whole.numbers; owners = whole.owners }

pub of-whole : (m : Machine) → Whole m → IsWhole m
of-whole m whole = record { numbers = whole.numbers; owners = whole.owners }

-- the devices stand after some inputs
module _ (d e : Device) (before after : Mediator) (inputs : List Input) (stands : Stands d before) (below : AreBelow (length (machine_of d before).devices) inputs) (tied : Tied e after) (running : after.stopped ≡ false) (quiet : e.faults ≡ d.faults) where
  pub stands-played : machine_of e after ≡ (play input_course (machine_of d before) inputs).left → Stands e after
  stands-played moved =
      let m = machine_of d before in
      let whole = of-whole (play input_course m inputs).left (whole-played m inputs (whole-of m stands.whole) below) in
      record {
        tied = tied;
        running = running;
        quiet = quiet ∙ stands.quiet;
        whole = subst IsWhole (sym moved) whole;
        eight = subst (λ n. n ≤ 8) (sym (ap (λ (k : Machine). length k.devices) moved ∙ length-played m inputs)) stands.eight;
      }

-- ---- one event

-- some guest is there, since the first engine has an owner
pub some-guest : (d : Device) (m : Mediator) → Tied d m → 0 < length (machine_of d m).devices
some-guest d m tied =
    let many = length-map m.guests.items (λ (v : Vgpu). private_of d v (owns (owners_in m.rota) (number_of v.gtt))) in
    let owner : owner_of m.rota 0 < length m.guests.items = tied.ties.there 0 (owner_of m.rota 0) refl in
    subst (λ n. 0 < n) (sym many) (omega arith)

pub event-below : (m : Machine) (one : Event) → IsEvent m one → 0 < length m.devices → IsEventBelow (length m.devices) one
event-below m (Read guest place width at) is some = is.0
event-below m (Write guest place width at value) is some = is.0
event-below m (Turn engine) is some = (some, is)
event-below m (Switch engine) is some = (some, is)
event-below m (Move guest frame) is some = is.0
event-below m (Reset guest) is some = is

-- an event was replied to
abbrev pub HasReplied : Machine → Event → Reply → Type 0
HasReplied m one reply = map (λ (h : Happened). h.reply) (event_done m one).came ≡ reply ∷ []

-- What comes of an event is what comes of it as an input of the machine. It is replied to a guest that is there, and told
-- by the reply.
pub record Comes (m : Machine) (one : Event) : Type 0 where
  pub left : (event_done m one).left ≡ (input_course m (event one)).left
  pub entries : entries_ran (event_done m one).came ≡ entries_in (input_course m (event one)).came
  pub there : (reply : Reply) → HasReplied m one reply → reply.guest.0 < length m.devices
  pub said : (reply : Reply) → HasReplied m one reply → said_all (input_course m (event one)).came ≡ told one reply

-- what comes of an event that a guest's device takes
module _ (m : Machine) (one : Event) (g : ℕ) (is : event_receiver m.owners one ≡ device g) where
  pub event-left : (event_done m one).left ≡ (input_course m (event one)).left
  event-left =
      ap (λ (r : Receiver). (received_by m one r).left) is
      ∙ sym (ap (λ (r : Receiver). (received m (event one) r).left) is)

  event-entries : entries_ran (event_done m one).came ≡ entries_in (input_course m (event one)).came
  event-entries =
      ap (λ (r : Receiver). entries_ran (received_by m one r).came) is
      ∙ ap (λ (z : List RanCommand). map journal_entry z) (sym (append-nil (ran_of (received_by m one (device g)).came)))
      ∙ sym (ap (λ (r : Receiver). entries_in (received m (event one) r).came) is)

  module _ (reply : Reply) (replied : HasReplied m one reply) where
    reply-is : (answer (device_at m.devices g) one).reply ≡ reply
    reply-is =
        let only : (answer (device_at m.devices g) one).reply ∷ [] ≡ reply ∷ [] = sym (ap (λ (r : Receiver). map (λ (h : Happened). h.reply) (received_by m one r).came) is) ∙ replied in
        cc

    event-said : said_all (input_course m (event one)).came ≡ told one reply
    event-said =
        ap (λ (r : Receiver). said_all (received m (event one) r).came) is
        ∙ append-nil (told one (answer (device_at m.devices g) one).reply ++ [])
        ∙ append-nil (told one (answer (device_at m.devices g) one).reply)
        ∙ ap (told one) reply-is

  device-comes : (answer (device_at m.devices g) one).reply.guest.0 < length m.devices → Comes m one
  device-comes there = record {
    left = event-left;
    entries = event-entries;
    there = λ reply replied. subst (λ (r : Reply). r.guest.0 < length m.devices) (reply-is reply replied) there;
    said = event-said;
  }

-- a switch, which is replied to the new owner
module _ (m : Machine) (engine : EngineId) where
  owner-is : (reply : Reply) → HasReplied m (Switch engine) reply → (owner_told (owner_after m engine.0)).reply ≡ reply
  owner-is reply replied =
      let only : (owner_told (owner_after m engine.0)).reply ∷ [] ≡ reply ∷ [] = replied in
      cc

  switch-comes : OwnersAreThere m → 0 < length m.devices → Comes m (Switch engine)
  switch-comes owners some = record {
    left = refl;
    entries = refl;
    there = λ reply replied. subst (λ (r : Reply). r.guest.0 < length m.devices) (owner-is reply replied) (next-there m owners some engine.0);
    said = λ reply replied. ap (told (Switch engine)) (owner-is reply replied);
  }

pub comes : (m : Machine) (one : Event) → IsWhole m → 0 < length m.devices → IsEvent m one → IsToldAlone one → Comes m one
comes m (Read guest place width at) whole some is alone = device-comes m (Read guest place width at) guest.0 refl is.0
comes m (Write guest place width at value) whole some is alone = device-comes m (Write guest place width at value) guest.0 refl is.0
comes m (Turn engine) whole some is alone = absurd alone
comes m (Switch engine) whole some is alone = switch-comes m engine whole.owners some
comes m (Move guest frame) whole some is alone = device-comes m (Move guest frame) guest.0 refl is.0
comes m (Reset guest) whole some is alone = device-comes m (Reset guest) guest.0 refl is

pub comes-ran : {d e : Device} (m : Machine) (one : Event) → Comes m one → Ran d e (entries_ran (event_done m one).came) → Ran d e (entries_in (input_course m (event one)).came)
comes-ran {d} {e} m one came ran = subst (λ (l : List JournalEntry). Ran d e l) came.entries ran

-- ---- a line of one event

one-input : (line : Line) (one : Event) → event_of line ≡ Some one → inputs_in line ≡ event one ∷ []
one-input (ReadLine guest place width at) one is =
    let same : Read (record { 0 = guest }) place width at ≡ one = cc in
    ap (λ (x : Event). event x ∷ []) same
one-input (SwitchLine engine) one is =
    let same : Switch (record { 0 = engine }) ≡ one = cc in
    ap (λ (x : Event). event x ∷ []) same
one-input (MoveLine guest frame) one is =
    let same : Move (record { 0 = guest }) frame ≡ one = cc in
    ap (λ (x : Event). event x ∷ []) same
one-input (ResetLine guest) one is =
    let same : Reset (record { 0 = guest }) ≡ one = cc in
    ap (λ (x : Event). event x ∷ []) same
one-input line one is = absurd (cc)

pub line-event : (m : Machine) (line : Line) (one : Event) → event_of line ≡ Some one → play input_course m (inputs_in line) ≡ input_course m (event one)
line-event m line one is = ap (play input_course m) (one-input line one is) ∙ onto-ended (input_course m (event one))
