-- What an event leaves of the machine.
use Rattle.std.proofs.Common.{◌≡◌, ◌≢◌, ◌≤◌, ℕ, Bool, Some, [], ◌∷◌, sym, ap}
use Rattle.std.specs.Vec.{with_item}
use Rattle.gv_types.specs.declared.event.Event.{Event}
use Rattle.gv_types.specs.declared.event.Event.TheVariants.{Switch}
use Rattle.gv_types.specs.declared.ids.EngineId.{EngineId}
use Rattle.gv_types.specs.declared.reply.Reply.{Reply}
use Rattle.gv_types.specs.declared.reply.Stop.{Stop}
use Rattle.gv_types.specs.declared.reply.Stop.TheVariants.{DeviceFault}
use Rattle.gv_gpu.specs.Change.{Ran}
use Rattle.gv_gpu.specs.Device.{Device, counted}
use Rattle.gv_machine.specs.Machine.{event_receiver, guest_in, owner_after, owner_told, switch_course}
use Rattle.gv_sched.specs.Rota.{owner_of}
use Rattle.gv_vgpu.specs.declared.vgpu.Vgpu.{Vgpu}
use Rattle.gv_mediator.specs.Answers.{Answers, StopsBy, DeviceAnswers, DeviceStopsBy}
use Rattle.gv_mediator.specs.Event.{IsEvent}
use Rattle.gv_mediator.specs.Rota.{owners_in, owns}
use Rattle.gv_mediator.specs.Tables.{AllCopiesStay}
use Rattle.gv_mediator.specs.Tied.{IsAt, Tied, machine_of}
use Rattle.gv_mediator.specs.declared.mediator.Mediator.{Mediator}
use Rattle.gv_mediator.proofs.Promised.{all-exact, all-follow, moves-then, once-then, pokes-then}
use Rattle.gv_mediator.proofs.Receiving.{copies-then, machine-then, may-fault, may-lack, ran-stopped, ran-then, reply-is, tied-then}

-- an event that the device of guest k takes
module _ (d : Device) (m : Mediator) (tied : Tied d m) (one : Event) (k : ℕ) (is : IsEvent (machine_of d m) one) (mine : guest_in (event_receiver (owner_of m.rota) one) ≡ Some k) (old : Vgpu) (here : IsAt m.guests.items k old) (e : Device) where
  pub answers-then : (new : Vgpu) (reply : Reply) → DeviceAnswers (owns (owners_in m.rota) k) d e old new one reply → Answers d e m (record { guests = with_item m.guests k new; rota = m.rota; stopped = m.stopped }) one reply
  answers-then new reply given =
      let replies = given.replies in
      let stands = tied-then d m tied one k is mine old here e new reply replies m.stopped in
      record {
        reply = reply-is d m tied one k is mine old here e new reply replies;
        machine = machine-then d m tied one k is mine old here e new reply replies;
        tied = stands;
        ran = ran-then d m tied one k is mine old here e new reply replies;
        quiet = ap (λ (x : Device). x.faults) replies.keeps.changes.outside;
        once = once-then d e m k old new m.stopped here one reply.answer mine given.once;
        moves = moves-then d e m k old new m.stopped here one reply.answer mine given.moves;
        copies = copies-then d m tied one k is mine old here e new reply replies;
        pokes = pokes-then d e m k old new m.stopped here tied.ties replies.keeps.changes.number one reply.failsafe mine given.pokes;
        followed = all-follow e (record { guests = with_item m.guests k new; rota = m.rota; stopped = m.stopped }) stands;
        exact = all-exact e (record { guests = with_item m.guests k new; rota = m.rota; stopped = m.stopped }) stands;
      }

  pub stops-then : (stop : Stop) → DeviceStopsBy (owns (owners_in m.rota) k) d e old one stop → StopsBy d e m one stop
  stops-then stop given = record {
    stopped = ran-stopped (owns (owners_in m.rota) k) d e old stop given.stops;
    cause = given.stops.cause;
    memory = given.stops.memory;
    faults = λ fault. may-fault d m tied one k is mine old here (given.faults fault);
    lacks = λ lack. may-lack d m tied one k is mine old here (given.lacks lack);
    unsubmitted = given.unsubmitted;
  }

-- a switch
module _ (d e : Device) (m new : Mediator) (engine : EngineId) where
  pub switch-answers : (reply : Reply) → reply ≡ (owner_told (owner_after (machine_of d m) engine.0)).reply → machine_of e new ≡ (switch_course (machine_of d m) engine).left → Tied e new
      → Ran d e [] → e.faults ≡ d.faults → AllCopiesStay d e m new → Answers d e m new (Switch engine) reply
  switch-answers reply told moved tied none quiet copies = record {
    reply = ap (λ (r : Reply). r ∷ []) (sym told);
    machine = moved;
    tied = tied;
    ran = none;
    quiet = quiet;
    once = λ g v w own before now. tt;
    moves = tt;
    copies = copies;
    pokes = tt;
    followed = all-follow e new tied;
    exact = all-exact e new tied;
  }

-- whether the machine is stopped plays no part in what an event leaves
pub answers-still : {d e : Device} {m new : Mediator} {one : Event} {reply : Reply} → Answers d e m new one reply → (stopped : Bool) → Answers d e m (record new { stopped = stopped }) one reply
answers-still {d} {e} {m} {new} {one} {reply} given stopped = record {
  reply = given.reply;
  machine = given.machine;
  tied = record { ties = given.tied.ties; guests = given.tied.guests; engines = given.tied.engines };
  ran = given.ran;
  quiet = given.quiet;
  once = given.once;
  moves = given.moves;
  copies = given.copies;
  pokes = given.pokes;
  followed = given.followed;
  exact = given.exact;
}
