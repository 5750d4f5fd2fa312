use Rattle.std.proofs.Common.{ℕ, Bool, length, sym, subst}
use Rattle.gv_gtt.specs.Gtt.{number_of}
use Rattle.gv_vgpu.specs.Standing.{Holds}
use Rattle.gv_mediator.specs.Answers.{DeviceAnswers, DeviceStopsBy}
use Rattle.gv_mediator.specs.Event.{IsGuestEvent}
use Rattle.gv_mediator.specs.Tied.{IsAt}
use Rattle.gv_mediator.proofs.Answering.{answers-then, stops-then}
use Rattle.gv_mediator.proofs.Receiving.{err-all, guest-event, live-here, ok-all, receiver-there, room-here}
use Rattle.gv_mediator.proofs.mediator.Mediator.guest_event.Goals as goal

pub answer-requires-clause-holds : goal.answer-requires-clause-holds
answer-requires-clause-holds g c =
    let d = g.G.Gpu.state c.args.gpu.now in
    let m = c.args.self.now in
    let k = c.receiver-guest.result.0 in
    let here : IsAt m.guests.items k c.index_mut-device.result.now = (receiver-there d m c.requires.tied c.args.event.now k c.requires.event c.receiver-guest.ensures, sym c.index_mut-device.ensures.value) in
    subst (λ (own : ℕ → Bool). Holds d c.index_mut-device.result.now own) (sym c.owned_by-here.ensures) (c.requires.tied.ties.holds k c.index_mut-device.result.now here)

pub answer-requires-clause-number : goal.answer-requires-clause-number
answer-requires-clause-number g c =
    let d = g.G.Gpu.state c.args.gpu.now in
    let m = c.args.self.now in
    let k = c.receiver-guest.result.0 in
    let here : IsAt m.guests.items k c.index_mut-device.result.now = (receiver-there d m c.requires.tied c.args.event.now k c.requires.event c.receiver-guest.ensures, sym c.index_mut-device.ensures.value) in
    sym (c.requires.tied.ties.number k c.index_mut-device.result.now here)

pub answer-requires-clause-room : goal.answer-requires-clause-room
answer-requires-clause-room g c =
    let d = g.G.Gpu.state c.args.gpu.now in
    let m = c.args.self.now in
    let k = c.receiver-guest.result.0 in
    let here : IsAt m.guests.items k c.index_mut-device.result.now = (receiver-there d m c.requires.tied c.args.event.now k c.requires.event c.receiver-guest.ensures, sym c.index_mut-device.ensures.value) in
    room-here d m c.requires.tied c.args.event.now k c.requires.event c.receiver-guest.ensures c.index_mut-device.result.now here

pub answer-requires-clause-below : goal.answer-requires-clause-below
answer-requires-clause-below g c =
    let d = g.G.Gpu.state c.args.gpu.now in
    let m = c.args.self.now in
    let k = c.receiver-guest.result.0 in
    let here : IsAt m.guests.items k c.index_mut-device.result.now = (receiver-there d m c.requires.tied c.args.event.now k c.requires.event c.receiver-guest.ensures, sym c.index_mut-device.ensures.value) in
    live-here d m c.requires.tied c.args.event.now k c.requires.event c.receiver-guest.ensures c.index_mut-device.result.now here

pub answer-requires-clause-event : goal.answer-requires-clause-event
answer-requires-clause-event g c =
    let d = g.G.Gpu.state c.args.gpu.now in
    let m = c.args.self.now in
    let k = c.receiver-guest.result.0 in
    let old = c.index_mut-device.result.now in
    let here : IsAt m.guests.items k old = (receiver-there d m c.requires.tied c.args.event.now k c.requires.event c.receiver-guest.ensures, sym c.index_mut-device.ensures.value) in
    subst (λ (own : ℕ → Bool). IsGuestEvent (number_of old.gtt) (length old.gtt.memory.frames.pages) own c.args.event.now) (sym c.owned_by-here.ensures)
    (guest-event d m c.requires.tied c.args.event.now k c.requires.event c.receiver-guest.ensures old here)

pub returns-clause-answers : goal.returns-clause-answers
returns-clause-answers g c =
    let d = g.G.Gpu.state c.args.gpu.now in
    let e = g.G.Gpu.state c.answer.new.gpu in
    let m = c.args.self.now in
    let k = c.receiver-guest.result.0 in
    let old = c.index_mut-device.result.now in
    let new = c.answer.new.device in
    let one = c.args.event.now in
    let here : IsAt m.guests.items k old = (receiver-there d m c.requires.tied one k c.requires.event c.receiver-guest.ensures, sym c.index_mut-device.ensures.value) in
    ok-all c.answer.result _ _ c.answer.ensures.answers
    (λ reply given. answers-then d m c.requires.tied one k c.requires.event c.receiver-guest.ensures old here e new reply
    (subst (λ (own : ℕ → Bool). DeviceAnswers own d e old new one reply) c.owned_by-here.ensures given))

pub returns-clause-stops : goal.returns-clause-stops
returns-clause-stops g c =
    let d = g.G.Gpu.state c.args.gpu.now in
    let e = g.G.Gpu.state c.answer.new.gpu in
    let m = c.args.self.now in
    let k = c.receiver-guest.result.0 in
    let old = c.index_mut-device.result.now in
    let one = c.args.event.now in
    let here : IsAt m.guests.items k old = (receiver-there d m c.requires.tied one k c.requires.event c.receiver-guest.ensures, sym c.index_mut-device.ensures.value) in
    err-all c.answer.result _ _ c.answer.ensures.stops
    (λ stop given. stops-then d m c.requires.tied one k c.requires.event c.receiver-guest.ensures old here e stop
    (subst (λ (own : ℕ → Bool). DeviceStopsBy own d e old one stop) c.owned_by-here.ensures given))
