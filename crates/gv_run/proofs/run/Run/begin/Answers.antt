use Rattle.std.proofs.Common.{sym, ap, ◌∙◌, subst}
use Rattle.gv_mediator.specs.First.{MayBegin, first_machine}
use Rattle.gv_run.specs.Tied.{machine_in, is_running}
use Rattle.gv_run.proofs.Guests.{gathered-of, known-of, may-begin, agrees-made, agrees-still, quiet-of}
use Rattle.gv_run.proofs.run.Run.begin.Goals as goal

pub new-requires-clause-begin : goal.new-requires-clause-begin
new-requires-clause-begin g c =
    let guests = c.in-Gathering.guests in
    let gathered = gathered-of c.requires.agrees guests c.in-Gathering.is in
    subst MayBegin (sym c.deref.ensures.value) (may-begin (g.G.Gpu.state c.args.gpu.now) c.args.self.now.known guests.items gathered c.requires.some c.requires.agrees.guests.eight)

pub new-requires-clause-empty : goal.new-requires-clause-empty
new-requires-clause-empty g c = (gathered-of c.requires.agrees c.in-Gathering.guests c.in-Gathering.is).empty

pub returns-in_ok-mediator-clause-agrees : goal.returns-in_ok-mediator-clause-agrees
returns-in_ok-mediator-clause-agrees g c =
    let guests = c.in-Gathering.guests in
    let first = first_machine guests.items in
    let made = c.in_ok-mediator.ensures in
    agrees-made _ c.args.self.now.known c.in_ok-mediator.mediator first (known-of c.requires.agrees guests c.in-Gathering.is)
    (made.machine ∙ ap first_machine c.deref.ensures.value) made.tied made.running (made.quiet ∙ quiet-of _ c.args.self.now.known c.args.self.now.stage c.requires.agrees)

pub returns-in_ok-mediator-clause-machine : goal.returns-in_ok-mediator-clause-machine
returns-in_ok-mediator-clause-machine g c =
    c.in_ok-mediator.ensures.machine ∙ ap first_machine c.deref.ensures.value
    ∙ sym (ap (machine_in (g.G.Gpu.state c.args.gpu.now)) c.in-Gathering.is)

pub returns-in_default-clause-agrees : goal.returns-in_default-clause-agrees
returns-in_default-clause-agrees g c = agrees-still (g.G.Gpu.state c.args.gpu.now) c.args.self.now.known c.args.self.now.stage (ap is_running c.in_default.is) c.requires.agrees

pub returns-in_default-clause-running : goal.returns-in_default-clause-running
returns-in_default-clause-running g c = ap is_running c.in_default.is
