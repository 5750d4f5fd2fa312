use Rattle.std.proofs.Common.{◌≡◌, ◌<◌}
use Rattle.gv_mediator.specs.Tied.{machine_of}
use Rattle.gv_run.specs.Tied.{Stands}
use Rattle.gv_run.proofs.ManyTurns.{Turning}
use Rattle.gv_run.proofs.turns.turns.Given as goal

abbrev pub invariant-loop-turn : goal.invariant-loop-turn
invariant-loop-turn g l =
    let start = g.G.Gpu.state l.fn.gpu in
    let now = g.G.Gpu.state l.gpu in
    record {
      stands : Stands now l.mediator;
      quiet : now.faults ≡ start.faults;
      small : l.owner.0 < 8;
      turning : Turning (machine_of start l.fn.mediator) l.engine l.turn start l.fn.report (machine_of now l.mediator) l.report l.counts l.owner now;
    }
