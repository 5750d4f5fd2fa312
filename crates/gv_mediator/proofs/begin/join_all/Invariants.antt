use Rattle.std.proofs.Common.{drop}
use Rattle.gv_mediator.specs.Joining.{IsJoining}
use Rattle.gv_mediator.proofs.begin.join_all.Given as goal

-- these guests joined, and those behind them are left
abbrev pub invariant-loop-guest : goal.invariant-loop-guest
invariant-loop-guest g l = IsJoining (g.G.Gpu.state l.initial.gpu) (g.G.Gpu.state l.gpu) l.devices.items l.given (drop l.guest-index l.guests) l.guests
