use Rattle.std.proofs.Common.{◌≡◌, ◌+◌, ◌*◌, drop}
use Rattle.gv_cmd.specs.Effect.{engine_registers_set}
use Rattle.gv_exec.proofs.register.registers_set.Given as goal

abbrev pub invariant-loop-n : goal.invariant-loop-n
invariant-loop-n g l = record {
  left : engine_registers_set g.S.SpaceMeaning.operations l.engine (g.S.SpaceMeaning.state l.space) (drop (1 + 2 * l.n) l.command)
      ≡ engine_registers_set g.S.SpaceMeaning.operations l.engine (g.S.SpaceMeaning.state l.initial.space) (drop 1 l.command);
  loans : g.S.SpaceMeaning.loans l.space ≡ g.S.SpaceMeaning.loans l.initial.space;
}
