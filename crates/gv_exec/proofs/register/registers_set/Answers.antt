use Rattle.std.proofs.Common.{sym, ◌∙◌, arith}
use Rattle.gv_exec.proofs.Pairs.{registers_set-step, registers_set-end}
use Rattle.gv_exec.proofs.register.registers_set.Goals as goal

pub loop-n-preserved : goal.loop-n-preserved
loop-n-preserved g c = record {
  left = registers_set-step g.S.SpaceMeaning.operations c.args.engine c.args.command.now c.loop-n.n _ _ _ _ c.from.result
      (omega arith) c.from.ensures c.pair-register.ensures.register c.pair-register.ensures.value c.register_set.ensures.left ∙ c.loop-n.invariant.left;
  loans = c.register_set.ensures.loans ∙ c.loop-n.invariant.loans;
}

pub returns-clause-left : goal.returns-clause-left
returns-clause-left g c =
    sym (registers_set-end g.S.SpaceMeaning.operations c.args.engine c.args.command.now c.loop-n.n _ (omega arith)) ∙ c.loop-n.invariant.left
