use Rattle.std.proofs.Common.{◌-◌, ◌++◌, arith, sym, ◌∙◌}
use Rattle.gv_gen.specs.Script.{rounds_from, round_lines}
use Rattle.gv_gen.proofs.Rounds.{rounds_from-none, rounds_from-more}
use Rattle.gv_gen.proofs.script.next_round.Goals as goal

pub returns-then-rounds-eq0 : goal.returns-then-rounds-eq0
returns-then-rounds-eq0 c = rounds_from-none c.args.rounds.now c.args.generator.now.state c.if-rounds-eq0.true

pub returns : goal.returns
returns c =
    let n = c.args.rounds.now in
    rounds_from-more n c.args.generator.now.state (omega arith)
    ∙ (λ i. round_lines (sym c.draw.ensures.draw i) ++ rounds_from (n - 1) (sym c.draw.ensures.state i))
