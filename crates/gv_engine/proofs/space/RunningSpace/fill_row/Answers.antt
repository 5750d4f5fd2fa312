use Rattle.gv_engine.proofs.space.RunningSpace.fill_row.Goals as goal

pub returns-clause-left : goal.returns-clause-left
returns-clause-left c = c.fill_row-self.ensures c.args.self.now.engine.0
