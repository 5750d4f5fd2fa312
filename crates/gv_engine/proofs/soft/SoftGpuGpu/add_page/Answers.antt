use Rattle.gv_engine.specs.Held.{held}
use Rattle.gv_engine.proofs.States.{state-added}
use Rattle.gv_engine.proofs.soft.SoftGpuGpu.add_page.Goals as goal

pub returns-clause-ok : goal.returns-clause-ok
returns-clause-ok c =
    let self = c.args.self.now in
    state-added (held self.pages) (held c.add.new.self) self.general self.contexts self.journal.items self.strays self.pokes self.spare self.entries.items c.lengthen.new.entries.items c.in_ok-lengthen.ensures.same
    c.args.label c.add.result c.add.ensures.label c.add.ensures.words c.add.ensures.live
