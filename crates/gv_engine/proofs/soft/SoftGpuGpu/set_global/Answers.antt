use Rattle.std.proofs.Common.{arith}
use Rattle.gv_engine.specs.Held.{held}
use Rattle.gv_engine.proofs.States.{state-entry}
use Rattle.gv_engine.proofs.soft.SoftGpuGpu.set_global.Goals as goal

pub returns : goal.returns
returns c =
    let self = c.args.self.now in
    let whole = self.whole_table c.requires.live.0 c.requires.live.1 in
    state-entry self.general self.contexts self.journal.items self.strays self.pokes self.spare (held self.pages) self.entries.items c.args.index c.args.entry (omega (arith, whole, c.requires.within))
