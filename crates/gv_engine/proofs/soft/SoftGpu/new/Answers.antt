use Rattle.gv_engine.specs.Held.{held}
use Rattle.gv_engine.proofs.States.{state-empty}
use Rattle.gv_engine.proofs.soft.SoftGpu.new.Goals as goal

pub returns : goal.returns
returns c = state-empty (held c.new.result) c.new-2.result.items c.zero_registers.result c.new-3.result.items c.new.ensures c.new-2.ensures.items c.zero_registers.ensures c.new-3.ensures.items
