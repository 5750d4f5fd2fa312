use Rattle.std.proofs.Common.{refl, replicate}
use Rattle.gv_regs.proofs.Maps.{reset_is}
use Rattle.gv_regs.proofs.registers.Registers.reset.Goals as goal

pub returns-clause-map : goal.returns-clause-map
returns-clause-map c = reset_is (replicate 33 0) refl
