use Rattle.std.proofs.Common.{subst}
use Rattle.gv_sggtt.specs.Pins.{PinsGranted}
use Rattle.gv_sggtt.proofs.Granted.{pins-granted}
use Rattle.gv_sggtt.proofs.table.GlobalTable.granted.Goals as goal

pub returns-in_err-slot-clause-pinned : goal.returns-in_err-slot-clause-pinned
returns-in_err-slot-clause-pinned c = subst PinsGranted c.self.view_is (pins-granted _ c.self.invariant)

pub returns-clause-pinned : goal.returns-clause-pinned
returns-clause-pinned c = subst PinsGranted c.self.view_is (pins-granted _ c.self.invariant)
