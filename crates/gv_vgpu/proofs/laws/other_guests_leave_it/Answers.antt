use Rattle.gv_vgpu.proofs.Others.{copies_stand, device_stands, device_stays}
use Rattle.gv_vgpu.proofs.laws.other_guests_leave_it.Goals as goal

pub returns-clause-stands : goal.returns-clause-stands
returns-clause-stands c = device_stands

pub returns-clause-stays : goal.returns-clause-stays
returns-clause-stays c = device_stays

pub returns-clause-copies : goal.returns-clause-copies
returns-clause-copies c = copies_stand
