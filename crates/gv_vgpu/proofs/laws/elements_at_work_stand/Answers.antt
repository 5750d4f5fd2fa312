use Rattle.gv_vgpu.proofs.Working.{elements_at_work_stand}
use Rattle.gv_vgpu.proofs.laws.elements_at_work_stand.Goals as goal

pub returns : goal.returns
returns c = elements_at_work_stand
