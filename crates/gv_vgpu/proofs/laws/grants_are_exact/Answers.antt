use Rattle.gv_vgpu.proofs.Exact.{grants_stay_exact}
use Rattle.gv_vgpu.proofs.laws.grants_are_exact.Goals as goal

pub returns : goal.returns
returns c = grants_stay_exact
