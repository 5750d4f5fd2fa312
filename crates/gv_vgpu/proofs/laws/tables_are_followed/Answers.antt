use Rattle.gv_vgpu.proofs.Followed.{tables_are_followed}
use Rattle.gv_vgpu.proofs.laws.tables_are_followed.Goals as goal

pub returns : goal.returns
returns c = tables_are_followed
