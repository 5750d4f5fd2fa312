use Rattle.gv_vgpu.proofs.Followed.{elements_are_loaded}
use Rattle.gv_vgpu.proofs.laws.elements_are_loaded.Goals as goal

pub returns : goal.returns
returns c = elements_are_loaded
