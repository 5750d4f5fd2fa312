use Rattle.gv_vgpu.proofs.Working.{step_is_its_turn}
use Rattle.gv_vgpu.proofs.laws.a_step_is_its_turn.Goals as goal

pub returns : goal.returns
returns c = step_is_its_turn
