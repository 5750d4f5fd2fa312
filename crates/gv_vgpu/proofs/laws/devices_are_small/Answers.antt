use Rattle.gv_vgpu.proofs.Small.{devices_are_small, windows_are_small}
use Rattle.gv_vgpu.proofs.laws.devices_are_small.Goals as goal

pub returns-clause-all : goal.returns-clause-all
returns-clause-all c = devices_are_small

pub returns-clause-windows : goal.returns-clause-windows
returns-clause-windows c = windows_are_small
