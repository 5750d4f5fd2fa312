use Rattle.std.proofs.Common.{◌+◌, ◌%◌, ap, arith}
use Rattle.gv_gpu.specs.Device.{Device}
use Rattle.gv_gpu.specs.Part.{first_of_window}
use Rattle.gv_copies.proofs.window.check_drop.Goals as goal

pub build-requires-clause-absent : goal.build-requires-clause-absent
build-requires-clause-absent g c = λ i h. ap (λ (d : Device). d.global (first_of_window 1 1 + i) % 2) c.requires

pub build-requires-clause-room : goal.build-requires-clause-room
build-requires-clause-room g c = let live = ap (λ (d : Device). d.live) c.requires in omega arith
