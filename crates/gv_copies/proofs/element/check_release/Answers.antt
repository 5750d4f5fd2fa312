use Rattle.std.proofs.Common.{sym, subst}
use Rattle.gv_gpu.specs.Device.{Device}
use Rattle.gv_element.specs.Works.{Rests}
use Rattle.gv_element.proofs.Away.{stopped-rests}
use Rattle.gv_copies.proofs.element.check_release.Goals as goal

pub release-requires : goal.release-requires
release-requires g c =
    let runs = c.in_ok-program.ensures.runs in
    let begins = c.in_ok-element.ensures.begins runs.items runs.program in
    let x = c.in_ok-element.element in
    subst (λ (d : Device). Rests d x.window) (sym c.in_ok-stop.ensures.ok) (stopped-rests (g.G.Gpu.state c.load.new.gpu) 1 1 0 x begins.works)
