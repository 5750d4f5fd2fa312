use Rattle.std.proofs.Common.{ap}
use Rattle.gv_gpu.specs.Device.{Device}
use Rattle.gv_sppgtt.proofs.Poked.{keeps-poked}
use Rattle.gv_sppgtt.proofs.tables.Tables.replace_leaf.Goals as goal

pub returns-clause-keeps : goal.returns-clause-keeps
returns-clause-keeps g c =
    let d = g.G.Gpu.state c.args.gpu.now in
    let e = g.G.Gpu.state c.put_leaf.new.gpu in
    let p = c.put_leaf.ensures in
    keeps-poked d e c.args.frames.now c.args.self.now c.put_leaf.new.self c.args.pins.now 1 c.args.frame c.args.page c.args.index p.poke.0 c.requires.holds c.requires.node p.poke.1 p.nodes p.guest p.told c.put_leaf.new.pins p.exact p.touched

pub returns-clause-pokes : goal.returns-clause-pokes
returns-clause-pokes g c = ap (λ (x : Device). x.pokes) c.put_leaf.ensures.poke.1
