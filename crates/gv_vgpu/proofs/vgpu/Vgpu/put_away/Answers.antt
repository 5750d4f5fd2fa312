use Rattle.gv_vgpu.specs.Owners.{is_here}
use Rattle.gv_vgpu.proofs.PuttingAway.{idle-then, put-away, still-sixteen}
use Rattle.gv_vgpu.proofs.vgpu.Vgpu.put_away.Goals as goal

pub returns-clause-exchanges : goal.returns-clause-exchanges
returns-clause-exchanges g c =
    put-away (g.G.Gpu.state c.args.gpu.now) (g.G.Gpu.state c.put_away.new.gpu) c.args.self.now c.keep.new.self (is_here c.args.here) c.args.engine.0 c.put_away.new.kept c.requires.engine c.requires.holds c.requires.own
    c.in_ok-put_away.ensures.ok c.in_ok-put_away.ensures.kept c.in_ok-put_away.ensures.sixteen
    c.keep.ensures.gtt c.keep.ensures.mmio c.keep.ensures.failsafe c.keep.ensures.own c.keep.ensures.others

pub returns-clause-idle : goal.returns-clause-idle
returns-clause-idle g c =
    idle-then (g.G.Gpu.state c.args.gpu.now) (g.G.Gpu.state c.put_away.new.gpu) c.args.self.now c.keep.new.self (is_here c.args.here) c.args.engine.0 c.put_away.new.kept c.requires.engine c.requires.holds c.requires.own
    c.in_ok-put_away.ensures.ok c.in_ok-put_away.ensures.kept c.in_ok-put_away.ensures.sixteen
    c.keep.ensures.gtt c.keep.ensures.mmio c.keep.ensures.failsafe c.keep.ensures.own c.keep.ensures.others

pub returns-clause-sixteen : goal.returns-clause-sixteen
returns-clause-sixteen g c =
    still-sixteen (g.G.Gpu.state c.args.gpu.now) (g.G.Gpu.state c.put_away.new.gpu) c.args.self.now c.keep.new.self (is_here c.args.here) c.args.engine.0 c.put_away.new.kept c.requires.engine c.requires.holds c.requires.own
    c.in_ok-put_away.ensures.ok c.in_ok-put_away.ensures.kept c.in_ok-put_away.ensures.sixteen
    c.keep.ensures.gtt c.keep.ensures.mmio c.keep.ensures.failsafe c.keep.ensures.own c.keep.ensures.others
