use Rattle.gv_gtt.proofs.Results.{on-ok-two}
use Rattle.gv_gtt.proofs.RootCalls.{created-ok, created-err}
use Rattle.gv_gtt.proofs.gtt.Gtt.create_root.Goals as goal

pub returns-clause-device : goal.returns-clause-device
returns-clause-device g c =
    let w = c.make_root in
    on-ok-two w.result w.ensures.good w.ensures.roots (λ good roots p.
    created-ok (g.G.Gpu.state c.args.gpu.now) c.args.self.now c.requires.translates c.args.root p (g.G.Gpu.state w.new.gpu) w.new.self good roots w.ensures.memory w.ensures.entries w.ensures.changes)

pub returns-clause-bad : goal.returns-clause-bad
returns-clause-bad g c = λ bad p. created-err (g.G.Gpu.state c.args.gpu.now) c.args.self.now c.requires.translates c.args.root p (c.make_root.ensures.bad bad)
