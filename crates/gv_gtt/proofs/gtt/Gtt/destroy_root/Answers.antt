use Rattle.std.proofs.Common.{sym, ◌∙◌}
use Rattle.gv_gtt.specs.Gtt.{over, roots_in}
use Rattle.gv_gtt.proofs.Announced.{without-none}
use Rattle.gv_gtt.proofs.Results.{on-ok-one}
use Rattle.gv_gtt.proofs.RootCalls.{over-changed}
use Rattle.gv_gtt.proofs.gtt.Gtt.destroy_root.Goals as goal
use Rattle.gv_private.specs.Roots.{without_root}

pub returns-then-is_root-clause-device : goal.returns-then-is_root-clause-device
returns-then-is_root-clause-device g c =
    let w = c.take_root in
    let self = c.args.self.now in
    on-ok-one w.result w.ensures.roots (λ roots p.
    over-changed p (g.G.Gpu.state c.args.gpu.now) (g.G.Gpu.state w.new.gpu) self w.new.self (without_root (roots_in self) c.args.root) w.ensures.changes w.ensures.memory w.ensures.entries roots)

pub returns-else-is_root-clause-device : goal.returns-else-is_root-clause-device
returns-else-is_root-clause-device g c =
    let self = c.args.self.now in
    let roots = roots_in self in
    λ p i. record (over p (g.G.Gpu.state c.args.gpu.now) self) { roots = sym (without-none roots c.args.root (sym c.is_root.ensures ∙ c.if-is_root.false)) i }
