use Rattle.gv_gtt.specs.Gtt.{over}
use Rattle.gv_gtt.proofs.MovedPage.{pinned-kept, move-translates, move-number}
use Rattle.gv_gtt.proofs.gtt.Gtt.move_page.Goals as goal

pub returns-clause-kept : goal.returns-clause-kept
returns-clause-kept g c = λ p.
    let pinned = pinned-kept (g.G.Gpu.state c.args.gpu.now) c.args.self.now c.requires.translates p c.args.frame c.requires.within in
    let kept = c.move_page.ensures.kept in
    (λ h. pinned.0 (kept.0 h), λ h. kept.1 (pinned.1 h))

pub returns-clause-device : goal.returns-clause-device
returns-clause-device g c = λ p i.
    let self = c.args.self.now in
    let w = c.move_page in
    record (over p (g.G.Gpu.state c.args.gpu.now) self) {
      number = move-number self.memory.frames w.new.self.frames c.args.frame (g.G.Gpu.state w.new.gpu) w.result w.ensures.moved w.ensures.unmoved i;
      memory = w.ensures.memory i;
    }

pub returns-clause-translates : goal.returns-clause-translates
returns-clause-translates g c =
    let w = c.move_page in
    move-translates (g.G.Gpu.state c.args.gpu.now) (g.G.Gpu.state w.new.gpu) c.args.self.now w.new.self c.args.frame c.requires.translates c.requires.within w.ensures.pins w.ensures.memory w.ensures.stands w.ensures.changes
    w.result w.ensures.kept w.ensures.moved w.ensures.unmoved w.ensures.device
