use Rattle.std.proofs.Common.{◌≡◌, arith, sym, subst, set, ℕ}
use Rattle.gv_gpu.specs.Device.{with_engine_general}
use Rattle.gv_engine.specs.Held.{held}
use Rattle.gv_engine.specs.Soft.{state_of}
use Rattle.gv_engine.specs.Whole.{whole}
use Rattle.gv_engine.proofs.States.{state-general}
use Rattle.gv_engine.proofs.soft.SoftGpuGpu.set_general.Goals as goal

pub returns : goal.returns
returns c =
    let self = c.args.self.now in
    let there = state-general self.general c.args.engine.0 c.args.n c.args.value c.requires.register (omega (arith, c.requires.engine, c.requires.register)) (held self.pages) self.entries.items self.contexts self.journal.items self.strays self.pokes self.spare in
    subst (λ (at : ℕ). state_of (held self.pages) self.entries.items (set self.general at c.args.value) self.contexts self.journal.items self.strays self.pokes self.spare ≡ with_engine_general (whole self) c.args.engine.0 c.args.n c.args.value) (sym c.register.ensures.value) there
