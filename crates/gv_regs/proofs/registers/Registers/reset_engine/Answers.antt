use Rattle.std.proofs.Common.{◌≡◌, ◌∙◌, ◌+◌, ◌*◌, ◌-◌, length, replicate, length-take, length-drop, ap, arith}
use borrow.Rule.Slice.PartMut.{mid_of}
use Rattle.gv_regs.specs.Registers.{map_of, engine_reset}
use Rattle.gv_regs.proofs.Maps.{engine_cleared}
use Rattle.gv_regs.proofs.registers.Registers.reset_engine.Goals as goal

pub returns-clause-map : goal.returns-clause-map
returns-clause-map c =
    let dwords = c.self.inside.kept in
    let six : length (mid_of (c.args.engine.0 * 6) (c.args.engine.0 * 6 + 6 - c.args.engine.0 * 6) dwords) ≡ 6 = simp (length-take, length-drop) (omega (arith, c.self.told)) in
    let zeros : c.fill.new.self ≡ replicate 6 0 = c.fill.ensures.after (λ y same. same) ∙ ap (λ n. replicate n 0) six in
    engine_cleared c.args.engine.0 c.requires dwords c.fill.new.self c.self.told zeros
    ∙ ap (λ file. engine_reset c.args.engine.0 (map_of file)) c.self.view_is
