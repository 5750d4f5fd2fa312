use Rattle.std.proofs.Common.{ap, ◌∙◌}
use Rattle.gv_sppgtt.specs.State.{pages_of}
use Rattle.gv_sppgtt.specs.declared.tables.Tables.{Tables}
use Rattle.gv_sppgtt.proofs.Kept.{keeps-none}
use Rattle.gv_sppgtt.proofs.Making.{holds-more, keeps-more, made-more}
use Rattle.gv_sppgtt.proofs.tables.Tables.make.Goals as goal

pub make_node-requires-clause-holds : goal.make_node-requires-clause-holds
make_node-requires-clause-holds g c =
    let d = g.G.Gpu.state c.args.gpu.now in
    let p = c.in_ok-reserve_leaves.ensures in
    let r = c.reserve_leaves.new.self in
    holds-more d d c.args.frames.now c.args.self.now r r c.args.pins.now c.args.pins.now p.others p.chains c.requires.holds

pub make_node-requires-clause-absent : goal.make_node-requires-clause-absent
make_node-requires-clause-absent g c = ap (λ (x : Tables). pages_of x c.args.level c.args.frame) c.in_ok-reserve_leaves.ensures.others ∙ c.requires.absent

pub returns-in_err-reserve_leaves-clause-holds : goal.returns-in_err-reserve_leaves-clause-holds
returns-in_err-reserve_leaves-clause-holds g c =
    let d = g.G.Gpu.state c.args.gpu.now in
    let p = c.in_err-reserve_leaves.ensures in
    let r = c.reserve_leaves.new.self in
    holds-more d d c.args.frames.now c.args.self.now r r c.args.pins.now c.args.pins.now p.others p.chains c.requires.holds

pub returns-in_err-reserve_leaves-clause-keeps : goal.returns-in_err-reserve_leaves-clause-keeps
returns-in_err-reserve_leaves-clause-keeps g c =
    let d = g.G.Gpu.state c.args.gpu.now in
    let r = c.reserve_leaves.new.self in
    keeps-more d d c.args.frames.now c.args.self.now r r c.args.pins.now c.args.pins.now c.in_err-reserve_leaves.ensures.others (keeps-none c.args.frames.now d r c.args.pins.now)

pub returns-in_err-page-clause-keeps : goal.returns-in_err-page-clause-keeps
returns-in_err-page-clause-keeps g c =
    let d = g.G.Gpu.state c.args.gpu.now in
    let e = g.G.Gpu.state c.make_node.new.gpu in
    keeps-more d e c.args.frames.now c.args.self.now c.reserve_leaves.new.self c.make_node.new.self c.args.pins.now c.args.pins.now c.in_ok-reserve_leaves.ensures.others c.in_err-page.ensures.keeps

pub returns-clause-keeps : goal.returns-clause-keeps
returns-clause-keeps g c =
    let d = g.G.Gpu.state c.args.gpu.now in
    let e = g.G.Gpu.state c.make_node.new.gpu in
    keeps-more d e c.args.frames.now c.args.self.now c.reserve_leaves.new.self c.make_node.new.self c.args.pins.now c.args.pins.now c.in_ok-reserve_leaves.ensures.others c.in_ok-page.ensures.keeps

pub returns-clause-made : goal.returns-clause-made
returns-clause-made g c =
    let d = g.G.Gpu.state c.args.gpu.now in
    let e = g.G.Gpu.state c.make_node.new.gpu in
    made-more d e c.args.frames.now c.args.self.now c.reserve_leaves.new.self c.make_node.new.self c.args.pins.now c.args.pins.now c.in_ok-reserve_leaves.ensures.others c.args.level c.args.frame c.in_ok-page.page c.in_ok-page.ensures.made
