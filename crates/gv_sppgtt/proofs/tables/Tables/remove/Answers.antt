use Rattle.gv_sppgtt.proofs.Removed.{gone-words, holds-gone, keeps-gone}
use Rattle.gv_sppgtt.proofs.tables.Tables.remove.Goals as goal

pub returns-clause-words : goal.returns-clause-words
returns-clause-words g c k f i small =
    let d = g.G.Gpu.state c.args.gpu.now in
    let r = c.requires in
    let b = c.unboard.ensures in
    rw c.release.ensures (gone-words d c.args.frames.now c.args.self.now c.unboard.new.self c.args.pins.now c.args.level c.args.frame c.args.page r.holds r.frame r.low r.high r.node r.none r.empty b.here b.others b.parents b.nodes b.frames b.owners b.chains b.told b.guest k f i small)

pub returns-clause-holds : goal.returns-clause-holds
returns-clause-holds g c =
    let d = g.G.Gpu.state c.args.gpu.now in
    let r = c.requires in
    let b = c.unboard.ensures in
    rw c.release.ensures (holds-gone d c.args.frames.now c.args.self.now c.unboard.new.self c.args.pins.now c.args.level c.args.frame c.args.page r.holds r.frame r.low r.high r.node r.none r.empty b.here b.others b.parents b.nodes b.frames b.owners b.chains b.told b.guest)

pub returns-clause-keeps : goal.returns-clause-keeps
returns-clause-keeps g c =
    let d = g.G.Gpu.state c.args.gpu.now in
    let r = c.requires in
    let b = c.unboard.ensures in
    rw c.release.ensures (keeps-gone d c.args.frames.now c.args.self.now c.unboard.new.self c.args.pins.now c.args.level c.args.frame c.args.page r.holds r.frame r.low r.high r.node r.none r.empty b.here b.others b.parents b.nodes b.frames b.owners b.chains b.told b.guest b.touched)
