use Rattle.std.proofs.Common.{length, ap, ◌∙◌, refl, arith}
use Rattle.gv_shape.specs.Shadow.{Pages}
use Rattle.gv_sppgtt.specs.State.{pages_of}
use Rattle.gv_sppgtt.proofs.NodePairs.{are_reserved}
use Rattle.gv_sppgtt.proofs.SameNodes.{label-is}
use Rattle.gv_sppgtt.proofs.Room.{count-most}
use Rattle.gv_sppgtt.proofs.Kept.{keeps-nodes}
use Rattle.gv_sppgtt.proofs.Making.{same-pages, holds-reserved, all-made, holds-made, keeps-made}
use Rattle.gv_sppgtt.proofs.tables.Tables.make_node.Goals as goal

pub add_page-requires : goal.add_page-requires
add_page-requires g c =
    let h = c.requires.holds in
    let room = h.room in
    let most = count-most (pages_of c.args.self.now) c.args.level c.args.frame c.requires.absent c.requires.low c.requires.high (length c.args.frames.now.pages) h.few c.requires.frame c.requires.whole in
    omega arith

pub returns-in_err-page-clause-holds : goal.returns-in_err-page-clause-holds
returns-in_err-page-clause-holds g c =
    rw c.in_err-page.ensures.err (holds-reserved (g.G.Gpu.state c.args.gpu.now) c.args.frames.now c.args.self.now c.args.pins.now c.reserve.new.self c.in_ok-reserve.ensures.ok c.requires.holds)

pub board-requires-clause-absent : goal.board-requires-clause-absent
board-requires-clause-absent g c = ap (λ (p : Pages). p c.args.level c.args.frame) (same-pages c.args.self.now.nodes c.reserve.new.self c.in_ok-reserve.ensures.ok) ∙ c.requires.absent

pub board-requires-clause-nodes : goal.board-requires-clause-nodes
board-requires-clause-nodes g c = rw c.in_ok-reserve.ensures.ok (are_reserved c.args.self.now.nodes 1 c.requires.holds.nodes)

pub returns-clause-made : goal.returns-clause-made
returns-clause-made g c =
    let t = c.args.self.now in
    let d = g.G.Gpu.state c.args.gpu.now in
    let b = c.board.ensures in
    let p = c.in_ok-page.ensures in
    rw p.ok
    (all-made d c.args.frames.now t c.board.new.self c.args.pins.now c.reserve.new.self c.args.level c.args.frame c.in_ok-page.page c.requires.holds c.in_ok-reserve.ensures.ok c.requires.frame c.requires.low c.requires.high c.requires.whole c.requires.absent
    p.below p.fresh p.empty b.here b.parent b.others b.parents b.nodes b.frames b.owners b.chains b.told b.guest)

pub returns-clause-holds : goal.returns-clause-holds
returns-clause-holds g c =
    let t = c.args.self.now in
    let d = g.G.Gpu.state c.args.gpu.now in
    let b = c.board.ensures in
    let p = c.in_ok-page.ensures in
    let label = label-is t.guest c.args.frames.now.guest c.requires.holds.guest in
    rw (p.ok, label)
    (holds-made d c.args.frames.now t c.board.new.self c.args.pins.now c.reserve.new.self c.args.level c.args.frame c.in_ok-page.page c.requires.holds c.in_ok-reserve.ensures.ok c.requires.frame c.requires.low c.requires.high c.requires.whole c.requires.absent
    p.below p.fresh p.empty b.here b.parent b.others b.parents b.nodes b.frames b.owners b.chains b.told b.guest)

pub returns-clause-keeps : goal.returns-clause-keeps
returns-clause-keeps g c =
    let t = c.args.self.now in
    let d = g.G.Gpu.state c.args.gpu.now in
    let b = c.board.ensures in
    let p = c.in_ok-page.ensures in
    let label = label-is t.guest c.args.frames.now.guest c.requires.holds.guest in
    rw (p.ok, label)
    (keeps-made d c.args.frames.now t c.board.new.self c.args.pins.now c.reserve.new.self c.args.level c.args.frame c.in_ok-page.page c.requires.holds c.in_ok-reserve.ensures.ok c.requires.frame c.requires.low c.requires.high c.requires.whole c.requires.absent
    p.below p.fresh p.empty b.here b.parent b.others b.parents b.nodes b.frames b.owners b.chains b.told b.guest b.touched)

pub returns-in_err-page-clause-keeps : goal.returns-in_err-page-clause-keeps
returns-in_err-page-clause-keeps g c =
    let t = c.args.self.now in
    let r = c.reserve.new.self in
    let is = c.in_ok-reserve.ensures.ok in
    rw c.in_err-page.ensures.err
    (keeps-nodes c.args.frames.now (g.G.Gpu.state c.args.gpu.now) t (record t { nodes = r }) c.args.pins.now c.requires.holds.nodes (rw is (are_reserved t.nodes 1 c.requires.holds.nodes))
    (λ k f. ap (λ (p : Pages). p k f) (same-pages t.nodes r is)) refl refl refl refl)
