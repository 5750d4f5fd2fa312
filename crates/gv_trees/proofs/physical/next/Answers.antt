use Rattle.std.proofs.Common.{◌≡◌, ◌-◌, ◌/◌, ◌%◌, sym, subst, arith}
use Rattle.gv_guest.specs.Placed.{memory_in}
use Rattle.gv_trees.specs.Served.{IsTable}
use Rattle.gv_trees.proofs.Below.{below}
use Rattle.gv_trees.proofs.physical.next.Goals as goal

pub returns : goal.returns
returns g c =
    let d = g.G.Gpu.state c.args.gpu.now in
    let guest = c.args.guest.now in
    let word = c.entry-entry.ensures in
    let present : c.entry-entry.result % 2 ≡ 1 = omega arith in
    subst (λ w. IsTable guest.tables (c.args.level - 1) (w / 4096)) (sym word.1.1)
    (below d guest.memory.frames guest.memory.pins guest.tables (memory_in d guest.memory.frames) c.requires.served.serves c.args.level c.args.page c.requires.table word.0 c.requires.above word.1.0
    (subst (λ w. w % 2 ≡ 1) word.1.1 present))
