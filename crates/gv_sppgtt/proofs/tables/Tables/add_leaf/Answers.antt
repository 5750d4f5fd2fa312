use Rattle.gv_sppgtt.proofs.Ordered.{order-linked}
use Rattle.gv_sppgtt.proofs.tables.Tables.add_leaf.Goals as goal

pub returns-clause-order : goal.returns-clause-order
returns-clause-order c ordered =
    rw c.link.ensures.after (order-linked c.args.self.now.chains c.args.frame (record { page = c.args.page; index = c.args.index; writable = c.args.writable }) c.requires.there c.requires.absent ordered)
