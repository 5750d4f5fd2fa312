use Rattle.std.proofs.Common.{◌-◌, ◌<◌, ◌^◌, sym, refl, subst}
use Rattle.gv_sppgtt.proofs.NodePairs.{key-absent, key-parents, more-there, more-here, more-parents, more-pages}
use Rattle.gv_sppgtt.proofs.tables.Tables.hold.Goals as goal

pub returns-in_err-key-clause-none : goal.returns-in_err-key-clause-none
returns-in_err-key-clause-none c = rw c.from_residual.ensures (key-absent c.args.self.now.nodes c.args.level c.args.frame c.in_err-key.ensures.none, refl)

pub add_parent-requires-clause-room : goal.add_parent-requires-clause-room
add_parent-requires-clause-room c =
    subst (λ n. n < 2 ^ 32 - 1) (sym (key-parents c.args.self.now.nodes c.args.level c.args.frame c.in_ok-key.key c.requires.nodes c.in_ok-key.ensures.found)) c.requires.room

pub returns-clause-there : goal.returns-clause-there
returns-clause-there c = more-there c.args.self.now.nodes c.add_parent.new.self c.in_ok-key.key c.args.level c.args.frame c.node.result c.requires.nodes c.add_parent.ensures.nodes c.in_ok-key.ensures.found c.add_parent.ensures.changes c.node.ensures.node

pub returns-clause-pages : goal.returns-clause-pages
returns-clause-pages c = more-pages c.args.self.now.nodes c.add_parent.new.self c.in_ok-key.key c.args.level c.args.frame c.node.result c.requires.nodes c.add_parent.ensures.nodes c.in_ok-key.ensures.found c.add_parent.ensures.changes c.node.ensures.node

pub returns-clause-here : goal.returns-clause-here
returns-clause-here c = more-here c.args.self.now.nodes c.add_parent.new.self c.in_ok-key.key c.args.level c.args.frame c.node.result c.requires.nodes c.add_parent.ensures.nodes c.in_ok-key.ensures.found c.add_parent.ensures.changes c.node.ensures.node

pub returns-clause-others : goal.returns-clause-others
returns-clause-others c = more-parents c.args.self.now.nodes c.add_parent.new.self c.in_ok-key.key c.args.level c.args.frame c.node.result c.requires.nodes c.add_parent.ensures.nodes c.in_ok-key.ensures.found c.add_parent.ensures.changes c.node.ensures.node
