use Rattle.std.proofs.Common.{◌+◌, ap, ◌∙◌, refl}
use Rattle.gv_nodes.specs.NodeMap.{new_node, parents_of}
use Rattle.gv_sppgtt.specs.Sound.{page_of_node, parents_of_node}
use Rattle.gv_sppgtt.proofs.NodePairs.{absent-key, inserted-other, recounted-other, recounted-here}
use Rattle.gv_sppgtt.proofs.tables.Tables.board.Goals as goal

pub insert-key-requires-clause-absent : goal.insert-key-requires-clause-absent
insert-key-requires-clause-absent c = absent-key c.args.self.now.nodes c.args.level c.args.frame c.requires.nodes c.requires.absent

pub returns-clause-here : goal.returns-clause-here
returns-clause-here c =
    let n = new_node c.args.frame c.args.level c.args.page in
    ap page_of_node (recounted-here c.insert-key.new.self c.add_parent.new.self c.insert-key.result c.args.level c.args.frame (parents_of c.insert-key.new.self c.insert-key.result + 1) n
    c.insert-key.ensures.nodes c.add_parent.ensures.nodes c.insert-key.ensures.changes.changed refl refl c.add_parent.ensures.changes)

pub returns-clause-parent : goal.returns-clause-parent
returns-clause-parent c =
    let n = new_node c.args.frame c.args.level c.args.page in
    ap parents_of_node (recounted-here c.insert-key.new.self c.add_parent.new.self c.insert-key.result c.args.level c.args.frame (parents_of c.insert-key.new.self c.insert-key.result + 1) n
    c.insert-key.ensures.nodes c.add_parent.ensures.nodes c.insert-key.ensures.changes.changed refl refl c.add_parent.ensures.changes)
    ∙ rw c.insert-key.ensures.changes.changed refl

pub returns-clause-others : goal.returns-clause-others
returns-clause-others c k f apart =
    let n = new_node c.args.frame c.args.level c.args.page in
    ap page_of_node (recounted-other c.insert-key.new.self c.add_parent.new.self c.insert-key.result c.args.level c.args.frame (parents_of c.insert-key.new.self c.insert-key.result + 1) n
    c.insert-key.ensures.nodes c.add_parent.ensures.nodes c.insert-key.ensures.changes.changed refl refl c.add_parent.ensures.changes k f apart
    ∙ inserted-other c.args.self.now.nodes c.insert-key.new.self c.insert-key.result c.args.level c.args.frame c.args.page c.requires.nodes c.insert-key.ensures.nodes c.insert-key.ensures.fresh
    (absent-key c.args.self.now.nodes c.args.level c.args.frame c.requires.nodes c.requires.absent) c.insert-key.ensures.changes k f apart)

pub returns-clause-parents : goal.returns-clause-parents
returns-clause-parents c k f apart =
    let n = new_node c.args.frame c.args.level c.args.page in
    ap parents_of_node (recounted-other c.insert-key.new.self c.add_parent.new.self c.insert-key.result c.args.level c.args.frame (parents_of c.insert-key.new.self c.insert-key.result + 1) n
    c.insert-key.ensures.nodes c.add_parent.ensures.nodes c.insert-key.ensures.changes.changed refl refl c.add_parent.ensures.changes k f apart
    ∙ inserted-other c.args.self.now.nodes c.insert-key.new.self c.insert-key.result c.args.level c.args.frame c.args.page c.requires.nodes c.insert-key.ensures.nodes c.insert-key.ensures.fresh
    (absent-key c.args.self.now.nodes c.args.level c.args.frame c.requires.nodes c.requires.absent) c.insert-key.ensures.changes k f apart)
