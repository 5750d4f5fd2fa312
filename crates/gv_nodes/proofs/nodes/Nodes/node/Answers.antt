use Rattle.std.proofs.Common.{◌∙◌}
use Rattle.gv_nodes.proofs.Positions.{under, contains, all_nodes}
use Rattle.gv_nodes.proofs.nodes.Nodes.node.Goals as goal

pub index-requires : goal.index-requires
index-requires c = contains c.self.inside c.args.self.now c.self.view_is c.args.key c.requires

pub returns-clause-node : goal.returns-clause-node
returns-clause-node c = under c.self.inside c.args.self.now c.self.view_is c.args.key ∙ c.index.ensures

pub returns-clause-nodes : goal.returns-clause-nodes
returns-clause-nodes c = all_nodes c.self.inside c.args.self.now c.self.view_is c.self.invariant
