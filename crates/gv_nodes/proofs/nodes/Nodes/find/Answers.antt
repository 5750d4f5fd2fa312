use Rattle.gv_nodes.proofs.Positions.{found_now, none_now, all_nodes}
use Rattle.gv_nodes.proofs.nodes.Nodes.find.Goals as goal

pub returns-clause-found : goal.returns-clause-found
returns-clause-found c =
    found_now c.self.inside c.args.self.now c.self.view_is c.self.invariant c.args.frame c.args.level c.position.result c.requires.frame c.requires.low c.requires.high c.position.ensures
    c.index.result.now c.index.ensures

pub returns-clause-none : goal.returns-clause-none
returns-clause-none c =
    none_now c.self.inside c.args.self.now c.self.view_is c.self.invariant c.args.frame c.args.level c.position.result c.requires.frame c.requires.low c.requires.high c.position.ensures
    c.index.result.now c.index.ensures

pub returns-clause-nodes : goal.returns-clause-nodes
returns-clause-nodes c = all_nodes c.self.inside c.args.self.now c.self.view_is c.self.invariant
