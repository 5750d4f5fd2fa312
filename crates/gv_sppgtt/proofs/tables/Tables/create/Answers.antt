use Rattle.std.proofs.Common.{length, sym, ◌∙◌, arith}
use Rattle.gv_sppgtt.specs.Serving.{guarded_of}
use Rattle.gv_sppgtt.proofs.Served.{with-there, good-there, tells-none}
use Rattle.gv_sppgtt.proofs.Changes.{changes-none}
use Rattle.gv_sppgtt.proofs.tables.Tables.create.Goals as goal

pub returns-then-has_node-clause-roots : goal.returns-then-has_node-clause-roots
returns-then-has_node-clause-roots g c =
    sym (with-there c.args.memory.now.frames (g.G.Gpu.state c.args.gpu.now) c.args.self.now c.args.memory.now.pins c.args.root c.requires.serves (sym c.has_node.ensures ∙ c.if-has_node.true))

pub returns-then-has_node-clause-changed : goal.returns-then-has_node-clause-changed
returns-then-has_node-clause-changed g c = tells-none (guarded_of c.args.self.now) (length c.args.memory.now.frames.pages) c.none.result.guarded.items c.none.result.unguarded.items c.none.ensures.guarded c.none.ensures.unguarded

pub returns-then-has_node-clause-good : goal.returns-then-has_node-clause-good
returns-then-has_node-clause-good g c =
    good-there c.args.memory.now.frames (g.G.Gpu.state c.args.gpu.now) c.args.self.now c.args.memory.now.pins c.args.root c.requires.serves (sym c.has_node.ensures ∙ c.if-has_node.true) (omega arith)

pub returns-then-has_node-clause-stay : goal.returns-then-has_node-clause-stay
returns-then-has_node-clause-stay g c k f q is = is

pub returns-then-has_node-clause-changes : goal.returns-then-has_node-clause-changes
returns-then-has_node-clause-changes g c = changes-none c.args.memory.now.frames (g.G.Gpu.state c.args.gpu.now) c.args.self.now c.args.memory.now.pins
