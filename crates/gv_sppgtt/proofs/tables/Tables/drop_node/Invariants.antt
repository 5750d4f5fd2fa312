use Rattle.std.proofs.Common.{◌≡◌, Some, length}
use Rattle.gv_sppgtt.specs.State.{pages_of, sketch_of}
use Rattle.gv_sppgtt.specs.Grown.{Emptying}
use Rattle.gv_sppgtt.specs.Holding.{Holds, Keeps}
use Rattle.gv_sppgtt.proofs.tables.Tables.drop_node.Given as goal

-- the words are taken out as far as the loop has come
abbrev pub invariant-loop-index : goal.invariant-loop-index
invariant-loop-index g l =
    let now = g.G.Gpu.state l.gpu in
    let start = g.G.Gpu.state l.fn.gpu in
    record {
      holds : Holds now l.frames l.self l.pins;
      keeps : Keeps l.frames start now l.fn.self l.self l.fn.pins l.pins;
      there : pages_of l.self l.level l.frame ≡ Some l.page;
      emptying : Emptying (length l.frames.pages) l.level l.frame l.index (sketch_of start l.fn.self) (sketch_of now l.self);
    }
