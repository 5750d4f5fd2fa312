use Rattle.std.proofs.Common.{◌≡◌, ◌≤◌, ◌+◌, ◌*◌, true, Some, length}
use Rattle.gv_shape.specs.Shadow.{has_leaves}
use Rattle.gv_guest.specs.Placed.{memory_in}
use Rattle.gv_sppgtt.specs.State.{pages_of, sketch_of}
use Rattle.gv_sppgtt.specs.Grown.{Growing}
use Rattle.gv_sppgtt.specs.Holding.{Holds, Keeps}
use Rattle.gv_sppgtt.proofs.tables.Tables.+acquire.Given as goal
use Rattle.gv_shape.specs.Counts.{rank}

abbrev pub decreases-acquire : goal.decreases-acquire
decreases-acquire g l = 2 * rank l.level + 1

abbrev pub decreases-fill : goal.decreases-fill
decreases-fill g l = 2 * rank l.level

-- the node stands with its words as far as the loop has come
abbrev pub invariant-acquire-loop-index : goal.invariant-acquire-loop-index
invariant-acquire-loop-index g l =
    let now = g.G.Gpu.state l.gpu in
    let start = g.G.Gpu.state l.fn.gpu in
    record {
      holds : Holds now l.frames l.self l.pins;
      keeps : Keeps l.frames start now l.fn.self l.self l.fn.pins l.pins;
      there : pages_of l.self l.level l.frame ≡ Some l.page;
      spare : has_leaves l.level ≡ true → 512 ≤ l.self.chains.spare + l.index;
      grown : Growing (length l.frames.pages) (memory_in start l.frames) l.level l.frame l.index (sketch_of start l.fn.self) (sketch_of now l.self);
    }
