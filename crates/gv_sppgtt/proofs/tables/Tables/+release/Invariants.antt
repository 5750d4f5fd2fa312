use Rattle.std.proofs.Common.{◌≡◌, ◌+◌, ◌*◌, Some, length}
use Rattle.gv_sppgtt.specs.State.{pages_of, parents_of, sketch_of}
use Rattle.gv_sppgtt.specs.Grown.{Emptying}
use Rattle.gv_sppgtt.specs.Holding.{Holds, Keeps}
use Rattle.gv_sppgtt.proofs.tables.Tables.+release.Given as goal
use Rattle.gv_shape.specs.Counts.{rank}

abbrev pub decreases-release : goal.decreases-release
decreases-release g l = 2 * rank l.level + 1

abbrev pub decreases-empty_word : goal.decreases-empty_word
decreases-empty_word g l = 2 * rank l.level

-- the words are taken out as far as the loop has come
abbrev pub invariant-release-loop-index : goal.invariant-release-loop-index
invariant-release-loop-index g l =
    let now = g.G.Gpu.state l.gpu in
    let begun = g.G.Gpu.state l.initial.gpu in
    record {
      holds : Holds now l.frames l.self l.pins;
      keeps : Keeps l.frames begun now l.initial.self l.self l.initial.pins l.pins;
      there : pages_of l.self l.level l.frame ≡ Some l.page;
      none : parents_of l.self l.level l.frame ≡ 0;
      emptying : Emptying (length l.frames.pages) l.level l.frame l.index (sketch_of begun l.initial.self) (sketch_of now l.self);
    }
