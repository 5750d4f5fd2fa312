use Rattle.std.proofs.Common.{length, ap, ◌∙◌}
use Rattle.gv_arena.proofs.Longer.{length-zero_pages}
use Rattle.gv_arena.proofs.chunk.Chunk.new.Goals as goal

pub invariant_of-result : goal.invariant_of-result
invariant_of-result c = ap length c.in_ok-block.ensures ∙ length-zero_pages
