-- Where a command may stand.
use Rattle.std.specs.Prelude.{ℕ, ◌==◌, not, Bool, true, false, List, Option, None, Some}
use Rattle.gv_cmd.specs.Table.{kind_of}
use Rattle.gv_cmd.specs.declared.kind.Kind.{Kind}
use Rattle.gv_cmd.specs.declared.kind.Kind.TheVariants.{BatchEnd, Flush, PipeControl, BatchStart, ColourBlit, CopyBlit}
use Rattle.gv_cmd.specs.declared.stands.Stands.{Stands}
use Rattle.gv_cmd.specs.declared.stands.Stands.TheVariants.{Ring, Privileged, Live, Second}

-- The ring starts batches of the first level, fetched or live. A fetched batch starts batches of the
-- second level, fetched or live. A live batch jumps to another live address of the first level, or
-- starts a live batch of the second level. A second level starts none.
abbrev pub may_start : Stands → Bool → Bool → Bool
may_start Ring live second = not second
may_start Privileged live second = second
may_start Live live second = live
may_start Second live second = false

-- only a batch ends
abbrev pub may_end : Stands → Bool
may_end Ring = false
may_end stands = true

-- PIPE_CONTROL is for engine 0 (RCS) alone, FLUSH_DW for every other, blits for engine 1 (BCS) alone.
abbrev pub may_stand : Option Kind → Stands → ℕ → Bool
may_stand None stands engine = false
may_stand (Some (PipeControl notify write)) stands engine = engine == 0
may_stand (Some (Flush write)) stands engine = not (engine == 0)
may_stand (Some (ColourBlit blit)) stands engine = engine == 1
may_stand (Some (CopyBlit blit)) stands engine = engine == 1
may_stand (Some BatchEnd) stands engine = may_end stands
may_stand (Some (BatchStart live second at)) stands engine = may_start stands live second
may_stand (Some kind) stands engine = true

abbrev pub is_allowed : List ℕ → Stands → ℕ → Bool
is_allowed ws stands engine = may_stand (kind_of ws) stands engine
