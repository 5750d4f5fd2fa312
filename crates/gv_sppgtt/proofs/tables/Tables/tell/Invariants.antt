use Rattle.std.proofs.Common.{ℕ, ◌≡◌, ◌*◌, min, length}
use Rattle.gv_sppgtt.specs.Holding.{Holds}
use Rattle.gv_sppgtt.specs.Serving.{ChangesTables, guarded_of}
use Rattle.gv_sppgtt.specs.State.{is_table, pages_of}
use Rattle.gv_sppgtt.specs.Telling.{Telling}
use Rattle.gv_sppgtt.proofs.tables.Tables.tell.Given as goal

-- the frames of the blocks before this one were told of
abbrev pub invariant-loop-block : goal.invariant-loop-block
invariant-loop-block g l =
    let now = g.G.Gpu.state l.gpu in
    let start = g.G.Gpu.state l.fn.gpu in
    record {
      holds : Holds now l.frames l.self l.pins;
      changes : ChangesTables l.frames start now l.fn.self l.self l.pins l.pins;
      idle : ((frame : ℕ) → guarded_of l.fn.self frame ≡ is_table (pages_of l.fn.self) frame) → (now ≡ start) × (l.self ≡ l.fn.self);
      telling : Telling l.frames start l.fn.self (min (l.block * 128) (length l.frames.pages)) now l.self l.changed.guarded.items l.changed.unguarded.items;
    }
