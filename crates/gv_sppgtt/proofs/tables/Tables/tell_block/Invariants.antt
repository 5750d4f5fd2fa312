use Rattle.std.proofs.Common.{ℕ, ◌≡◌}
use Rattle.gv_gpu.specs.Device.{Device}
use Rattle.gv_sppgtt.specs.Holding.{Holds}
use Rattle.gv_sppgtt.specs.Serving.{ChangesTables, guarded_of}
use Rattle.gv_sppgtt.specs.State.{is_table, pages_of}
use Rattle.gv_sppgtt.specs.Telling.{Telling}
use Rattle.gv_sppgtt.specs.declared.tables.Tables.{Tables}
use Rattle.gv_sppgtt.proofs.tables.Tables.tell_block.Given as goal

-- the frames of the block before this one were told of
abbrev pub invariant-loop-frame : goal.invariant-loop-frame
invariant-loop-frame g l =
    let now = g.G.Gpu.state l.gpu in
    let start = g.G.Gpu.state l.fn.gpu in
    record {
      holds : Holds now l.frames l.self l.pins;
      changes : ChangesTables l.frames start now l.fn.self l.self l.pins l.pins;
      idle : ((frame : ℕ) → guarded_of l.fn.self frame ≡ is_table (pages_of l.fn.self) frame) → (now ≡ start) × (l.self ≡ l.fn.self);
      telling : (d : Device) (t : Tables) → Telling l.frames d t l.first start l.fn.self l.fn.changed.guarded.items l.fn.changed.unguarded.items → Telling l.frames d t l.frame now l.self l.changed.guarded.items l.changed.unguarded.items;
    }
