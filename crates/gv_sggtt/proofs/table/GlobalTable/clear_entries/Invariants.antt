use Rattle.std.proofs.Common.{◌≡◌}
use Rattle.gv_gpu.specs.Change.{ChangesOnly}
use Rattle.gv_gpu.specs.Part.{entries_part}
use Rattle.gv_guest.specs.Placed.{KeepsMemory}
use Rattle.gv_sggtt.specs.Mirror.{Mirrors}
use Rattle.gv_sggtt.specs.Pins.{ChangesOwnPins}
use Rattle.gv_sggtt.specs.Table.{Table, IsTable}
use Rattle.gv_sggtt.proofs.table.GlobalTable.clear_entries.Given as goal

-- the table mirrors as far as it is, and has its pins
abbrev pub invariant-loop-slot : goal.invariant-loop-slot
invariant-loop-slot g l =
    let now = g.G.Gpu.state l.gpu in
    let start = g.G.Gpu.state l.fn.gpu in
    let inside = l.self-inside in
    let table : Table = record { ranges = inside.ranges; frames = inside.entries.frames; entries = inside.entries.values; guarded = inside.guarded.items } in
    record {
      ranges : inside.ranges ≡ l.fn.self.ranges;
      frames : inside.entries.frames ≡ l.fn.self.frames;
      guarded : inside.guarded.items ≡ l.fn.self.guarded;
      is : IsTable table;
      memory : KeepsMemory l.memory start now;
      mirrors : Mirrors now table l.memory;
      pins : ChangesOwnPins l.fn.self table l.fn.pins l.pins;
      changes : ChangesOnly (entries_part l.fn.self.ranges) 0 start now;
    }

abbrev pub decreases-loop-slot : goal.decreases-loop-slot
decreases-loop-slot g l = l.self-inside.entries.left
