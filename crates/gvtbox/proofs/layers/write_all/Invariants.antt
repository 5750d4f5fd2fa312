use Rattle.std.proofs.Common.{◌≡◌, length, replicate, false}
use Rattle.gv_guest.specs.Placed.{Hosts}
use Rattle.gv_sggtt.specs.Mirror.{Mirrors}
use Rattle.gv_sggtt.specs.Pins.{HasPins}
use Rattle.gvtbox.proofs.layers.write_all.Given as goal

abbrev pub invariant-loop-page : goal.invariant-loop-page
invariant-loop-page g l =
    let now = g.G.Gpu.state l.gpu in
    record {
      stands : Hosts now l.memory.frames;
      frames : length l.memory.frames.pages ≡ l.table.frames;
      mirrors : Mirrors now l.table l.memory.frames;
      pinned : HasPins l.table l.memory.pins;
      same : l.table.frames ≡ l.fn.table.frames;
      guarded : l.table.guarded ≡ l.fn.table.guarded;
    }
