use Rattle.std.proofs.Common.{ℕ, ◌≡◌, ◌<◌, None}
use Rattle.gv_sppgtt.specs.State.{pages_of}
use Rattle.gv_sppgtt.specs.Holding.{Holds, Keeps}
use Rattle.gv_sppgtt.specs.Clearing.{IsWithin}
use Rattle.gv_sppgtt.proofs.tables.Tables.drop_level.Given as goal

-- the frames before this one have no node at the level
abbrev pub invariant-loop-frame : goal.invariant-loop-frame
invariant-loop-frame g l =
    let now = g.G.Gpu.state l.gpu in
    let start = g.G.Gpu.state l.fn.gpu in
    record {
      holds : Holds now l.frames l.self l.pins;
      keeps : Keeps l.frames start now l.fn.self l.self l.fn.pins l.pins;
      within : IsWithin (pages_of l.self) (pages_of l.fn.self);
      none : (f : ℕ) → f < l.frame → pages_of l.self l.level f ≡ None;
    }
