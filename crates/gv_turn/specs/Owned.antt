-- What is left of an element makes global accesses on owned pages alone.
use Rattle.gv_types.specs.declared.ranges.Ranges.{Ranges}
use Rattle.gv_cmd.specs.Simulation.{Access}
use Rattle.gv_fetch.specs.Owned.{MayAccess}
pub use Rattle.gv_fetch.specs.Owned.{owned_space, OwnsLevel, OwnsLeft}

-- an access that is per process, or on an owned page
abbrev pub MayReach : Ranges → Access → Type 0
MayReach ranges a = MayAccess (owned_space ranges) a
