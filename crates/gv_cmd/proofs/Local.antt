-- No command of a live batch accesses the global space.
use Rattle.std.proofs.Common.{ℕ, ◌||◌, Bool, true, false, [], ◌∷◌, Option, None, Some, cond, is_none, refl}
use Rattle.gv_cmd.specs.Table.{kind_of}
use Rattle.gv_cmd.specs.Effect.{general_of, writes_global}
use Rattle.gv_cmd.specs.Simulation.{access, IsLocal, LiveIsLocal, dwords_at, post_accesses, EachAccess, MayDo}
use Rattle.gv_cmd.specs.declared.kind.PostWrite.{PostWrite}
use Rattle.gv_cmd.specs.declared.kind.Kind.{Kind}
use Rattle.gv_cmd.specs.declared.kind.Kind.TheVariants.{Noop, UserInterrupt, ArbCheck, ArbOnOff, BatchEnd, SemaphoreWait, Store, LoadRegisters, StoreRegister, LoadRegister, MoveRegister, CopyMemory, Flush, PipeControl, BatchStart, ColourBlit, CopyBlit}

one : (global : Bool) (at : ℕ) → EachAccess IsLocal (cond global [] (access global at ∷ []))
one true at = tt
one false at = (refl, tt)

dwords : (global : Bool) (at : ℕ) (high : Option ℕ) → EachAccess IsLocal (cond global [] (dwords_at global at high))
dwords true at high = tt
dwords false at None = (refl, tt)
dwords false at (Some high) = (refl, (refl, tt))

post : (write : Option PostWrite) → EachAccess IsLocal (cond (writes_global write) [] (post_accesses write))
post None = tt
post (Some w) = dwords w.global w.at w.high

-- skipped where the access is global, or for another reason
or_other : (global other : Bool) (at : ℕ) → EachAccess IsLocal (cond (global || other) [] (access global at ∷ []))
or_other true other at = tt
or_other false true at = tt
or_other false false at = (refl, tt)

both : (a b : Bool) (from to : ℕ) → EachAccess IsLocal (cond (a || b) [] (access a from ∷ access b to ∷ []))
both true b from to = tt
both false true from to = tt
both false false from to = (refl, (refl, tt))

nothing : (skipped : Bool) → EachAccess IsLocal (cond skipped [] [])
nothing true = tt
nothing false = tt

by_kind : (engine : ℕ) (kind : Option Kind) → MayDo IsLocal engine false kind
by_kind engine None = tt
by_kind engine (Some Noop) = tt
by_kind engine (Some UserInterrupt) = tt
by_kind engine (Some ArbCheck) = tt
by_kind engine (Some ArbOnOff) = tt
by_kind engine (Some BatchEnd) = tt
by_kind engine (Some (SemaphoreWait global compare operand at)) = one global at
by_kind engine (Some (Store global at low high)) = dwords global at high
by_kind engine (Some (LoadRegisters pairs)) = tt
by_kind engine (Some (StoreRegister global register at)) = or_other global (is_none (general_of engine register)) at
by_kind engine (Some (LoadRegister global register at)) = one global at
by_kind engine (Some (MoveRegister from to)) = nothing (is_none (general_of engine from))
by_kind engine (Some (CopyMemory from_global from to_global to)) = both from_global to_global from to
by_kind engine (Some (Flush write)) = post write
by_kind engine (Some (PipeControl notify write)) = post write
by_kind engine (Some (BatchStart live second at)) = tt
by_kind engine (Some (ColourBlit blit)) = tt
by_kind engine (Some (CopyBlit blit)) = tt

pub live_is_local : LiveIsLocal
live_is_local ws engine = by_kind engine (kind_of ws)
