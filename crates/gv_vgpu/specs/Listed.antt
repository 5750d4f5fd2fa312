-- At which writes the device may fault, and which may lack memory.
use Rattle.std.specs.Prelude.{◌≡◌, ℕ, ◌+◌, ◌/◌, ◌⊎◌, true, IsSome}
use Rattle.gv_types.specs.declared.event.Place.{Place}
use Rattle.gv_types.specs.declared.event.Place.TheVariants.{Memory, Registers, Aperture}
use Rattle.gv_types.specs.declared.event.Width.{Width}
use Rattle.gv_types.specs.declared.event.Width.TheVariants.{Four, Eight}
use Rattle.gv_entry.specs.Tables.{is_guarded}
use Rattle.gv_regs.specs.Table.{target_at}
use Rattle.gv_regs.specs.declared.effect.Target.TheVariants.{EngineReset, Notify}
use Rattle.gv_private.specs.Access.{value_written}
use Rattle.gv_private.specs.Device.{PrivateDevice}
use Rattle.gv_private.specs.Registers.{dword_written}

-- ---- faults: a write that resets engines, and one by which the guest fails

abbrev pub MayFaultAt : PrivateDevice → ℕ → ℕ → Type 0
MayFaultAt p offset value = (target_at offset ≡ EngineReset) ⊎ IsSome (dword_written p offset value).reason

-- one of the dwords that are written resets engines
abbrev pub ReachesReset : Width → ℕ → Type 0
ReachesReset Four offset = target_at offset ≡ EngineReset
ReachesReset Eight offset = (target_at offset ≡ EngineReset) ⊎ (target_at (offset + 4) ≡ EngineReset)

abbrev pub MayFault : PrivateDevice → Place → Width → ℕ → ℕ → Type 0
MayFault p Memory width at value = IsSome (value_written p Memory width at value).reason
MayFault p Registers width at value = ReachesReset width at ⊎ IsSome (value_written p Registers width at value).reason
MayFault p Aperture width at value = ⊥

-- ---- want of memory: a write of a live table, and one of notify

abbrev pub MayLackMemoryAt : ℕ → Type 0
MayLackMemoryAt offset = target_at offset ≡ Notify

abbrev pub ReachesNotify : Width → ℕ → Type 0
ReachesNotify Four offset = target_at offset ≡ Notify
ReachesNotify Eight offset = (target_at offset ≡ Notify) ⊎ (target_at (offset + 4) ≡ Notify)

abbrev pub MayLackMemory : PrivateDevice → Place → Width → ℕ → Type 0
MayLackMemory p Memory width at = is_guarded p.memory p.roots (at / 4096) ≡ true
MayLackMemory p Registers width at = ReachesNotify width at
MayLackMemory p Aperture width at = ⊥
