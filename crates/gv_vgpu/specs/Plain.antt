-- Accesses that change no more of the shared device than the guest's frames and the entries of its ranges: no engine, no
-- window, no shadow page and no room in the journal.
use Rattle.std.specs.Prelude.{◌≡◌, ℕ, ◌+◌, ◌/◌, false, ⊤}
use Rattle.gv_types.specs.declared.event.Event.{Event}
use Rattle.gv_types.specs.declared.event.Event.TheVariants as events
use Rattle.gv_types.specs.declared.event.Place.{Place}
use Rattle.gv_types.specs.declared.event.Place.TheVariants.{Memory, Registers, Aperture}
use Rattle.gv_types.specs.declared.event.Width.{Width}
use Rattle.gv_types.specs.declared.event.Width.TheVariants.{Four, Eight}
use Rattle.gv_entry.specs.Tables.{is_guarded}
use Rattle.gv_gpu.specs.Change.{ChangesOnly}
use Rattle.gv_gpu.specs.Device.{Device}
use Rattle.gv_gpu.specs.Part.{access_part}
use Rattle.gv_gtt.specs.Gtt.{number_of, ranges_of}
use Rattle.gv_private.specs.Device.{PrivateDevice}
use Rattle.gv_regs.specs.Table.{target_at}
use Rattle.gv_regs.specs.declared.effect.Target.{Target}
use Rattle.gv_regs.specs.declared.effect.Target.TheVariants.{EngineReset, General, Notify}
use Rattle.gv_vgpu.specs.declared.vgpu.Vgpu.{Vgpu}

-- ---- which they are

-- a dword of the registers that is no general register, resets no engine and isn't notify
abbrev pub IsPlainTarget : Target → Type 0
IsPlainTarget (General engine n) = ⊥
IsPlainTarget EngineReset = ⊥
IsPlainTarget Notify = ⊥
IsPlainTarget target = ⊤

-- and so is each one that is written
abbrev pub IsPlainAt : Width → ℕ → Type 0
IsPlainAt Four offset = IsPlainTarget (target_at offset)
IsPlainAt Eight offset = IsPlainTarget (target_at offset) × IsPlainTarget (target_at (offset + 4))

-- memory is that of no live table
abbrev pub IsPlainWrite : PrivateDevice → Place → Width → ℕ → Type 0
IsPlainWrite p Memory width at = is_guarded p.memory p.roots (at / 4096) ≡ false
IsPlainWrite p Registers width at = IsPlainAt width at
IsPlainWrite p Aperture width at = ⊤

-- reads and moves are, and such writes
abbrev pub IsPlain : PrivateDevice → Event → Type 0
IsPlain p (events.Read guest place width at) = ⊤
IsPlain p (events.Write guest place width at value) = IsPlainWrite p place width at
IsPlain p (events.Move guest frame) = ⊤
IsPlain p event = ⊥

-- ---- what they change

-- by so many pokes at the most
abbrev pub ChangesAccess : ℕ → Device → Device → Vgpu → Type 0
ChangesAccess most d e v = ChangesOnly (access_part (number_of v.gtt) (ranges_of v.gtt)) most d e

-- A read changes nothing.
abbrev pub ReadsAlone : Device → Device → Vgpu → Vgpu → Event → Type 0
ReadsAlone d e old new (events.Read guest place width at) = (e ≡ d) × (new ≡ old)
ReadsAlone d e old new event = ⊤
