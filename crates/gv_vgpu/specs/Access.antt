-- An access of a guest, or a move of a frame, and its reply.
use Rattle.std.specs.Prelude.{◌≡◌, ℕ, ◌+◌, ◌/◌, ◌%◌, ◌<◌, ◌≤◌, Bool, Option, None, ⊤}
use Rattle.gv_types.specs.Memory.{bytes_of, all_ones}
use Rattle.gv_types.specs.Places.{address_limit}
use Rattle.gv_types.specs.declared.event.Event.{Event}
use Rattle.gv_types.specs.declared.event.Place.{Place}
use Rattle.gv_types.specs.declared.event.Place.TheVariants as places
use Rattle.gv_types.specs.declared.event.Event.TheVariants.{Read, Write, Move}
use Rattle.gv_types.specs.declared.reply.Answer.{Answer}
use Rattle.gv_types.specs.declared.reply.Answer.TheVariants as answers
use Rattle.gv_types.specs.declared.reply.Reason.{Reason}
use Rattle.gv_types.specs.declared.reply.Reply.{Reply}
use Rattle.gv_gpu.specs.Device.{Device}
use Rattle.gv_gtt.specs.Changes.{HaveSameLive}
use Rattle.gv_gtt.specs.Gtt.{frames_of, levels_of}
use Rattle.gv_guest.specs.Move.{MovesFrame}
use Rattle.gv_private.specs.Device.{PrivateDevice}
use Rattle.gv_private.specs.Grants.{move_answer}
use Rattle.gv_private.specs.Inputs.{Answered}
use Rattle.gv_vgpu.specs.Changes.{MayLoad, journalled}
use Rattle.gv_vgpu.specs.Listed.{MayFault, MayLackMemory}
use Rattle.gv_vgpu.specs.Vgpu.{private_of}
use Rattle.gv_vgpu.specs.declared.vgpu.Vgpu.{Vgpu}

-- A read or a write of a guest, which is aligned and within its place, and whose value fits; or a move of a frame that
-- the guest has, of so many.
abbrev pub IsAccess : ℕ → ℕ → Event → Type 0
IsAccess number frames (Read guest place width at) = (guest.0 ≡ number) × (at % bytes_of width ≡ 0) × (at < address_limit place)
IsAccess number frames (Write guest place width at value) = (guest.0 ≡ number) × (at % bytes_of width ≡ 0) × (at < address_limit place) × (value ≤ all_ones width)
IsAccess number frames (Move guest frame) = (guest.0 ≡ number) × (frame < frames)
IsAccess number frames event = ⊥

-- It replies what the private device does, leaves what that leaves, and the journal has the commands that ran.
pub record Replies (here : ℕ → Bool) (d e : Device) (old new : Vgpu) (a : Answered) (reply : Reply) : Type 0 where
  pub reply_is : a.reply ≡ reply
  pub left : a.left ≡ private_of e new here
  pub keeps : MayLoad here (journalled d a.ran) e old new

-- ---- at which accesses the device may fault, and which may lack memory

abbrev pub AccessMayFault : PrivateDevice → Event → Type 0
AccessMayFault p (Write guest place width at value) = MayFault p place width at value
AccessMayFault p event = ⊥

-- a move that isn't kept takes a page for the frame
abbrev pub AccessMayLackMemory : PrivateDevice → Event → Type 0
AccessMayLackMemory p (Write guest place width at value) = MayLackMemory p place width at
AccessMayLackMemory p (Move guest frame) = move_answer p frame ≡ answers.Moved
AccessMayLackMemory p event = ⊥

-- ---- moves

-- A frame that moved stands in a host page of another number. One that was kept stands where it stood, as do all others.
abbrev pub FrameMoves : Device → Vgpu → Vgpu → ℕ → Answer → Type 0
FrameMoves e old new frame answers.Moved = MovesFrame (frames_of old.gtt) (frames_of new.gtt) frame e
FrameMoves e old new frame answers.Kept = frames_of new.gtt ≡ frames_of old.gtt
FrameMoves e old new frame answer = ⊥

abbrev pub AccessMoves : Device → Vgpu → Vgpu → Event → Answer → Type 0
AccessMoves e old new (Move guest frame) answer = FrameMoves e old new frame answer
AccessMoves e old new event answer = ⊤

-- ---- pokes

-- A write of memory after which the live tables and the split keys are as before pokes one word, and one more for each
-- level at which the frame is a live table.
abbrev pub WritePokes : Device → Device → PrivateDevice → PrivateDevice → Place → ℕ → Option Reason → Type 0
WritePokes d e p left places.Memory at failsafe = failsafe ≡ None → HaveSameLive p.memory left.memory p.roots → e.pokes ≤ d.pokes + (1 + levels_of p.memory p.roots (at / 4096))
WritePokes d e p left place at failsafe = ⊤

abbrev pub AccessPokes : Device → Device → PrivateDevice → PrivateDevice → Event → Option Reason → Type 0
AccessPokes d e p left (Write guest place width at value) failsafe = WritePokes d e p left place at failsafe
AccessPokes d e p left event failsafe = ⊤
