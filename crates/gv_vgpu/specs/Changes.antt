-- What a call leaves of a guest's device, and of the shared one.
use Rattle.std.specs.Prelude.{◌≡◌, ℕ, ◌+◌, ◌≤◌, ◌++◌, Bool, List, Option, None, Some, length, map}
use Rattle.gv_types.specs.Memory.{Memory}
use Rattle.gv_types.specs.declared.ids.GuestId.{GuestId}
use Rattle.gv_types.specs.declared.reply.Answer.{Answer}
use Rattle.gv_types.specs.declared.reply.Outcome.{Outcome}
use Rattle.gv_types.specs.declared.reply.Reply.{Reply}
use Rattle.gv_types.specs.declared.reply.Stop.{Stop}
use Rattle.gv_types.specs.declared.reply.Stop.TheVariants.{DeviceFault, OutOfMemory}
use Rattle.gv_element.specs.Works.{Held}
use Rattle.gv_gpu.specs.Device.{Device, JournalEntry, counted, with_faults}
use Rattle.gv_gpu.specs.Part.{outside, guest_part}
use Rattle.gv_gtt.specs.Gtt.{frames_of, memory_of, number_of, own_pages, ranges_of}
use Rattle.gv_private.specs.Device.{Written}
use Rattle.gv_private.specs.Turn.{RanCommand, Turned}
use Rattle.gv_vgpu.specs.Copies.{CopiesStay, NoneComes}
use Rattle.gv_vgpu.specs.Vgpu.{engine_at, private_of}
use Rattle.gv_vgpu.specs.Standing.{Holds, Occupies}
use Rattle.gv_vgpu.specs.declared.vgpu.Vgpu.{Vgpu}
use Rattle.gv_vgpu.specs.declared.notice.Notice.{Notice}

-- ---- live pages

abbrev pub window_pages : Option Held → ℕ
window_pages None = 0
window_pages (Some x) = length x.window.pages

-- the host pages of the window of an engine's element
abbrev pub held_on : Vgpu → ℕ → ℕ
held_on v engine = window_pages (engine_at v engine).element

-- How many host pages the guest has: its frames, its shadow tables, and the windows of its elements at work.
abbrev pub own_live : Vgpu → ℕ
own_live v = length (frames_of v.gtt).pages + own_pages v.gtt + (held_on v 0 + held_on v 1 + held_on v 2 + held_on v 3)

-- live pages moved with the guest's own
abbrev pub LiveMoves : Device → Device → ℕ → ℕ → Type 0
LiveMoves d e before after = before ≤ d.live → e.live + before ≡ d.live + after

-- ---- a call

-- It changes what is the guest's own alone, with these engines: the device is of the same guest, with as many frames and the
-- same ranges; nothing of the shared device changed but the guest's part; and live pages move with the guest's own.
pub record ChangesOwn (engines : ℕ → Bool) (d e : Device) (old new : Vgpu) : Type 0 where
  pub number : number_of new.gtt ≡ number_of old.gtt
  pub frames : length (frames_of new.gtt).pages ≡ length (frames_of old.gtt).pages
  pub ranges : ranges_of new.gtt ≡ ranges_of old.gtt
  pub outside : outside (guest_part (number_of old.gtt) (ranges_of old.gtt) engines) e ≡ outside (guest_part (number_of old.gtt) (ranges_of old.gtt) engines) d
  pub live : LiveMoves d e (own_live old) (own_live new)

-- It holds again, and changed what is the guest's own. No element came, and the copies of those that stay at work are as
-- they were.
pub record Keeps (here : ℕ → Bool) (d e : Device) (old new : Vgpu) : Type 0 where
  pub holds : Holds e new here
  pub changes : ChangesOwn here d e old new
  pub copies : NoneComes d e old new

-- The same of a call that may put an element to work: those that stay have the copies that they had.
pub record MayLoad (here : ℕ → Bool) (d e : Device) (old new : Vgpu) : Type 0 where
  pub holds : Holds e new here
  pub changes : ChangesOwn here d e old new
  pub copies : CopiesStay d e old new

-- It keeps that, and makes of the private device what this says, with these notices to the guest.
pub record Makes (here : ℕ → Bool) (d e : Device) (old new : Vgpu) (w : Written) (notice : Notice) : Type 0 where
  pub written : w ≡ record { device = private_of e new here; irq = notice.irq; reason = notice.failsafe }
  pub keeps : Keeps here d e old new

-- an interrupt at the most
abbrev pub injected : Option ℕ → Notice
injected irq = record { irq = irq; failsafe = None }

-- What a call leaves after which the guest is to fail: it still occupies its part of the device, and its memory is this.
pub record MayFail (here : ℕ → Bool) (d e : Device) (old new : Vgpu) (memory : Memory) : Type 0 where
  pub occupies : Occupies e new here
  pub changes : ChangesOwn here d e old new
  pub memory_is : memory_of e new.gtt ≡ memory

-- what the guest is replied
abbrev pub replied : GuestId → Answer → Notice → Reply
replied guest answer notice = record { guest = guest; answer = answer; irq = notice.irq; failsafe = notice.failsafe }

-- After a call that stopped, nothing changed but the guest's own part and faults. It stops by a fault only where one
-- was counted, and for want of memory only where none was.
pub record Stops (here : ℕ → Bool) (d e : Device) (old : Vgpu) (stop : Stop) : Type 0 where
  pub outside : outside (guest_part (number_of old.gtt) (ranges_of old.gtt) here) e ≡ outside (guest_part (number_of old.gtt) (ranges_of old.gtt) here) (with_faults d e.faults)
  pub cause : stop ≡ DeviceFault → counted d.faults ≤ e.faults
  pub memory : stop ≡ OutOfMemory → e.faults ≡ d.faults

-- ---- a turn

-- a command that ran, as the shared device's journal has it
abbrev pub journal_entry : RanCommand → JournalEntry
journal_entry entry = record { engine = entry.engine; owner = entry.guest; shape = entry.shape }

-- the device with these commands in its journal
abbrev pub journalled : Device → List RanCommand → Device
journalled d ran = record d { journal = d.journal ++ map journal_entry ran }

-- A turn makes of the private device what this says, and the device's journal has the command that ran.
pub record Turns (here : ℕ → Bool) (d e : Device) (old new : Vgpu) (t : Turned) (outcome : Outcome) (notice : Notice) : Type 0 where
  pub outcome_is : t.outcome ≡ outcome
  pub left : t.left ≡ record { device = private_of e new here; irq = notice.irq; reason = notice.failsafe }
  pub keeps : MayLoad here (journalled d t.ran) e old new
