-- What a page of the guest's global table grants at this moment, and an access to a granted frame.
use Rattle.std.specs.Prelude.{ℕ, ◌+◌, ◌*◌, ◌/◌, ◌%◌, List, Bool, false, not, ◌||◌, ◌&&◌, ◌==◌, Option, None, Some, length, if◌then◌else◌}
use Rattle.std.specs.List.{list_any}
use Rattle.gv_types.specs.Memory.{Memory, value_at, with_value}
use Rattle.gv_types.specs.declared.event.Width.{Width}
use Rattle.gv_types.specs.declared.event.Width.TheVariants.{Four}
use Rattle.gv_types.specs.declared.ranges.Ranges.{Ranges}
use Rattle.gv_types.specs.declared.reply.Answer.{Answer}
use Rattle.gv_types.specs.declared.reply.Answer.TheVariants.{Moved, Kept}
use Rattle.gv_entry.specs.Entry.{global_frame}
use Rattle.gv_entry.specs.Global.{global_entry}
use Rattle.gv_entry.specs.Grants.{global_grant, is_mapped}
use Rattle.gv_entry.specs.Tables.{is_guarded}
use Rattle.gv_private.specs.Device.{PrivateDevice}

-- The frame that a page of the global table grants, for reading and for writing: the page is owned, its entry
-- names a frame in memory, and that frame isn't a live table.
abbrev pub page_grant_in : Ranges → List ℕ → Memory → List ℕ → ℕ → Option ℕ
page_grant_in ranges entries m roots page = global_grant ranges (length m) (is_guarded m roots) (global_entry ranges entries) page

abbrev pub page_grant : PrivateDevice → ℕ → Option ℕ
page_grant p page = page_grant_in p.ranges p.entries p.memory p.roots page

-- An access at an address goes to the bytes of the granted frame. Without a grant it reads 0 and writes nothing.
abbrev pub frame_read : Memory → Width → ℕ → Option ℕ → ℕ
frame_read m width at None = 0
frame_read m width at (Some frame) = value_at m width (frame * 4096 + at % 4096)

abbrev pub frame_written : Memory → Width → ℕ → ℕ → Option ℕ → Memory
frame_written m width at value None = m
frame_written m width at value (Some frame) = with_value m width (frame * 4096 + at % 4096) value

-- The device's own writes of dwords to global addresses: a context's tail, and the copies of status events.
abbrev pub global_written : PrivateDevice → ℕ → ℕ → PrivateDevice
global_written p at value = record p { memory = frame_written p.memory Four at value (page_grant p (at / 4096)) }

-- ---- moves

abbrev pub names_frame : ℕ → Option ℕ → Bool
names_frame frame None = false
names_frame frame (Some other) = other == frame

-- an owned global entry grants the frame
abbrev pub is_granted : PrivateDevice → ℕ → Bool
is_granted p frame = not (is_guarded p.memory p.roots frame) && list_any (λ entry. names_frame frame (global_frame entry (length p.memory))) p.entries

-- A move of a frame changes nothing. It is kept where a live level-1 entry or a large entry of a live level-2
-- table maps the frame, or where an owned global entry grants it.
abbrev pub move_answer : PrivateDevice → ℕ → Answer
move_answer p frame = if is_mapped p.memory p.roots frame || is_granted p frame then Kept else Moved
