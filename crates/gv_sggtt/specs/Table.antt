-- One guest's global table: its ranges, how many frames it has, the entries of its ranges, and which frames it was
-- told to guard.
use Rattle.std.specs.Prelude.{◌≡◌, ℕ, ◌≤◌, List, Bool, false, Option, length, replicate, slice_index_or, slice_set}
use Rattle.gv_types.specs.declared.ranges.Ranges.{Ranges}
use Rattle.gv_entry.specs.Entry.{global_frame}
use Rattle.gv_entry.specs.Global.{global_entry, pages_of, with_entry, zero_entries}
use Rattle.gv_entry.specs.Grants.{global_grant, unless}
use Rattle.gv_entry.specs.Ranges.{InParts}

pub record Table : Type 0 where
  pub ranges : Ranges
  pub frames : ℕ
  pub entries : List ℕ
  pub guarded : List Bool  -- of each frame, whether it is guarded

-- every entry is 0, and no frame is guarded
abbrev pub zero_table : Ranges → ℕ → Table
zero_table ranges frames = record { ranges = ranges; frames = frames; entries = zero_entries ranges; guarded = replicate frames false }

abbrev pub table_entry : Table → ℕ → ℕ
table_entry t page = global_entry t.ranges t.entries page

-- A page that the guest doesn't own has no entry to write.
abbrev pub table_written : Table → ℕ → ℕ → Table
table_written t page value = record t { entries = with_entry t.ranges t.entries page value }

abbrev pub guards : List Bool → ℕ → Bool
guards guarded frame = slice_index_or guarded frame false

-- a frame is guarded, or no longer
abbrev pub table_guarding : Table → ℕ → Bool → Table
table_guarding t frame is_guarded = record t { guarded = slice_set t.guarded frame is_guarded }

-- the frame that a page grants, if any
abbrev pub table_grant : Table → ℕ → Option ℕ
table_grant t page = global_grant t.ranges t.frames (guards t.guarded) (table_entry t) page

-- the frame that an entry grants, if any
abbrev pub entry_grant : Table → ℕ → Option ℕ
entry_grant t entry = unless (guards t.guarded) (global_frame entry t.frames)

-- what always holds
pub record IsTable (t : Table) : Type 0 where
  pub parts : InParts t.ranges
  pub some : 1 ≤ t.frames
  pub few : t.frames ≤ 16384
  pub whole : length t.entries ≡ pages_of t.ranges
  pub flags : length t.guarded ≡ t.frames
