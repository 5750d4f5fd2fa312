-- What a step of the shared device touches, and what the turn of the private device asks for and is granted.
use Rattle.std.specs.Prelude.{◌≡◌, ℕ, ◌%◌, ◌^◌, Bool, true, false, List, [], ◌++◌, map, slice_index, if◌then◌else◌, Option, None, Some, Result, Ok, Err}
use Rattle.gv_cmd.specs.Allowed.{is_allowed}
use Rattle.gv_cmd.specs.Command.{decoded}
use Rattle.gv_cmd.specs.Effect.{Operations, effect}
use Rattle.gv_cmd.specs.Table.{length_of, read_length}
use Rattle.gv_cmd.specs.declared.command.Unlisted.{Unlisted as UnlistedError}
use Rattle.gv_fetch.specs.Left.{Level, Fetched, At, Left, is_done, is_privileged, stands_of}
use Rattle.gv_gpu.specs.Device.{Device, Loaded}
use Rattle.gv_gpu.specs.Physical.{read_page, write_page, dword_at}
use Rattle.gv_gpu.specs.Step.{Stepping, operations, stands_at, runs_privileged, active_head, head_read, has_ended}
use Rattle.gv_guest.specs.Placed.{Placed}
use Rattle.gv_private.specs.Device.{PrivateDevice, Working}
use Rattle.gv_private.specs.Space.{PrivateSpace, space_of, reads, writes, operand_read, private_operations}
use Rattle.gv_private.specs.Turn.{front_words}
use Rattle.gv_exact.specs.Asked.{Ask, given, command_asked, codes_asked}
use Rattle.gv_exact.specs.Touched.{Touch, Recorded, recorded, untouched, codes_touched}

-- ---- the shared device

abbrev pub recorded_operations : Operations (Recorded Stepping)
recorded_operations = recorded operations (record {
  reads = λ s global at. read_page s.device s.context.root global at;
  writes = λ s global at. write_page s.device s.context.root global at;
})

abbrev pub at_front : Device → ℕ → Loaded → Stepping
at_front d engine l = record { device = d; engine = engine; context = l; strayed = (head_read d l).strayed }

-- The bytes of live code that are read: the front command, or its header alone where no row has that header. Other
-- code is read from its copy, which is no guest memory.
abbrev pub live_code_touched : Device → Loaded → Bool → List Touch
live_code_touched d l true = []
live_code_touched d l false = codes_touched (λ at. read_page d l.root false at) (active_head l) (read_length (length_of (dword_at d l.root false (active_head l))))

-- what the front command reads as operands, and writes
abbrev pub operands_touched : Device → ℕ → Loaded → Result (List ℕ × ℕ) UnlistedError → List Touch
operands_touched d engine l (Err e) = []
operands_touched d engine l (Ok (ws, dwords)) =
    if is_allowed ws (stands_at l.place) engine
    then (effect recorded_operations ws engine (runs_privileged l.place) (untouched (at_front d engine l))).after.trace
    else []

abbrev pub front_touched : Device → ℕ → Loaded → List Touch
front_touched d engine l = live_code_touched d l (runs_privileged l.place) ++ operands_touched d engine l (decoded (head_read d l).words)

abbrev pub touched_with : Device → ℕ → Option Loaded → List Touch
touched_with d engine None = []
touched_with d engine (Some l) = if has_ended l then [] else front_touched d engine l

-- the bytes of pages that a step reads as operands or live commands, or writes, in order
unfoldable pub step_touched : Device → ℕ → List Touch
step_touched d engine = touched_with d engine (d.loaded engine)

-- ---- the private device

abbrev pub recorded_private : Operations (Recorded PrivateSpace)
recorded_private = recorded private_operations (record { reads = reads; writes = writes })

-- the bytes of frames that a command's effect touches
abbrev pub command_touched : List ℕ → ℕ → Bool → PrivateSpace → List Touch
command_touched ws engine privileged s = (effect recorded_private ws engine privileged (untouched s)).after.trace

-- where the front command stands in a live batch
abbrev pub live_at_by : Option Level → Option Level → Option ℕ
live_at_by first (Some (At at)) = Some (at % 2 ^ 48)
live_at_by first (Some (Fetched items)) = None
live_at_by (Some (At at)) None = Some (at % 2 ^ 48)
live_at_by (Some (Fetched items)) None = None
live_at_by None None = None

abbrev pub live_at : Left → Option ℕ
live_at w = live_at_by w.first w.second

-- the code that is read there
abbrev pub code_asked_at : (ℕ → ℕ) → Option ℕ → List Ask
code_asked_at read None = []
code_asked_at read (Some at) = codes_asked at (read_length (length_of (read at)))

-- what the front command asks for, if its dwords are a command that may stand there
abbrev pub listed_asked : ℕ → Left → Result (List ℕ × ℕ) UnlistedError → List Ask
listed_asked engine w (Err e) = []
listed_asked engine w (Ok (ws, dwords)) = if is_allowed ws (stands_of w) engine then command_asked ws engine (is_privileged w) else []

abbrev pub front_asked : PrivateDevice → ℕ → Working → List Ask
front_asked p engine w = code_asked_at (operand_read (space_of p engine w.root) false) (live_at w.left) ++ listed_asked engine w.left (decoded (front_words p engine w))

-- what a turn of an element at work asks for: with nothing left, nothing
abbrev pub turn_asked : PrivateDevice → ℕ → Working → List Ask
turn_asked p engine w = if is_done w.left then [] else front_asked p engine w

-- the bytes that the space's grants give of what is asked for
abbrev pub given_by : PrivateSpace → List Ask → List Touch
given_by s asks = given (reads s) (writes s) asks

-- ---- both

-- the bytes of the frames' host pages
abbrev pub on_host : Placed → Touch → Touch
on_host placed t = record t { page = slice_index placed.pages t.page }

abbrev pub on_hosts : Placed → List Touch → List Touch
on_hosts placed trace = map (on_host placed) trace

-- Exactly what is asked for and granted: the next step of the engine touches, in order, the host bytes of what the
-- element's front command asks for and the grants of this moment give; no others, and each of them.
abbrev pub StepsExactly : Device → ℕ → Placed → PrivateDevice → Working → Type 0
StepsExactly d engine placed p w = step_touched d engine ≡ on_hosts placed (given_by (space_of p engine w.root) (turn_asked p engine w))
