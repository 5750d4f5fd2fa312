-- What one guest is told: the report of its own private device, run on its own inputs.
use Rattle.std.specs.Prelude.{ℕ, List, [], ◌∷◌, ◌++◌, Bool, true, false, Option, None, Some, if◌then◌else◌, ◌==◌, filter, map, slice_index_or}
use Rattle.gv_text.specs.Report.{text_of}
use Rattle.gv_text.specs.declared.ending.Ending.{Ending}
use Rattle.gv_text.specs.declared.ending.Ending.TheVariants as endings
use Rattle.gv_text.specs.declared.script_line.Line.{Line}
use Rattle.gv_text.specs.declared.script_line.Line.TheVariants.{Guest}
use Rattle.gv_types.specs.declared.ranges.Ranges.{Ranges}
use Rattle.gv_balloon.specs.Shares.{nothing_given, ranges_from}
use Rattle.gv_text.specs.Script.{want_of}
use Rattle.gv_text.specs.declared.script_line.Guest.{Guest as GuestForm}
use Rattle.gv_private.specs.Device.{new_device}
use Rattle.gv_private.specs.Inputs.{Input}
use Rattle.gv_machine.specs.Course.{play}
use Rattle.gv_machine.specs.Machine.{Done, new_machine, device_course, line_course, no_ranges}
use Rattle.gv_machine.specs.Report.{said_all, memory_said}

-- The report of guest g alone, by its frames, its ranges of the global table, its inputs, and whether the
-- script ends with `end`.
unfoldable pub solo : ℕ → ℕ → Ranges → List Input → Bool → List ℕ
solo g frames ranges inputs done =
    let course = play device_course (new_device g frames ranges) inputs in
    text_of (said_all course.came ++ (if done then memory_said g course.left.memory else []))

-- the `guest` lines of a script, by the numbers of the guests
abbrev pub guests_of : List Line → List GuestForm
guests_of [] = []
guests_of (Guest g ∷ lines) = g ∷ guests_of lines
guests_of (line ∷ lines) = guests_of lines

abbrev pub no_guest : GuestForm
no_guest = record { frames = 0; low = 0; high = 0 }

-- a guest's frames, and its ranges, which are given out in the guests' order
abbrev pub frames_of : List Line → ℕ → ℕ
frames_of lines g = (slice_index_or (guests_of lines) g no_guest).frames

abbrev pub ranges_of : List Line → ℕ → Ranges
ranges_of lines g = slice_index_or (ranges_from nothing_given (map want_of (guests_of lines))) g no_ranges

-- ---- one guest's inputs

abbrev pub is_taken_by : ℕ → Option ℕ → Bool
is_taken_by g None = false
is_taken_by g (Some owner) = owner == g

-- of what came, what a guest's device took
abbrev pub own_done : ℕ → List Done → List Done
own_done g came = filter (λ (d : Done). is_taken_by g d.whose) came

abbrev pub inputs_done : List Done → List Input
inputs_done came = map (λ (d : Done). d.input) came

-- The inputs of one guest: its accesses, moves and resets, and the turns of the engines that it owns when they come.
abbrev pub inputs_of : ℕ → List Line → List Input
inputs_of g lines = inputs_done (own_done g (play line_course new_machine lines).came)

abbrev pub is_done_ending : Ending → Bool
is_done_ending endings.Done = true
is_done_ending ending = false
