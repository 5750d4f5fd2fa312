-- The definitions on a few lines, worked out by hand.
use Rattle.std.proofs.Common.{◌≡◌, ℕ, zero, suc, ◌*◌, ◌^◌, true, List, [], ◌∷◌, ◌++◌, None, Some, replicate, refl}
use Rattle.gv_types.specs.Maps.{put}
use Rattle.gv_types.specs.declared.event.Event.TheVariants as events
use Rattle.gv_types.specs.declared.event.Place.TheVariants.{Registers}
use Rattle.gv_types.specs.declared.event.Width.TheVariants.{Four}
use Rattle.gv_types.specs.declared.ids.EngineId.{EngineId}
use Rattle.gv_types.specs.declared.ids.GuestId.{GuestId}
use Rattle.gv_types.specs.declared.ranges.Ranges.{Ranges}
use Rattle.gv_types.specs.declared.reply.Reason.TheVariants.{Range}
use Rattle.gv_text.specs.declared.report_line.ReportLine.TheVariants as said
use Rattle.gv_text.specs.declared.script_line.Line.{Line}
use Rattle.gv_text.specs.declared.script_line.Line.TheVariants.{Guest, Elsp, Turn, Switch, Move}
use Rattle.gv_cmd.specs.Table.{kind_of}
use Rattle.gv_fetch.specs.Fetch.{owns_pages, dwords, owns_dwords, batch_items, ring_items}
use Rattle.gv_regs.specs.Table.{row_at}
use Rattle.gv_private.specs.Inputs.{Input, event, turns}
use Rattle.gv_private.specs.Device.{PrivateDevice, new_device, reset_engine}
use Rattle.gv_private.specs.Turn.{RanCommand}
use Rattle.gv_machine.specs.Course.{play}
use Rattle.gv_machine.specs.Machine.{Machine, new_machine, whose, inputs_in, input_course, line_course, ran_all}
use Rattle.gv_machine.specs.Report.{said_all}
use Rattle.gv_machine.specs.Solo.{inputs_of}

abbrev guest : ℕ → GuestId
guest g = record { 0 = g }

abbrev engine : ℕ → EngineId
engine e = record { 0 = e }

-- ---- inputs of a line

abbrev port : ℕ → Input
port value = event (events.Write (guest 1) Registers Four 0x22230 value)

submission : inputs_in (Elsp 1 1 0x500000119 0x200000019) ≡ port 0x5 ∷ port 0x119 ∷ port 0x2 ∷ port 0x19 ∷ []
submission = refl

-- ---- whose an input is

abbrev owners : ℕ → ℕ
owners zero = 2
owners (suc e) = 1

turns_are_the_owners : whose owners (turns (engine 0) 3) ≡ Some 2
turns_are_the_owners = refl

moves_are_the_guests : whose owners (event (events.Move (guest 0) 5)) ≡ Some 0
moves_are_the_guests = refl

switches_are_no_guests : whose owners (event (events.Switch (engine 0))) ≡ None
switches_are_no_guests = refl

-- ---- a script: guest 1 submits an element whose context isn't owned, and has its turns after a switch

abbrev two_guests : List Line → List Line
two_guests lines = Guest (record { frames = 1; low = 0; high = 0 }) ∷ Guest (record { frames = 1; low = 0; high = 0 }) ∷ lines

abbrev submits : List Line
submits = two_guests (Turn 0 2 ∷ Elsp 1 0 0 0x19 ∷ Switch 0 ∷ Turn 0 2 ∷ Move 0 0 ∷ Switch 0 ∷ [])

what_is_said : said_all (play line_course new_machine submits).came
    ≡ said.Turn (guest 0) (engine 0) (0 ∷ 0 ∷ 0 ∷ 0 ∷ 0 ∷ 2 ∷ [])
    ∷ said.Rota (engine 0) (guest 1)
    ∷ said.Failsafe (guest 1) Range
    ∷ said.Turn (guest 1) (engine 0) (0 ∷ 0 ∷ 0 ∷ 0 ∷ 1 ∷ 1 ∷ [])
    ∷ said.Move (guest 0) 0 true
    ∷ said.Rota (engine 0) (guest 1)
    ∷ []
unfolding row_at
what_is_said = refl

-- each has the turns of an engine that it owns when they come
abbrev write : ℕ → Input
write value = event (events.Write (guest 1) Registers Four 0x2230 value)

first_has_turns : inputs_of 0 submits ≡ turns (engine 0) 2 ∷ event (events.Move (guest 0) 0) ∷ []
unfolding row_at
first_has_turns = refl

second_has_turns : inputs_of 1 submits ≡ write 0 ∷ write 0 ∷ write 0 ∷ write 0x19 ∷ turns (engine 0) 2 ∷ []
unfolding row_at
second_has_turns = refl

-- ---- two guests at work on one engine, in turn

-- Global pages 0 to 4 are the frames 0 to 4. The context is at page 0, its ring at page 2; frame 8 is the root of its
-- tables. The ring has two commands, which do nothing.
abbrev ranges : Ranges
ranges = record { low = record { first = 0; pages = 16 }; high = record { first = 0x10000; pages = 0 } }

abbrev image : List ℕ
image = 0 ∷ 0 ∷ 0 ∷ 8 * 2 ^ 32 ∷ 0x200000000000 ∷ 0x100000000 ∷ replicate 19 0 ++ 0x800000000000 ∷ []

abbrev empty : List ℕ
empty = []

abbrev at_work : ℕ → PrivateDevice
at_work number = record (new_device number 0 ranges) {
  memory = empty ∷ image ∷ replicate 14 empty;
  entries = 0x1 ∷ 0x1001 ∷ 0x2001 ∷ 0x3001 ∷ 0x4001 ∷ replicate 11 0;
  engines = put (λ n. reset_engine) 1 (record reset_engine { slots = record (reset_engine.slots) { running = 0x500000119 ∷ [] } });
}

abbrev both_at_work : Machine
both_at_work = record new_machine { devices = at_work 0 ∷ at_work 1 ∷ [] }

abbrev in_turn : List Input
in_turn = turns (engine 1) 2 ∷ event (events.Switch (engine 1)) ∷ turns (engine 1) 2 ∷ event (events.Switch (engine 1)) ∷ turns (engine 1) 1 ∷ []

-- of each, the first turn loads the context, and the next ones run its commands
turns_in_turn : said_all (play input_course both_at_work in_turn).came
    ≡ said.Turn (guest 0) (engine 1) (1 ∷ 0 ∷ 0 ∷ 1 ∷ 0 ∷ 0 ∷ [])
    ∷ said.Rota (engine 1) (guest 1)
    ∷ said.Turn (guest 1) (engine 1) (1 ∷ 0 ∷ 0 ∷ 1 ∷ 0 ∷ 0 ∷ [])
    ∷ said.Rota (engine 1) (guest 0)
    ∷ said.Turn (guest 0) (engine 1) (1 ∷ 0 ∷ 0 ∷ 0 ∷ 0 ∷ 0 ∷ [])
    ∷ []
unfolding owns_pages dwords owns_dwords batch_items ring_items kind_of
turns_in_turn = refl

abbrev ran_for : ℕ → RanCommand
ran_for g = record { engine = 1; guest = g; shape = 0 ∷ [] }

commands_in_turn : ran_all (play input_course both_at_work in_turn).came ≡ ran_for 0 ∷ ran_for 1 ∷ ran_for 0 ∷ []
unfolding owns_pages dwords owns_dwords batch_items ring_items kind_of
commands_in_turn = refl
