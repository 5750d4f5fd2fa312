-- The lines that stand for events.
use Rattle.std.specs.Prelude.{◌≡◌, ℕ, zero, ◌+◌, ◌*◌, ◌%◌, ◌<◌, ◌≤◌, suc, List, [], ◌∷◌, Bool, true, false, Option, None, Some, length}
use Rattle.std.specs.List.{AllByRecursion}
use Rattle.gv_types.specs.Memory.{bytes_of}
use Rattle.gv_types.specs.Places.{address_limit}
use Rattle.gv_types.specs.declared.event.Event.{Event}
use Rattle.gv_types.specs.declared.event.Event.TheVariants as events
use Rattle.gv_types.specs.declared.ids.EngineId.{EngineId}
use Rattle.gv_types.specs.declared.ids.GuestId.{GuestId}
use Rattle.gv_text.specs.declared.report_line.ReportLine.{ReportLine}
use Rattle.gv_text.specs.declared.report_line.ReportLine.TheVariants as said
use Rattle.gv_machine.specs.Machine.{Machine, device_at}
use Rattle.gv_text.specs.Grammar.{value_limit}
use Rattle.gv_text.specs.declared.script_line.Line.{Line}
use Rattle.gv_text.specs.declared.script_line.Line.TheVariants.{Guest, Read, Write, Elsp, Turn, Switch, Move, Reset, Blank, End}

-- The guest and the engine that a line names are there; address, values and frame are as the guest's device takes them.
abbrev pub IsEventLine : Machine → Line → Type 0
IsEventLine m (Read guest place width at) = (guest < length m.devices) × (at % bytes_of width ≡ 0) × (at < address_limit place)
IsEventLine m (Write guest place width at values) = (guest < length m.devices) × (at % bytes_of width ≡ 0)
    × (at + bytes_of width * length values ≤ address_limit place) × AllByRecursion (λ value. value < value_limit width) values
IsEventLine m (Elsp guest engine second first) = (guest < length m.devices) × (engine < 4)
IsEventLine m (Turn engine count) = (0 < length m.devices) × (engine < 4)
IsEventLine m (Switch engine) = (0 < length m.devices) × (engine < 4)
IsEventLine m (Move guest frame) = (guest < length m.devices) × (frame < length (device_at m.devices guest).memory)
IsEventLine m (Reset guest) = guest < length m.devices
IsEventLine m line = ⊥

-- whether a line stands for events
abbrev pub is_event_line : Line → Bool
is_event_line Blank = false
is_event_line (Guest guest) = false
is_event_line End = false
is_event_line line = true

-- the event that a line of one event stands for
abbrev pub event_of : Line → Option Event
event_of (Read guest place width at) = Some (events.Read (record { 0 = guest }) place width at)
event_of (Switch engine) = Some (events.Switch (record { 0 = engine }))
event_of (Move guest frame) = Some (events.Move (record { 0 = guest }) frame)
event_of (Reset guest) = Some (events.Reset (record { 0 = guest }))
event_of line = None

-- An event is told by itself, but for a turn: the turns of a line are told together. An engine that is switched is there.
abbrev pub IsToldAlone : Event → Type 0
IsToldAlone (events.Turn engine) = ⊥
IsToldAlone (events.Switch engine) = engine.0 < 4
IsToldAlone one = Unit {0}

-- the line of so many turns, where there are any
abbrev pub turns_line : ℕ → GuestId → EngineId → List ℕ → List ReportLine
turns_line zero guest engine counts = []
turns_line (suc count) guest engine counts = said.Turn guest engine counts ∷ []
