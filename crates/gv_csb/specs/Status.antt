-- The events of the context status buffer.
use Rattle.std.specs.Prelude.{ℕ, List, ◌∷◌, option_to_list}
use Rattle.gv_csb.specs.declared.status.Status.{Status}
use Rattle.gv_csb.specs.declared.status.Events.{Events}

-- a list begins on an idle engine
abbrev pub idle_to_active : Status
idle_to_active = record { word = 0x1; number = 0 }

-- the context with this number completes, and its list has another element
abbrev pub element_switch : ℕ → Status
element_switch number = record { word = 0x14; number = number }

-- the context with this number completes, and its list with it
abbrev pub active_to_idle : ℕ → Status
active_to_idle number = record { word = 0x18; number = number }

-- the events, in their order
abbrev pub in_order : Events → List Status
in_order events = events.first ∷ option_to_list events.second
