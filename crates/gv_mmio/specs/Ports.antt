-- The lists of an engine, and the submissions that are half made.
use Rattle.std.specs.Prelude.{ℕ, List, slice_index_or}
use Rattle.gv_csb.specs.Slots.{reset_execlists}
use Rattle.gv_mmio.specs.declared.ports.Ports.{Ports}
use Rattle.gv_mmio.specs.declared.port.Port.TheVariants.{Empty}

-- after a reset
abbrev pub no_ports : Ports
no_ports = record { port = Empty; slots = reset_execlists }

-- those of an engine by its number; an engine above 3 has none
abbrev pub ports_in : List Ports → ℕ → Ports
ports_in engines engine = slice_index_or engines engine no_ports
