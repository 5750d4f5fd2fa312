-- One guest's private device, as if nothing were shared: all that it holds, and its resets. It has one memory,
-- and the guest's own tables are read at every access.
use Rattle.std.specs.Prelude.{ℕ, List, [], ◌∷◌, Bool, true, false, Option, None, Some, if◌then◌else◌}
use Rattle.std.specs.Option.{option_or}
use Rattle.gv_types.specs.Maps.{put}
use Rattle.gv_types.specs.Memory.{Memory, zero_memory}
use Rattle.gv_types.specs.declared.ranges.Ranges.{Ranges}
use Rattle.gv_types.specs.declared.reply.Reason.{Reason}
use Rattle.gv_entry.specs.Global.{zero_entries}
use Rattle.gv_ctx.specs.Descriptor.{descriptor_of}
use Rattle.gv_ctx.specs.declared.descriptor.Descriptor.{Descriptor}
use Rattle.gv_csb.specs.Slots.{Execlists, reset_execlists}
use Rattle.gv_irq.specs.Irq.{Interrupts, reset_irq}
use Rattle.gv_regs.specs.Registers.{reset_registers}
use Rattle.gv_fetch.specs.Left.{Left}

-- ---- the state

-- The element at work on an engine: the frame of its root, the tail that its context's image had when it was
-- loaded, and what is left of it. It is the front element of the engine's running list, whose descriptor says
-- its context's page and number (below).
pub record Working : Type 0 where
  pub root : ℕ
  pub tail : ℕ
  pub left : Left

pub record Engine : Type 0 where
  pub general : ℕ → ℕ  -- sixteen registers of 64 bits, by their numbers
  pub writes : List ℕ  -- the dwords of a submission that is half made (ELSP), at most three, in their order
  pub slots : Execlists  -- the running and the pending list, and the status ring
  pub element : Option Working

pub record PrivateDevice : Type 0 where
  pub number : ℕ  -- which guest's it is
  pub ranges : Ranges  -- of the global table
  pub memory : Memory
  pub entries : List ℕ  -- of the global table (GGTT): those of the low range, then those of the high one
  pub registers : ℕ → ℕ  -- the plain and masked registers, by offset
  pub interrupts : Interrupts
  pub roots : List ℕ  -- the frames that are roots of per-process tables (PPGTT): a set, kept in rising order
  pub failsafe : Bool
  pub engines : ℕ → Engine  -- RCS, BCS, VCS and VECS, by number

abbrev pub with_engine : PrivateDevice → ℕ → Engine → PrivateDevice
with_engine p engine e = record p { engines = put p.engines engine e }

abbrev pub with_slots : PrivateDevice → ℕ → Execlists → PrivateDevice
with_slots p engine slots = with_engine p engine (record (p.engines engine) { slots = slots })

abbrev pub with_element : PrivateDevice → ℕ → Option Working → PrivateDevice
with_element p engine element = with_engine p engine (record (p.engines engine) { element = element })

-- ---- the front element of the running list

-- its context descriptor; without a running list there is none
abbrev pub front_descriptor : List ℕ → ℕ
front_descriptor [] = 0
front_descriptor (descriptor ∷ more) = descriptor

-- what it says: the global page of its context, the context's number, and its addressing mode
abbrev pub front_context : Engine → Descriptor
front_context e = descriptor_of (front_descriptor e.slots.running)

-- whether the list has another element behind it
abbrev pub has_another_in : List ℕ → Bool
has_another_in (descriptor ∷ next ∷ more) = true
has_another_in list = false

abbrev pub has_another : Engine → Bool
has_another e = has_another_in e.slots.running

-- ---- resets

-- An engine after a reset: no element, no list, no half-made submission; status ring and general registers as
-- they were at first.
abbrev pub reset_engine : Engine
reset_engine = record { general = λ n. 0; writes = []; slots = reset_execlists; element = None }

-- A device with all registers at their reset values, all global entries 0, every engine reset, no roots, and not
-- in failsafe.
abbrev pub reset_device : ℕ → Ranges → Memory → PrivateDevice
reset_device number ranges memory = record {
  number = number;
  ranges = ranges;
  memory = memory;
  entries = zero_entries ranges;
  registers = reset_registers;
  interrupts = reset_irq;
  roots = [];
  failsafe = false;
  engines = λ engine. reset_engine;
}

-- at first memory is zeros
abbrev pub new_device : ℕ → ℕ → Ranges → PrivateDevice
new_device number frames ranges = reset_device number ranges (zero_memory frames)

-- A function reset: all is as at first, and failsafe is left. Memory stays.
abbrev pub function_reset : PrivateDevice → PrivateDevice
function_reset p = reset_device p.number p.ranges p.memory

-- Failsafe: as after a function reset, until the next one.
abbrev pub failed : PrivateDevice → PrivateDevice
failed p = record (function_reset p) { failsafe = true }

-- ---- what an access or a turn leaves

-- The device afterwards; where an interrupt was injected, IIR of its group; and where the guest entered failsafe,
-- the reason.
pub record Written : Type 0 where
  pub device : PrivateDevice
  pub irq : Option ℕ
  pub reason : Option Reason

abbrev pub quietly : PrivateDevice → Written
quietly p = record { device = p; irq = None; reason = None }

abbrev pub fails : PrivateDevice → Reason → Written
fails p reason = record { device = failed p; irq = None; reason = Some reason }

-- One after another. A guest that fails in the first has no second.
abbrev pub and_then : Written → (PrivateDevice → Written) → Written
and_then first next =
    if first.device.failsafe then first
    else record (next first.device) { irq = option_or first.irq (next first.device).irq }
