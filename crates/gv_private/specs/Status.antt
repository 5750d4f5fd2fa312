-- Interrupt bits of an engine, and the events of its context status buffer (CSB).
use Rattle.std.specs.Prelude.{ℕ, ◌+◌, ◌*◌, ◌/◌, List, [], ◌∷◌, filter}
use Rattle.gv_csb.specs.Slots.{pushed}
use Rattle.gv_csb.specs.declared.status.Status.{Status}
use Rattle.gv_types.specs.Bits.{has_bit}
use Rattle.gv_types.specs.Engines.{register_base}
use Rattle.gv_irq.specs.Irq.{interrupt_bit, raised, raising_tells}
use Rattle.gv_private.specs.Device.{PrivateDevice, Written, with_slots, quietly, and_then}
use Rattle.gv_private.specs.Grants.{global_written}

-- ---- interrupts

-- of an engine's 16 bits: the user interrupt, notify, and context switch
abbrev pub user_interrupt : ℕ
user_interrupt = 0

abbrev pub notify : ℕ
notify = 4

abbrev pub context_switch : ℕ
context_switch = 8

-- A bit of an engine is raised, by the rule of the interrupt registers.
abbrev pub bit_raised : PrivateDevice → ℕ → ℕ → Written
bit_raised p engine n = record (quietly (record p { interrupts = raised p.interrupts (interrupt_bit engine n) })) { irq = raising_tells p.interrupts (interrupt_bit engine n) }

-- several bits, one after another
abbrev pub bits_raised : PrivateDevice → ℕ → List ℕ → Written
bits_raised p engine [] = quietly p
bits_raised p engine (n ∷ more) = and_then (bit_raised p engine n) (λ q. bits_raised q engine more)

-- what a command raises, given as a set of bits: the user interrupt, notify, or nothing
abbrev pub command_raised : PrivateDevice → ℕ → ℕ → Written
command_raised p engine bits = bits_raised p engine (filter (has_bit bits) (user_interrupt ∷ notify ∷ []))

-- ---- status events

-- The status page of an engine is the global page in bits 31..12 of its register HWS_PGA.
abbrev pub status_page : PrivateDevice → ℕ → ℕ
status_page p engine = p.registers (register_base engine + 0x80) / 4096

-- the global address of a dword of the status page
abbrev pub status_at : PrivateDevice → ℕ → ℕ → ℕ
status_at p engine dword = status_page p engine * 4096 + 4 * dword

-- The pair with an index is copied to the dwords 0x10 + 2 * index of the status page and the one behind, the index
-- to dword 0x1F. Where the page gives no grant the copy is lost.
abbrev pub copied : PrivateDevice → ℕ → ℕ → Status → PrivateDevice
copied p engine index status =
    global_written (
    global_written (
    global_written p (status_at p engine (0x10 + 2 * index)) status.word)
    (status_at p engine (0x11 + 2 * index)) status.number)
    (status_at p engine 0x1F) index

-- the event goes into the status ring
abbrev pub in_ring : PrivateDevice → ℕ → Status → PrivateDevice
in_ring p engine status = with_slots p engine (pushed (p.engines engine).slots status)

-- A status event goes into the ring, at the raised write pointer, and to the status page; then the context switch
-- bit is raised.
abbrev pub event_given : PrivateDevice → ℕ → Status → Written
event_given p engine status =
    bit_raised (copied (in_ring p engine status) engine ((in_ring p engine status).engines engine).slots.write status) engine context_switch

-- several events, in their order
abbrev pub events_given : PrivateDevice → ℕ → List Status → Written
events_given p engine [] = quietly p
events_given p engine (status ∷ more) = and_then (event_given p engine status) (λ q. events_given q engine more)
