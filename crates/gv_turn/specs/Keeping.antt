-- What leaves an element at work: writes to frames that are no live tables, status events and interrupts.
use Rattle.std.specs.Prelude.{◌≡◌, ℕ}
use Rattle.gv_entry.specs.SameTables.{SameTables}
use Rattle.gv_private.specs.Device.{PrivateDevice}

-- All of a private device that an element at work on an engine stands on, but for the words of frames that are no live
-- tables.
pub record KeepsWork (before after : PrivateDevice) (engine : ℕ) : Type 0 where
  pub number : after.number ≡ before.number
  pub ranges : after.ranges ≡ before.ranges
  pub failsafe : after.failsafe ≡ before.failsafe
  pub entries : after.entries ≡ before.entries
  pub roots : after.roots ≡ before.roots
  pub general : (after.engines engine).general ≡ (before.engines engine).general
  pub element : (after.engines engine).element ≡ (before.engines engine).element
  pub tables : SameTables before.memory after.memory before.roots
