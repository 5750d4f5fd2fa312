-- The memory of one guest, of those that are said.
use Rattle.std.proofs.Common.{◌≡◌, ℕ, ◌+◌, ◌<◌, ◌≤◌, List, [], ◌++◌, length, drop, ap, sym, ◌∙◌, subst}
use Rattle.std.proofs.lemmas.List.{at_drop_more, drop_all}
use Rattle.gv_gpu.specs.Device.{Device}
use Rattle.gv_text.specs.Report.{text_of}
use Rattle.gv_private.specs.Device.{PrivateDevice, new_device}
use Rattle.gv_machine.specs.Machine.{Machine, no_ranges, device_at}
use Rattle.gv_machine.specs.Report.{memory_said, memories_said}
use Rattle.gv_machine.proofs.Text.{said_more, said_none}
use Rattle.gv_mediator.specs.Laws.{HasMemories}
use Rattle.gv_run.proofs.Words.{IsWhole, whole-stands}

-- each frame of a guest has 512 words
pub whole-memory : (d : Device) (m : Machine) (g : ℕ) → HasMemories d m → g < length m.devices → IsWhole (device_at m.devices g).memory
whole-memory d m g has there =
    let memory = has g there in
    subst IsWhole memory.2 (whole-stands d (record { guest = g; pages = memory.0 }) memory.1)

module _ (devices : List PrivateDevice) (k : ℕ) where
  pub memories-kept : k < length devices → (before after all : List ℕ) → after ≡ before ++ text_of (memory_said k (device_at devices k).memory) → before ++ text_of (memories_said k (drop k devices)) ≡ all → after ++ text_of (memories_said (k + 1) (drop (k + 1) devices)) ≡ all
  memories-kept there before after all said kept =
      let rest = memories_said (k + 1) (drop (k + 1) devices) in
      let step = at_drop_more (memories_said k) devices k (new_device 0 0 no_ranges) there in
      said_more before after (memory_said k (device_at devices k).memory) rest said ∙ ap (λ lines. before ++ text_of lines) (sym step) ∙ kept

  pub memories-done : length devices ≤ k → (before all : List ℕ) → before ++ text_of (memories_said k (drop k devices)) ≡ all → before ≡ all
  memories-done past before all kept =
      let none : drop k devices ≡ [] = drop_all k devices past in
      said_none before ∙ sym (ap (λ m. before ++ text_of (memories_said k m)) none) ∙ kept
