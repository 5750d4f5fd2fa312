-- How the machine stands in the shared device.
use Rattle.std.specs.Prelude.{◌≡◌, ◌≢◌, ℕ, ◌-◌, ◌<◌, ◌≤◌, ◌++◌, [], ◌∷◌, List, Bool, true, false, ◌==◌, All, length, map, slice_index, Result, Err, OnOk}
use Rattle.std.specs.List.{sum_by}
use Rattle.gv_gpu.specs.Change.{Ran, RanPart}
use Rattle.gv_gpu.specs.Device.{Device, JournalEntry, IsEmpty}
use Rattle.gv_machine.specs.Course.{Course}
use Rattle.gv_machine.specs.Machine.{Machine, Done, device_at, ran_all}
use Rattle.gv_machine.specs.Report.{said_all}
use Rattle.gv_vgpu.specs.Changes.{journal_entry}
use Rattle.gv_mediator.specs.First.{first_machine}
use Rattle.gv_mediator.specs.Tied.{Tied, machine_of}
use Rattle.gv_mediator.specs.declared.guest.Guest.{Guest}
use Rattle.gv_mediator.specs.declared.mediator.Mediator.{Mediator}
use Rattle.gv_text.specs.Report.{text_of}
use Rattle.gv_text.specs.Script.{want_of}
use Rattle.gv_text.specs.declared.known.Known.{Known}
use Rattle.gv_text.specs.declared.script_line.Guest.{Guest as GuestForm}
use Rattle.gv_run.specs.declared.stage.Stage.{Stage}
use Rattle.gv_run.specs.declared.stage.Stage.TheVariants.{Gathering, Running}
use Rattle.gv_run.specs.declared.stopped.Stopped.{Stopped}
use Rattle.gv_run.specs.declared.stopped.Stopped.TheVariants as stops

-- Each device has its guest's number, and each engine's owner is a guest that is there, or 0 where none is.
pub record IsWhole (m : Machine) : Type 0 where
  pub numbers : (g : ℕ) → g < length m.devices → (device_at m.devices g).number ≡ g
  pub owners : (engine : ℕ) → m.owners engine ≤ length m.devices - 1

-- The guests' devices stand in the shared device, and take events. The device counted no fault.
pub record Stands (d : Device) (m : Mediator) : Type 0 where
  pub tied : Tied d m
  pub running : m.stopped ≡ false
  pub quiet : d.faults ≡ 0
  pub whole : IsWhole (machine_of d m)
  pub eight : length (machine_of d m).devices ≤ 8

-- ---- a script that runs

-- the machine so far, before the devices are made and after
abbrev pub machine_in : Device → Stage → Machine
machine_in d (Gathering guests) = first_machine guests.items
machine_in d (Running m) = machine_of d m

abbrev pub is_running : Stage → Bool
is_running (Gathering guests) = false
is_running (Running m) = true

-- the devices were made, and stand
abbrev pub IsMade : Device → Stage → Type 0
IsMade d (Gathering guests) = ⊥
IsMade d (Running m) = Stands d m

-- no guest came yet
abbrev pub is_first : Stage → Bool
is_first (Gathering guests) = length guests.items == 0
is_first (Running m) = false

-- A guest joined those that were gathered.
abbrev pub Joins : Stage → GuestForm → Stage → Type 0
Joins (Gathering guests) guest (Gathering more) = more.items ≡ guests.items ++ record { frames = guest.frames; want = want_of guest } ∷ []
Joins (Gathering guests) guest (Running m) = ⊥
Joins (Running m) guest stage = Unit {0}

abbrev pub low_pages : List Guest → ℕ
low_pages guests = sum_by (λ (guest : Guest). guest.want.low) guests

abbrev pub high_pages : List Guest → ℕ
high_pages guests = sum_by (λ (guest : Guest). guest.want.high) guests

-- No event came, and the device is empty. The guests so far have the frames and the pages that are known.
pub record AreGathered (d : Device) (known : Known) (guests : List Guest) : Type 0 where
  pub empty : IsEmpty d
  pub early : known.begun ≡ false
  pub some : All (λ (guest : Guest). 1 ≤ guest.frames) guests
  pub frames : sum_by (λ (guest : Guest). guest.frames) guests ≡ known.frames
  pub low : low_pages guests ≡ known.given.low
  pub high : high_pages guests ≡ known.given.high
  pub count : length guests ≡ known.guests
  pub few : known.frames ≤ 16384
  pub low_fits : known.given.low ≤ 65536
  pub high_fits : known.given.high ≤ 966656

-- An event came, and the devices stand. The shared device counted no fault.
pub record AreMade (d : Device) (known : Known) (m : Mediator) : Type 0 where
  pub tied : Tied d m
  pub running : m.stopped ≡ false
  pub quiet : d.faults ≡ 0
  pub begun : known.begun ≡ true

abbrev pub IsAt : Device → Known → Stage → Type 0
IsAt d known (Gathering guests) = AreGathered d known guests.items
IsAt d known (Running m) = AreMade d known m

-- The machine has the guests that are known, with the frames that are known.
pub record HasKnown (m : Machine) (known : Known) : Type 0 where
  pub whole : IsWhole m
  pub count : length m.devices ≡ known.guests
  pub sizes : (g : ℕ) → g < known.guests → length (device_at m.devices g).memory ≡ slice_index known.sizes g
  pub room : length known.sizes ≡ 8
  pub eight : known.guests ≤ 8

pub record Agrees (d : Device) (known : Known) (stage : Stage) : Type 0 where
  pub there : IsAt d known stage
  pub guests : HasKnown (machine_in d stage) known

-- ---- a course that was run

-- the commands that ran, as the shared device's journal has them
abbrev pub entries_in : List Done → List JournalEntry
entries_in came = map journal_entry (ran_all came)

-- A course was run over the shared device: the machine is what it leaves, its lines stand at the report's end, and its
-- commands ran.
pub record Plays (c : Course Machine Done) (before : Device) (told : List ℕ) (after : Device) (m : Machine) (now : List ℕ) : Type 0 where
  pub machine : m ≡ c.left
  pub report : now ≡ told ++ text_of (said_all c.came)
  pub ran : Ran before after (entries_in c.came)

-- What the run of a course leaves, one that goes to its end (`Ok`) and one that stops.
pub record RunsCourse {T : Type 0} (c : Course Machine Done) (before : Device) (told : List ℕ) (after : Device) (m : Machine) (now : List ℕ) (result : Result T Stopped) : Type 0 where
  -- at its end all of it was run
  pub done : OnOk result (Plays c before told after m now)
  -- and no fault of the device was passed over
  pub quiet : OnOk result (after.faults ≡ before.faults)
  -- wherever it stops, a front of its commands ran
  pub part : RanPart before after (entries_in c.came)
  -- it stops by the device only where a fault was counted
  pub cause : result ≡ Err stops.Device → 0 < after.faults
  -- and for want of memory only where none was
  pub memory : result ≡ Err stops.OutOfMemory → after.faults ≡ before.faults
  -- it neither reads the source nor writes to the sink
  pub reads : result ≢ Err stops.Read
  pub writes : result ≢ Err stops.Write
