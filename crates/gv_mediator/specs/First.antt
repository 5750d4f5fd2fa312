-- The machine at first.
use Rattle.std.specs.Prelude.{◌≡◌, ◌≤◌, List, [], ◌∷◌, ◌++◌, All, true, length, map}
use Rattle.std.specs.List.{sum_by}
use Rattle.gv_balloon.specs.Shares.{all_fit, next_ranges}
use Rattle.gv_types.specs.declared.ranges.Want.{Want}
use Rattle.gv_machine.specs.Machine.{Machine, new_machine, given_to, ranges_in}
use Rattle.gv_private.specs.Device.{new_device}
use Rattle.gv_mediator.specs.declared.guest.Guest.{Guest}

-- A guest joins a machine: its device has the next ranges.
abbrev pub joined : Machine → Guest → Machine
joined m guest = record m { devices = m.devices ++ new_device (length m.devices) guest.frames (next_ranges (given_to (ranges_in m.devices)) guest.want) ∷ [] }

-- guests join, one after another
abbrev pub all_joined : Machine → List Guest → Machine
all_joined m [] = m
all_joined m (guest ∷ more) = all_joined (joined m guest) more

abbrev pub wants_of : List Guest → List Want
wants_of guests = map (λ (guest : Guest). guest.want) guests

-- One to eight guests, each with a frame at least and all with 16,384 at most, whose pages of the global table fit.
pub record MayBegin (guests : List Guest) : Type 0 where
  pub some : 1 ≤ length guests
  pub eight : length guests ≤ 8
  pub frames : All (λ (guest : Guest). 1 ≤ guest.frames) guests
  pub few : sum_by (λ (guest : Guest). guest.frames) guests ≤ 16384
  pub fit : all_fit (wants_of guests) ≡ true

abbrev pub first_machine : List Guest → Machine
first_machine guests = all_joined new_machine guests
