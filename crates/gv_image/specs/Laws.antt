-- What holds of images, and of the devices whose images are accepted.
use Rattle.std.specs.Prelude.{◌≡◌, ℕ, ◌<◌, ◌≤◌, length}
use Rattle.gv_entry.specs.Ranges.{InParts}
use Rattle.gv_private.specs.Device.{new_device}
use Rattle.gv_types.specs.declared.ranges.Ranges.{Ranges}
use Rattle.gv_image.specs.Accepted.{IsAccepted}
use Rattle.gv_image.specs.Image.{image}

-- ranges without a page
abbrev pub no_pages : Ranges
no_pages = record { low = record { first = 0; pages = 0 }; high = record { first = 0x10000; pages = 0 } }

-- The image of a new guest with one frame and no page of the global table has 5,029 bytes.
abbrev pub OneFrame : Type 0
OneFrame = length (image (new_device 0 1 no_pages)) ≡ 5029

-- A new device is accepted.
abbrev pub FirstIsAccepted : Type 0
FirstIsAccepted = (number frames : ℕ) (ranges : Ranges) → number < 8 → 1 ≤ frames → frames ≤ 16384 → InParts ranges → IsAccepted (new_device number frames ranges)
