-- Rows of blits, page by page.
use Rattle.std.specs.Prelude.{ℕ, ◌%◌, List, Option, None, Some}
use Rattle.gv_types.specs.Maps.{put}
use Rattle.gv_gpu.specs.Device.{Device}
use Rattle.gv_engine.specs.Pages.{bytes_put}

-- the device with other words
abbrev pub reworded : Device → (ℕ → List ℕ) → Device
reworded d words = record d { words = words }

-- the device with n bytes put into a page from an address on, if there is the page
abbrev pub put_in : Device → Option ℕ → ℕ → (ℕ → ℕ) → ℕ → Device
put_in d None at bytes n = d
put_in d (Some page) at bytes n = reworded d (put d.words page (bytes_put (d.words page) (at % 4096) bytes n))
