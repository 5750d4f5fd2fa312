-- What holds of every window that shows its pages.
use Rattle.std.specs.Prelude.{ℕ, ◌+◌, ◌<◌, ◌≤◌, ◌≡◌, length}
use Rattle.gv_gpu.specs.Device.{Device}
use Rattle.gv_sctx.specs.Context.{HasImage}
use Rattle.gv_sring.specs.Window.{Window, first_of, page_at, Shows, descriptor_at}

-- The second page is the image of the context that the descriptor names.
abbrev pub ShowsHasImage : Type 0
ShowsHasImage = (d : Device) (w : Window) → w.guest < 8 → w.engine < 4 → 2 ≤ length w.pages → Shows d w → HasImage d w.guest (descriptor_at w.guest w.engine) (page_at w 1)

-- A device with the same entries of the window, and the same labels and lengths of its pages, shows it too.
abbrev pub ShowsStays : Type 0
ShowsStays = (d e : Device) (w : Window) → w.tail ≤ 65536 →
    ((i : ℕ) → i < 0x200 → e.global (first_of w + i) ≡ d.global (first_of w + i)) →
    ((k : ℕ) → k < length w.pages → e.label (page_at w k) ≡ d.label (page_at w k)) →
    ((k : ℕ) → k < length w.pages → length (e.words (page_at w k)) ≡ length (d.words (page_at w k))) →
    Shows d w → Shows e w
