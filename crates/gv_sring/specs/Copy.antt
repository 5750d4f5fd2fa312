-- The copy of a program in the window, as an engine reads it through the global table.
use Rattle.std.specs.Prelude.{ℕ, ◌+◌, ◌*◌, ◌/◌, ◌%◌, ◌^◌, ◌<◌, ◌≤◌, List, ◌≡◌, ◌≢◌, true, length, slice_index, Some}
use Rattle.std.specs.List.{concat}
use Rattle.gv_gpu.specs.Device.{Device}
use Rattle.gv_gpu.specs.Part.{is_in_windows, shadow_label}
use Rattle.gv_gpu.specs.Physical.{read_page, dword_at}
use Rattle.gv_scan.specs.Layout.{Layout, IsLayout, placed_layout}
use Rattle.gv_sctx.specs.Image.{page_dword}
use Rattle.gv_sring.specs.Window.{Window, page_at, ring_address, batches_address}

-- An address of the guest's windows, whose entry names a shadow page of the guest's that isn't the
-- second page of the shadow image.
pub record Shown (d : Device) (guest image at : ℕ) : Type 0 where
  pub window : is_in_windows guest (at / 4096) ≡ true
  pub page : ℕ
  pub names : read_page d 0 true at ≡ Some page
  pub label : d.label page ≡ Some (shadow_label guest)
  pub apart : page ≢ image

-- dwords that an engine reads in the window from a global address on
pub record HasCopy (d : Device) (guest image at : ℕ) (words : List ℕ) : Type 0 where
  pub dword : (k : ℕ) → k < length words → dword_at d 0 true (at + 4 * k) ≡ slice_index words k
  pub shown : (k : ℕ) → k < length words → Shown d guest image (at + 4 * k)

-- the copies of a program, the ring's from `start` on
pub record Copied (d : Device) (guest image : ℕ) (p : Layout) (start : ℕ) : Type 0 where
  pub ring : HasCopy d guest image start (concat p.ring)
  pub batches : HasCopy d guest image p.base (concat p.batches)
  pub ring_small : length (concat p.ring) ≤ 16384
  pub batches_small : p.base + 4 * length (concat p.batches) ≤ 2 ^ 32
  pub start_aligned : start % 4 ≡ 0
  pub base_aligned : p.base % 4 ≡ 0

-- ---- a window that was built

-- Its copies are those of the program, in whichever commands its dwords are laid out: the address of each
-- start of a fetched batch is that of the copy in the window.
abbrev pub IsCopied : Device → Window → List ℕ → List ℕ → Type 0
IsCopied d w ring batches = (layout : Layout) → IsLayout ring batches layout →
    Copied d w.guest (page_at w 1) (placed_layout (batches_address w.guest w.engine) layout) (ring_address w.guest w.engine)

-- every dword of the image's two pages is 0
pub record HasZeroImage (d : Device) (w : Window) : Type 0 where
  pub first : (m : ℕ) → m < 1024 → page_dword (d.words (page_at w 0)) m ≡ 0
  pub second : (m : ℕ) → m < 1024 → page_dword (d.words (page_at w 1)) m ≡ 0
