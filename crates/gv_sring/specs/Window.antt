-- The pages of a shadow ring and of its image, and their entries in the window of a guest and engine.
use Rattle.std.specs.Prelude.{ℕ, ◌+◌, ◌-◌, ◌*◌, ◌/◌, ◌%◌, ◌<◌, ◌≤◌, ◌≡◌, ◌≢◌, nat_lt, List, length, slice_index, if◌then◌else◌, Some}
use Rattle.gv_gpu.specs.Device.{Device}
use Rattle.gv_gpu.specs.Part.{first_of_window, shadow_label}

-- Whose they are, the ring copy's length in bytes, and the host pages: the image's two, then those of the
-- ring copy, then those of the batches.
pub record Window : Type 0 where
  pub guest : ℕ
  pub engine : ℕ
  pub tail : ℕ
  pub pages : List ℕ

abbrev pub first_of : Window → ℕ
first_of w = first_of_window w.guest w.engine

-- how many pages a ring copy of so many bytes has
abbrev pub ring_pages : ℕ → ℕ
ring_pages tail = (tail + 4095) / 4096

-- which of the window's 512 entries names a page: 0 and 1, then from 0x10 on, then from 0x20 on
abbrev pub slot_of : ℕ → ℕ → ℕ
slot_of tail k =
    if nat_lt k 2 then k
    else (if nat_lt k (2 + ring_pages tail) then 0x10 + (k - 2)
    else 0x20 + (k - (2 + ring_pages tail)))

-- Bit 0 says present, bit 1 writable: so are the image's pages alone.
abbrev pub flags_of : ℕ → ℕ
flags_of k = if nat_lt k 2 then 3 else 1

-- the most pages that a window has
abbrev pub most_pages : ℕ → ℕ
most_pages tail = 2 + ring_pages tail + 256

-- the k-th page
abbrev pub page_at : Window → ℕ → ℕ
page_at w k = slice_index w.pages k

-- Each page is a shadow page of the guest's, and its entry names it; no page is named twice; and every
-- other entry of the window is absent.
pub record Shows (d : Device) (w : Window) : Type 0 where
  pub entry : (k : ℕ) → k < length w.pages → d.global (first_of w + slot_of w.tail k) ≡ page_at w k * 4096 + flags_of k
  pub label : (k : ℕ) → k < length w.pages → d.label (page_at w k) ≡ Some (shadow_label w.guest)
  pub long : (k : ℕ) → k < length w.pages → length (d.words (page_at w k)) ≡ 512
  pub below : (k : ℕ) → k < length w.pages → page_at w k < 131072
  pub apart : (j k : ℕ) → j < length w.pages → k < length w.pages → page_at w j ≡ page_at w k → j ≡ k
  pub others : (i : ℕ) → i < 0x200 → ((k : ℕ) → k < length w.pages → slot_of w.tail k ≢ i) → d.global (first_of w + i) % 2 ≡ 0
  pub few : length w.pages ≤ most_pages w.tail

-- every entry of the window is absent
abbrev pub WindowIsAbsent : Device → ℕ → ℕ → Type 0
WindowIsAbsent d guest engine = (i : ℕ) → i < 0x200 → d.global (first_of_window guest engine + i) % 2 ≡ 0

-- ---- what is read of the window

-- the global address of the ring copy, and of the batches
abbrev pub ring_address : ℕ → ℕ → ℕ
ring_address guest engine = (first_of_window guest engine + 0x10) * 4096

abbrev pub batches_address : ℕ → ℕ → ℕ
batches_address guest engine = (first_of_window guest engine + 0x20) * 4096

-- The image's first page stands at the descriptor's page: valid, addressing mode 3, number 0.
abbrev pub descriptor_at : ℕ → ℕ → ℕ
descriptor_at guest engine = first_of_window guest engine * 4096 + 0x19

-- ---- how it grows

-- A window of another device that begins with these pages, whose words are as they were.
pub record Grows (d : Device) (v : Window) (e : Device) (w : Window) : Type 0 where
  pub same : w ≡ record v { pages = w.pages }
  pub longer : length v.pages ≤ length w.pages
  pub page : (k : ℕ) → k < length v.pages → page_at w k ≡ page_at v k
  pub words : (k : ℕ) → k < length v.pages → e.words (page_at v k) ≡ d.words (page_at v k)
  pub live : e.live + length v.pages ≡ d.live + length w.pages
