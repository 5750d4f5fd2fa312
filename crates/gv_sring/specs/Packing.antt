-- Dwords go into a page two to a word, and 1,024 to a page.
use Rattle.std.specs.Prelude.{ℕ, suc, zero, ◌+◌, ◌-◌, ◌*◌, ◌/◌, ◌^◌, ◌<◌, ◌≡◌, min, List, length, slice_index, Ok}
use Rattle.std.specs.List.{concat}
use Rattle.std.specs.Prelude.{map}
use Rattle.gv_gpu.specs.Device.{Device, poked}
use Rattle.gv_cmd.specs.Command.{decoded}
use Rattle.gv_scan.specs.Layout.{IsCopy, AreCopies, placed}
use Rattle.gv_sctx.specs.Image.{page_dword}
use Rattle.gv_sring.specs.Window.{Window, page_at}

-- two dwords as a word, the first one low
abbrev pub packed : List ℕ → ℕ → ℕ
packed words j = slice_index words (2 * j) + slice_index words (2 * j + 1) * 2 ^ 32

-- so many words of a page, which are the dwords from one on
unfoldable pub packed_into : Device → ℕ → List ℕ → ℕ → ℕ → Device
packed_into d page words from zero = d
packed_into d page words from (suc n) = poked (packed_into d page words from n) page n (packed words (from + n))

-- as many words as the dwords of a part need
abbrev pub words_in : List ℕ → ℕ → ℕ
words_in words part = min ((length words + 1 - 1024 * part) / 2) 512

-- a page holds its part of the dwords
abbrev pub HoldsPart : Device → ℕ → List ℕ → ℕ → Type 0
HoldsPart d page words i = (m : ℕ) → m < 1024 → page_dword (d.words page) m ≡ slice_index words (1024 * i + m)

-- the first n pages from one on hold theirs
abbrev pub HoldsParts : Device → Window → ℕ → List ℕ → ℕ → Type 0
HoldsParts d w from words n = (i : ℕ) → i < n → HoldsPart d (page_at w (from + i)) words i

abbrev pub count_of : List ℕ → ℕ
count_of words = (length words + 1023) / 1024

-- Dwords that are whole commands, with the address of each start of a fetched batch counted from `base`.
abbrev pub ArePlaced : ℕ → List ℕ → List ℕ → Type 0
ArePlaced base words after = (commands : List (List ℕ)) → concat commands ≡ words → AreCopies commands → after ≡ concat (map (placed base) commands)

-- the command at the front of dwords
pub record BeginsWithCopy (words : List ℕ) : Type 0 where
  pub command : List ℕ
  pub copy : IsCopy command
  pub decodes : decoded words ≡ Ok (command, length command)
