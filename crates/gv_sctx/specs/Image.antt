-- The second page of a shadow image, as dwords: where each field stands, and what holds it.
use Rattle.std.specs.Prelude.{ℕ, ◌*◌, ◌/◌, ◌^◌, ◌<◌, List, [], ◌∷◌, slice_index, slice_set}
use Rattle.gv_types.specs.Memory.{half_of, with_half}
use Rattle.gv_ctx.specs.Saved.{high_of, low_of, state_of, saved_of}
use Rattle.gv_ctx.specs.declared.saved.Saved.{Saved}
use Rattle.gv_gpu.specs.Device.{Device, poked}

-- a page has 1,024 dwords, two to a word, the low half first
abbrev pub page_dword : List ℕ → ℕ → ℕ
page_dword words n = half_of (slice_index words (n / 2)) (4 * n)

abbrev pub word_with : List ℕ → ℕ → ℕ → ℕ
word_with words n value = with_half (slice_index words (n / 2)) (4 * n) value

abbrev pub with_dword : List ℕ → ℕ → ℕ → List ℕ
with_dword words n value = slice_set words (n / 2) (word_with words n value)

-- The place, the tail, the ring's start, control and root, by the numbers of the dwords that hold them.
abbrev pub image_fields : ℕ → Saved → ℕ → ℕ → List (ℕ × ℕ)
image_fields start place tail root =
    (0x05, place.ring)
    ∷ (0x0D, high_of place.first) ∷ (0x0F, low_of place.first) ∷ (0x11, state_of place.first)
    ∷ (0x13, high_of place.second) ∷ (0x15, low_of place.second) ∷ (0x17, state_of place.second)
    ∷ (0x07, tail) ∷ (0x09, start) ∷ (0x0B, 0xF001) ∷ (0x31, 0) ∷ (0x33, root * 0x1000) ∷ []

-- the place that a page holds
abbrev pub saved_in : List ℕ → Saved
saved_in words = saved_of (page_dword words 0x05 ∷ page_dword words 0x0D ∷ page_dword words 0x0F
    ∷ page_dword words 0x11 ∷ page_dword words 0x13 ∷ page_dword words 0x15 ∷ page_dword words 0x17 ∷ [])

-- dwords of a page
abbrev pub AreDwords : List (ℕ × ℕ) → Type 0
AreDwords [] = Unit {0}
AreDwords (x ∷ more) = (x.0 < 1024) × (x.1 < 2 ^ 32) × AreDwords more

-- A dword of a page is written with one poke; and dwords one after the other.
abbrev pub dword_poked : Device → ℕ → ℕ → ℕ → Device
dword_poked d page n value = poked d page (n / 2) (word_with (d.words page) n value)

unfoldable pub dwords_poked : Device → ℕ → List (ℕ × ℕ) → Device
dwords_poked d page [] = d
dwords_poked d page (x ∷ more) = dwords_poked (dword_poked d page x.0 x.1) page more

-- the words of the page then
unfoldable pub filled_words : List ℕ → List (ℕ × ℕ) → List ℕ
filled_words words [] = words
filled_words words (x ∷ more) = filled_words (with_dword words x.0 x.1) more
