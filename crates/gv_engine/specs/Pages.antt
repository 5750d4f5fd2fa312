-- The pages of a device in memory, by number.
use Rattle.std.specs.Prelude.{◌≡◌, ℕ, suc, zero, ◌+◌, ◌/◌, List, [], Option, None, slice_index, slice_index_or, slice_set, is_some}
use Rattle.gv_types.specs.Maps.{put}
use Rattle.gv_types.specs.Bits.{byte_of, with_byte}
use Rattle.gv_types.specs.declared.ids.Label.{Label}
use Rattle.gv_arena.specs.Contents.{Contents, is_live, live, words_of}

-- the label and the words of each page, and how many pages are live
pub record Held : Type 0 where
  pub label : ℕ → Option Label
  pub words : ℕ → List ℕ
  pub live : ℕ

abbrev pub held_by : Contents → List (Option Label) → Held
held_by pages labels = record {
  label = λ page. slice_index_or labels page None;
  words = λ page. words_of pages page;
  live = live pages;
}

-- the pages that are live are those that have a label
abbrev pub AreLabelled : Contents → List (Option Label) → Type 0
AreLabelled pages labels = (page : ℕ) → is_some (slice_index_or labels page None) ≡ is_live pages page

-- no page
abbrev pub nothing_held : Held
nothing_held = record { label = λ _. None; words = λ _. []; live = 0 }

-- the pages with other words in one
abbrev pub with_words : Held → ℕ → List ℕ → Held
with_words h page words = record h { words = put h.words page words }

-- a byte of a page's words
abbrev pub byte_in : List ℕ → ℕ → ℕ
byte_in words at = byte_of (slice_index words (at / 8)) at

-- a page's words after n bytes, which are stored one after another from a byte of the page on
unfoldable pub bytes_put : List ℕ → ℕ → (ℕ → ℕ) → ℕ → List ℕ
bytes_put words at bytes zero = words
bytes_put words at bytes (suc n) =
    let before = bytes_put words at bytes n in
    slice_set before ((at + n) / 8) (with_byte (slice_index before ((at + n) / 8)) (at + n) (bytes n))
