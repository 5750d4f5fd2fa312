-- Sizes and limits that many definitions name.
use Rattle.std.specs.Prelude.{ℕ}

-- a page, a frame of guest memory or a table: 512 words of 64 bits
abbrev pub page_words : ℕ
page_words = 512

abbrev pub page_bytes : ℕ
page_bytes = 4096

-- the frames of all guests
abbrev pub most_frames : ℕ
most_frames = 16384

-- the host's live pages
abbrev pub most_live_pages : ℕ
most_live_pages = 131072
