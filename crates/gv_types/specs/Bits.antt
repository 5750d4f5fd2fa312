-- Bits of a dword, and bytes of a word.
use Rattle.std.specs.Prelude.{ℕ, ◌%◌, ◌==◌, Bool, slice_index, slice_set}
use Rattle.std.specs.Int.{bit_at, to_le_bytes, from_le_bytes, w64}

abbrev pub has_bit : ℕ → ℕ → Bool
has_bit dword bit = bit_at dword bit == 1

-- that of bit 0
abbrev pub has_lowest_bit : ℕ → Bool
has_lowest_bit dword = dword % 2 == 1

-- a byte of a word, least first
abbrev pub byte_of : ℕ → ℕ → ℕ
byte_of word at = slice_index (to_le_bytes w64 word) (at % 8)

abbrev pub with_byte : ℕ → ℕ → ℕ → ℕ
with_byte word at value = from_le_bytes w64 (slice_set (to_le_bytes w64 word) (at % 8) value)
