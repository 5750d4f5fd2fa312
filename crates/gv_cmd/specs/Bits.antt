-- Fields of a dword, and the operands that several rows of the command table share. A command is given
-- as the list of its dwords.
use Rattle.std.specs.Prelude.{ℕ, ◌+◌, ◌-◌, ◌*◌, ◌/◌, ◌%◌, ◌^◌, List, slice_index}

-- the bits from high down to low, as a number
abbrev pub bits : ℕ → ℕ → ℕ → ℕ
bits dword high low = dword / 2 ^ low % 2 ^ (high + 1 - low)

-- A register operand is bits 22..2 of its dword: the register's byte offset.
abbrev pub register : List ℕ → ℕ → ℕ
register ws n = bits (slice_index ws n) 22 2 * 4

-- An address is a low dword and bits 15..0 of the next, the high one.
abbrev pub high_part : List ℕ → ℕ → ℕ
high_part ws n = slice_index ws (n + 1) % 2 ^ 16 * 2 ^ 32

abbrev pub byte_address : List ℕ → ℕ → ℕ
byte_address ws n = high_part ws n + slice_index ws n

-- its bits 1..0 count as 0
abbrev pub dword_address : List ℕ → ℕ → ℕ
dword_address ws n = high_part ws n + slice_index ws n / 4 * 4

-- its bits 2..0 count as 0
abbrev pub quadword_address : List ℕ → ℕ → ℕ
quadword_address ws n = high_part ws n + slice_index ws n / 8 * 8
