-- Guest memory: a list of frames, each 512 words of 64 bits, least byte first. It knows nothing of
-- the host pages that hold it.
use Rattle.std.specs.Prelude.{ℕ, ◌+◌, ◌*◌, ◌-◌, ◌/◌, ◌%◌, ◌^◌, List, [], if◌then◌else◌, ◌==◌, nat_lt, length, slice_index, slice_index_or, slice_set, replicate, ◌≡◌, refl}
use Rattle.gv_types.specs.declared.event.Width.{Width}
use Rattle.gv_types.specs.declared.event.Width.TheVariants.{Four, Eight}

abbrev pub Memory : Type 0
Memory = List (List ℕ)

abbrev pub size_in_bytes : Memory → ℕ
size_in_bytes m = length m * 4096

-- the word with number n, counted over all frames: it begins at the address 8 * n
abbrev pub word_of : Memory → ℕ → ℕ
word_of m n = slice_index (slice_index_or m (n / 512) []) (n % 512)

abbrev pub with_word : Memory → ℕ → ℕ → Memory
with_word m n value = slice_set m (n / 512) (slice_set (slice_index_or m (n / 512) []) (n % 512) value)

-- four bytes of a word: those at its beginning are the low half
abbrev pub half_of : ℕ → ℕ → ℕ
half_of word at = if at % 8 == 0 then word % 2 ^ 32 else word / 2 ^ 32

abbrev pub with_half : ℕ → ℕ → ℕ → ℕ
with_half word at value = if at % 8 == 0 then word / 2 ^ 32 * 2 ^ 32 + value else value * 2 ^ 32 + word % 2 ^ 32

abbrev pub value_at : Memory → Width → ℕ → ℕ
value_at m Four at = half_of (word_of m (at / 8)) at
value_at m Eight at = word_of m (at / 8)

abbrev pub with_value : Memory → Width → ℕ → ℕ → Memory
with_value m Four at value = with_word m (at / 8) (with_half (word_of m (at / 8)) at value)
with_value m Eight at value = with_word m (at / 8) value

abbrev pub all_ones : Width → ℕ
all_ones Four = 2 ^ 32 - 1
all_ones Eight = 2 ^ 64 - 1

-- An aligned access inside reads or writes these bytes. Outside it reads all ones and writes nothing.
abbrev pub memory_read : Memory → Width → ℕ → ℕ
memory_read m width at = if nat_lt at (size_in_bytes m) then value_at m width at else all_ones width

abbrev pub memory_write : Memory → Width → ℕ → ℕ → Memory
memory_write m width at value = if nat_lt at (size_in_bytes m) then with_value m width at value else m

-- how many bytes an access has
abbrev pub bytes_of : Width → ℕ
bytes_of Four = 4
bytes_of Eight = 8

-- A page of zeros. It is no abbrev, since 512 cells would then stand in each goal.
unfoldable pub zero_words : List ℕ
zero_words = replicate 512 0

pub length-zero_words : length zero_words ≡ 512
unfolding zero_words
length-zero_words = refl

-- memory at first
abbrev pub zero_memory : ℕ → Memory
zero_memory frames = replicate frames zero_words
