-- Two memories with the same tables. What follows from tables depends on the words of guarded frames alone,
-- so a write to any other frame changes nothing of it.
use Rattle.std.specs.Prelude.{◌≡◌, ℕ, ◌/◌, List, Bool, true, false, length, slice_set, ◌==◌}
use Rattle.std.specs.List.{list_any}
use Rattle.gv_types.specs.Memory.{Memory, with_word, memory_write}
use Rattle.gv_types.specs.declared.event.Width.{Width}
use Rattle.gv_entry.specs.Tables.{frame_words, walk, live, split_keys, is_guarded, has_bad_entry}
use Rattle.gv_entry.specs.Grants.{read_grant, write_grant, is_mapped}

-- whether a frame is among these
abbrev pub has : List ℕ → ℕ → Bool
has frames frame = list_any (λ table. table == frame) frames

-- As many frames, and each frame that is guarded in m has the same words.
pub record SameTables (m n : Memory) (roots : List ℕ) : Type 0 where
  pub frames : length n ≡ length m
  pub words : (frame : ℕ) → is_guarded m roots frame ≡ true → frame_words n frame ≡ frame_words m frame

-- What follows: the live tables of each level, split keys, guarded and mapped frames, bad entries, and what
-- each root maps and grants.
pub record SameMeaning (m n : Memory) (roots : List ℕ) : Type 0 where
  pub live : (level : ℕ) → live n roots level ≡ live m roots level
  pub split : split_keys n roots ≡ split_keys m roots
  pub guarded : is_guarded n roots ≡ is_guarded m roots
  pub mapped : is_mapped n roots ≡ is_mapped m roots
  pub bad : has_bad_entry n roots ≡ has_bad_entry m roots
  pub walks : (root address : ℕ) → has roots root ≡ true → walk n root address ≡ walk m root address
  pub read : (root address : ℕ) → has roots root ≡ true → read_grant n root address ≡ read_grant m root address
  pub write : (root address : ℕ) → has roots root ≡ true → write_grant n roots root address ≡ write_grant m roots root address

abbrev pub TablesDecide : Type 0
TablesDecide = (m n : Memory) (roots : List ℕ) → SameTables m n roots → SameMeaning m n roots

abbrev pub SameTablesChain : Type 0
SameTablesChain = (m n k : Memory) (roots : List ℕ) → SameTables m n roots → SameTables n k roots → SameTables m k roots

-- all words of a frame that isn't guarded are set
abbrev pub UnguardedFrameKeepsTables : Type 0
UnguardedFrameKeepsTables = (m : Memory) (roots : List ℕ) (frame : ℕ) (words : List ℕ) → is_guarded m roots frame ≡ false → SameTables m (slice_set m frame words) roots

-- one word of such a frame is set, by its number over all frames
abbrev pub UnguardedWordKeepsTables : Type 0
UnguardedWordKeepsTables = (m : Memory) (roots : List ℕ) (number value : ℕ) → is_guarded m roots (number / 512) ≡ false → SameTables m (with_word m number value) roots

-- a guest's write, by its address in bytes; it may be outside memory
abbrev pub UnguardedWriteKeepsTables : Type 0
UnguardedWriteKeepsTables = (m : Memory) (roots : List ℕ) (width : Width) (at value : ℕ) → is_guarded m roots (at / 4096) ≡ false → SameTables m (memory_write m width at value) roots
