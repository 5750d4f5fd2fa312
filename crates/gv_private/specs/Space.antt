-- What the commands of an element at work reach of the private device: its memory, by the grants of the moment, and
-- the engine's general registers.
use Rattle.std.specs.Prelude.{ℕ, suc, zero, ◌+◌, ◌*◌, ◌/◌, ◌%◌, ◌^◌, List, Bool, true, false, Option}
use Rattle.gv_types.specs.Bits.{byte_of, with_byte}
use Rattle.gv_types.specs.Memory.{Memory, half_of}
use Rattle.gv_types.specs.declared.event.Width.TheVariants.{Four, Eight}
use Rattle.gv_types.specs.declared.ranges.Ranges.{Ranges}
use Rattle.gv_cmd.specs.Effect.{Operations, colour_byte}
use Rattle.gv_entry.specs.Grants.{read_grant, write_grant}
use Rattle.gv_private.specs.Device.{PrivateDevice, with_engine}
use Rattle.gv_private.specs.Grants.{page_grant_in, frame_read, frame_written}
use Rattle.gv_private.specs.Registers.{with_general}

pub record PrivateSpace : Type 0 where
  pub memory : Memory
  pub ranges : Ranges
  pub entries : List ℕ  -- of the global table
  pub roots : List ℕ
  pub root : ℕ  -- of the element at work
  pub general : ℕ → ℕ  -- the engine's sixteen general registers

abbrev pub space_of : PrivateDevice → ℕ → ℕ → PrivateSpace
space_of p engine root = record { memory = p.memory; ranges = p.ranges; entries = p.entries; roots = p.roots; root = root; general = (p.engines engine).general }

-- A command changes nothing but memory and the general registers of its engine.
abbrev pub with_space : PrivateDevice → ℕ → PrivateSpace → PrivateDevice
with_space p engine s = record (with_engine p engine (record (p.engines engine) { general = s.general })) { memory = s.memory }

-- ---- grants of the moment

-- The frame that an address reads: global where the first argument is true, else per process by the walk from the
-- root. Per process an address counts modulo 2^48: the walk ignores its higher bits.
abbrev pub reads : PrivateSpace → Bool → ℕ → Option ℕ
reads s true at = page_grant_in s.ranges s.entries s.memory s.roots (at / 4096)
reads s false at = read_grant s.memory s.root at

-- The frame that an address writes. Per process the page has to be writable, and no live table.
abbrev pub writes : PrivateSpace → Bool → ℕ → Option ℕ
writes s true at = page_grant_in s.ranges s.entries s.memory s.roots (at / 4096)
writes s false at = write_grant s.memory s.roots s.root at

-- ---- dwords, and bytes per process; without a grant they read 0 and aren't written

abbrev pub operand_read : PrivateSpace → Bool → ℕ → ℕ
operand_read s global at = frame_read s.memory Four at (reads s global at)

abbrev pub operand_written : PrivateSpace → Bool → ℕ → ℕ → PrivateSpace
operand_written s global at value = record s { memory = frame_written s.memory Four at value (writes s global at) }

-- the address of the word that a byte is in
abbrev pub word_at : ℕ → ℕ
word_at at = at / 8 * 8

abbrev pub byte_read : PrivateSpace → ℕ → ℕ
byte_read s at = byte_of (frame_read s.memory Eight (word_at at) (reads s false at)) at

abbrev pub byte_written : PrivateSpace → ℕ → ℕ → PrivateSpace
byte_written s at value =
    record s { memory = frame_written s.memory Eight (word_at at) (with_byte (frame_read s.memory Eight (word_at at) (writes s false at)) at value) (writes s false at) }

-- the first n bytes, in order, of which byte k goes to an address of k more: each is granted by itself
unfoldable pub bytes_written : PrivateSpace → ℕ → (ℕ → ℕ) → ℕ → PrivateSpace
bytes_written s at bytes zero = s
bytes_written s at bytes (suc n) = byte_written (bytes_written s at bytes n) (at + n) (bytes n)

-- The six operations. A load leaves the space as it is. A row is read whole before it is written, and its addresses
-- count modulo 2^48.
abbrev pub private_operations : Operations PrivateSpace
private_operations = record {
  load_gives = λ s global at. operand_read s global at;
  load_leaves = λ s global at. s;
  stored = λ s global at value. operand_written s global at value;
  row_copied = λ s to from n. bytes_written s (to % 2 ^ 48) (λ k. byte_read s (from % 2 ^ 48 + k)) n;
  row_filled = λ s to n colour depth. bytes_written s (to % 2 ^ 48) (colour_byte colour depth) n;
  general_gives = λ s n. half_of (s.general (n / 2)) (4 * n);
  general_set = λ s n value. record s { general = with_general s.general n value };
}
