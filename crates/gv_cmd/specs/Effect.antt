-- What a command does to a space, written over what the space's operations mean.
use Rattle.std.specs.Prelude.{ℕ, ◌+◌, ◌-◌, ◌/◌, ◌%◌, ◌==◌, ◌&&◌, ◌||◌, not, max, nat_le, nat_lt, slice_index, Bool, true, false, List, [], ◌∷◌, drop, fold, if◌then◌else◌, Option, None, Some, is_none}
use Rattle.std.specs.Int.{to_le_bytes, w32}
use Rattle.gv_types.specs.Engines.{register_base}
use Rattle.gv_cmd.specs.Bits.{register}
use Rattle.gv_cmd.specs.Table.{kind_of}
use Rattle.gv_cmd.specs.Rows.{rows}
use Rattle.gv_cmd.specs.declared.blit.Blit.{Blit}
use Rattle.gv_cmd.specs.declared.blit.RowPair.{RowPair}
use Rattle.gv_cmd.specs.declared.kind.PostWrite.{PostWrite}
use Rattle.gv_cmd.specs.declared.kind.Kind.{Kind}
use Rattle.gv_cmd.specs.declared.kind.Kind.TheVariants.{UserInterrupt, SemaphoreWait, Store, LoadRegisters, StoreRegister, LoadRegister, MoveRegister, CopyMemory, Flush, PipeControl, ColourBlit, CopyBlit}

-- A byte of a row of a colour, whose low bytes are taken in turn. A pixel has 1, 2 or 4 of them.
abbrev pub colour_byte : ℕ → ℕ → ℕ → ℕ
colour_byte colour depth k = slice_index (to_le_bytes w32 colour) (k % max depth 1)

-- What the six operations of a space answer, and what they leave of its state. A Bool says that an
-- address is global. General registers are counted by dwords, 0 to 31.
pub record Operations (S : Type 0) : Type 0 where
  pub load_gives : S → Bool → ℕ → ℕ  -- global, at
  pub load_leaves : S → Bool → ℕ → S
  pub stored : S → Bool → ℕ → ℕ → S  -- global, at, value
  pub row_copied : S → ℕ → ℕ → ℕ → S  -- to, from, bytes
  pub row_filled : S → ℕ → ℕ → ℕ → ℕ → S  -- to, bytes, colour, bytes of a pixel
  pub general_gives : S → ℕ → ℕ
  pub general_set : S → ℕ → ℕ → S

-- the state afterwards, and the interrupt bits of the engine that are raised, or None where the
-- command waits
pub record Effect (S : Type 0) : Type 0 where
  pub after : S
  pub raise : Option ℕ

abbrev pub ran : {S : Type 0} → S → ℕ → Effect S
ran s bits = record { after = s; raise = Some bits }

abbrev pub waits : {S : Type 0} → S → Effect S
waits s = record { after = s; raise = None }

-- ---- general registers

-- The general registers of an engine are its dwords 0x600 to 0x67C. No other register is general.
abbrev pub general_of : ℕ → ℕ → Option ℕ
general_of engine register =
    if nat_le (register_base engine + 0x600) register && nat_lt register (register_base engine + 0x680)
    then Some ((register - (register_base engine + 0x600)) / 4)
    else None

-- a register that isn't general reads 0, and isn't changed
abbrev pub general_read_by : {S : Type 0} → Operations S → S → Option ℕ → ℕ
general_read_by ops s None = 0
general_read_by ops s (Some n) = ops.general_gives s n

abbrev pub general_set_by : {S : Type 0} → Operations S → S → Option ℕ → ℕ → S
general_set_by ops s None value = s
general_set_by ops s (Some n) value = ops.general_set s n value

abbrev pub engine_register_read : {S : Type 0} → Operations S → ℕ → S → ℕ → ℕ
engine_register_read ops engine s register = general_read_by ops s (general_of engine register)

abbrev pub engine_register_set : {S : Type 0} → Operations S → ℕ → S → ℕ → ℕ → S
engine_register_set ops engine s register value = general_set_by ops s (general_of engine register) value

-- pairs of register and value, in order
abbrev pub engine_registers_set : {S : Type 0} → Operations S → ℕ → S → List ℕ → S
engine_registers_set ops engine s [] = s
engine_registers_set ops engine s (r ∷ []) = s
engine_registers_set ops engine s (r ∷ value ∷ pairs) = engine_registers_set ops engine (engine_register_set ops engine s (register (r ∷ []) 0) value) pairs

-- a general register takes what is loaded; for another one nothing is loaded
abbrev pub general_loaded_by : {S : Type 0} → Operations S → S → Option ℕ → Bool → ℕ → S
general_loaded_by ops s None global at = s
general_loaded_by ops s (Some n) global at = ops.general_set (ops.load_leaves s global at) n (ops.load_gives s global at)

-- ---- memory

-- one dword, or two
abbrev pub dwords_stored : {S : Type 0} → Operations S → S → Bool → ℕ → ℕ → Option ℕ → S
dwords_stored ops s global at low None = ops.stored s global at low
dwords_stored ops s global at low (Some high) = ops.stored (ops.stored s global at low) global (at + 4) high

abbrev pub post_written : {S : Type 0} → Operations S → S → Option PostWrite → S
post_written ops s None = s
post_written ops s (Some w) = dwords_stored ops s w.global w.at w.low w.high

abbrev pub rows_copied : {S : Type 0} → Operations S → S → List RowPair → S
rows_copied ops s rs = fold (λ t r. ops.row_copied t r.to r.from r.bytes) s rs

abbrev pub rows_filled : {S : Type 0} → Operations S → S → Blit → List RowPair → S
rows_filled ops s b rs = fold (λ t r. ops.row_filled t r.to r.bytes b.colour b.bytes) s rs

-- ---- commands

-- the comparison of a wait, memory on the left: 0 >, 1 >=, 2 <, 3 <=, 4 equal, 5 not equal
abbrev pub compares : ℕ → ℕ → ℕ → Bool
compares how memory operand =
    if how == 0 then nat_lt operand memory
    else (if how == 1 then nat_le operand memory
    else (if how == 2 then nat_lt memory operand
    else (if how == 3 then nat_le memory operand
    else (if how == 4 then memory == operand
    else not (memory == operand)))))

abbrev pub writes_global : Option PostWrite → Bool
writes_global None = false
writes_global (Some w) = w.global

-- what is skipped in a live batch: what accesses the global space, the user interrupt, and what reads a
-- register that isn't general
abbrev pub is_skipped : ℕ → Kind → Bool
is_skipped engine UserInterrupt = true
is_skipped engine (SemaphoreWait global compare operand at) = global
is_skipped engine (Store global at low high) = global
is_skipped engine (StoreRegister global register at) = global || is_none (general_of engine register)
is_skipped engine (LoadRegister global register at) = global
is_skipped engine (MoveRegister from to) = is_none (general_of engine from)
is_skipped engine (CopyMemory from_global from to_global to) = from_global || to_global
is_skipped engine (Flush write) = writes_global write
is_skipped engine (PipeControl notify write) = writes_global write
is_skipped engine kind = false

-- a wait changes nothing but what its load leaves, whether it goes on or not
abbrev pub waited : {S : Type 0} → Bool → S → Effect S
waited holds s = if holds then ran s 0 else waits s

-- what a command does that isn't skipped; ws are its dwords
abbrev pub performed : {S : Type 0} → Operations S → List ℕ → ℕ → S → Kind → Effect S
performed ops ws engine s UserInterrupt = ran s 0x1
performed ops ws engine s (SemaphoreWait global compare operand at) = waited (compares compare (ops.load_gives s global at) operand) (ops.load_leaves s global at)
performed ops ws engine s (Store global at low high) = ran (dwords_stored ops s global at low high) 0
performed ops ws engine s (LoadRegisters pairs) = ran (engine_registers_set ops engine s (drop 1 ws)) 0
performed ops ws engine s (StoreRegister global register at) = ran (ops.stored s global at (engine_register_read ops engine s register)) 0
performed ops ws engine s (LoadRegister global register at) = ran (general_loaded_by ops s (general_of engine register) global at) 0
performed ops ws engine s (MoveRegister from to) = ran (engine_register_set ops engine s to (engine_register_read ops engine s from)) 0
performed ops ws engine s (CopyMemory from_global from to_global to) = ran (ops.stored (ops.load_leaves s from_global from) to_global to (ops.load_gives s from_global from)) 0
performed ops ws engine s (Flush write) = ran (post_written ops s write) 0
performed ops ws engine s (PipeControl notify write) = ran (post_written ops s write) (if notify then 0x10 else 0)
performed ops ws engine s (ColourBlit b) = ran (rows_filled ops s b (rows b)) 0
performed ops ws engine s (CopyBlit b) = ran (rows_copied ops s (rows b)) 0
performed ops ws engine s kind = ran s 0

abbrev pub effect_of : {S : Type 0} → Operations S → List ℕ → ℕ → Bool → S → Option Kind → Effect S
effect_of ops ws engine privileged s None = ran s 0
effect_of ops ws engine privileged s (Some kind) = if not privileged && is_skipped engine kind then ran s 0 else performed ops ws engine s kind

-- The effect of a command, given by its dwords, on an engine. It is privileged in the ring and in
-- fetched batches, and not in live ones.
abbrev pub effect : {S : Type 0} → Operations S → List ℕ → ℕ → Bool → S → Effect S
effect ops ws engine privileged s = effect_of ops ws engine privileged s (kind_of ws)
