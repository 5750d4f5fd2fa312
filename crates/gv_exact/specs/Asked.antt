-- Which bytes and dwords a command asks for, whoever runs it: by the command table alone, without any memory.
use Rattle.std.specs.Prelude.{ℕ, suc, zero, ◌+◌, ◌*◌, ◌%◌, ◌^◌, ◌&&◌, not, Bool, true, false, List, [], ◌∷◌, ◌++◌, if◌then◌else◌, Option, None, Some}
use Rattle.std.specs.List.{flat_map}
use Rattle.gv_cmd.specs.Effect.{general_of, is_skipped}
use Rattle.gv_cmd.specs.Rows.{rows}
use Rattle.gv_cmd.specs.Table.{kind_of}
use Rattle.gv_cmd.specs.declared.blit.RowPair.{RowPair}
use Rattle.gv_cmd.specs.declared.kind.PostWrite.{PostWrite}
use Rattle.gv_cmd.specs.declared.kind.Kind.{Kind}
use Rattle.gv_cmd.specs.declared.kind.Kind.TheVariants.{SemaphoreWait, Store, StoreRegister, LoadRegister, CopyMemory, Flush, PipeControl, ColourBlit, CopyBlit}
use Rattle.gv_exact.specs.Touched.{Touch, byte_touched, dword_touched}

-- an access that is asked for, of a dword or of a byte
pub record Ask : Type 0 where
  pub write : Bool
  pub global : Bool
  pub dword : Bool
  pub at : ℕ

abbrev pub read_dword : Bool → ℕ → Ask
read_dword global at = record { write = false; global = global; dword = true; at = at }

abbrev pub write_dword : Bool → ℕ → Ask
write_dword global at = record { write = true; global = global; dword = true; at = at }

abbrev pub local_byte : Bool → ℕ → Ask
local_byte write at = record { write = write; global = false; dword = false; at = at }

-- one dword, or two
abbrev pub dwords_asked : Bool → ℕ → Option ℕ → List Ask
dwords_asked global at None = write_dword global at ∷ []
dwords_asked global at (Some high) = write_dword global at ∷ write_dword global (at + 4) ∷ []

abbrev pub post_asked : Option PostWrite → List Ask
post_asked None = []
post_asked (Some w) = dwords_asked w.global w.at w.high

-- for a register that isn't general nothing is loaded
abbrev pub load_asked : Option ℕ → Bool → ℕ → List Ask
load_asked None global at = []
load_asked (Some n) global at = read_dword global at ∷ []

-- the bytes of a row, in order
unfoldable pub bytes_asked : Bool → ℕ → ℕ → List Ask
bytes_asked write at zero = []
bytes_asked write at (suc n) = bytes_asked write at n ++ local_byte write (at + n) ∷ []

abbrev pub fill_asked : RowPair → List Ask
fill_asked r = bytes_asked true (r.to % 2 ^ 48) r.bytes

abbrev pub copy_asked : RowPair → List Ask
copy_asked r = bytes_asked false (r.from % 2 ^ 48) r.bytes ++ bytes_asked true (r.to % 2 ^ 48) r.bytes

abbrev pub operands_asked : ℕ → Kind → List Ask
operands_asked engine (SemaphoreWait global compare operand at) = read_dword global at ∷ []
operands_asked engine (Store global at low high) = dwords_asked global at high
operands_asked engine (StoreRegister global register at) = write_dword global at ∷ []
operands_asked engine (LoadRegister global register at) = load_asked (general_of engine register) global at
operands_asked engine (CopyMemory from_global from to_global to) = read_dword from_global from ∷ write_dword to_global to ∷ []
operands_asked engine (Flush write) = post_asked write
operands_asked engine (PipeControl notify write) = post_asked write
operands_asked engine (ColourBlit b) = flat_map fill_asked (rows b)
operands_asked engine (CopyBlit b) = flat_map copy_asked (rows b)
operands_asked engine kind = []

abbrev pub asked_by : ℕ → Bool → Option Kind → List Ask
asked_by engine privileged None = []
asked_by engine privileged (Some kind) = if not privileged && is_skipped engine kind then [] else operands_asked engine kind

-- what a command asks for on an engine; where it is skipped, nothing
abbrev pub command_asked : List ℕ → ℕ → Bool → List Ask
command_asked ws engine privileged = asked_by engine privileged (kind_of ws)

-- so many dwords of live code from an address
unfoldable pub codes_asked : ℕ → ℕ → List Ask
codes_asked at zero = []
codes_asked at (suc n) = codes_asked at n ++ read_dword false (at + 4 * n) ∷ []

-- ---- what is given

-- the page, or frame, that an ask gets by these grants for reading and for writing
abbrev pub grant_of : (Bool → ℕ → Option ℕ) → (Bool → ℕ → Option ℕ) → Ask → Option ℕ
grant_of reads writes a = if a.write then writes a.global a.at else reads a.global a.at

-- the bytes that it touches
abbrev pub given_one : (Bool → ℕ → Option ℕ) → (Bool → ℕ → Option ℕ) → Ask → List Touch
given_one reads writes a =
    if a.dword then dword_touched a.write (grant_of reads writes a) a.at
    else byte_touched a.write (grant_of reads writes a) a.at

abbrev pub given : (Bool → ℕ → Option ℕ) → (Bool → ℕ → Option ℕ) → List Ask → List Touch
given reads writes asks = flat_map (given_one reads writes) asks
