-- The roots of per-process tables: their creation and destruction, by the notify register of the PVINFO page or by
-- the load of an element, and the check of the tables after a write.
use Rattle.std.specs.Prelude.{ℕ, ◌+◌, ◌*◌, ◌/◌, ◌%◌, ◌^◌, List, [], ◌∷◌, Bool, false, not, ◌==◌, nat_lt, Option, None, Some, Result, Ok, Err, filter, length, if◌then◌else◌}
use Rattle.std.specs.List.{list_any}
use Rattle.gv_types.specs.declared.reply.Reason.{Reason}
use Rattle.gv_types.specs.declared.reply.Reason.TheVariants.{Entry}
use Rattle.gv_entry.specs.Tables.{has_bad_entry}
use Rattle.gv_fetch.specs.Fetch.{check}
use Rattle.gv_private.specs.Device.{PrivateDevice, Working, Written, quietly, fails}

-- a set of frames with another one, in rising order
abbrev pub with_root : List ℕ → ℕ → List ℕ
with_root [] root = root ∷ []
with_root (first ∷ more) root =
    if root == first then first ∷ more
    else (if nat_lt root first then root ∷ first ∷ more else first ∷ with_root more root)

abbrev pub without_root : List ℕ → ℕ → List ℕ
without_root roots root = filter (λ other. not (other == root)) roots

-- ---- creation

-- A root is announced: it is created where it isn't there. A frame that isn't in memory is refused, and so is a
-- root by which a live table has a bad entry.
abbrev pub announced : PrivateDevice → ℕ → Result PrivateDevice Reason
announced p root =
    check (nat_lt root (length p.memory)) Entry (
    check (not (has_bad_entry p.memory (with_root p.roots root))) Entry (
    Ok (record p { roots = with_root p.roots root })))

abbrev pub left_or_failed : PrivateDevice → Result PrivateDevice Reason → Written
left_or_failed p (Ok q) = quietly q
left_or_failed p (Err reason) = fails p reason

abbrev pub root_created : PrivateDevice → ℕ → Written
root_created p root = left_or_failed p (announced p root)

-- ---- destruction

abbrev pub works_over : ℕ → Option Working → Bool
works_over root None = false
works_over root (Some w) = w.root == root

abbrev pub engine_numbers : List ℕ
engine_numbers = 0 ∷ 1 ∷ 2 ∷ 3 ∷ []

-- it is the root of an element at work
abbrev pub is_at_work : PrivateDevice → ℕ → Bool
is_at_work p root = list_any (λ engine. works_over root (p.engines engine).element) engine_numbers

-- Nothing is done where there is no such root, or where it is that of an element at work.
abbrev pub root_destroyed : PrivateDevice → ℕ → PrivateDevice
root_destroyed p root = if is_at_work p root then p else record p { roots = without_root p.roots root }

-- ---- the notify register

-- the root that PDP0 names: bits 47..12 of its two dwords
abbrev pub named_root : PrivateDevice → ℕ
named_root p = p.registers 0x7883C % 2 ^ 16 * 2 ^ 20 + p.registers 0x78838 / 2 ^ 12

-- 4 creates that root, 5 destroys it, and any other value does nothing.
abbrev pub notify_written : PrivateDevice → ℕ → Written
notify_written p value =
    if value == 4 then root_created p (named_root p)
    else (if value == 5 then quietly (root_destroyed p (named_root p)) else quietly p)

-- ---- writes to tables

-- A guest that leaves a bad entry in a live table fails.
abbrev pub unless_bad : PrivateDevice → Written
unless_bad p = if has_bad_entry p.memory p.roots then fails p Entry else quietly p
