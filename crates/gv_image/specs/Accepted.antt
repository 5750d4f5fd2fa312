-- The private devices whose images are accepted.
use Rattle.std.specs.Prelude.{ℕ, ◌%◌, ◌^◌, ◌<◌, ◌≤◌, ◌≡◌, ◌≢◌, true, false, ⊤, List, [], length, Option, Some, IfSome}
use Rattle.std.specs.List.Sorted.{IsStrictlyIncreasing}
use Rattle.std.specs.List.{AllByRecursion}
use Rattle.gv_csb.specs.Slots.{IsWellFormed}
use Rattle.gv_entry.specs.Global.{pages_of}
use Rattle.gv_entry.specs.Ranges.{InParts}
use Rattle.gv_entry.specs.SameTables.{has}
use Rattle.gv_entry.specs.Tables.{has_bad_entry}
use Rattle.gv_fetch.specs.Flat.{flat, IsBounded}
use Rattle.gv_fetch.specs.Left.{Left, Level, Fetched, IsLeft}
use Rattle.gv_fetch.specs.Owned.{OwnsLeft}
use Rattle.gv_irq.specs.Irq.{AllDwords}
use Rattle.gv_private.specs.Device.{Engine, PrivateDevice, Working, reset_engine}
use Rattle.gv_private.specs.Laws.{IsFailed}
use Rattle.gv_regs.specs.Registers.{keeps}
use Rattle.gv_regs.specs.Table.{kind_at}
use Rattle.gv_regs.specs.declared.table.Kind.{Kind}
use Rattle.gv_regs.specs.declared.table.Kind.TheVariants.{Masked}
use Rattle.gv_types.specs.declared.ranges.Ranges.{Ranges}

abbrev pub AreDwords : List ℕ → Type 0
AreDwords ns = AllByRecursion (λ n. n < 2 ^ 32) ns

abbrev pub AreQuadwords : List ℕ → Type 0
AreQuadwords ns = AllByRecursion (λ n. n < 2 ^ 64) ns

-- ---- what is left of an element

abbrev pub LevelIsDwords : Option Level → Type 0
LevelIsDwords (Some (Fetched items)) = AreDwords (flat items)
LevelIsDwords level = ⊤

-- Each command fits a row, may stand where it stands, and has its global operands on owned pages; ring and batches are within the
-- bounds of a load; levels nest, and a live address is a multiple of 4 below 2^48.
pub record LeftIsAccepted (ranges : Ranges) (engine : ℕ) (w : Left) : Type 0 where
  pub form : IsLeft engine w
  pub bounded : IsBounded w
  pub owned : OwnsLeft ranges w
  pub ring : AreDwords (flat w.ring)
  pub first : LevelIsDwords w.first
  pub second : LevelIsDwords w.second

-- ---- an engine

-- An element at work is at the front of a running list, over a root; its tail is a multiple of 8 below 0x10000.
pub record ElementIsAccepted (p : PrivateDevice) (engine : ℕ) (w : Working) : Type 0 where
  pub list : (p.engines engine).slots.running ≢ []
  pub root : has p.roots w.root ≡ true
  pub tail : (w.tail % 8 ≡ 0) × (w.tail < 0x10000)
  pub left : LeftIsAccepted p.ranges engine w.left

-- Sixteen general registers of 64 bits; at most three dwords of a submission that is half made; a status ring whose write
-- pointer is 0 to 5 or 7, and whose read pointer is below 8; lists of at most two valid descriptors, a pending one behind a
-- running one alone.
pub record EngineIsAccepted (p : PrivateDevice) (engine : ℕ) (e : Engine) : Type 0 where
  pub general : (n : ℕ) → e.general n < 2 ^ 64
  pub sixteen : (n : ℕ) → 16 ≤ n → e.general n ≡ 0
  pub writes : length e.writes ≤ 3
  pub dwords : AreDwords e.writes
  pub slots : IsWellFormed e.slots
  pub pairs : AllByRecursion (λ pair. (pair.0 < 2 ^ 32) × (pair.1 < 2 ^ 32)) e.slots.pairs
  pub lists : AreQuadwords e.slots.running × AreQuadwords e.slots.pending
  pub element : IfSome e.element (ElementIsAccepted p engine)

-- ---- the device

-- a masked register has 16 bits, and any other that is kept 32
abbrev pub limit_of : Kind → ℕ
limit_of Masked = 2 ^ 16
limit_of kind = 2 ^ 32

-- Every number is within its width; ranges lie in their parts; roots are in memory, and no live table has a bad entry; and a
-- device in failsafe is as after a reset. Where no register, no engine and no general register is, there is nothing.
pub record IsAccepted (p : PrivateDevice) : Type 0 where
  pub number : p.number < 8
  pub some : 1 ≤ length p.memory
  pub frames : length p.memory ≤ 16384
  pub whole : AllByRecursion (λ words. (length words ≡ 512) × AreQuadwords words) p.memory
  pub ranges : InParts p.ranges
  pub entries : (length p.entries ≡ pages_of p.ranges) × AreQuadwords p.entries
  pub registers : (offset : ℕ) → keeps offset ≡ true → p.registers offset < limit_of (kind_at offset)
  pub elsewhere : (offset : ℕ) → keeps offset ≡ false → p.registers offset ≡ 0
  pub interrupts : AllDwords p.interrupts
  pub engines : (engine : ℕ) → engine < 4 → EngineIsAccepted p engine (p.engines engine)
  pub above : (engine : ℕ) → 4 ≤ engine → p.engines engine ≡ reset_engine
  pub roots : IsStrictlyIncreasing p.roots × AllByRecursion (λ root. root < length p.memory) p.roots
  pub tables : has_bad_entry p.memory p.roots ≡ false
  pub failsafe : p.failsafe ≡ true → IsFailed p
