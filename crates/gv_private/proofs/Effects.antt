-- A command changes no more of its space than memory and general registers, and of memory no live table.
use Rattle.std.proofs.Common.{◌≡◌, ℕ, suc, zero, ◌+◌, Bool, true, false, List, [], ◌∷◌, Option, None, Some, refl, ap, subst}
use Rattle.gv_types.specs.Bits.{with_byte}
use Rattle.gv_types.specs.Memory.{Memory}
use Rattle.gv_types.specs.declared.event.Width.TheVariants.{Four, Eight}
use Rattle.gv_cmd.specs.Effect.{effect}
use Rattle.gv_cmd.specs.Table.{kind_of}
use Rattle.gv_cmd.specs.Simulation.{Access, EachAccess, MayDo, Simulates}
use Rattle.gv_cmd.specs.declared.kind.Kind.{Kind}
use Rattle.gv_cmd.proofs.Simulation.{effects_agree}
use Rattle.gv_entry.specs.SameTables.{SameTables}
use Rattle.gv_entry.proofs.SameTables.{same_tables_chain}
use Rattle.gv_private.specs.Grants.{frame_read, frame_written}
use Rattle.gv_private.specs.Space.{PrivateSpace, writes, operand_written, byte_written, word_at, bytes_written, private_operations}
use Rattle.gv_private.proofs.Granted.{IsFree, page-free, write-free, tables-same, frame_written-tables}

-- what a space can become
pub record Reached (start s : PrivateSpace) : Type 0 where
  pub rest : s ≡ record start { memory = s.memory; general = s.general }
  pub tables : SameTables start.memory s.memory start.roots

reached-first : (s : PrivateSpace) → Reached s s
reached-first s = record { rest = refl; tables = tables-same s.memory s.roots }

reached-memory : (start s : PrivateSpace) (m : Memory) → SameTables s.memory m s.roots → Reached start s → Reached start (record s { memory = m })
reached-memory start s m same before = record {
  rest = ap (λ (t : PrivateSpace). record t { memory = m }) before.rest;
  tables = same_tables_chain start.memory s.memory m start.roots before.tables (subst (λ roots. SameTables s.memory m roots) (ap (λ (t : PrivateSpace). t.roots) before.rest) same);
}

reached-general : (start s : PrivateSpace) (general : ℕ → ℕ) → Reached start s → Reached start (record s { general = general })
reached-general start s general before = record { rest = ap (λ (t : PrivateSpace). record t { general = general }) before.rest; tables = before.tables }

pub writes-free : (s : PrivateSpace) (global : Bool) (at : ℕ) → IsFree s.memory s.roots (writes s global at)
writes-free s true at = page-free s.ranges s.entries s.memory s.roots _
writes-free s false at = write-free s.memory s.roots s.root at

dword-reached : (start s : PrivateSpace) (global : Bool) (at value : ℕ) → Reached start s → Reached start (operand_written s global at value)
dword-reached start s global at value before =
    reached-memory start s (frame_written s.memory Four at value (writes s global at)) (frame_written-tables s.memory s.roots Four at value (writes s global at) (writes-free s global at)) before

byte-reached : (start s : PrivateSpace) (at value : ℕ) → Reached start s → Reached start (byte_written s at value)
byte-reached start s at value before =
    let word = with_byte (frame_read s.memory Eight (word_at at) (writes s false at)) at value in
    reached-memory start s (frame_written s.memory Eight (word_at at) word (writes s false at)) (frame_written-tables s.memory s.roots Eight (word_at at) word (writes s false at) (writes-free s false at)) before

bytes-reached : (start s : PrivateSpace) (at : ℕ) (bytes : ℕ → ℕ) (n : ℕ) → Reached start s → Reached start (bytes_written s at bytes n)
unfolding bytes_written
bytes-reached start s at bytes zero before = before
bytes-reached start s at bytes (suc n) before = byte-reached start (bytes_written s at bytes n) (at + n) (bytes n) (bytes-reached start s at bytes n before)

-- every access may be made
pub May : Access → Type 0
May a = Unit {0}

any_may : (a : Access) → May a
unfolding May
any_may a = tt

each_may : (xs : List Access) → EachAccess May xs
each_may [] = tt
each_may (a ∷ xs) = (any_may a, each_may xs)

pub may_do : (engine : ℕ) (privileged : Bool) (kind : Option Kind) → MayDo May engine privileged kind
may_do engine privileged None = tt
may_do engine privileged (Some kind) = each_may _

module _ (start : PrivateSpace) where
  pub record Same (x y : PrivateSpace) : Type 0 where
    pub equal : x ≡ y
    pub reached : Reached start x

  simulates : Simulates private_operations private_operations Same May
  simulates = record {
    load_gives = λ x y global at same may. ap (λ s. private_operations.load_gives s global at) same.equal;
    load_leaves = λ x y global at same may. same;
    stored = λ x y global at value same may. record { equal = ap (λ s. private_operations.stored s global at value) same.equal; reached = dword-reached start x global at value same.reached };
    row_copied = λ x y to from bytes same. record { equal = ap (λ s. private_operations.row_copied s to from bytes) same.equal; reached = bytes-reached start x _ _ bytes same.reached };
    row_filled = λ x y to bytes colour depth same. record { equal = ap (λ s. private_operations.row_filled s to bytes colour depth) same.equal; reached = bytes-reached start x _ _ bytes same.reached };
    general_gives = λ x y n small same. ap (λ s. private_operations.general_gives s n) same.equal;
    general_set = λ x y n value small same. record { equal = ap (λ s. private_operations.general_set s n value) same.equal; reached = reached-general start x _ same.reached };
  }

-- what a command leaves of its space
pub effect-reached : (ws : List ℕ) (engine : ℕ) (privileged : Bool) (s : PrivateSpace) → Reached s (effect private_operations ws engine privileged s).after
effect-reached ws engine privileged s =
    (effects_agree private_operations private_operations (Same s) May (simulates s) ws engine privileged s s
    (record { equal = refl; reached = reached-first s })
    (may_do engine privileged (kind_of ws))).after.reached
