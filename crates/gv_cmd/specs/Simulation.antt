-- Two spaces that agree in their operations agree in every command.
use Rattle.std.specs.Prelude.{ℕ, ◌≡◌, ◌+◌, ◌%◌, ◌<◌, ◌&&◌, not, Bool, false, List, [], ◌∷◌, Option, None, Some, if◌then◌else◌}
use Rattle.gv_cmd.specs.Table.{kind_of}
use Rattle.gv_cmd.specs.Effect.{Operations, Effect, is_skipped, effect}
use Rattle.gv_cmd.specs.declared.kind.PostWrite.{PostWrite}
use Rattle.gv_cmd.specs.declared.kind.Kind.{Kind}
use Rattle.gv_cmd.specs.declared.kind.Kind.TheVariants.{SemaphoreWait, Store, StoreRegister, LoadRegister, CopyMemory, Flush, PipeControl}

-- one dword that a command loads or stores
pub record Access : Type 0 where
  pub global : Bool
  pub at : ℕ

abbrev pub access : Bool → ℕ → Access
access global at = record { global = global; at = at }

abbrev pub dwords_at : Bool → ℕ → Option ℕ → List Access
dwords_at global at None = access global at ∷ []
dwords_at global at (Some high) = access global at ∷ access global (at + 4) ∷ []

abbrev pub post_accesses : Option PostWrite → List Access
post_accesses None = []
post_accesses (Some w) = dwords_at w.global w.at w.high

-- The dwords that a command's form loads or stores, whether or not its register is general. The bytes
-- of blits aren't among them: they are always in the per-process space.
abbrev pub accesses : Kind → List Access
accesses (SemaphoreWait global compare operand at) = access global at ∷ []
accesses (Store global at low high) = dwords_at global at high
accesses (StoreRegister global register at) = access global at ∷ []
accesses (LoadRegister global register at) = access global at ∷ []
accesses (CopyMemory from_global from to_global to) = access from_global from ∷ access to_global to ∷ []
accesses (Flush write) = post_accesses write
accesses (PipeControl notify write) = post_accesses write
accesses kind = []

abbrev pub EachAccess : (Access → Type 0) → List Access → Type 0
EachAccess May [] = Unit {0}
EachAccess May (a ∷ more) = May a × EachAccess May more

-- each access that a command makes, where it isn't skipped
abbrev pub MayDo : (Access → Type 0) → ℕ → Bool → Option Kind → Type 0
MayDo May engine privileged None = Unit {0}
MayDo May engine privileged (Some kind) = EachAccess May (if not privileged && is_skipped engine kind then [] else accesses kind)

-- Spaces a and b agree in their six operations on states that are the same, at the accesses that may
-- be made: what they answer is equal, and what they leave is the same again.
pub record Simulates {A B : Type 0} (a : Operations A) (b : Operations B) (Same : A → B → Type 0) (May : Access → Type 0) : Type 0 where
  pub load_gives : (x : A) (y : B) (global : Bool) (at : ℕ) → Same x y → May (access global at) → a.load_gives x global at ≡ b.load_gives y global at
  pub load_leaves : (x : A) (y : B) (global : Bool) (at : ℕ) → Same x y → May (access global at) → Same (a.load_leaves x global at) (b.load_leaves y global at)
  pub stored : (x : A) (y : B) (global : Bool) (at value : ℕ) → Same x y → May (access global at) → Same (a.stored x global at value) (b.stored y global at value)
  pub row_copied : (x : A) (y : B) (to from bytes : ℕ) → Same x y → Same (a.row_copied x to from bytes) (b.row_copied y to from bytes)
  pub row_filled : (x : A) (y : B) (to bytes colour depth : ℕ) → Same x y → Same (a.row_filled x to bytes colour depth) (b.row_filled y to bytes colour depth)
  pub general_gives : (x : A) (y : B) (n : ℕ) → n < 32 → Same x y → a.general_gives x n ≡ b.general_gives y n
  pub general_set : (x : A) (y : B) (n value : ℕ) → n < 32 → Same x y → Same (a.general_set x n value) (b.general_set y n value)

pub record SameEffect {A B : Type 0} (Same : A → B → Type 0) (p : Effect A) (q : Effect B) : Type 0 where
  pub after : Same p.after q.after
  pub raise : p.raise ≡ q.raise

-- the law: every command has the same effect
abbrev pub EffectsAgree : {A B : Type 0} → Operations A → Operations B → (A → B → Type 0) → (Access → Type 0) → Type 0
EffectsAgree {A} {B} a b Same May =
    (ws : List ℕ) (engine : ℕ) (privileged : Bool) (x : A) (y : B) → Same x y → MayDo May engine privileged (kind_of ws)
    → SameEffect Same (effect a ws engine privileged x) (effect b ws engine privileged y)

-- an access of the per-process space
abbrev pub IsLocal : Access → Type 0
IsLocal a = a.global ≡ false

-- an access at a multiple of 4
abbrev pub IsAligned : Access → Type 0
IsAligned a = a.at % 4 ≡ 0

-- no command of a live batch accesses the global space
abbrev pub LiveIsLocal : Type 0
LiveIsLocal = (ws : List ℕ) (engine : ℕ) → MayDo IsLocal engine false (kind_of ws)

-- every access of a command is at a multiple of 4
abbrev pub AccessesAreAligned : Type 0
AccessesAreAligned = (ws : List ℕ) (engine : ℕ) (privileged : Bool) → MayDo IsAligned engine privileged (kind_of ws)
