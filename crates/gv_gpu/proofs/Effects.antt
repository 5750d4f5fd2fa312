-- A command changes no more of the device than words of pages and general registers.
use Rattle.std.proofs.Common.{◌≡◌, ℕ, suc, zero, ◌+◌, Bool, false, List, [], ◌∷◌, Option, None, Some, refl, ap, ◌∙◌}
use Rattle.gv_cmd.specs.Effect.{effect}
use Rattle.gv_cmd.specs.Table.{kind_of}
use Rattle.gv_cmd.specs.Simulation.{Access, EachAccess, MayDo, Simulates}
use Rattle.gv_cmd.specs.declared.kind.Kind.{Kind}
use Rattle.gv_cmd.proofs.Simulation.{effects_agree}
use Rattle.gv_gpu.specs.Device.{Device}
use Rattle.gv_gpu.specs.Physical.{word_stored, operand_stored, byte_stored}
use Rattle.gv_gpu.specs.Step.{Stepping, bytes_stored, operations}

-- the device without the words of its pages and the general registers
abbrev pub rest : Device → Device
rest d = record d { words = λ _. []; general = λ _ _. 0 }

-- what of a step's state stays
pub record Stays (s t : Stepping) : Type 0 where
  pub rest : rest t.device ≡ rest s.device
  pub engine : t.engine ≡ s.engine
  pub context : t.context ≡ s.context

word_stored-rest : (d : Device) (page : Option ℕ) (at word : ℕ) → rest (word_stored d page at word) ≡ rest d
word_stored-rest d None at word = refl
word_stored-rest d (Some page) at word = refl

operand_stored-rest : (d : Device) (root : ℕ) (global : Bool) (at value : ℕ) → rest (operand_stored d root global at value) ≡ rest d
unfolding operand_stored
operand_stored-rest d root global at value = word_stored-rest d _ at _

byte_stored-rest : (d : Device) (root : ℕ) (global : Bool) (at value : ℕ) → rest (byte_stored d root global at value) ≡ rest d
unfolding byte_stored
byte_stored-rest d root global at value = word_stored-rest d _ at _

bytes_stored-stays : (s : Stepping) (at : ℕ) (bytes : ℕ → ℕ) (n : ℕ) → Stays s (bytes_stored s at bytes n)
unfolding bytes_stored
bytes_stored-stays s at bytes zero = record { rest = refl; engine = refl; context = refl }
bytes_stored-stays s at bytes (suc n) =
    let before = bytes_stored-stays s at bytes n in
    let t = bytes_stored s at bytes n in
    record { rest = byte_stored-rest t.device t.context.root false (at + n) (bytes n) ∙ before.rest; engine = before.engine; context = before.context }

May : Access → Type 0
May a = Unit {0}

unfolding_may : (a : Access) → May a
unfolding May
unfolding_may a = tt

each_may : (xs : List Access) → EachAccess May xs
each_may [] = tt
each_may (a ∷ xs) = (unfolding_may a, each_may xs)

may_do : (engine : ℕ) (privileged : Bool) (kind : Option Kind) → MayDo May engine privileged kind
may_do engine privileged None = tt
may_do engine privileged (Some kind) = each_may _

module _ (start : Stepping) where
  pub record Same (x y : Stepping) : Type 0 where
    pub equal : x ≡ y
    pub stays : Stays start x

  then_stays : (x y : Stepping) → Stays start x → Stays x y → Stays start y
  then_stays x y a b = record { rest = b.rest ∙ a.rest; engine = b.engine ∙ a.engine; context = b.context ∙ a.context }

  simulates : Simulates operations operations Same May
  simulates = record {
    load_gives = λ x y global at same may. ap (λ s. operations.load_gives s global at) same.equal;
    load_leaves = λ x y global at same may. record { equal = ap (λ s. operations.load_leaves s global at) same.equal; stays = record { rest = same.stays.rest; engine = same.stays.engine; context = same.stays.context } };
    stored = λ x y global at value same may. record { equal = ap (λ s. operations.stored s global at value) same.equal; stays = record { rest = operand_stored-rest x.device x.context.root global at value ∙ same.stays.rest; engine = same.stays.engine; context = same.stays.context } };
    row_copied = λ x y to from bytes same. record { equal = ap (λ s. operations.row_copied s to from bytes) same.equal; stays = then_stays x _ same.stays (let t = bytes_stored-stays _ _ _ bytes in record { rest = t.rest; engine = t.engine; context = t.context }) };
    row_filled = λ x y to bytes colour depth same. record { equal = ap (λ s. operations.row_filled s to bytes colour depth) same.equal; stays = then_stays x _ same.stays (bytes_stored-stays x _ _ bytes) };
    general_gives = λ x y n small same. ap (λ s. operations.general_gives s n) same.equal;
    general_set = λ x y n value small same. record { equal = ap (λ s. operations.general_set s n value) same.equal; stays = record { rest = same.stays.rest; engine = same.stays.engine; context = same.stays.context } };
  }

-- what a command leaves
pub effect-stays : (ws : List ℕ) (engine : ℕ) (privileged : Bool) (s : Stepping) → Stays s (effect operations ws engine privileged s).after
effect-stays ws engine privileged s =
    (effects_agree operations operations (Same s) May (simulates s) ws engine privileged s s
    (record { equal = refl; stays = record { rest = refl; engine = refl; context = refl } })
    (may_do engine privileged (kind_of ws))).after.stays
