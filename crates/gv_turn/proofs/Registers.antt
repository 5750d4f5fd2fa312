-- A command writes none but the sixteen general registers.
use Rattle.std.proofs.Common.{◌≡◌, ◌≢◌, ℕ, zero, suc, ◌+◌, ◌/◌, ◌%◌, ◌^◌, ◌<◌, ◌≤◌, Bool, true, false, List, [], ◌∷◌, Option, Some, None, cond, refl, sym, ap, ◌∙◌, eqb, arith}
use Rattle.std.proofs.lemmas.Bool.{ne_eqb, eqb-true}
use Rattle.gv_types.specs.Maps.{put}
use Rattle.gv_cmd.specs.Effect.{effect}
use Rattle.gv_cmd.specs.Simulation.{Access, EachAccess, MayDo, Simulates}
use Rattle.gv_cmd.specs.Table.{kind_of}
use Rattle.gv_cmd.specs.declared.kind.Kind.{Kind}
use Rattle.gv_cmd.proofs.Simulation.{effects_agree}
use Rattle.gv_gpu.specs.Device.{Device, with_engine_general}
use Rattle.gv_gpu.specs.Physical.{word_stored, operand_stored, byte_stored}
use Rattle.gv_gpu.specs.Step.{Stepping, bytes_stored, operations}

abbrev Any : Access → Type 0
Any a = Unit {0}

each_any : (xs : List Access) → EachAccess Any xs
each_any [] = tt
each_any (a ∷ xs) = (tt, each_any xs)

any_do : (engine : ℕ) (privileged : Bool) (kind : Option Kind) → MayDo Any engine privileged kind
any_do engine privileged None = tt
any_do engine privileged (Some kind) = each_any _

-- a store leaves all registers
word-general : (d : Device) (page : Option ℕ) (at word : ℕ) → (word_stored d page at word).general ≡ d.general
word-general d None at word = refl
word-general d (Some page) at word = refl

operand-general : (d : Device) (root : ℕ) (global : Bool) (at value : ℕ) → (operand_stored d root global at value).general ≡ d.general
unfolding operand_stored
operand-general d root global at value = word-general d _ at _

byte-general : (d : Device) (root : ℕ) (global : Bool) (at value : ℕ) → (byte_stored d root global at value).general ≡ d.general
unfolding byte_stored
byte-general d root global at value = word-general d _ at _

bytes-general : (s : Stepping) (at : ℕ) (bytes : ℕ → ℕ) (n : ℕ) → (bytes_stored s at bytes n).device.general ≡ s.device.general
unfolding bytes_stored
bytes-general s at bytes zero = refl
bytes-general s at bytes (suc n) =
    let t = bytes_stored s at bytes n in
    byte-general t.device t.context.root false (at + n) (bytes n) ∙ bytes-general s at bytes n

-- registers from the sixteenth on are as in the first device
abbrev Above : Device → Device → Type 0
Above d e = (k n : ℕ) → 16 ≤ n → e.general k n ≡ d.general k n

above-same : (d x y : Device) → y.general ≡ x.general → Above d x → Above d y
above-same d x y same above k n big = ap (λ (f : ℕ → ℕ → ℕ). f k n) same ∙ above k n big

above-set : (d x : Device) (engine n value : ℕ) → n < 16 → Above d x → Above d (with_engine_general x engine n value)
above-set d x engine n value small above k m big = by_engine (eqb k engine) refl ∙ above k m big
  where
    other : m ≢ n
    other is = omega arith

    set-other : put (x.general engine) n value m ≡ x.general engine m
    set-other = ap (λ b. cond b value (x.general engine m)) (ne_eqb m n other)

    by_engine : (b : Bool) → eqb k engine ≡ b → (let f : ℕ → ℕ = cond b (put (x.general engine) n value) (x.general k) in f m ≡ x.general k m)
    by_engine true is = set-other ∙ ap (λ e. x.general e m) (sym (eqb-true k engine is))
    by_engine false is = refl

module _ (start : Device) where
  pub record Same (x y : Stepping) : Type 0 where
    pub equal : x ≡ y
    pub above : Above start x.device

  simulates : Simulates operations operations Same Any
  simulates = record {
    load_gives = λ x y global at same may. ap (λ s. operations.load_gives s global at) same.equal;
    load_leaves = λ x y global at same may. record { equal = ap (λ s. operations.load_leaves s global at) same.equal; above = same.above };
    stored = λ x y global at value same may. record {
      equal = ap (λ s. operations.stored s global at value) same.equal;
      above = above-same start x.device (operand_stored x.device x.context.root global at value) (operand-general x.device x.context.root global at value) same.above;
    };
    row_copied = λ x y to from n same. record {
      equal = ap (λ s. operations.row_copied s to from n) same.equal;
      above = above-same start x.device (operations.row_copied x to from n).device (bytes-general _ (to % 2 ^ 48) _ n) same.above;
    };
    row_filled = λ x y to n colour depth same. record {
      equal = ap (λ s. operations.row_filled s to n colour depth) same.equal;
      above = above-same start x.device (operations.row_filled x to n colour depth).device (bytes-general x (to % 2 ^ 48) _ n) same.above;
    };
    general_gives = λ x y n small same. ap (λ s. operations.general_gives s n) same.equal;
    general_set = λ x y n value small same. record { equal = ap (λ s. operations.general_set s n value) same.equal; above = let low : n / 2 < 16 = omega arith in above-set start x.device x.engine (n / 2) _ low same.above };
  }

-- what a command leaves of them
pub effect-above : (ws : List ℕ) (engine : ℕ) (privileged : Bool) (s : Stepping) (k n : ℕ) → 16 ≤ n → (effect operations ws engine privileged s).after.device.general k n ≡ s.device.general k n
effect-above ws engine privileged s k n big =
    let done = (effects_agree operations operations (Same s.device) Any (simulates s.device) ws engine privileged s s (record { equal = refl; above = λ k n big. refl }) (any_do engine privileged (kind_of ws))).after in
    done.above k n big
