-- A new device is accepted.
use Rattle.std.proofs.Common.{◌≡◌, ℕ, suc, zero, ◌^◌, ◌<◌, Bool, true, false, cond, length, replicate, refl, lit<, arith}
use Rattle.std.specs.List.{AllByRecursion}
use Rattle.std.proofs.lemmas.List.{length-replicate}
use Rattle.gv_csb.specs.Slots.{IsWellFormed, reset_execlists}
use Rattle.gv_entry.specs.Global.{pages_of}
use Rattle.gv_private.specs.Device.{new_device, reset_engine}
use Rattle.gv_private.proofs.Failsafe.{bad-none}
use Rattle.gv_regs.specs.Registers.{keeps, reset_registers}
use Rattle.gv_regs.specs.Table.{kind_at, reset_at}
use Rattle.gv_regs.specs.declared.table.Kind.{Kind}
use Rattle.gv_regs.specs.declared.table.Kind.TheVariants.{Masked}
use Rattle.gv_regs.proofs.Maps.{reset_at-zero}
use Rattle.gv_types.specs.Memory.{zero_memory, zero_words, length-zero_words}
use Rattle.gv_types.specs.declared.ranges.Ranges.{Ranges}
use Rattle.gv_image.specs.Accepted.{AreQuadwords, limit_of, EngineIsAccepted}
use Rattle.gv_image.specs.Laws.{FirstIsAccepted}

all-replicated : {A : Type 0} (P : A → Type 0) (n : ℕ) (x : A) → P x → AllByRecursion P (replicate n x)
all-replicated P zero x p = tt
all-replicated P (suc n) x p = (p, all-replicated P n x p)

zero-frame : AreQuadwords zero_words
unfolding zero_words
zero-frame = all-replicated (λ n. n < 2 ^ 64) 512 0 (lit< tt)

-- a register that is reset is below its limit
some-limit : (kind : Kind) → 0 < limit_of kind
some-limit Masked = lit< tt
some-limit kind = lit< tt

reset-by : (b : Bool) (value limit : ℕ) → 0 < limit → (b ≡ true → value ≡ 0) → cond b value 0 < limit
reset-by true value limit some is = let z = is refl in omega arith
reset-by false value limit some is = some

reset-below : (offset : ℕ) → reset_registers offset < limit_of (kind_at offset)
reset-below offset = reset-by (keeps offset) (reset_at offset) (limit_of (kind_at offset)) (some-limit (kind_at offset)) (λ kept. reset_at-zero offset kept)

none-kept : (b : Bool) (value : ℕ) → b ≡ false → cond b value 0 ≡ 0
none-kept b value is = rw is refl

reset-slots : IsWellFormed reset_execlists
reset-slots = record { running = omega arith; pending = omega arith; behind = λ e. refl; valid = (tt, tt); pairs = refl; write = (omega arith, λ e. cc); read = lit< tt }

module _ (number frames : ℕ) (ranges : Ranges) where
  engine-first : (engine : ℕ) → EngineIsAccepted (new_device number frames ranges) engine reset_engine
  engine-first engine = record {
    general = λ n. lit< tt;
    sixteen = λ n high. refl;
    writes = omega arith;
    dwords = tt;
    slots = reset-slots;
    pairs = ((lit< tt, lit< tt), ((lit< tt, lit< tt), ((lit< tt, lit< tt), ((lit< tt, lit< tt), ((lit< tt, lit< tt), ((lit< tt, lit< tt), tt))))));
    lists = (tt, tt);
    element = tt;
  }

pub first_is_accepted : FirstIsAccepted
first_is_accepted number frames ranges below some few parts =
    let long = length-replicate frames zero_words in
    record {
      number = below;
      some = omega arith;
      frames = omega arith;
      whole = all-replicated (λ words. (length words ≡ 512) × AreQuadwords words) frames zero_words (length-zero_words, zero-frame);
      ranges = parts;
      entries = (length-replicate (pages_of ranges) 0, all-replicated (λ n. n < 2 ^ 64) (pages_of ranges) 0 (lit< tt));
      registers = λ offset kept. reset-below offset;
      elsewhere = λ offset kept. none-kept (keeps offset) (reset_at offset) kept;
      interrupts = record { zero = record { imr = lit< tt; iir = lit< tt; ier = lit< tt }; one = record { imr = lit< tt; iir = lit< tt; ier = lit< tt }; three = record { imr = lit< tt; iir = lit< tt; ier = lit< tt } };
      engines = λ engine low. engine-first number frames ranges engine;
      above = λ engine high. refl;
      roots = (λ k h. absurd (omega arith), tt);
      tables = bad-none (zero_memory frames);
      failsafe = λ e. cc;
    }
