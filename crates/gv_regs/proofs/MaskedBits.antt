-- The bits of a masked register after a write.
use Rattle.std.proofs.Common.{◌≡◌, ℕ, zero, suc, ◌+◌, ◌-◌, ◌/◌, ◌%◌, ◌^◌, ◌<◌, ◌==◌, if◌then◌else◌, bit_and, min, max, ap, ◌∙◌, w16, arith}
use Rattle.std.specs.Int.{bit_at}
use Rattle.std.proofs.lemmas.Nat.{shr-shr}
use Rattle.std.proofs.lemmas.Nat.Bits.{bit_at_or, bit_at_and, bit_at_not, bit_at-lt}
use Rattle.gv_regs.specs.Registers.{masked, HasMaskedBits}

-- by the mask's bit
chosen : (mask old value : ℕ) → mask < 2 → old < 2 → value < 2 → max (min old (1 - mask)) (min value mask) ≡ (if mask == 1 then value else old)
chosen zero old value few small_old small_value = omega arith
chosen (suc zero) old value few small_old small_value = omega arith
chosen (suc (suc mask)) old value few small_old small_value = absurd (omega arith)

mask_bit : (value bit : ℕ) → bit_at (value / 2 ^ 16) bit ≡ bit_at value (bit + 16)
mask_bit value bit = ap (λ n. n % 2) (shr-shr value 16 bit ∙ ap (λ k. value / 2 ^ k) (omega arith))

pub masked_bits : (old value : ℕ) → value < 2 ^ 32 → HasMaskedBits old value (masked old value)
masked_bits old value small bit below =
    let mask : ℕ = value / 2 ^ 16 in
    bit_at_or (bit_and old (0xFFFF - mask)) (bit_and value mask) bit
    ∙ ap (λ b. max b (bit_at (bit_and value mask) bit)) (bit_at_and old (0xFFFF - mask) bit ∙ ap (min (bit_at old bit)) (bit_at_not w16 mask bit (omega arith) below))
    ∙ ap (max (min (bit_at old bit) (1 - bit_at mask bit))) (bit_at_and value mask bit)
    ∙ chosen (bit_at mask bit) (bit_at old bit) (bit_at value bit) (bit_at-lt mask bit) (bit_at-lt old bit) (bit_at-lt value bit)
    ∙ ap (λ b. if b == 1 then bit_at value bit else bit_at old bit) (mask_bit value bit)
