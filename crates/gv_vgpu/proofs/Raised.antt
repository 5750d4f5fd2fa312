-- Interrupts and status events, one after another.
use Rattle.std.proofs.Common.{◌≡◌, ℕ, ◌/◌, ◌%◌, ◌^◌, ◌==◌, Bool, true, false, List, [], ◌∷◌, Option, None, Some, if◌then◌else◌, refl, sym, ◌∙◌, arith}
use Rattle.std.specs.Option.{option_or}
use Rattle.gv_csb.specs.declared.status.Status.{Status}
use Rattle.gv_private.specs.Device.{PrivateDevice, Written, and_then, quietly}
use Rattle.gv_private.specs.Status.{bit_raised, bits_raised, command_raised, event_given, events_given}
use Rattle.gv_vgpu.specs.Turn.{raised_where}

-- an interrupt at the most, and no failure
abbrev pub made : PrivateDevice → Option ℕ → Written
made q irq = record { device = q; irq = irq; reason = None }

option-or-none : (i : Option ℕ) → option_or i None ≡ i
option-or-none None = refl
option-or-none (Some x) = refl

-- one after another, where the guest isn't in failsafe
pub then-made : (first : Written) (next : PrivateDevice → Written) (q r : PrivateDevice) (i j : Option ℕ) → first ≡ made q i → q.failsafe ≡ false → next q ≡ made r j → and_then first next ≡ made r (option_or i j)
then-made first next q r i j one awake two =
    (λ t. and_then (one t) next)
    ∙ (λ t. if awake t then made q i else record (next q) { irq = option_or i (next q).irq })
    ∙ (λ t. record (two t) { irq = option_or i (two t).irq })

-- ---- interrupt bits

module _ (p q r : PrivateDevice) (engine : ℕ) (i j : Option ℕ) where
  stays-awake : (asked : Bool) (n : ℕ) → p.failsafe ≡ false → raised_where asked p engine n ≡ made q i → q.failsafe ≡ false
  stays-awake true n awake one = sym (λ t. (one t).device.failsafe) ∙ awake
  stays-awake false n awake one = sym (λ t. (one t).device.failsafe) ∙ awake

  -- one bit, and nothing behind it
  alone : (n : ℕ) → q.failsafe ≡ false → bit_raised p engine n ≡ made q i → bits_raised p engine (n ∷ []) ≡ made q i
  alone n awake one = then-made (bit_raised p engine n) (λ x. bits_raised x engine []) q q i None one awake refl ∙ (λ t. made q (option_or-none t))
    where
      option_or-none : option_or i None ≡ i
      option_or-none = option-or-none i

abbrev chosen : Bool → Bool → List ℕ
chosen user other = if user then 0 ∷ (if other then 4 ∷ [] else []) else (if other then 4 ∷ [] else [])

module _ (p q r : PrivateDevice) (engine : ℕ) (i j : Option ℕ) (awake : q.failsafe ≡ false) (still : r.failsafe ≡ false) where
  chosen-raised : (user other : Bool) → raised_where user p engine 0 ≡ made q i → raised_where other q engine 4 ≡ made r j → bits_raised p engine (chosen user other) ≡ made r (option_or i j)
  chosen-raised true true one two = then-made (bit_raised p engine 0) (λ x. bits_raised x engine (4 ∷ [])) q r i j one awake (alone q r r engine j j 4 still two)
  chosen-raised true false one two = then-made (bit_raised p engine 0) (λ x. bits_raised x engine []) q r i j one awake two
  chosen-raised false true one two = (λ t. bits_raised (one t).device engine (4 ∷ [])) ∙ alone q r r engine j j 4 still two ∙ (λ t. made r (option_or (one t).irq j))
  chosen-raised false false one two = (λ t. quietly (one t).device) ∙ two ∙ (λ t. made r (option_or (one t).irq j))

-- what a command raises: the user interrupt, then notify
pub command-raised :
    (p q r : PrivateDevice) (engine bits : ℕ) (i j : Option ℕ) → p.failsafe ≡ false → raised_where (bits % 2 == 1) p engine 0 ≡ made q i → raised_where (bits / 16 % 2 == 1) q engine 4 ≡ made r j
    → command_raised p engine bits ≡ made r (option_or i j)
command-raised p q r engine bits i j asleep one two =
    let awake : q.failsafe ≡ false = stays-awake p q r engine i j (bits % 2 == 1) 0 asleep one in
    let whole : bits / 2 ^ 0 ≡ bits = omega arith in
    (λ t. bits_raised p engine (chosen (whole t % 2 == 1) (bits / 16 % 2 == 1)))
    ∙ chosen-raised p q r engine i j awake (stays-awake q r r engine j j (bits / 16 % 2 == 1) 4 awake two) (bits % 2 == 1) (bits / 16 % 2 == 1) one two

-- ---- status events

pub two-events :
    (p q r : PrivateDevice) (engine : ℕ) (first second : Status) (i j : Option ℕ) → p.failsafe ≡ false → event_given p engine first ≡ made q i → event_given q engine second ≡ made r j
    → events_given p engine (first ∷ second ∷ []) ≡ made r (option_or i j)
two-events p q r engine first second i j awake one two =
    let still : q.failsafe ≡ false = sym (λ t. (one t).device.failsafe) ∙ awake in
    let again : r.failsafe ≡ false = sym (λ t. (two t).device.failsafe) ∙ still in
    then-made (event_given p engine first) (λ x. events_given x engine (second ∷ [])) q r i j one still
    (then-made (event_given q engine second) (λ x. events_given x engine []) r r j None two again refl ∙ (λ t. made r (option-or-none j t)))
