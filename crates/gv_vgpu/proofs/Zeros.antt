-- General registers that become zeros, one by one.
use Rattle.std.proofs.Common.{◌≡◌, ℕ, ◌+◌, ◌<◌, Bool, true, false, List, None, length, cond, eqb, ltb, refl, sym, ap, ◌∙◌, replicate, arith, get_or, slice_index_or, slice_set}
use Rattle.std.proofs.lemmas.Bool.{eq-eqb}
use Rattle.std.proofs.lemmas.Bool.Decides.{nat_tests}
use Rattle.std.proofs.lemmas.Grind.{same_number_lists}
use Rattle.std.proofs.lemmas.List.{get_or-replicate, get_or-set_same}
use Rattle.gv_types.specs.Maps.{put}
use Rattle.gv_gpu.specs.Device.{Device, with_engine_general}
use Rattle.gv_vgpu.specs.Vgpu.{no_engine}
use Rattle.gv_vgpu.specs.Reset.{zero_engine}
use Rattle.gv_vgpu.specs.declared.engine.Engine.{Engine}

-- the device with zeros for so many general registers of an engine
abbrev pub zeroed : Device → ℕ → ℕ → Device
zeroed d engine n = record d { general = put d.general engine (λ r. cond (ltb r n) 0 (d.general engine r)) }

none-at : (d : Device) (engine k r : ℕ) (b : Bool) → eqb k engine ≡ b → d.general k r ≡ cond b (λ r. cond (ltb r 0) 0 (d.general engine r)) (d.general k) r
none-at d engine k r true is = let same : k ≡ engine = grind (arith, nat_tests) in let no : ltb r 0 ≡ false = grind (arith, nat_tests) in
    ap (λ k. d.general k r) same ∙ sym (ap (λ b. cond b 0 (d.general engine r)) no)
none-at d engine k r false is = refl

pub zeroed-none : (d : Device) (engine : ℕ) → d ≡ zeroed d engine 0
zeroed-none d engine = λ i. record d { general = λ k r. none-at d engine k r (eqb k engine) refl i }

one-more : (f : ℕ → ℕ) (n r : ℕ) → cond (eqb r n) 0 (cond (ltb r n) 0 (f r)) ≡ cond (ltb r (n + 1)) 0 (f r)
one-more f n r = by (eqb r n) (ltb r n) (ltb r (n + 1)) refl refl refl
  where
    by : (a b c : Bool) → eqb r n ≡ a → ltb r n ≡ b → ltb r (n + 1) ≡ c → cond a 0 (cond b 0 (f r)) ≡ cond c 0 (f r)
    by true b true x y z = refl
    by true b false x y z = absurd (grind (arith, nat_tests))
    by false true true x y z = refl
    by false true false x y z = absurd (grind (arith, nat_tests))
    by false false true x y z = absurd (grind (arith, nat_tests))
    by false false false x y z = refl

more-at : (d : Device) (engine n k r : ℕ) (b : Bool) → eqb k engine ≡ b
    → cond b (put (put d.general engine (λ r. cond (ltb r n) 0 (d.general engine r)) engine) n 0) (put d.general engine (λ r. cond (ltb r n) 0 (d.general engine r)) k) r
    ≡ cond b (λ r. cond (ltb r (n + 1)) 0 (d.general engine r)) (d.general k) r
more-at d engine n k r true is = ap (λ b. cond (eqb r n) 0 (cond b (λ r. cond (ltb r n) 0 (d.general engine r)) (d.general engine) r)) (eq-eqb engine engine refl) ∙ one-more (d.general engine) n r
more-at d engine n k r false is = ap (λ b. cond b (λ r. cond (ltb r n) 0 (d.general engine r)) (d.general k) r) is

pub zeroed-more : (d : Device) (engine n : ℕ) → with_engine_general (zeroed d engine n) engine n 0 ≡ zeroed d engine (n + 1)
zeroed-more d engine n = λ i. record d { general = λ k r. more-at d engine n k r (eqb k engine) refl i }

-- sixteen zeros
pub sixteen-zeros : (kept : List ℕ) → length kept ≡ 16 → ((n : ℕ) → get_or kept n 0 ≡ 0) → kept ≡ replicate 16 0
sixteen-zeros kept long zeros = same_number_lists kept (replicate 16 0) long (λ k less. let few : k < 16 = omega arith in zeros k ∙ sym (get_or-replicate 16 k 0 0 few))

-- an engine with neither an element nor a register that isn't zero
pub cleared : (engines : List Engine) (k : ℕ) (e : Engine) → k < length engines → e.element ≡ None → ((n : ℕ) → get_or e.kept n 0 ≡ 0) → length e.kept ≡ 16 → slice_index_or (slice_set engines k e) k no_engine ≡ zero_engine
cleared engines k e within none zeros long = get_or-set_same engines k e no_engine within ∙ (λ i. record { element = none i; kept = sixteen-zeros e.kept long zeros i })
