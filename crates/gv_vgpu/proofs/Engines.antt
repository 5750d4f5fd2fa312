-- The four engines of a guest's device, one by one.
use Rattle.std.proofs.Common.{◌≡◌, ℕ, zero, suc, ◌<◌, ◌≤◌, Option, None, sym, subst, arith}
use Rattle.std.proofs.lemmas.List.{get_or_past}
use Rattle.gv_element.specs.Works.{Held}
use Rattle.gv_vgpu.specs.Vgpu.{engine_at, no_engine}
use Rattle.gv_vgpu.specs.declared.vgpu.Vgpu.{Vgpu}

-- there is no fifth engine
pub none-past : (v : Vgpu) (k : ℕ) → 4 ≤ k → engine_at v k ≡ no_engine
none-past v k past = get_or_past v.engines k no_engine (subst (λ n. n ≤ k) (sym v.four) past)

-- What holds of each of the four, and of an engine without an element, holds of each number.
pub each-engine : (v : Vgpu) (P : ℕ → Option Held → Type 0) → ((k : ℕ) → k < 4 → P k (engine_at v k).element) → ((k : ℕ) → P k None) → (k : ℕ) → P k (engine_at v k).element
each-engine v P each none zero = each zero (omega arith)
each-engine v P each none (suc zero) = each (suc zero) (omega arith)
each-engine v P each none (suc (suc zero)) = each (suc (suc zero)) (omega arith)
each-engine v P each none (suc (suc (suc zero))) = each (suc (suc (suc zero))) (omega arith)
each-engine v P each none (suc (suc (suc (suc k)))) =
    let past : 4 ≤ suc (suc (suc (suc k))) = omega arith in
    subst (λ x. P (suc (suc (suc (suc k)))) x.element) (sym (none-past v (suc (suc (suc (suc k)))) past)) (none (suc (suc (suc (suc k)))))
