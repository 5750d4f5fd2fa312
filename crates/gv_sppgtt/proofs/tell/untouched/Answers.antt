use Rattle.std.proofs.Common.{◌≡◌, ℕ, zero, suc, false, get_or, replicate, refl}
use Rattle.gv_sppgtt.proofs.tell.untouched.Goals as goal

none : (n i : ℕ) → get_or (replicate n false) i false ≡ false
none zero i = refl
none (suc n) zero = refl
none (suc n) (suc i) = none n i

pub returns : goal.returns
returns c block = none 128 block
