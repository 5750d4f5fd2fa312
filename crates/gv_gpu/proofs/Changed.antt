-- Pages of a part come and go and are written, and the rest of the device doesn't see it.
use Rattle.std.proofs.Common.{◌≡◌, ℕ, true, false, List, [], Option, None, Some, refl, sym, cond, arith, set}
use Rattle.std.proofs.lemmas.Grind.{common_steps}
use Rattle.gv_types.specs.Maps.{put}
use Rattle.gv_gpu.specs.Device.{Device, added, released, poked, with_global}
use Rattle.gv_gpu.specs.Part.{Part, outside}
use Rattle.gv_types.specs.Memory.{zero_words}
use Rattle.gv_types.specs.declared.ids.Label.{Label}

module _ (p : Part) (d : Device) (page : ℕ) (l : Label) (dead : p.page page None ≡ false) (own : p.page page (Some l) ≡ true) where
  -- a read of what was put, under a test of what was put
  changed : {A : Type 0} (f : ℕ → A) (t : ℕ → Option Label) (q : ℕ) (none v : A) (to : Option Label) → cond (p.page page to) none v ≡ cond (p.page page (t page)) none (f page) → cond (p.page q (put t page to q)) none (put f page v q) ≡ cond (p.page q (t q)) none (f q)
  changed f t q none v to same = grind (arith, common_steps)

  pub outside-added : d.label page ≡ None → d.words page ≡ [] → outside p (added d page l) ≡ outside p d
  outside-added free empty = λ i. record (outside p d) {
    label = λ q. changed d.label d.label q None (Some l) (Some l) (rw (free, dead, own) refl) i;
    words = λ q. changed d.words d.label q [] zero_words (Some l) (rw (free, dead, own) (sym empty)) i;
  }

  pub outside-released : d.label page ≡ Some l → outside p (released d page) ≡ outside p d
  outside-released is = λ i. record (outside p d) {
    label = λ q. changed d.label d.label q None None None (rw (is, dead, own) refl) i;
    words = λ q. changed d.words d.label q [] [] None (rw (is, dead, own) refl) i;
  }

module _ (p : Part) (d : Device) (page : ℕ) (own : p.page page (d.label page) ≡ true) where
  rewritten : (w : List ℕ) (q : ℕ) → cond (p.page q (d.label q)) [] (put d.words page w q) ≡ cond (p.page q (d.label q)) [] (d.words q)
  rewritten w q = grind (arith, common_steps)

  pub outside-poked : (index value : ℕ) → outside p (poked d page index value) ≡ outside p d
  outside-poked index value = λ i. record (outside p d) { words = λ q. rewritten (set (d.words page) index value) q i }

-- an entry of the part is set
pub outside-global : (p : Part) (d : Device) (index entry : ℕ) → p.entry index ≡ true → outside p (with_global d index entry) ≡ outside p d
outside-global p d index entry own = λ i. record (outside p d) { global = λ n. at n i }
  where
    at : (n : ℕ) → cond (p.entry n) 0 (put d.global index entry n) ≡ cond (p.entry n) 0 (d.global n)
    at n = grind (arith, common_steps)
