-- What changes shadow pages alone leaves the guest's memory.
use Rattle.std.proofs.Common.{ℕ, ◌≡◌, true, false, Option, None, Some, [], refl, ap, ◌∙◌}
use Rattle.std.proofs.lemmas.Bool.{eq-eqb}
use Rattle.std.proofs.lemmas.Bool.Decides.{nat_tests}
use Rattle.std.proofs.Common.{arith}
use Rattle.gv_types.specs.declared.ids.Label.{Label}
use Rattle.gv_gpu.specs.Device.{Device, added, poked}
use Rattle.gv_gpu.specs.Part.{outside, Apart, frames_part, is_shadow_of, is_frame_of, shadow_label}
use Rattle.gv_gpu.specs.Change.{Leaves}
use Rattle.gv_gpu.proofs.Changes.{leaves-outside}
use Rattle.gv_gpu.proofs.Changed.{outside-added, outside-poked}
use Rattle.gv_guest.specs.Placed.{Placed, Hosts, memory_in}
use Rattle.gv_guest.proofs.Kept.{stands-kept, memory-kept}
use Rattle.gv_guest.proofs.Written.{own_frame}
use Rattle.gv_sppgtt.specs.State.{shadow_part}

not_frame : (g : ℕ) (l : Option Label) → is_shadow_of g l ≡ true → is_frame_of g l ≡ false
not_frame g None h = refl
not_frame g (Some l) h = grind (arith, nat_tests)

apart : (g : ℕ) → Apart (shadow_part g) (frames_part g)
apart g = record { dead = λ n. refl; page = λ n l h. not_frame g l h; entry = λ i h. refl; engine = λ e h. refl; spare = λ h. refl }

module _ (d e : Device) (placed : Placed) (same : outside (shadow_part placed.guest) e ≡ outside (shadow_part placed.guest) d) where
  kept : Leaves (frames_part placed.guest) d e
  kept = leaves-outside (apart placed.guest) same

  pub stands-shadow : Hosts d placed → Hosts e placed
  stands-shadow stands = stands-kept (frames_part placed.guest) d e placed (λ n. own_frame placed.guest) kept stands

  pub memory-shadow : Hosts d placed → memory_in e placed ≡ memory_in d placed
  memory-shadow stands = memory-kept (frames_part placed.guest) d e placed (λ n. own_frame placed.guest) kept stands

own_shadow : (g : ℕ) → is_shadow_of g (Some (shadow_label g)) ≡ true
own_shadow g = rw (eq-eqb g g refl) refl

pub shadow-added : (d : Device) (g page : ℕ) → d.label page ≡ None → d.words page ≡ [] → outside (shadow_part g) (added d page (shadow_label g)) ≡ outside (shadow_part g) d
shadow-added d g page free empty = outside-added (shadow_part g) d page (shadow_label g) refl (own_shadow g) free empty

pub shadow-poked : (d : Device) (g page index value : ℕ) → d.label page ≡ Some (shadow_label g) → outside (shadow_part g) (poked d page index value) ≡ outside (shadow_part g) d
shadow-poked d g page index value is = outside-poked (shadow_part g) d page (ap (is_shadow_of g) is ∙ own_shadow g) index value
