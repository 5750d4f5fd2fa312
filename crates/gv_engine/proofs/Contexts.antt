-- What submitting and stopping make of a device.
use Rattle.std.proofs.Common.{◌≡◌, ℕ, ◌+◌, List, get_or, None, Some, true, refl, ap, sym, ◌∙◌, add-one}
use Rattle.gv_gpu.specs.Device.{Device, Loaded, with_loaded}
use Rattle.gv_gpu.specs.Physical.{operand_stored}
use Rattle.gv_gpu.specs.Context.{state_at, field_dwords, fields_stored, context_saved, context_of, stopped, context_submitted}
use Rattle.gv_ctx.specs.Saved.{fields_of}

-- one more field
pub fields_stored-more : (d : Device) (descriptor : ℕ) (fields : List ℕ) (n : ℕ) → fields_stored d descriptor fields (n + 1) ≡ operand_stored (fields_stored d descriptor fields n) 0 true (state_at descriptor (get_or field_dwords n 0)) (get_or fields n 0)
unfolding fields_stored
fields_stored-more d descriptor fields n = rw (add-one n) refl

pub fields_stored-none : (d : Device) (descriptor : ℕ) (fields : List ℕ) → fields_stored d descriptor fields 0 ≡ d
unfolding fields_stored
fields_stored-none d descriptor fields = refl

pub submitted-by : (old saved new : Device) (engine owner descriptor : ℕ) (l : Loaded) → saved ≡ context_saved old (old.loaded engine) → l ≡ context_of saved owner descriptor → new ≡ with_loaded saved engine (Some l) → new ≡ context_submitted old engine owner descriptor
unfolding context_submitted
submitted-by old saved new engine owner descriptor l save is load =
    load
    ∙ ap (λ k. with_loaded saved engine (Some k)) is
    ∙ ap (λ (d : Device). with_loaded d engine (Some (context_of d owner descriptor))) save

pub stopped-idle : (old : Device) (engine : ℕ) → None ≡ old.loaded engine → old ≡ stopped old engine
unfolding stopped
stopped-idle old engine none = rw (sym none) refl

pub stopped-by : (old saved new : Device) (engine : ℕ) (l : Loaded) → Some l ≡ old.loaded engine → saved ≡ fields_stored old l.descriptor (fields_of l.place) 7 → new ≡ with_loaded saved engine None → new ≡ stopped old engine
unfolding stopped
stopped-by old saved new engine l is save unload = rw (sym is) (unload ∙ ap (λ (d : Device). with_loaded d engine None) save)

pub fields_stored-step : (start now next : Device) (descriptor : ℕ) (fields : List ℕ) (n at : ℕ) → now ≡ fields_stored start descriptor fields n → at ≡ state_at descriptor (get_or field_dwords n 0) → next ≡ operand_stored now 0 true at (get_or fields n 0) → next ≡ fields_stored start descriptor fields (n + 1)
fields_stored-step start now next descriptor fields n at so_far here stored =
    stored
    ∙ ap (λ (d : Device). operand_stored d 0 true at (get_or fields n 0)) so_far
    ∙ ap (λ a. operand_stored (fields_stored start descriptor fields n) 0 true a (get_or fields n 0)) here
    ∙ sym (fields_stored-more start descriptor fields n)
