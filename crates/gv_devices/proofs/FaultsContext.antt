-- Contexts are loaded and put away whatever the count of faults is.
use Rattle.std.proofs.Common.{◌≡◌, ℕ, suc, zero, ◌+◌, ◌*◌, ◌/◌, ◌^◌, true, List, [], ◌∷◌, get_or, Option, None, Some, Result, Ok, Err, refl, ap, sym, ◌∙◌}
use Rattle.std.specs.Prelude.{OnOk}
use Rattle.gv_ctx.specs.Saved.{fields_of, saved_of}
use Rattle.gv_gpu.specs.Device.{Device, Loaded, with_loaded}
use Rattle.gv_gpu.specs.Physical.{operand_stored}
use Rattle.gv_gpu.specs.Context.{state_at, field_dwords, fields_stored, context_saved, context_of, loaded_after, context_submitted, stopped_with, stopped}
use Rattle.gv_devices.proofs.Faults.{other, operand_at-other, operand_stored-other}

module _ (n : ℕ) where
  fields_stored-other : (d : Device) (descriptor : ℕ) (fields : List ℕ) (count : ℕ) → fields_stored (other n d) descriptor fields count ≡ other n (fields_stored d descriptor fields count)
  unfolding fields_stored
  fields_stored-other d descriptor fields zero = refl
  fields_stored-other d descriptor fields (suc count) =
      ap (λ e. operand_stored e 0 true (state_at descriptor (get_or field_dwords count 0)) (get_or fields count 0)) (fields_stored-other d descriptor fields count)
      ∙ operand_stored-other n (fields_stored d descriptor fields count) 0 true (state_at descriptor (get_or field_dwords count 0)) (get_or fields count 0)

  context_saved-other : (d : Device) (context : Option Loaded) → context_saved (other n d) context ≡ other n (context_saved d context)
  context_saved-other d None = refl
  context_saved-other d (Some l) = fields_stored-other d l.descriptor (fields_of l.place) 7

  -- the context, by what is read of the image
  abbrev context_by : (ℕ → ℕ) → ℕ → ℕ → Loaded
  context_by read owner descriptor = record {
    descriptor = descriptor;
    owner = owner;
    place = saved_of (read 0x05 ∷ read 0x0D ∷ read 0x0F ∷ read 0x11 ∷ read 0x13 ∷ read 0x15 ∷ read 0x17 ∷ []);
    tail = read 0x07;
    ring_start = read 0x09;
    root = (read 0x31 * 2 ^ 32 + read 0x33) / 4096;
  }

  context_of-other : (d : Device) (owner descriptor : ℕ) → context_of (other n d) owner descriptor ≡ context_of d owner descriptor
  unfolding context_of
  context_of-other d owner descriptor = λ i. context_by (λ k. operand_at-other n d 0 true (state_at descriptor k) i) owner descriptor

  loaded_after-other : (d : Device) (engine owner descriptor : ℕ) → loaded_after (other n d) engine owner descriptor ≡ other n (loaded_after d engine owner descriptor)
  loaded_after-other d engine owner descriptor = ap (λ l. with_loaded (other n d) engine (Some l)) (context_of-other d owner descriptor)

  pub submitted-other : (d : Device) (engine owner descriptor : ℕ) → context_submitted (other n d) engine owner descriptor ≡ other n (context_submitted d engine owner descriptor)
  unfolding context_submitted
  submitted-other d engine owner descriptor =
      ap (λ e. loaded_after e engine owner descriptor) (context_saved-other d (d.loaded engine))
      ∙ loaded_after-other (context_saved d (d.loaded engine)) engine owner descriptor

  stopped_with-other : (d : Device) (engine : ℕ) (context : Option Loaded) → stopped_with (other n d) engine context ≡ other n (stopped_with d engine context)
  stopped_with-other d engine None = refl
  stopped_with-other d engine (Some l) = ap (λ e. with_loaded e engine None) (context_saved-other d (Some l))

  pub stopped-other : (d : Device) (engine : ℕ) → stopped (other n d) engine ≡ other n (stopped d engine)
  unfolding stopped
  stopped-other d engine = stopped_with-other d engine (d.loaded engine)

-- A device in memory did it, and the count of faults is another one.
module _ {A E : Type 0} (inner after d : Device) (n engine : ℕ) (same : other n inner ≡ d) where
  pub submitted-over : (r : Result A E) (owner descriptor : ℕ) → OnOk r (after ≡ context_submitted inner engine owner descriptor) → OnOk r (other n after ≡ context_submitted d engine owner descriptor)
  submitted-over (Ok a) owner descriptor done = ap (other n) done ∙ sym (submitted-other n inner engine owner descriptor) ∙ ap (λ e. context_submitted e engine owner descriptor) same
  submitted-over (Err e) owner descriptor done = tt

  pub stopped-over : (r : Result A E) → OnOk r (after ≡ stopped inner engine) → OnOk r (other n after ≡ stopped d engine)
  stopped-over (Ok a) done = ap (other n) done ∙ sym (stopped-other n inner engine) ∙ ap (λ e. stopped e engine) same
  stopped-over (Err e) done = tt
