-- Loads that are refused, behind what was done before.
use Rattle.std.proofs.Common.{◌≡◌, ℕ, Bool, Result, Ok, Err, List, refl, sym, ◌∙◌, subst}
use Rattle.gv_types.specs.Memory.{Memory}
use Rattle.gv_types.specs.declared.reply.Reason.{Reason}
use Rattle.gv_ctx.specs.declared.descriptor.Descriptor.{Descriptor}
use Rattle.gv_ctx.specs.declared.image.Image.{Image}
use Rattle.gv_ctx.specs.Descriptor.{descriptor_of}
use Rattle.gv_fetch.specs.Fetch.{fetched}
use Rattle.gv_gpu.specs.Device.{Device}
use Rattle.gv_gtt.specs.Gtt.{memory_of, over}
use Rattle.gv_private.specs.Device.{PrivateDevice}
use Rattle.gv_private.specs.Load.{fetched_into, global_space, loaded}
use Rattle.gv_private.specs.Roots.{announced}
use Rattle.gv_scan.specs.Scan.{Scanned}
use Rattle.gv_vgpu.specs.Changes.{Keeps, MayFail, Stops}
use Rattle.gv_vgpu.specs.Loading.{NotFetched, Refuses, image_found}
use Rattle.gv_vgpu.specs.Vgpu.{private_of}
use Rattle.gv_vgpu.specs.Standing.{Holds}
use Rattle.gv_vgpu.specs.declared.load.Refusal.{Refusal}
use Rattle.gv_vgpu.specs.declared.load.Refusal.TheVariants.{Fails, Stopped}
use Rattle.gv_vgpu.specs.declared.vgpu.Vgpu.{Vgpu}
use Rattle.gv_vgpu.proofs.Failing.{holds-may-fail}
use Rattle.gv_vgpu.proofs.Own.{changes-then, stops-then}
use Rattle.gv_vgpu.proofs.Announced.{lacks-memory}
use Rattle.gv_vgpu.proofs.Steps.{announced-memory, goes_on, with-image, with-root, without-image, without-items, without-root}
use Rattle.gv_vgpu.proofs.Working.{over-private}

-- a call that was kept, and one after which the guest is to fail
kept-may-fail : (here : ℕ → Bool) (d e f : Device) (a b c : Vgpu) (m : Memory) → Keeps here d e a b → MayFail here e f b c m → MayFail here d f a c m
kept-may-fail here d e f a b c m first second = record {
  occupies = second.occupies;
  changes = changes-then here d e f a b c first.changes second.changes;
  memory_is = second.memory_is;
}

-- ---- by the outcome

-- another outcome that fails for the same reasons
pub refused-as :
    (here : ℕ → Bool) (d e : Device) (old new : Vgpu) (one other : Result PrivateDevice Reason) (refusal : Refusal) → ((reason : Reason) → one ≡ Err reason → other ≡ Err reason)
    → Refuses here d e old new one refusal → Refuses here d e old new other refusal
refused-as here d e old new one other (Fails reason) same refused = (same reason refused.0, refused.1)
refused-as here d e old new one other (Stopped stop) same refused = refused

-- behind a call that was kept, with the same memory
pub refused-then :
    (here : ℕ → Bool) (d e f : Device) (a b c : Vgpu) (outcome : Result PrivateDevice Reason) (refusal : Refusal) → Keeps here d e a b → memory_of e b.gtt ≡ memory_of d a.gtt → Refuses here e f b c outcome refusal → Refuses here d f a c outcome refusal
refused-then here d e f a b c outcome (Fails reason) first memory refused =
    (refused.0, subst (λ m. MayFail here d f a c m) memory (kept-may-fail here d e f a b c (memory_of e b.gtt) first refused.1))
refused-then here d e f a b c outcome (Stopped stop) first memory refused = stops-then here d e f a b stop first.changes refused

-- ---- the steps of a load

module _ (d : Device) (v : Vgpu) (here : ℕ → Bool) (holds : Holds d v here) (engine : ℕ) where
  abbrev p : PrivateDevice
  p = private_of d v here

  -- the program isn't fetched
  pub refused-fetch : (image : Image) (refusal : Refusal) → NotFetched (over p d v.gtt) engine image refusal → Refuses here d d v v (fetched_into p engine image) refusal
  refused-fetch image refusal none = by refusal (subst (λ q. NotFetched q engine image refusal) (over-private d v here holds) none)
    where
      by : (refusal : Refusal) → NotFetched p engine image refusal → Refuses here d d v v (fetched_into p engine image) refusal
      by (Fails reason) is = (without-items p engine image reason is, holds-may-fail d v here holds)
      by (Stopped stop) is = subst (λ s. Stops here d d v s) (sym is) (lacks-memory here d d v refl)

  pub scanned-here : (image : Image) (ring batches : List ℕ) → Scanned (fetched (global_space (over p d v.gtt)) engine image) ring batches → Scanned (fetched (global_space p) engine image) ring batches
  scanned-here image ring batches = subst (λ q. Scanned (fetched (global_space q) engine image) ring batches) (over-private d v here holds)

  -- the image, as it was found
  image-here : (word : ℕ) (descriptor : Descriptor) (r : Result Image Reason) → descriptor ≡ descriptor_of word → r ≡ image_found (over p d v.gtt) descriptor → image_found p (descriptor_of word) ≡ r
  image-here word descriptor r same is = (λ i. image_found (sym (over-private d v here holds) i) (sym same i)) ∙ sym is

  pub refused-image :
      (word : ℕ) (descriptor : Descriptor) (reason : Reason) → descriptor ≡ descriptor_of word → Err reason ≡ image_found (over p d v.gtt) descriptor → (loaded p engine word ≡ Err reason) × MayFail here d d v v (memory_of d v.gtt)
  refused-image word descriptor reason same is = (without-image p engine word reason (image-here word descriptor (Err reason) same is), holds-may-fail d v here holds)

  module _ (word : ℕ) (descriptor : Descriptor) (image : Image) (same : descriptor ≡ descriptor_of word) (is : Ok image ≡ image_found (over p d v.gtt) descriptor) where
    load-goes-on : loaded p engine word ≡ goes_on p engine image
    load-goes-on = with-image p engine word image (image-here word descriptor (Ok image) same is)

    -- its root isn't announced
    pub refused-root : (e : Device) (new : Vgpu) (refusal : Refusal) → Refuses here d e v new (announced p image.root) refusal → Refuses here d e v new (loaded p engine word) refusal
    refused-root e new refusal = refused-as here d e v new (announced p image.root) (loaded p engine word) refusal (λ reason none. load-goes-on ∙ without-root p engine image reason none)

    -- it is, and then the ring's fetch decides
    module _ (e : Device) (mid : Vgpu) (root : announced p image.root ≡ Ok (private_of e mid here)) where
      pub load-fetches : loaded p engine word ≡ fetched_into (private_of e mid here) engine image
      load-fetches = load-goes-on ∙ with-root p (private_of e mid here) engine image root

      pub refused-load : (f : Device) (new : Vgpu) (refusal : Refusal) → Keeps here d e v mid → Refuses here e f mid new (fetched_into (private_of e mid here) engine image) refusal → Refuses here d f v new (loaded p engine word) refusal
      refused-load f new refusal keeps refused =
          refused-as here d f v new (fetched_into (private_of e mid here) engine image) (loaded p engine word) refusal (λ reason none. load-fetches ∙ none)
          (refused-then here d e f v mid new (fetched_into (private_of e mid here) engine image) refusal keeps (announced-memory p (private_of e mid here) image.root root) refused)
