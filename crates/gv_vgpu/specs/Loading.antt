-- A load, step by step.
use Rattle.std.specs.Prelude.{◌≡◌, ◌≢◌, ℕ, ◌≤◌, ◌+◌, ◌==◌, ◌&&◌, Bool, Result, Err}
use Rattle.gv_ctx.specs.declared.descriptor.Descriptor.{Descriptor}
use Rattle.gv_ctx.specs.declared.image.Image.{Image}
use Rattle.gv_entry.specs.Ranges.{owns_page}
use Rattle.gv_fetch.specs.Fetch.{check, fetched}
use Rattle.gv_gpu.specs.Device.{Device}
use Rattle.gv_private.specs.Device.{PrivateDevice}
use Rattle.gv_private.specs.Load.{global_space, image_in}
use Rattle.gv_types.specs.declared.reply.Reason.{Reason}
use Rattle.gv_types.specs.declared.reply.Reason.TheVariants.{Context, Range}
use Rattle.gv_types.specs.declared.reply.Stop.TheVariants.{OutOfMemory}
use Rattle.gv_vgpu.specs.Changes.{MayFail, Stops}
use Rattle.gv_gtt.specs.Gtt.{memory_of}
use Rattle.gv_vgpu.specs.declared.load.Refusal.{Refusal}
use Rattle.gv_vgpu.specs.declared.load.Refusal.TheVariants.{Fails, Stopped}
use Rattle.gv_vgpu.specs.declared.vgpu.Vgpu.{Vgpu}

-- The image that a descriptor leads to, or why there is none: the addressing mode is 3, both pages of the context are
-- owned, and the image is good.
abbrev pub image_found : PrivateDevice → Descriptor → Result Image Reason
image_found p descriptor =
    check (descriptor.mode == 3) Context (
    check (owns_page p.ranges descriptor.page && owns_page p.ranges (descriptor.page + 1)) Range (
    image_in p descriptor.page))

-- A load that is refused for a reason leaves the guest so that it may fail, with its memory as it was.
abbrev pub Refuses : (ℕ → Bool) → Device → Device → Vgpu → Vgpu → Result PrivateDevice Reason → Refusal → Type 0
Refuses here d e old new outcome (Fails reason) = (outcome ≡ Err reason) × MayFail here d e old new (memory_of d old.gtt)
Refuses here d e old new outcome (Stopped stop) = Stops here d e old stop

-- A context was loaded on this engine alone, and no general register written. The journal has room for the first step.
pub record LoadsOn (engine : ℕ) (d e : Device) : Type 0 where
  pub others : (k : ℕ) → k ≢ engine → e.loaded k ≡ d.loaded k
  pub general : e.general ≡ d.general
  pub room : 1 ≤ e.spare

-- why a program isn't fetched
abbrev pub NotFetched : PrivateDevice → ℕ → Image → Refusal → Type 0
NotFetched p engine image (Fails reason) = fetched (global_space p) engine image ≡ Err reason
NotFetched p engine image (Stopped stop) = stop ≡ OutOfMemory
