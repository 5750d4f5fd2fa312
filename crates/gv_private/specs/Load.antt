-- Loading the front element of an engine's running list.
use Rattle.std.specs.Prelude.{ℕ, ◌+◌, ◌*◌, ◌==◌, ◌&&◌, List, Result, Ok, Err, Some}
use Rattle.gv_types.specs.declared.reply.Reason.{Reason}
use Rattle.gv_types.specs.declared.reply.Reason.TheVariants.{Context, Range}
use Rattle.gv_entry.specs.Ranges.{owns_page}
use Rattle.gv_entry.specs.Tables.{is_guarded}
use Rattle.gv_ctx.specs.Descriptor.{descriptor_of}
use Rattle.gv_ctx.specs.Image.{image_read}
use Rattle.gv_ctx.specs.declared.descriptor.Descriptor.{Descriptor}
use Rattle.gv_ctx.specs.declared.image.Image.{Image}
use Rattle.gv_ctx.specs.declared.image.BadContext.{BadContext}
use Rattle.gv_fetch.specs.Fetch.{GlobalSpace, dwords, check, then, fetched}
use Rattle.gv_fetch.specs.Items.{Items}
use Rattle.gv_fetch.specs.Left.{begun}
use Rattle.gv_fetch.specs.Space.{guest_space}
use Rattle.gv_private.specs.Device.{PrivateDevice, Working, with_element}
use Rattle.gv_private.specs.Roots.{announced}

-- the guest's global space, by the grants of this moment
abbrev pub global_space : PrivateDevice → GlobalSpace
global_space p = guest_space p.ranges p.memory (is_guarded p.memory p.roots) p.entries

-- An image is the second page of a context; no dword behind 0x33 is read of it.
abbrev pub image_dwords : PrivateDevice → ℕ → List ℕ
image_dwords p page = dwords (global_space p).word ((page + 1) * 4096) 0x34

abbrev pub good_or_context : Result Image BadContext → Result Image Reason
good_or_context (Ok image) = Ok image
good_or_context (Err bad) = Err Context

abbrev pub image_in : PrivateDevice → ℕ → Result Image Reason
image_in p page = good_or_context (image_read (image_dwords p page))

-- the element at work, with all items of its ring left
abbrev pub work_of : Image → Items → Working
work_of image items = record { root = image.root; tail = image.tail; left = begun items }

-- The ring's pages are owned, and what it starts is fetched; then the element is at work.
abbrev pub fetched_into : PrivateDevice → ℕ → Image → Result PrivateDevice Reason
fetched_into p engine image =
    then (fetched (global_space p) engine image) (λ items.
    Ok (with_element p engine (Some (work_of image items))))

-- The steps of a load, in order; the first that fails gives the reason. The addressing mode is 3; both pages of the
-- context are owned; its image is good; its root is announced; then the ring is fetched, by the grants of then.
abbrev pub loaded_by : PrivateDevice → ℕ → Descriptor → Result PrivateDevice Reason
loaded_by p engine descriptor =
    check (descriptor.mode == 3) Context (
    check (owns_page p.ranges descriptor.page && owns_page p.ranges (descriptor.page + 1)) Range (
    then (image_in p descriptor.page) (λ image.
    then (announced p image.root) (λ q.
    fetched_into q engine image))))

abbrev pub loaded : PrivateDevice → ℕ → ℕ → Result PrivateDevice Reason
loaded p engine descriptor = loaded_by p engine (descriptor_of descriptor)
