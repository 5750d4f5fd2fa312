-- A context and its image: the image is reached through the entry behind the descriptor's page.
use Rattle.std.specs.Prelude.{ℕ, ◌+◌, ◌*◌, ◌/◌, ◌^◌, ◌<◌, ◌≡◌, List, length, slice_index, None, Some}
use Rattle.gv_ctx.specs.Descriptor.{descriptor_of}
use Rattle.gv_ctx.specs.Saved.{fields_of}
use Rattle.gv_ctx.specs.declared.saved.Saved.{Saved}
use Rattle.gv_gpu.specs.Device.{Device, Loaded, with_loaded}
use Rattle.gv_gpu.specs.Context.{state_dword, context_of, stopped, context_submitted}
use Rattle.gv_sctx.specs.Image.{image_fields, AreDwords, filled_words, saved_in}
use Rattle.gv_gpu.specs.Part.{shadow_label}

-- the global page of a descriptor
abbrev pub window_page : ℕ → ℕ
window_page descriptor = (descriptor_of descriptor).page

-- The entry behind a descriptor's page names the image's second page, present and writable.
pub record HasImage (d : Device) (guest descriptor image : ℕ) : Type 0 where
  pub below : window_page descriptor + 1 < 2 ^ 20
  pub entry : d.global (window_page descriptor + 1) ≡ image * 4096 + 3
  pub label : d.label image ≡ Some (shadow_label guest)
  pub long : length (d.words image) ≡ 512

-- An image that is a loaded context's, but for its place.
pub record HoldsContext (d : Device) (l : Loaded) : Type 0 where
  pub tail : state_dword d l.descriptor 0x07 ≡ l.tail
  pub ring_start : state_dword d l.descriptor 0x09 ≡ l.ring_start
  pub root : (state_dword d l.descriptor 0x31 * 2 ^ 32 + state_dword d l.descriptor 0x33) / 4096 ≡ l.root

-- each field of a place fits a dword
abbrev pub FitsDwords : Saved → Type 0
FitsDwords place = (k : ℕ) → slice_index (fields_of place) k < 2 ^ 32

-- ---- laws

-- An engine loads from a filled image what was filled in.
abbrev pub FilledIsLoaded : Type 0
FilledIsLoaded = (d : Device) (guest descriptor image owner start : ℕ) (place : Saved) (tail root : ℕ) (words : List ℕ) →
    HasImage d guest descriptor image → d.words image ≡ filled_words words (image_fields start place tail root) → length words ≡ 512 → AreDwords (image_fields start place tail root) →
    context_of d owner descriptor ≡ record { descriptor = descriptor; owner = owner; place = place; tail = tail; ring_start = start; root = root }

-- The image of a context that is stopped holds it as it was, with the place that it had.
abbrev pub StoppedComesBack : Type 0
StoppedComesBack = (d : Device) (engine image : ℕ) (l : Loaded) → d.loaded engine ≡ Some l → HasImage d l.owner l.descriptor image → HoldsContext d l → FitsDwords l.place →
    context_of (stopped d engine) l.owner l.descriptor ≡ l

abbrev pub StoppedIsSaved : Type 0
StoppedIsSaved = (d : Device) (engine image : ℕ) (l : Loaded) → d.loaded engine ≡ Some l → HasImage d l.owner l.descriptor image → FitsDwords l.place →
    saved_in ((stopped d engine).words image) ≡ l.place

-- and where it is still the image of that context
abbrev pub StoppedHasImage : Type 0
StoppedHasImage = (d : Device) (engine image : ℕ) (l : Loaded) → d.loaded engine ≡ Some l → HasImage d l.owner l.descriptor image → FitsDwords l.place →
    HasImage (stopped d engine) l.owner l.descriptor image

abbrev pub StoppedHoldsContext : Type 0
StoppedHoldsContext = (d : Device) (engine image : ℕ) (l : Loaded) → d.loaded engine ≡ Some l → HasImage d l.owner l.descriptor image → HoldsContext d l → FitsDwords l.place →
    HoldsContext (stopped d engine) l

-- A context that is submitted where none is loaded is the one that its image holds.
abbrev pub SubmittedIsLoaded : Type 0
SubmittedIsLoaded = (d : Device) (engine owner descriptor : ℕ) → d.loaded engine ≡ None → context_submitted d engine owner descriptor ≡ with_loaded d engine (Some (context_of d owner descriptor))
