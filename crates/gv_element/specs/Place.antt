-- An element of which a part is left, put to rest in its window.
use Rattle.std.specs.Prelude.{ℕ, ◌^◌, ◌<◌, List, false, IfSome}
use Rattle.gv_ctx.specs.declared.saved.Batch.{Batch}
use Rattle.gv_ctx.specs.declared.saved.Saved.{Saved}
use Rattle.gv_fetch.specs.Left.{Left, IsLeft}
use Rattle.gv_gpu.specs.Device.{Device}
use Rattle.gv_place.specs.Place.{Follows}
use Rattle.gv_place.specs.Seen.{IsShort}
use Rattle.gv_scan.specs.Layout.{Layout, IsLayout}
use Rattle.gv_sctx.specs.Image.{image_fields, dwords_poked}
use Rattle.gv_sring.specs.Window.{Window, page_at, ring_address}
use Rattle.gv_element.specs.Works.{Held, WorksWith}

-- each address is one of 48 bits
pub record IsSmallPlace (place : Saved) : Type 0 where
  pub ring : place.ring < 2 ^ 32
  pub first : IfSome place.first (λ (b : Batch). b.at < 2 ^ 48)
  pub second : IfSome place.second (λ (b : Batch). b.at < 2 ^ 48)

-- The image is filled in with a place.
abbrev pub image_put : Device → Window → Saved → ℕ → Device
image_put d w place root_page = dwords_poked d (page_at w 1) (image_fields (ring_address w.guest w.engine) place w.tail root_page)

-- Dwords that are the program of what is left of an element which an engine may run, with the place in them from which it goes on.
pub record IsProgramAt (engine : ℕ) (ring batches : List ℕ) (place : Saved) (left : Left) : Type 0 where
  pub layout : Layout
  pub is : IsLayout ring batches layout
  pub follows : Follows layout place left
  pub form : IsLeft engine left
  pub short : IsShort left

-- that much is left of an element that was put to rest
abbrev pub RestsWith : Device → ℕ → ℕ → ℕ → List ℕ → List ℕ → Saved → Held → Type 0
RestsWith d guest engine root_page ring batches place x = (left : Left) → IsProgramAt engine ring batches place left → WorksWith d guest engine false root_page x left
