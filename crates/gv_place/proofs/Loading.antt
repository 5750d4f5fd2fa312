-- A program that was built into the window, loaded from its front.
use Rattle.std.proofs.Common.{◌≡◌, ℕ, ◌*◌, List, length, ap, sym, subst, ◌∙◌}
use Rattle.gv_ctx.specs.declared.saved.Saved.{Saved}
use Rattle.gv_cmd.specs.declared.stands.Stands.TheVariants.{Ring}
use Rattle.gv_gpu.specs.Device.{Device, Loaded}
use Rattle.gv_fetch.specs.Items.{Items, MayAllStand}
use Rattle.gv_scan.specs.Layout.{IsProgram, placed_layout}
use Rattle.gv_fetch.specs.Left.{begun}
use Rattle.gv_scan.proofs.Placing.{ring-placed, length-all}
use Rattle.gv_sring.specs.Copy.{Copied}
use Rattle.gv_place.specs.Laws.{front_place}
use Rattle.gv_place.specs.Place.{Follows, StandsFor}

-- Behind a load the place stands for all that was fetched.
pub loaded-stands : (d : Device) (image : ℕ) (l : Loaded) (engine base : ℕ) (ring batches : List ℕ) (items : Items) (is : IsProgram ring batches items)
    → MayAllStand Ring engine items → Copied d l.owner image (placed_layout base is.layout) l.ring_start → l.place ≡ front_place → l.tail ≡ 4 * length ring
    → StandsFor d image (placed_layout base is.layout) l (begun items)
loaded-stands d image l engine base ring batches items is may copied place tail =
    let r = ring-placed base is.layout is.is.offsets is.is.batch_copies engine 0 items is.is.ring_copies may is.follows in
    record {
      copied = copied;
      tail = tail ∙ ap (λ n. 4 * n) (sym (length-all base is.layout.ring is.is.ring_copies ∙ ap length is.is.ring_is));
      place = let P : Saved → Type 0 = λ x. Follows (placed_layout base is.layout) x (begun items) in let front : P front_place = record { ring = r; first = tt; second = tt } in subst P (sym place) front;
    }
