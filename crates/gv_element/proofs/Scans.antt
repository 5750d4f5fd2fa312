-- What a scan gives may be loaded.
use Rattle.std.proofs.Common.{ℕ, List, length, subst}
use Rattle.gv_cmd.specs.declared.stands.Stands.TheVariants.{Ring}
use Rattle.gv_ctx.specs.Image.{IsImage}
use Rattle.gv_ctx.specs.declared.image.Image.{Image}
use Rattle.gv_fetch.specs.Fetch.{GlobalSpace, fetched, ring_dwords}
use Rattle.gv_fetch.specs.Items.{MayAllStand}
use Rattle.gv_fetch.proofs.Fetched.{fetched-ring, fetched-short}
use Rattle.gv_fetch.proofs.Forms.{ring-forms}
use Rattle.gv_scan.specs.Scan.{Scanned}
use Rattle.gv_element.specs.Works.{IsProgramOf}

pub scanned-loads : (space : GlobalSpace) (engine : ℕ) (image : Image) (ring batches : List ℕ) → IsImage image → (scanned : Scanned (fetched space engine image) ring batches) → IsProgramOf engine ring batches scanned.items
scanned-loads space engine image ring batches form scanned =
    let f = fetched-ring space engine image scanned.items scanned.is in
    record {
      program = scanned.program;
      stand = subst (MayAllStand Ring engine) f.same (ring-forms space engine (length (ring_dwords space image)) (ring_dwords space image) 262144 f.got f.is);
      short = fetched-short space engine image scanned.items form scanned.is;
    }
