use Rattle.std.proofs.Common.{◌≡◌, ◌+◌, true, Ok, Err}
use Rattle.gv_entry.specs.Ranges.{owns_page}
use Rattle.gv_gtt.specs.Gtt.{over, ranges_of}
use Rattle.gv_vgpu.proofs.Images.{image-is}
use Rattle.gv_vgpu.proofs.fetch.image.Goals.{then-owns, else-owns}
use Rattle.gv_vgpu.proofs.fetch.image.Goals as goal

pub returns-in-Ok-clause-image : goal.returns-in-Ok-clause-image
returns-in-Ok-clause-image g c = λ p.
    let first : owns_page (ranges_of c.args.gtt.now) c.args.descriptor.page ≡ true = elim c.if-owns.branch [ then-owns w ↦ cc | else-owns w ↦ cc ] in
    let second : owns_page (ranges_of c.args.gtt.now) (c.args.descriptor.page + 1) ≡ true = elim c.if-owns.branch [ then-owns w ↦ cc | else-owns w ↦ cc ] in
    image-is (over p (g.G.Gpu.state c.args.gpu.now) c.args.gtt.now) c.args.descriptor c.image_page.result (Ok c.in-Ok.image) c.if-descriptor-ne3.false first second (c.image_page.ensures p) c.in-Ok.ensures.value

pub returns-in-Err-clause-image : goal.returns-in-Err-clause-image
returns-in-Err-clause-image g c = λ p.
    let first : owns_page (ranges_of c.args.gtt.now) c.args.descriptor.page ≡ true = elim c.if-owns.branch [ then-owns w ↦ cc | else-owns w ↦ cc ] in
    let second : owns_page (ranges_of c.args.gtt.now) (c.args.descriptor.page + 1) ≡ true = elim c.if-owns.branch [ then-owns w ↦ cc | else-owns w ↦ cc ] in
    image-is (over p (g.G.Gpu.state c.args.gpu.now) c.args.gtt.now) c.args.descriptor c.image_page.result (Err c.in-Err.field-0) c.if-descriptor-ne3.false first second (c.image_page.ensures p) c.in-Err.ensures.value
