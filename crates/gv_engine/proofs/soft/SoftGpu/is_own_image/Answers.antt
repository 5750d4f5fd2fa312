use Rattle.std.proofs.Common.{◌≡◌, ◌||◌, ◌∙◌, ap, Bool, ◌+◌, true}
use Rattle.gv_gpu.specs.Physical.{is_page, is_own_image, read_page}
use Rattle.gv_engine.specs.Whole.{whole}
use Rattle.gv_engine.proofs.soft.SoftGpu.is_own_image.Goals as goal

joined : {a b c d r : Bool} → r ≡ (a || b) → a ≡ c → b ≡ d → r ≡ (c || d)
joined {b = b} {c = c} e first second = e ∙ ap (λ x. x || b) first ∙ ap (λ x. c || x) second

pub returns : goal.returns
unfolding is_own_image
returns c =
    let d = whole c.args.self.now in
    let root = c.args.context.now.root in
    let page = c.args.page in
    joined c.either.ensures
    (c.is_page.ensures ∙ ap (λ p. is_page p page) (c.read_page-first.ensures root) ∙ ap (λ at. is_page (read_page d root true at) page) c.image_of-image.ensures.value)
    (c.is_page-2.ensures ∙ ap (λ p. is_page p page) (c.read_page-second.ensures root) ∙ ap (λ at. is_page (read_page d root true (at + 4096)) page) c.image_of-image.ensures.value)
