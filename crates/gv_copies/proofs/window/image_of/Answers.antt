use Rattle.std.proofs.Common.{◌≡◌, Option, Some, refl, ap, sym, subst, ◌∙◌}
use Rattle.std.specs.Prelude.{IsSome}
use Rattle.gv_types.specs.declared.ids.Label.{Label}
use Rattle.gv_copies.proofs.window.image_of.Goals as goal

some : (o : Option Label) (l : Label) → o ≡ Some l → IsSome o
some o l is = let there : IsSome (Some l) = refl in subst (λ (x : Option Label). IsSome x) (sym is) there

pub returns : goal.returns
returns g c = some _ _ (ap (g.G.Gpu.state c.args.gpu.now).label c.image.ensures.page ∙ c.requires.label 1 c.image.ensures.there)
