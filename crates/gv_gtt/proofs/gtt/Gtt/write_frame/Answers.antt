use Rattle.std.proofs.Common.{ℕ, ◌≡◌, ◌+◌, ◌*◌, ◌/◌, ◌%◌, false, Option, None, Some, ap, ◌∙◌, subst, arith}
use Rattle.std.specs.Prelude.{IfSome}
use Rattle.gv_entry.specs.Tables.{is_guarded}
use Rattle.gv_gtt.specs.Gtt.{memory_of, roots_in}
use Rattle.gv_gtt.proofs.Unguarded.{translates-written}
use Rattle.gv_gtt.proofs.gtt.Gtt.write_frame.Goals as goal

frame_at : (frame at : ℕ) → (frame * 4096 + at % 4096) / 4096 ≡ frame
frame_at frame at = omega arith

some_is : (o : Option ℕ) (x : ℕ) (P : ℕ → Type 0) → o ≡ Some x → IfSome o P → P x
some_is None x P is h = cc
some_is (Some y) x P is h = let same : y ≡ x = cc in subst P same h

pub returns-in-Some-clause-translates : goal.returns-in-Some-clause-translates
returns-in-Some-clause-translates g c =
    let d = g.G.Gpu.state c.args.gpu.now in
    let e = g.G.Gpu.state c.write.new.gpu in
    let start = c.from-start.result in
    let m = memory_of d c.args.self.now in
    let roots = roots_in c.args.self.now in
    translates-written d e c.args.self.now 1 c.args.width (start * 4096 + c.args.at % 4096) c.args.value c.requires.translates c.write.ensures.stands c.write.ensures.changes c.write.ensures.memory
    (ap (is_guarded m roots) (frame_at start c.args.at ∙ c.from-start.ensures) ∙ some_is c.args.frame c.in-Some.frame (λ f. is_guarded m roots f ≡ false) c.in-Some.is c.requires.open)
