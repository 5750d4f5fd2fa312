-- A context that is put away, and one that is brought back.
use Rattle.std.proofs.Common.{◌≡◌, ℕ, None, Some, refl, sym, subst}
use Rattle.gv_ctx.specs.Saved.{fields_of}
use Rattle.gv_fetch.specs.Left.{Left}
use Rattle.gv_gpu.specs.Context.{context_of, stopped, context_submitted}
use Rattle.gv_gpu.specs.Device.{Device, Loaded, with_loaded}
use Rattle.gv_scan.specs.Layout.{Layout}
use Rattle.gv_sctx.specs.Context.{HasImage, HoldsContext, FitsDwords}
use Rattle.gv_sctx.proofs.Dwords.{fields_in}
use Rattle.gv_sctx.proofs.Saving.{with_words, put-other, stopped-is, stopped-context, submitted-context}
use Rattle.gv_place.specs.Place.{StandsFor, KeepsShadow}
use Rattle.gv_place.proofs.Kept.{stands-kept}

pub stopped-stands : (d : Device) (engine image : ℕ) (p : Layout) (l : Loaded) (w : Left) → d.loaded engine ≡ Some l → HasImage d l.owner l.descriptor image → HoldsContext d l → FitsDwords l.place → StandsFor d image p l w
    → StandsFor (stopped d engine) image p (context_of (stopped d engine) l.owner l.descriptor) w
stopped-stands d engine image p l w is has holds small stands =
    let words = fields_in (d.words image) (fields_of l.place) 7 in
    let away = with_words d image words in
    let e = with_loaded away engine None in
    let keeps : KeepsShadow l.owner image d e = record { entry = λ i window. refl; label = λ q own. refl; words = λ q own differ. put-other d.words image words q differ } in
    let P : Device → Type 0 = λ x. StandsFor x image p l w in
    let Q : Loaded → Type 0 = λ x. StandsFor (stopped d engine) image p x w in
    subst Q (sym (stopped-context d image engine l is has small holds)) (subst P (sym (stopped-is d image engine l is has small)) (stands-kept d e image p l w keeps stands))

pub submitted-stands : (d : Device) (engine image owner descriptor : ℕ) (p : Layout) (w : Left) → d.loaded engine ≡ None → StandsFor d image p (context_of d owner descriptor) w
    → StandsFor (context_submitted d engine owner descriptor) image p (context_of d owner descriptor) w
submitted-stands d engine image owner descriptor p w none stands =
    let l = context_of d owner descriptor in
    let e = with_loaded d engine (Some l) in
    let keeps : KeepsShadow l.owner image d e = record { entry = λ i window. refl; label = λ q own. refl; words = λ q own differ. refl } in
    let P : Device → Type 0 = λ x. StandsFor x image p l w in
    subst P (sym (submitted-context d engine owner descriptor none)) (stands-kept d e image p l w keeps stands)
