use Rattle.std.proofs.Common.{◌≡◌, ℕ, ◌+◌, ◌*◌, ◌<◌, List, length, ap, sym, subst, ◌∙◌}
use Rattle.gv_sring.specs.Packing.{ArePlaced}
use Rattle.gv_sring.specs.Window.{Window, batches_address}
use Rattle.gv_sring.proofs.Built.{built-copied}
use Rattle.gv_sring.proofs.shadow.build.Goals as goal

-- dwords that are placed, by equal ones
moved : (a b : ℕ) (xs ys us vs : List ℕ) → a ≡ b → xs ≡ ys → us ≡ vs → ArePlaced a xs us → ArePlaced b ys vs
moved a b xs ys us vs base words after are =
    let P : ℕ → Type 0 = λ n. ArePlaced n ys vs in
    let Q : List ℕ → Type 0 = λ ws. ArePlaced a ws vs in
    let R : List ℕ → Type 0 = λ ws. ArePlaced a xs ws in
    subst P base (subst Q words (subst R after are))

pub returns-in-Ok-clause-copy : goal.returns-in-Ok-clause-copy
returns-in-Ok-clause-copy g c =
    let w = c.fill_window.new.pages in
    let is = c.in-Ok.ensures.grows.same ∙ ap (λ (x : Window). record x { pages = w.pages }) c.new-pages.ensures in
    let guest = ap (λ (x : Window). x.guest) is in
    let engine = ap (λ (x : Window). x.engine) is in
    let small_guest : w.guest < 8 = subst (λ n. n < 8) (sym guest) c.requires.guest in
    let small_engine : w.engine < 4 = subst (λ n. n < 4) (sym engine) c.requires.engine in
    let ring_is = c.deref-3.ensures.value in
    let batches_is = c.deref-4.ensures.value in
    let tail = ap (λ (x : Window). x.tail) is ∙ ap (λ n. 4 * n) (c.len.ensures ∙ c.in_ok-ring.ring.ok.0 ∙ ap length (sym ring_is)) in
    let base : (c.first_of_window.result + 0x20) * 4096 ≡ batches_address w.guest w.engine =
    ap (λ n. (n + 0x20) * 4096) c.first_of_window.ensures ∙ ap (λ n. batches_address n c.args.engine.0) (sym guest) ∙ ap (batches_address w.guest) (sym engine) in
    built-copied (g.G.Gpu.state c.fill_window.new.gpu) w small_guest small_engine c.in-Ok.ensures.shows
    c.args.program.now.ring.items c.args.program.now.batches.items c.deref-3.result.now c.deref-4.result.now
    tail
    (ap length ring_is ∙ c.in_ok-ring.ensures.count ∙ ap length c.deref.ensures.value)
    (ap length batches_is ∙ c.in_ok-batches.ensures.count ∙ ap length c.deref-2.ensures.value)
    c.requires.fits.ring_few c.requires.fits.batches_few c.in-Ok.ensures.count c.in-Ok.ensures.ring c.in-Ok.ensures.batches
    (moved _ _ _ _ _ _ base c.deref.ensures.value (sym ring_is) c.in_ok-ring.ensures.placed)
    (moved _ _ _ _ _ _ base c.deref-2.ensures.value (sym batches_is) c.in_ok-batches.ensures.placed)
