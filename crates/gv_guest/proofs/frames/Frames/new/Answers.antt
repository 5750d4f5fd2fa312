use Rattle.std.proofs.Common.{◌∷◌, ◌++◌, ◌+◌, [], ap, ◌∙◌, arith}
use Rattle.std.proofs.lemmas.List.{replicate_more}
use Rattle.gv_types.specs.Memory.{zero_words}
use Rattle.gv_guest.specs.Placed.{Placed}
use Rattle.gv_guest.proofs.Added.{stands-added, memory-added, frames-added}
use Rattle.gv_guest.proofs.frames.Frames.new.Goals as goal

pub loop-frame-preserved : goal.loop-frame-preserved
loop-frame-preserved g c =
    let d = g.G.Gpu.state c.loop-frame.gpu in
    let placed : Placed = record { guest = c.args.guest.0; pages = c.loop-frame.pages.items } in
    let page = c.in_ok-page.page in
    let kept = c.loop-frame.invariant in
    let given = c.in_ok-page.ensures in
    let items = rw c.unwrap.ensures at c.push.ensures.items in
    let longer = rw c.unwrap.ensures at c.push.ensures.len in
    rw (items, given.ok) (record {
      stands = stands-added d placed page kept.stands given.fresh given.below;
      memory = memory-added d placed page kept.stands given.fresh ∙ ap (λ m. m ++ zero_words ∷ []) kept.memory ∙ replicate_more _ _;
      frames = longer ∙ ap (λ n. n + 1) kept.frames;
      room = omega (arith, c.push.ensures.capacity);
      live = omega arith;
      outside = frames-added d placed page kept.stands given.fresh given.empty ∙ kept.outside;
    })
