use Rattle.std.proofs.Common.{◌≡◌, ℕ, ◌<◌, List, [], ◌∷◌, zero, suc, Bool, true, false, length, get_or, set, replicate, ap, sym, ◌∙◌, subst, refl, arith}
use Rattle.std.proofs.lemmas.List.{length-replicate}
use Rattle.std.proofs.lemmas.Grind.{common_steps}
use Rattle.gv_guest.specs.Placed.{Placed, Hosts}
use Rattle.gv_sggtt.specs.Mirror.{Mirrors}
use Rattle.gv_sggtt.specs.Table.{Table, guards}
use Rattle.gvtbox.proofs.layers.guard_each.Goals as goal

-- a flag that is set and cleared again
cleared : (flags : List Bool) (frame : ℕ) → get_or flags frame false ≡ false → set (set flags frame true) frame false ≡ flags
cleared [] frame was = refl
cleared (flag ∷ flags) zero was = ap (λ f. f ∷ flags) (sym was)
cleared (flag ∷ flags) (suc frame) was = ap (λ l. flag ∷ l) (cleared flags frame was)

no_flag : (n frame : ℕ) → get_or (replicate n false) frame false ≡ false
no_flag n frame = grind (arith, common_steps)

pub loop-frame-preserved : goal.loop-frame-preserved
loop-frame-preserved g c =
    let kept = c.loop-frame.invariant in
    let e = g.G.Gpu.state c.unguard.new.gpu in
    let table = c.loop-frame.table in
    let frame = c.loop-frame.frame in
    let flags : c.guard.new.self.guarded ≡ set table.guarded frame true = ap (λ (t : Table). t.guarded) c.guard.ensures.table in
    let back : c.unguard.new.self.guarded ≡ set c.guard.new.self.guarded frame false = ap (λ (t : Table). t.guarded) c.unguard.ensures.table in
    let was : get_or table.guarded frame false ≡ false = ap (λ l. get_or l frame false) (kept.guarded ∙ c.requires.free) ∙ no_flag c.args.table.now.frames frame in
    let frames : c.unguard.new.self.frames ≡ table.frames = ap (λ (t : Table). t.frames) c.unguard.ensures.table ∙ ap (λ (t : Table). t.frames) c.guard.ensures.table in
    let placed = c.unguard.ensures.frames in
    record {
      stands = subst (λ (p : Placed). Hosts e p) (sym placed) c.unguard.ensures.memory.stands;
      frames = ap (λ (p : Placed). length p.pages) (placed ∙ c.guard.ensures.frames) ∙ kept.frames ∙ sym frames;
      mirrors = subst (λ (p : Placed). Mirrors e c.unguard.new.self p) (sym placed) c.unguard.ensures.mirrors;
      pinned = c.unguard.ensures.pinned;
      same = frames ∙ kept.same;
      guarded = back ∙ ap (λ l. set l frame false) flags ∙ cleared table.guarded frame was ∙ kept.guarded;
    }
