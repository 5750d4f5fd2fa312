use Rattle.std.proofs.Common.{ℕ, List, Option, Some, IsSome, sym, ap, ◌∙◌, subst, arith}
use Rattle.gv_types.specs.declared.ids.Label.{Label}
use Rattle.gv_rmap.specs.declared.leaf.Leaf.{Leaf}
use Rattle.gv_sggtt.proofs.Slots.{slot-within}
use Rattle.gv_sggtt.proofs.Setting.{Setting, setting-first, setting-next, setting-done, slot-there}
use Rattle.gv_sggtt.proofs.table.set_entries.Goals as goal

pub loop-leaf-init : goal.loop-leaf-init
loop-leaf-init g c =
    let d = g.G.Gpu.state c.args.gpu.now in
    rw (c.into_iter-leaf-iterator.ensures.into_iter_gives, c.naming-leaf-items.ensures)
    (setting-first c.args.ranges.now c.args.entries.now.values c.args.entries.now.frames c.args.frame c.args.entry d c.requires.whole (slot-within c.args.ranges.now))

pub slot_of_leaf-requires : goal.slot_of_leaf-requires
slot_of_leaf-requires g c =
    let start = g.G.Gpu.state c.args.gpu.now in
    let now = g.G.Gpu.state c.loop-leaf.gpu in
    let values = c.args.entries.now.values in
    let left = subst (λ (left : List Leaf). Setting c.args.ranges.now values c.args.entries.now.frames c.args.frame c.args.entry start now left c.loop-leaf.count) c.in-Some.ensures.steps c.loop-leaf.invariant in
    let there = slot-there c.args.ranges.now values c.args.entries.now.frames c.args.frame c.args.entry start now c.in-Some.leaf c.next.new.self c.loop-leaf.count left in
    let parts = c.requires.parts in
    let whole = c.requires.whole in
    omega arith

pub page_at-requires-clause-within : goal.page_at-requires-clause-within
page_at-requires-clause-within g c =
    let start = g.G.Gpu.state c.args.gpu.now in
    let now = g.G.Gpu.state c.loop-leaf.gpu in
    let values = c.args.entries.now.values in
    let left = subst (λ (left : List Leaf). Setting c.args.ranges.now values c.args.entries.now.frames c.args.frame c.args.entry start now left c.loop-leaf.count) c.in-Some.ensures.steps c.loop-leaf.invariant in
    let there = slot-there c.args.ranges.now values c.args.entries.now.frames c.args.frame c.args.entry start now c.in-Some.leaf c.next.new.self c.loop-leaf.count left in
    let is = c.slot_of_leaf.ensures in
    let whole = c.requires.whole in
    omega arith

pub set_global-requires-clause-live : goal.set_global-requires-clause-live
set_global-requires-clause-live g c =
    subst (λ (label : ℕ → Option Label). (page : ℕ) × IsSome (label page)) (sym c.loop-leaf.invariant.labels) c.requires.live

pub loop-leaf-preserved : goal.loop-leaf-preserved
loop-leaf-preserved g c =
    let start = g.G.Gpu.state c.args.gpu.now in
    let now = g.G.Gpu.state c.loop-leaf.gpu in
    let ranges = c.args.ranges.now in
    let values = c.args.entries.now.values in
    let frames = c.args.entries.now.frames in
    let left = subst (λ (left : List Leaf). Setting ranges values frames c.args.frame c.args.entry start now left c.loop-leaf.count) c.in-Some.ensures.steps c.loop-leaf.invariant in
    let at = c.page_at.ensures.slot ∙ ap (λ i. Some i) c.slot_of_leaf.ensures in
    rw c.set_global.ensures
    (setting-next ranges values frames c.args.frame c.args.entry start now c.in-Some.leaf c.next.new.self c.loop-leaf.count left c.page_at.result c.requires.parts at c.page_at.ensures.owned)

pub returns : goal.returns
returns g c =
    let start = g.G.Gpu.state c.args.gpu.now in
    let now = g.G.Gpu.state c.loop-leaf.gpu in
    let ranges = c.args.ranges.now in
    let values = c.args.entries.now.values in
    let frames = c.args.entries.now.frames in
    let none = subst (λ (left : List Leaf). Setting ranges values frames c.args.frame c.args.entry start now left c.loop-leaf.count) (c.in-None.ensures.steps.0) c.loop-leaf.invariant in
    record {
      count = let counted = none.counted in omega arith;
      entries = setting-done ranges values frames c.args.frame c.args.entry start now c.loop-leaf.count none;
      changes = none.changes;
    }
