use Rattle.std.specs.List.{All}
use Rattle.std.specs.Option.{IsSome}
use Rattle.std.specs.Vec.{with_item}
use Rattle.std.proofs.lemmas.List.{append-nil}
use Rattle.gv_rmap.specs.declared.leaf.Leaf.{Leaf}
use Rattle.gv_rmap.specs.Leaves.{leaf_at, key, HasEachOnce}
use Rattle.gv_rmap.specs.Chains.{chain_of}
use Rattle.gv_sppgtt.proofs.Outside.{memory-shadow}
use Rattle.std.proofs.Common.{◌≡◌, ◌+◌, ◌<◌, ◌≤◌, arith, filter, length, List, Option, None, Some, sym, ◌∙◌, refl, subst}
use Rattle.gv_sppgtt.proofs.Flips.{Flipping, known, flip-next, flip-holds}
use Rattle.gv_sppgtt.proofs.tables.Tables.flip.Goals as goal

pub loop-leaf-init : goal.loop-leaf-init
loop-leaf-init g c =
    let h = c.requires.holds in
    record {
      split = c.into_iter-leaf-iterator.ensures.into_iter_gives ∙ c.walk-leaf-items.ensures.leaves;
      boarded = h.sound.boarded;
      local = record { labelled = h.sound.local.labelled; names = h.sound.local.names };
      readings = λ k f i. refl;
      outside = refl;
      own = refl;
      live = refl;
      pokes = omega arith;
    }

-- the walk has each leaf of the chain
known_leaf : (c : List Leaf) (w : List Leaf) → w ≡ c → HasEachOnce c w → All (λ l. leaf_at c (key l) ≡ Some l) c
known_leaf c w is each = subst (λ (x : List Leaf). All (λ l. leaf_at c (key l) ≡ Some l) x) is each.no_other

pub guard_leaf-requires-clause-live : goal.guard_leaf-requires-clause-live
guard_leaf-requires-clause-live g c =
    let start = g.G.Gpu.state c.args.gpu.now in
    let now = g.G.Gpu.state c.loop-leaf.gpu in
    let t = c.args.self.now in
    let leaf = c.in-Some.leaf in
    let inv = subst (λ (r : List Leaf). Flipping start now c.args.frames.now t c.args.frame c.args.guarded c.loop-leaf.yielded r) c.in-Some.ensures.steps c.loop-leaf.invariant in
    let all = known_leaf (chain_of t.chains c.args.frame) c.walk-leaf-items.result c.walk-leaf-items.ensures.leaves c.walk-leaf-items.ensures.each_once in
    let k = known start now c.args.frames.now t c.args.pins.now c.args.frame c.args.guarded c.requires.holds c.loop-leaf.yielded c.next.new.self leaf inv all in
    some_is _ _ (inv.local.labelled k.0 k.1 leaf.page k.2.1.0)
  where
    some_is : {A : Type 0} (o : Option A) (x : A) → o ≡ Some x → IsSome o
    some_is (Some y) x e = refl
    some_is None x e = cc

pub guard_leaf-requires-clause-within : goal.guard_leaf-requires-clause-within
guard_leaf-requires-clause-within g c =
    let start = g.G.Gpu.state c.args.gpu.now in
    let now = g.G.Gpu.state c.loop-leaf.gpu in
    let t = c.args.self.now in
    let leaf = c.in-Some.leaf in
    let inv = subst (λ (r : List Leaf). Flipping start now c.args.frames.now t c.args.frame c.args.guarded c.loop-leaf.yielded r) c.in-Some.ensures.steps c.loop-leaf.invariant in
    let all = known_leaf (chain_of t.chains c.args.frame) c.walk-leaf-items.result c.walk-leaf-items.ensures.leaves c.walk-leaf-items.ensures.each_once in
    (known start now c.args.frames.now t c.args.pins.now c.args.frame c.args.guarded c.requires.holds c.loop-leaf.yielded c.next.new.self leaf inv all).2.1.1.0

pub loop-leaf-preserved : goal.loop-leaf-preserved
loop-leaf-preserved g c =
    let start = g.G.Gpu.state c.args.gpu.now in
    let now = g.G.Gpu.state c.loop-leaf.gpu in
    let t = c.args.self.now in
    let leaf = c.in-Some.leaf in
    let inv = subst (λ (r : List Leaf). Flipping start now c.args.frames.now t c.args.frame c.args.guarded c.loop-leaf.yielded r) c.in-Some.ensures.steps c.loop-leaf.invariant in
    let all = known_leaf (chain_of t.chains c.args.frame) c.walk-leaf-items.result c.walk-leaf-items.ensures.leaves c.walk-leaf-items.ensures.each_once in
    rw (c.guard_leaf.ensures, c.page-host.ensures) (flip-next start now c.args.frames.now t c.args.pins.now c.args.frame c.args.guarded c.requires.holds c.loop-leaf.yielded c.next.new.self leaf inv all)

pub returns-clause-holds : goal.returns-clause-holds
returns-clause-holds g c =
    let start = g.G.Gpu.state c.args.gpu.now in
    let now = g.G.Gpu.state c.loop-leaf.gpu in
    let t = c.args.self.now in
    let inv = subst (λ (r : List Leaf). Flipping start now c.args.frames.now t c.args.frame c.args.guarded c.loop-leaf.yielded r) c.in-None.ensures.steps.0 c.loop-leaf.invariant in
    flip-holds start now c.args.frames.now t c.args.pins.now c.args.frame c.args.guarded c.requires.holds (record t { told = with_item t.told c.args.frame c.args.guarded }) c.loop-leaf.yielded
    (subst (λ n. c.args.frame < n) (sym c.requires.holds.sound.told_long) c.requires.frame) inv refl refl refl refl refl

pub returns-clause-memory : goal.returns-clause-memory
returns-clause-memory g c = memory-shadow (g.G.Gpu.state c.args.gpu.now) (g.G.Gpu.state c.loop-leaf.gpu) c.args.frames.now c.loop-leaf.invariant.outside c.requires.holds.stands

pub returns-clause-pokes : goal.returns-clause-pokes
returns-clause-pokes g c =
    let start = g.G.Gpu.state c.args.gpu.now in
    let now = g.G.Gpu.state c.loop-leaf.gpu in
    let t = c.args.self.now in
    let inv = subst (λ (r : List Leaf). Flipping start now c.args.frames.now t c.args.frame c.args.guarded c.loop-leaf.yielded r) c.in-None.ensures.steps.0 c.loop-leaf.invariant in
    let whole : c.loop-leaf.yielded ≡ chain_of t.chains c.args.frame = sym (append-nil c.loop-leaf.yielded) ∙ inv.split in
    subst (λ (l : List Leaf). now.pokes ≤ start.pokes + length (filter (λ leaf. leaf.writable) l)) whole inv.pokes
