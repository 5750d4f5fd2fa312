use Rattle.std.proofs.Common.{ℕ, ◌+◌, ◌*◌, ◌^◌, ◌≡◌, Bool, get_or, eqb, cond, None, sym, ap, ◌∙◌, arith, Option, Some, true, refl}
use Rattle.gv_entry.specs.declared.process.Process.{Process}
use Rattle.gv_rmap.specs.Leaves.{leaf_at}
use Rattle.gv_rmap.specs.Chains.{ReverseMap, chain_of}
use Rattle.gv_shape.specs.Counts.{maps, one_if, names_node}
use Rattle.gv_sppgtt.specs.Sound.{decode, leaf_entry, place_leaf, reading_at, pages_in, flag}
use Rattle.gv_sppgtt.proofs.PutLeaf.{leaf-known, pins-most, leaf-enters, leaf-sound, leaf-exact, leaf-pinned, nested}
use Rattle.gv_sppgtt.proofs.tables.Tables.put_leaf.Goals as goal
use Rattle.gv_shape.specs.Shadow.{has_leaves, Names, Pages}
use Rattle.gv_guest.specs.Placed.{Placed}
use Rattle.gv_sppgtt.proofs.Decoded.{decode-leaf}

nothing : (leaf : Option (ℕ × Bool)) (k f : ℕ) → one_if (names_node k f (leaf_entry leaf)) ≡ 0
nothing None k f = refl
nothing (Some to) k f = refl

at_level : (placed : Placed) (pages : Pages) (guarded : ℕ → Bool) (level : ℕ) → has_leaves level ≡ true → (leaf : Option (ℕ × Bool)) (word : ℕ) → Names placed pages guarded 1 (leaf_entry leaf) word → Names placed pages guarded level (leaf_entry leaf) word
at_level placed pages guarded level leafy None word h = h
at_level placed pages guarded level leafy (Some to) word h = (leafy, h.1, h.2)

pub take_leaf-requires-clause-named : goal.take_leaf-requires-clause-named
take_leaf-requires-clause-named g c h w is =
    let t = c.args.self.now in
    leaf-known (g.G.Gpu.state c.args.gpu.now) c.args.frames.now t.nodes t.chains t.owners.items t.told.items c.requires.stands c.requires.sound
    c.args.pins.now c.requires.pinned.0 c.requires.pinned.1 c.requires.few c.args.table c.args.level c.args.page c.args.index c.word-word.result c.requires.leaves c.requires.node c.requires.within c.word-word.ensures h w is

pub enter_leaf-value-requires-clause-room : goal.enter_leaf-value-requires-clause-room
enter_leaf-value-requires-clause-room g c h low =
    let t = c.args.self.now in
    let most = pins-most (g.G.Gpu.state c.args.gpu.now) c.args.frames.now t.nodes t.chains t.owners.items t.told.items c.requires.stands c.requires.sound
    c.args.pins.now c.requires.pinned.0 c.requires.pinned.1 c.requires.few h low in
    let took = c.take_leaf.ensures.pins h in
    omega arith

-- the facts that the proofs of all three clauses take
linked_at : (before between after : ReverseMap) (page index : ℕ) (e : Process)
    → ((h q : ℕ) → leaf_at (chain_of between h) q ≡ cond (eqb q (page * 2 ^ 16 + index)) None (leaf_at (chain_of before h) q))
    → ((h q : ℕ) → leaf_at (chain_of after h) q ≡ cond (eqb q (page * 2 ^ 16 + index)) (place_leaf page index h e) (leaf_at (chain_of between h) q))
    → (h q : ℕ) → leaf_at (chain_of after h) q ≡ cond (eqb q (page * 2 ^ 16 + index)) (place_leaf page index h e) (leaf_at (chain_of before h) q)
linked_at before between after page index e gone put h q = put h q ∙ nested (eqb q (page * 2 ^ 16 + index)) (place_leaf page index h e) (leaf_at (chain_of between h) q) (leaf_at (chain_of before h) q) None (gone h q)

pub returns-clause-sound : goal.returns-clause-sound
returns-clause-sound g c =
    let t = c.args.self.now in
    let m = c.take_leaf.new.self in
    let n = c.enter_leaf-value.new.self in
    let d = g.G.Gpu.state c.args.gpu.now in
    let put = c.enter_leaf-value.ensures in
    let took = c.take_leaf.ensures in
    rw (c.poke.ensures, put.nodes, took.nodes, put.told, took.told)
    (leaf-sound d c.args.frames.now t.nodes t.chains t.owners.items t.told.items c.requires.stands c.requires.sound
    c.args.table c.args.level c.args.page c.args.index c.enter_leaf-value.result (leaf_entry c.args.leaf) (nothing c.args.leaf) c.requires.leaves n.chains n.owners.items c.requires.node c.requires.within
    (at_level c.args.frames.now (pages_in t.nodes) (flag t.told.items) c.args.level c.requires.leaves c.args.leaf c.enter_leaf-value.result (rw took.told at (put.named (pages_in t.nodes)))) (decode-leaf n.owners.items c.args.level c.enter_leaf-value.result c.requires.leaves ∙ put.stands_for) (linked_at t.chains m.chains n.chains c.args.page c.args.index (leaf_entry c.args.leaf) took.gone put.linked)
    (rw took.owners at put.at_frames) (rw took.owners at put.at_others) (put.long ∙ took.long) put.owners (put.order (took.order c.requires.sound.chained.ordered)))

pub returns-clause-enters : goal.returns-clause-enters
returns-clause-enters g c =
    let t = c.args.self.now in
    let m = c.take_leaf.new.self in
    let n = c.enter_leaf-value.new.self in
    let d = g.G.Gpu.state c.args.gpu.now in
    let put = c.enter_leaf-value.ensures in
    let took = c.take_leaf.ensures in
    rw (c.poke.ensures, put.nodes, took.nodes)
    (leaf-enters d c.args.frames.now t.nodes t.chains t.owners.items t.told.items c.requires.stands c.requires.sound
    c.args.table c.args.level c.args.page c.args.index c.enter_leaf-value.result (leaf_entry c.args.leaf) (nothing c.args.leaf) c.requires.leaves n.chains n.owners.items c.requires.node c.requires.within
    (at_level c.args.frames.now (pages_in t.nodes) (flag t.told.items) c.args.level c.requires.leaves c.args.leaf c.enter_leaf-value.result (rw took.told at (put.named (pages_in t.nodes)))) (decode-leaf n.owners.items c.args.level c.enter_leaf-value.result c.requires.leaves ∙ put.stands_for) (linked_at t.chains m.chains n.chains c.args.page c.args.index (leaf_entry c.args.leaf) took.gone put.linked)
    (rw took.owners at put.at_frames) (rw took.owners at put.at_others) (put.long ∙ took.long) put.owners)

pub returns-clause-pinned : goal.returns-clause-pinned
returns-clause-pinned g c =
    let t = c.args.self.now in
    let m = c.take_leaf.new.self in
    let n = c.enter_leaf-value.new.self in
    let d = g.G.Gpu.state c.args.gpu.now in
    let put = c.enter_leaf-value.ensures in
    let took = c.take_leaf.ensures in
    let old : decode t.owners.items 1 c.word-word.result ≡ reading_at d.words t.owners.items c.args.level (pages_in t.nodes c.args.level c.args.table) c.args.index =
    sym (decode-leaf t.owners.items c.args.level c.word-word.result c.requires.leaves) ∙ ap (decode t.owners.items c.args.level) c.word-word.ensures ∙ sym (ap (λ o. reading_at d.words t.owners.items c.args.level o c.args.index) c.requires.node) in (
      put.counted ∙ took.counted ∙ c.requires.pinned.0,
      rw (c.poke.ensures, put.nodes, took.nodes)
          (leaf-pinned d c.args.frames.now t.nodes t.chains t.owners.items t.told.items c.requires.stands c.requires.sound
          c.args.table c.args.level c.args.page c.args.index c.enter_leaf-value.result (leaf_entry c.args.leaf) (nothing c.args.leaf) c.requires.leaves n.chains n.owners.items c.requires.node c.requires.within
          (at_level c.args.frames.now (pages_in t.nodes) (flag t.told.items) c.args.level c.requires.leaves c.args.leaf c.enter_leaf-value.result (rw took.told at (put.named (pages_in t.nodes)))) (decode-leaf n.owners.items c.args.level c.enter_leaf-value.result c.requires.leaves ∙ put.stands_for) (linked_at t.chains m.chains n.chains c.args.page c.args.index (leaf_entry c.args.leaf) took.gone put.linked)
          (rw took.owners at put.at_frames) (rw took.owners at put.at_others) (put.long ∙ took.long) put.owners
          c.args.pins.now c.take_leaf.new.pins c.enter_leaf-value.new.pins c.requires.pinned.1
          (λ h. ap (λ e. get_or c.take_leaf.new.pins h 0 + one_if (maps h e)) (sym old) ∙ took.pins h) put.pins),
    )

pub returns-clause-exact : goal.returns-clause-exact
returns-clause-exact g c =
    let t = c.args.self.now in
    let m = c.take_leaf.new.self in
    let n = c.enter_leaf-value.new.self in
    let d = g.G.Gpu.state c.args.gpu.now in
    let put = c.enter_leaf-value.ensures in
    let took = c.take_leaf.ensures in
    let old : decode t.owners.items 1 c.word-word.result ≡ reading_at d.words t.owners.items c.args.level (pages_in t.nodes c.args.level c.args.table) c.args.index =
    sym (decode-leaf t.owners.items c.args.level c.word-word.result c.requires.leaves) ∙ ap (decode t.owners.items c.args.level) c.word-word.ensures ∙ sym (ap (λ o. reading_at d.words t.owners.items c.args.level o c.args.index) c.requires.node) in
    rw (c.poke.ensures, put.nodes, took.nodes)
    (leaf-exact d c.args.frames.now t.nodes t.chains t.owners.items t.told.items c.requires.stands c.requires.sound
    c.args.table c.args.level c.args.page c.args.index c.enter_leaf-value.result (leaf_entry c.args.leaf) (nothing c.args.leaf) c.requires.leaves n.chains n.owners.items c.requires.node c.requires.within
    (at_level c.args.frames.now (pages_in t.nodes) (flag t.told.items) c.args.level c.requires.leaves c.args.leaf c.enter_leaf-value.result (rw took.told at (put.named (pages_in t.nodes)))) (decode-leaf n.owners.items c.args.level c.enter_leaf-value.result c.requires.leaves ∙ put.stands_for) (linked_at t.chains m.chains n.chains c.args.page c.args.index (leaf_entry c.args.leaf) took.gone put.linked)
    (rw took.owners at put.at_frames) (rw took.owners at put.at_others) (put.long ∙ took.long) put.owners
    c.args.pins.now c.take_leaf.new.pins c.enter_leaf-value.new.pins
    (λ h. ap (λ e. get_or c.take_leaf.new.pins h 0 + one_if (maps h e)) (sym old) ∙ took.pins h) put.pins)
