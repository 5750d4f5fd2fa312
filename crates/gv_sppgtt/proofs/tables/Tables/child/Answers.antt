use Rattle.std.proofs.Common.{◌/◌, ◌%◌, length, sym, ap, ◌∙◌, arith, subst}
use Rattle.std.proofs.lemmas.Bool.{eq-eqb, ne_eqb}
use Rattle.gv_shape.specs.Counts.{naming}
use Rattle.gv_sppgtt.specs.Sound.{IsBelow}
use Rattle.gv_sppgtt.proofs.Words.{table-named, table-reads, split-reads}
use Rattle.gv_sppgtt.proofs.tables.Tables.child.Goals as goal

pub index-owner-requires : goal.index-owner-requires
index-owner-requires g c =
    let t = c.args.self.now in
    let h = c.requires.holds in
    rw t.owners.ok.0 (table-named (g.G.Gpu.state c.args.gpu.now) c.args.frames.now t.nodes t.chains t.owners.items t.told.items h.sound c.args.level c.args.frame c.args.page c.args.index c.word-word.result c.requires.node c.requires.high c.requires.few c.requires.within c.word-word.ensures (omega arith))

pub returns-then-word-eq1-clause-some : goal.returns-then-word-eq1-clause-some
returns-then-word-eq1-clause-some g c =
    let t = c.args.self.now in
    let h = c.requires.holds in
    (split-reads (g.G.Gpu.state c.args.gpu.now) c.args.frames.now t.nodes t.chains t.owners.items t.told.items h.sound c.args.level c.args.frame c.args.page c.args.index c.word-word.result c.requires.node c.requires.high c.requires.few c.requires.within c.word-word.ensures (omega arith) c.index-owner.result.now c.index-owner.ensures (eq-eqb (c.word-word.result / 4 % 2) 1 c.if-word-eq1.true)).0 ∙ sym (ap (λ l. naming l c.index-owner.result.now) c.split_level.ensures)

pub returns-then-word-eq1-clause-below : goal.returns-then-word-eq1-clause-below
returns-then-word-eq1-clause-below g c =
    let t = c.args.self.now in
    let h = c.requires.holds in
    subst (λ l. IsBelow (length c.args.frames.now.pages) c.args.level c.index-owner.result.now l) (sym c.split_level.ensures) (split-reads (g.G.Gpu.state c.args.gpu.now) c.args.frames.now t.nodes t.chains t.owners.items t.told.items h.sound c.args.level c.args.frame c.args.page c.args.index c.word-word.result c.requires.node c.requires.high c.requires.few c.requires.within c.word-word.ensures (omega arith) c.index-owner.result.now c.index-owner.ensures (eq-eqb (c.word-word.result / 4 % 2) 1 c.if-word-eq1.true)).1

pub returns-else-word-eq1-clause-some : goal.returns-else-word-eq1-clause-some
returns-else-word-eq1-clause-some g c =
    let t = c.args.self.now in
    let h = c.requires.holds in
    (table-reads (g.G.Gpu.state c.args.gpu.now) c.args.frames.now t.nodes t.chains t.owners.items t.told.items h.sound c.args.level c.args.frame c.args.page c.args.index c.word-word.result c.requires.node c.requires.high c.requires.few c.requires.within c.word-word.ensures (omega arith) c.index-owner.result.now c.index-owner.ensures (ne_eqb (c.word-word.result / 4 % 2) 1 c.if-word-eq1.false)).0

pub returns-else-word-eq1-clause-below : goal.returns-else-word-eq1-clause-below
returns-else-word-eq1-clause-below g c =
    let t = c.args.self.now in
    let h = c.requires.holds in
    (table-reads (g.G.Gpu.state c.args.gpu.now) c.args.frames.now t.nodes t.chains t.owners.items t.told.items h.sound c.args.level c.args.frame c.args.page c.args.index c.word-word.result c.requires.node c.requires.high c.requires.few c.requires.within c.word-word.ensures (omega arith) c.index-owner.result.now c.index-owner.ensures (ne_eqb (c.word-word.result / 4 % 2) 1 c.if-word-eq1.false)).1
