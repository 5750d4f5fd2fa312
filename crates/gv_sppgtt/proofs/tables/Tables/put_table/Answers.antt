use Rattle.gv_sppgtt.specs.Sound.{child_entry, child_value}
use Rattle.gv_sppgtt.proofs.PutTable.{table-enters, table-sound, table-form, table-stands_for}
use Rattle.gv_sppgtt.proofs.tables.Tables.put_table.Goals as goal

pub returns-clause-sound : goal.returns-clause-sound
returns-clause-sound g c =
    let t = c.args.self.now in
    rw (c.poke.ensures, c.table_word-value.ensures)
    (table-sound (g.G.Gpu.state c.args.gpu.now) c.args.frames.now t.nodes t.chains t.owners.items t.told.items c.requires.sound c.args.level c.args.table c.args.page c.args.index
    (child_value c.args.child) (child_entry c.args.child) c.requires.node c.requires.high c.requires.few c.requires.within
    (table-form (g.G.Gpu.state c.args.gpu.now) c.args.frames.now t.nodes t.chains t.owners.items t.told.items c.requires.sound c.args.level c.requires.high c.requires.few c.args.child c.requires.child)
    (table-stands_for (g.G.Gpu.state c.args.gpu.now) c.args.frames.now t.nodes t.chains t.owners.items t.told.items c.requires.sound c.args.level c.requires.high c.requires.few c.args.child c.requires.child)
    c.requires.room)

pub returns-clause-enters : goal.returns-clause-enters
returns-clause-enters g c =
    let t = c.args.self.now in
    rw (c.poke.ensures, c.table_word-value.ensures)
    (table-enters (g.G.Gpu.state c.args.gpu.now) c.args.frames.now t.nodes t.chains t.owners.items t.told.items c.requires.sound c.args.level c.args.table c.args.page c.args.index
    (child_value c.args.child) (child_entry c.args.child) c.requires.node c.requires.high c.requires.few c.requires.within
    (table-form (g.G.Gpu.state c.args.gpu.now) c.args.frames.now t.nodes t.chains t.owners.items t.told.items c.requires.sound c.args.level c.requires.high c.requires.few c.args.child c.requires.child)
    (table-stands_for (g.G.Gpu.state c.args.gpu.now) c.args.frames.now t.nodes t.chains t.owners.items t.told.items c.requires.sound c.args.level c.requires.high c.requires.few c.args.child c.requires.child)
    c.requires.room)
