use Rattle.gv_vgpu.proofs.vgpu.Vgpu.write_range.Goals as goal

pub returns-else-offset-lt-TABLE_AT-clause-part : goal.returns-else-offset-lt-TABLE_AT-clause-part
returns-else-offset-lt-TABLE_AT-clause-part g c = λ plain. c.write_table.ensures.part
