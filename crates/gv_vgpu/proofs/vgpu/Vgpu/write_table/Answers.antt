use Rattle.std.proofs.Common.{refl, ◌∙◌, arith}
use Rattle.gv_entry.specs.SameTables.{has}
use Rattle.gv_sppgtt.specs.Serving.{roots_of}
use Rattle.gv_sppgtt.specs.State.{pages_of}
use Rattle.gv_vgpu.specs.Owners.{is_here}
use Rattle.gv_vgpu.proofs.Plain.{access-entries}
use Rattle.gv_vgpu.proofs.Written.{keeps-after, table-written}
use Rattle.gv_vgpu.proofs.vgpu.Vgpu.write_table.Goals as goal

pub returns-clause-device : goal.returns-clause-device
returns-clause-device g c =
    table-written (g.G.Gpu.state c.args.gpu.now) (g.G.Gpu.state c.write_entry.new.gpu) c.args.self.now
    (record { gtt = c.write_entry.new.self; mmio = c.args.self.now.mmio; failsafe = c.args.self.now.failsafe; engines = c.args.self.now.engines; four = c.self-1.given.0 })
    (is_here c.args.here) c.requires.holds c.write_entry.ensures.changes refl refl refl c.args.width c.args.offset c.args.value c.entry_after-entry.result c.entry_after-entry.ensures c.write_entry.ensures.device

pub returns-clause-keeps : goal.returns-clause-keeps
returns-clause-keeps g c =
    let tables = c.write_entry.ensures.table.tables in
    keeps-after (g.G.Gpu.state c.args.gpu.now) (g.G.Gpu.state c.write_entry.new.gpu) c.args.self.now
    (record { gtt = c.write_entry.new.self; mmio = c.args.self.now.mmio; failsafe = c.args.self.now.failsafe; engines = c.args.self.now.engines; four = c.self-1.given.0 })
    (is_here c.args.here) c.requires.holds c.write_entry.ensures.changes refl refl refl c.write_entry.ensures.translates
    (λ root is. ((λ i. has (roots_of (tables i)) root) ∙ is, λ i. pages_of (tables i) 4 root))

pub returns-clause-part : goal.returns-clause-part
returns-clause-part g c = access-entries 0 6 (g.G.Gpu.state c.args.gpu.now) (g.G.Gpu.state c.write_entry.new.gpu) c.args.self.now (omega arith) c.write_entry.ensures.table.device
