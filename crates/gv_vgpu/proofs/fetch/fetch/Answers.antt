use Rattle.std.proofs.Common.{sym, ◌∙◌, subst}
use Rattle.gv_fetch.specs.Fetch.{GlobalSpace, fetched}
use Rattle.gv_scan.specs.Scan.{IsScanFault, Scanned}
use Rattle.gv_scan.specs.declared.fault.ScanFault.{ScanFault}
use Rattle.gv_vgpu.specs.Seen.{seen_in, space_seen}
use Rattle.gv_vgpu.proofs.Images.{space-is}
use Rattle.gv_vgpu.proofs.fetch.fetch.Goals as goal

pub returns-in-Ok-clause-items : goal.returns-in-Ok-clause-items
returns-in-Ok-clause-items g c = λ p.
    subst (λ (space : GlobalSpace). Scanned (fetched space c.args.engine.0 c.args.image.now) c.in-Ok.program.ring.items c.in-Ok.program.batches.items)
    (space-is (g.G.Gpu.state c.args.gpu.now) c.args.gtt.now p c.requires.parts) c.in-Ok.ensures.items

pub returns-in-Err-Refused-clause-refused : goal.returns-in-Err-Refused-clause-refused
returns-in-Err-Refused-clause-refused g c = λ p.
    let space = space_seen (seen_in (g.G.Gpu.state c.args.gpu.now) c.args.gtt.now) in
    (λ i. fetched (sym (space-is (g.G.Gpu.state c.args.gpu.now) c.args.gtt.now p c.requires.parts) i) c.args.engine.0 c.args.image.now)
    ∙ subst (λ (fault : ScanFault). IsScanFault (fetched space c.args.engine.0 c.args.image.now) fault) c.in-Err-Refused.field-0-is c.in-Err-Refused.ensures.fault
