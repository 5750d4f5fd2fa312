use Rattle.gv_vgpu.specs.Vgpu.{private_of}
use Rattle.gv_vgpu.specs.Owners.{is_here}
use Rattle.gv_vgpu.proofs.Refused.{refused-fetch, scanned-here}
use Rattle.gv_vgpu.proofs.vgpu.Vgpu.fetch_into.Goals as goal

pub put_to_work-requires-clause-items : goal.put_to_work-requires-clause-items
put_to_work-requires-clause-items g c =
    let d = g.G.Gpu.state c.args.gpu.now in
    let here = is_here c.args.here in
    scanned-here d c.args.self.now here c.requires.holds c.args.engine.0 c.args.image.now c.in-Ok.program.ring.items c.in-Ok.program.batches.items (c.in-Ok.ensures.items (private_of d c.args.self.now here))

pub returns-in-Err-clause-refuses : goal.returns-in-Err-clause-refuses
returns-in-Err-clause-refuses g c =
    let d = g.G.Gpu.state c.args.gpu.now in
    let here = is_here c.args.here in
    refused-fetch d c.args.self.now here c.requires.holds c.args.engine.0 c.args.image.now c.in-Err.refusal (c.in-Err.ensures.refused (private_of d c.args.self.now here))
