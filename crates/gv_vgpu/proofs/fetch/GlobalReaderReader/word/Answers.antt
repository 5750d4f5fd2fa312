use Rattle.std.proofs.Common.{◌∙◌}
use Rattle.gv_private.specs.Device.{new_device}
use Rattle.gv_vgpu.specs.Seen.{seen_in, space_seen}
use Rattle.gv_vgpu.proofs.fetch.GlobalReaderReader.word.Goals as goal

pub returns : goal.returns
returns g c =
    c.read_dword.ensures (new_device 0 0 c.args.self.now.ranges)
    ∙ (λ i. (space_seen (seen_in (g.G.Gpu.state c.self.inside.gpu.now) c.self.inside.gtt.now)).word (c.from.ensures i))
    ∙ (λ i. (space_seen (c.self.view_is i)).word c.args.at)
