use Rattle.std.proofs.Common.{◌∙◌, slice_index_or}
use Rattle.std.proofs.lemmas.Result.{MatchResult-weaker, on_ok_weaker}
use Rattle.gv_vgpu.specs.Vgpu.{no_engine, private_of}
use Rattle.gv_vgpu.specs.Owners.{is_here}
use Rattle.gv_vgpu.proofs.Refused.{load-fetches, refused-image, refused-load, refused-root}
use Rattle.gv_vgpu.proofs.Registers.{load-then}
use Rattle.gv_vgpu.proofs.Stopping.{on-err}
use Rattle.gv_vgpu.proofs.Unsubmitted.{engines-then, loads-behind}
use Rattle.gv_vgpu.proofs.Steps.{announced-has}
use Rattle.gv_vgpu.proofs.vgpu.Vgpu.bring_in.Goals as goal

pub returns-in-Err-clause-refuses : goal.returns-in-Err-clause-refuses
returns-in-Err-clause-refuses g c =
    let d = g.G.Gpu.state c.args.gpu.now in
    let here = is_here c.args.here in
    refused-image d c.args.self.now here c.requires.holds c.args.engine.0 c.args.descriptor c.of.result c.in-Err.reason c.of.ensures (c.in-Err.ensures.image (private_of d c.args.self.now here))

pub fetch_into-requires-clause-root : goal.fetch_into-requires-clause-root
fetch_into-requires-clause-root g c =
    let here = is_here c.args.here in
    announced-has (private_of (g.G.Gpu.state c.args.gpu.now) c.args.self.now here) (private_of (g.G.Gpu.state c.announce.new.gpu) c.announce.new.self here) c.in-Ok.image.root c.in-Ok-announce.ensures.device

pub returns-in-Ok-announce-clause-device : goal.returns-in-Ok-announce-clause-device
returns-in-Ok-announce-clause-device g c =
    let d = g.G.Gpu.state c.args.gpu.now in
    let here = is_here c.args.here in
    let p = private_of d c.args.self.now here in
    on_ok_weaker c.fetch_into.result
    (λ is. load-fetches d c.args.self.now here c.requires.holds c.args.engine.0 c.args.descriptor c.of.result c.in-Ok.image c.of.ensures (c.in-Ok.ensures.image p) (g.G.Gpu.state c.announce.new.gpu) c.announce.new.self c.in-Ok-announce.ensures.device ∙ is)
    c.fetch_into.ensures.device

pub returns-in-Ok-announce-clause-keeps : goal.returns-in-Ok-announce-clause-keeps
returns-in-Ok-announce-clause-keeps g c =
    on_ok_weaker c.fetch_into.result
    (λ loads. load-then (is_here c.args.here) (g.G.Gpu.state c.args.gpu.now) (g.G.Gpu.state c.announce.new.gpu) (g.G.Gpu.state c.fetch_into.new.gpu) c.args.self.now c.announce.new.self c.fetch_into.new.self
    (λ k i. (slice_index_or (c.announce.ensures.engines i) k no_engine).element) c.in-Ok-announce.ensures.keeps loads)
    c.fetch_into.ensures.keeps

pub returns-in-Ok-announce-clause-refuses : goal.returns-in-Ok-announce-clause-refuses
returns-in-Ok-announce-clause-refuses g c =
    let d = g.G.Gpu.state c.args.gpu.now in
    let here = is_here c.args.here in
    let p = private_of d c.args.self.now here in
    MatchResult-weaker c.fetch_into.result c.fetch_into.ensures.refuses (λ x is. is)
    (λ refusal refused. refused-load d c.args.self.now here c.requires.holds c.args.engine.0 c.args.descriptor c.of.result c.in-Ok.image c.of.ensures (c.in-Ok.ensures.image p) (g.G.Gpu.state c.announce.new.gpu) c.announce.new.self
    c.in-Ok-announce.ensures.device (g.G.Gpu.state c.fetch_into.new.gpu) c.fetch_into.new.self refusal c.in-Ok-announce.ensures.keeps refused)

pub returns-in-Err-announce-clause-refuses : goal.returns-in-Err-announce-clause-refuses
returns-in-Err-announce-clause-refuses g c =
    let d = g.G.Gpu.state c.args.gpu.now in
    let here = is_here c.args.here in
    let p = private_of d c.args.self.now here in
    refused-root d c.args.self.now here c.requires.holds c.args.engine.0 c.args.descriptor c.of.result c.in-Ok.image c.of.ensures (c.in-Ok.ensures.image p) (g.G.Gpu.state c.announce.new.gpu) c.announce.new.self
    c.in-Err-announce.refusal c.in-Err-announce.ensures.refuses

pub returns-in-Ok-announce-clause-unsubmitted : goal.returns-in-Ok-announce-clause-unsubmitted
returns-in-Ok-announce-clause-unsubmitted g c =
    on-err c.fetch_into.result _ _
    (λ then. engines-then (g.G.Gpu.state c.args.gpu.now) (g.G.Gpu.state c.announce.new.gpu) (g.G.Gpu.state c.fetch_into.new.gpu) c.announce.ensures.unsubmitted then)
    c.fetch_into.ensures.unsubmitted

pub returns-in-Ok-announce-clause-ready : goal.returns-in-Ok-announce-clause-ready
returns-in-Ok-announce-clause-ready g c =
    on_ok_weaker c.fetch_into.result
    (λ then. loads-behind c.args.engine.0 (g.G.Gpu.state c.args.gpu.now) (g.G.Gpu.state c.announce.new.gpu) (g.G.Gpu.state c.fetch_into.new.gpu) c.announce.ensures.unsubmitted then)
    c.fetch_into.ensures.ready
