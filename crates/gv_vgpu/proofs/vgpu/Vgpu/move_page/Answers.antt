use Rattle.std.proofs.Common.{Ok, refl, sym, ◌∙◌}
use Rattle.gv_types.specs.declared.reply.Stop.{Stop}
use Rattle.gv_gtt.specs.Gtt.{number_of}
use Rattle.gv_gtt.proofs.Others.{changes_stay_inside}
use Rattle.gv_gtt.proofs.Steps.{frames-changes}
use Rattle.gv_private.specs.Grants.{move_answer}
use Rattle.gv_vgpu.specs.Vgpu.{private_of}
use Rattle.gv_vgpu.specs.Owners.{is_here}
use Rattle.gv_vgpu.specs.declared.vgpu.Vgpu.{Vgpu}
use Rattle.gv_vgpu.proofs.Moves.{moved-keeps, moved-private, unless-kept}
use Rattle.gv_vgpu.proofs.Stopping.{stops-without}
use Rattle.gv_vgpu.proofs.Unsubmitted.{frames-engines}
use Rattle.gv_vgpu.proofs.Working.{over-private}
use Rattle.gv_vgpu.proofs.vgpu.Vgpu.move_page.Goals as goal

pub returns-in-Ok-Moved-clause-answer : goal.returns-in-Ok-Moved-clause-answer
returns-in-Ok-Moved-clause-answer g c =
    let p = private_of (g.G.Gpu.state c.args.gpu.now) c.args.self.now (is_here c.args.here) in
    unless-kept p c.args.frame
    (λ kept.
    let moved = c.in-Ok-Moved.field-0-is in
    let same = (c.in-Ok-Moved.ensures.kept p).1 ((λ i. move_answer (over-private (g.G.Gpu.state c.args.gpu.now) c.args.self.now (is_here c.args.here) c.requires.holds i) c.args.frame) ∙ kept) in
    cc)

pub returns-in-Ok-Kept-clause-answer : goal.returns-in-Ok-Kept-clause-answer
returns-in-Ok-Kept-clause-answer g c =
    let p = private_of (g.G.Gpu.state c.args.gpu.now) c.args.self.now (is_here c.args.here) in
    sym ((λ i. move_answer (sym (over-private (g.G.Gpu.state c.args.gpu.now) c.args.self.now (is_here c.args.here) c.requires.holds) i) c.args.frame)
    ∙ (c.in-Ok-Kept.ensures.kept p).0 (λ i. Ok (c.in-Ok-Kept.field-0-is i)))

pub returns-in-Ok-Moved-clause-device : goal.returns-in-Ok-Moved-clause-device
returns-in-Ok-Moved-clause-device g c =
    let old = c.args.self.now in
    let new : Vgpu = record { gtt = c.move_page.new.self; mmio = old.mmio; failsafe = old.failsafe; engines = old.engines; four = c.self-1.given.0 } in
    moved-private (g.G.Gpu.state c.args.gpu.now) (g.G.Gpu.state c.move_page.new.gpu) old new (is_here c.args.here) c.requires.holds refl refl refl
    c.move_page.ensures.device c.move_page.ensures.translates c.move_page.ensures.ranges c.move_page.ensures.nodes c.move_page.ensures.changes

pub returns-in-Ok-Moved-clause-keeps : goal.returns-in-Ok-Moved-clause-keeps
returns-in-Ok-Moved-clause-keeps g c =
    let old = c.args.self.now in
    let new : Vgpu = record { gtt = c.move_page.new.self; mmio = old.mmio; failsafe = old.failsafe; engines = old.engines; four = c.self-1.given.0 } in
    moved-keeps (g.G.Gpu.state c.args.gpu.now) (g.G.Gpu.state c.move_page.new.gpu) old new (is_here c.args.here) c.requires.holds refl refl refl
    c.move_page.ensures.device c.move_page.ensures.translates c.move_page.ensures.ranges c.move_page.ensures.nodes c.move_page.ensures.changes

pub returns-in-Ok-Kept-clause-device : goal.returns-in-Ok-Kept-clause-device
returns-in-Ok-Kept-clause-device g c =
    let old = c.args.self.now in
    let new : Vgpu = record { gtt = c.move_page.new.self; mmio = old.mmio; failsafe = old.failsafe; engines = old.engines; four = c.self-1.given.0 } in
    moved-private (g.G.Gpu.state c.args.gpu.now) (g.G.Gpu.state c.move_page.new.gpu) old new (is_here c.args.here) c.requires.holds refl refl refl
    c.move_page.ensures.device c.move_page.ensures.translates c.move_page.ensures.ranges c.move_page.ensures.nodes c.move_page.ensures.changes

pub returns-in-Ok-Kept-clause-keeps : goal.returns-in-Ok-Kept-clause-keeps
returns-in-Ok-Kept-clause-keeps g c =
    let old = c.args.self.now in
    let new : Vgpu = record { gtt = c.move_page.new.self; mmio = old.mmio; failsafe = old.failsafe; engines = old.engines; four = c.self-1.given.0 } in
    moved-keeps (g.G.Gpu.state c.args.gpu.now) (g.G.Gpu.state c.move_page.new.gpu) old new (is_here c.args.here) c.requires.holds refl refl refl
    c.move_page.ensures.device c.move_page.ensures.translates c.move_page.ensures.ranges c.move_page.ensures.nodes c.move_page.ensures.changes

pub returns-in-Err-clause-stops : goal.returns-in-Err-clause-stops
returns-in-Err-clause-stops g c =
    let d = g.G.Gpu.state c.args.gpu.now in
    let e = g.G.Gpu.state c.move_page.new.gpu in
    let old = c.args.self.now in
    stops-without (is_here c.args.here) d e old Stop.OutOfMemory
    (changes_stay_inside d e old.gtt old.gtt (is_here c.args.here) (frames-changes 512 d e old.gtt c.move_page.ensures.changes)) (λ is. cc)

pub returns-in-Err-clause-lacks : goal.returns-in-Err-clause-lacks
returns-in-Err-clause-lacks g c =
    let p = private_of (g.G.Gpu.state c.args.gpu.now) c.args.self.now (is_here c.args.here) in
    sym (unless-kept p c.args.frame
    (λ kept.
    let failed = c.in-Err.is in
    let same = (c.in-Err.ensures.kept p).1 ((λ i. move_answer (over-private (g.G.Gpu.state c.args.gpu.now) c.args.self.now (is_here c.args.here) c.requires.holds i) c.args.frame) ∙ kept) in
    cc))

pub returns-in-Ok-Moved-clause-unsubmitted : goal.returns-in-Ok-Moved-clause-unsubmitted
returns-in-Ok-Moved-clause-unsubmitted g c = frames-engines (number_of c.args.self.now.gtt) 512 (g.G.Gpu.state c.args.gpu.now) (g.G.Gpu.state c.move_page.new.gpu) c.move_page.ensures.changes

pub returns-in-Ok-Kept-clause-unsubmitted : goal.returns-in-Ok-Kept-clause-unsubmitted
returns-in-Ok-Kept-clause-unsubmitted g c = frames-engines (number_of c.args.self.now.gtt) 512 (g.G.Gpu.state c.args.gpu.now) (g.G.Gpu.state c.move_page.new.gpu) c.move_page.ensures.changes

pub returns-in-Err-clause-unsubmitted : goal.returns-in-Err-clause-unsubmitted
returns-in-Err-clause-unsubmitted g c = frames-engines (number_of c.args.self.now.gtt) 512 (g.G.Gpu.state c.args.gpu.now) (g.G.Gpu.state c.move_page.new.gpu) c.move_page.ensures.changes
