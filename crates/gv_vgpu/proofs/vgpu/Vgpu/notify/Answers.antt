use Rattle.std.proofs.Common.{None, is_some, sym, ◌∙◌, ◌≡◌, true, subst}
use Rattle.std.specs.Prelude.{IfOk}
use Rattle.gv_private.specs.Device.{quietly}
use Rattle.gv_vgpu.specs.Changes.{Makes}
use Rattle.gv_vgpu.specs.Vgpu.{private_of}
use Rattle.gv_vgpu.specs.Owners.{is_here}
use Rattle.gv_vgpu.proofs.Made.{makes-done, notify-creates, notify-destroys}
use Rattle.gv_vgpu.proofs.vgpu.Vgpu.notify.Goals as goal

pub returns-in-4-clause-notified : goal.returns-in-4-clause-notified
returns-in-4-clause-notified g c =
    let d = g.G.Gpu.state c.args.gpu.now in
    let old = c.args.self.now in
    let here = is_here c.args.here in
    subst (λ w. IfOk c.create_root.result (λ notice. Makes here d (g.G.Gpu.state c.create_root.new.gpu) old c.create_root.new.self w notice))
    (notify-creates (private_of d old here) c.args.value c.root-root.result c.in-4.is (c.root-root.ensures (private_of d old here)))
    c.create_root.ensures.created

pub returns-in-4-clause-listed : goal.returns-in-4-clause-listed
returns-in-4-clause-listed g c = λ stopped.
    let d = g.G.Gpu.state c.args.gpu.now in
    let old = c.args.self.now in
    let here = is_here c.args.here in
    subst (λ w. is_some w.reason ≡ true)
    (notify-creates (private_of d old here) c.args.value c.root-root.result c.in-4.is (c.root-root.ensures (private_of d old here)))
    (c.create_root.ensures.listed stopped)

pub returns-in_ok-destroy_root-in-5-clause-notified : goal.returns-in_ok-destroy_root-in-5-clause-notified
returns-in_ok-destroy_root-in-5-clause-notified g c =
    let d = g.G.Gpu.state c.args.gpu.now in
    let e = g.G.Gpu.state c.destroy_root.new.gpu in
    let old = c.args.self.now in
    let new = c.destroy_root.new.self in
    let here = is_here c.args.here in
    makes-done here d e old new _ None c.none.result
    (sym (notify-destroys (private_of d old here) c.args.value c.root-root.result c.in-5.is (c.root-root.ensures (private_of d old here))) ∙ (λ i. quietly (sym c.in_ok-destroy_root-in-5.ensures.device i)))
    c.in_ok-destroy_root-in-5.ensures.keeps c.none.ensures
