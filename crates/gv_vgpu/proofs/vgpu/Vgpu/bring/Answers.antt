use Rattle.std.proofs.Common.{◌≡◌, ◌≤◌, ◌<◌, ◌∙◌, get_or, sym, subst, true}
use Rattle.std.proofs.lemmas.List.{get_or_default}
use Rattle.gv_gpu.specs.Device.{counted, with_faults}
use Rattle.gv_switch.specs.Exchange.{brought, with_registers}
use Rattle.gv_types.specs.declared.reply.Stop.TheVariants.{DeviceFault}
use Rattle.gv_vgpu.specs.Changes.{Stops}
use Rattle.gv_vgpu.specs.Exchange.{Exchanges, owning}
use Rattle.gv_vgpu.specs.Vgpu.{engine_at, no_engine}
use Rattle.gv_vgpu.specs.Owners.{is_here}
use Rattle.gv_vgpu.proofs.Bringing.{bring-fails, bring-in, on-err-both, on-ok-then}
use Rattle.gv_vgpu.proofs.vgpu.Vgpu.bring.Goals as goal

pub returns-clause-exchanges : goal.returns-clause-exchanges
returns-clause-exchanges g c =
    let d = g.G.Gpu.state c.args.gpu.now in
    let e = g.G.Gpu.state c.bring.new.gpu in
    let v = c.args.self.now in
    let here = is_here c.args.here in
    let engine = c.args.engine.0 in
    let own = get_or v.engines engine c.index-self-engine.result in
    let same : own ≡ engine_at v engine = get_or_default v.engines engine c.index-self-engine.result no_engine (subst (λ n. engine < n) (sym v.four) c.requires.engine) in
    on-ok-then c.bring.result (e ≡ brought (with_registers d engine own.kept) engine c.guest.result.0 c.shadow.result) (Exchanges (owning here engine true) here (owning here engine true) d e v v)
    (λ ran. bring-in d e v here engine c.guest.result.0 c.requires.engine c.requires.holds c.requires.away c.requires.idle c.requires.sixteen c.guest.ensures
    (ran ∙ (λ i. brought (with_registers d engine (same i).kept) engine c.guest.result.0 (c.shadow.ensures i)))) c.bring.ensures.ok

pub returns-clause-faults : goal.returns-clause-faults
returns-clause-faults g c =
    let d = g.G.Gpu.state c.args.gpu.now in
    let e = g.G.Gpu.state c.bring.new.gpu in
    let engine = c.args.engine.0 in
    let own = get_or c.args.self.now.engines engine c.index-self-engine.result in
    on-err-both c.bring.result (e ≡ with_faults (with_registers d engine own.kept) e.faults) (counted d.faults ≤ e.faults) (Stops (owning (is_here c.args.here) engine true) d e c.args.self.now DeviceFault)
    (λ same cause. bring-fails d e c.args.self.now (is_here c.args.here) engine own.kept same cause) c.bring.ensures.err c.bring.ensures.cause
