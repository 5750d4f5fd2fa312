use Rattle.std.proofs.Common.{◌≡◌, ◌-◌, ◌<◌, [], slice_set, slice_index_or, length, sym, ◌∙◌, subst, refl}
use Rattle.gv_element.specs.Works.{Held, Rests}
use Rattle.gv_gpu.specs.Part.{outside, window_part}
use Rattle.gv_sring.specs.Window.{WindowIsAbsent}
use Rattle.gv_vgpu.specs.Owners.{is_here}
use Rattle.gv_vgpu.specs.Turn.{EndOf}
use Rattle.gv_vgpu.specs.declared.vgpu.Vgpu.{Vgpu}
use Rattle.gv_vgpu.proofs.Ended.{end-of, may-go, taken-is, taken-other, taken-own}
use Rattle.gv_vgpu.proofs.Unsubmitted.{window-engines}
use Rattle.gv_vgpu.proofs.vgpu.Vgpu.take_ended.Goals as goal

pub release-requires : goal.release-requires
release-requires g c =
    let old = c.args.self.now in
    let ended = c.requires.ended in
    let within : c.args.engine.0 < length old.engines = subst (λ n. c.args.engine.0 < n) (sym old.four) c.requires.engine in
    subst (λ (x : Held). Rests (g.G.Gpu.state c.args.gpu.now) x.window)
    (sym (taken-is old.engines c.args.engine.0 c.index-self-engine.result within c.take.result c.in-Some.element ended.element c.take.ensures.value c.in-Some.is ended.at_work))
    (may-go ended.before old (is_here c.args.here) c.args.engine.0 ended.element ended.holds ended.own c.requires.engine ended.at_work (g.G.Gpu.state c.args.gpu.now) ended.ended)

pub returns-clause-ends : goal.returns-clause-ends
returns-clause-ends g c = λ ended.
    let old = c.args.self.now in
    let d = g.G.Gpu.state c.args.gpu.now in
    let e = g.G.Gpu.state c.release.new.gpu in
    let engine = c.args.engine.0 in
    let within : engine < length old.engines = subst (λ n. engine < n) (sym old.four) c.requires.engine in
    let same = taken-is old.engines engine c.index-self-engine.result within c.take.result c.in-Some.element ended.element c.take.ensures.value c.in-Some.is ended.at_work in
    let new : Vgpu = record {
      gtt = old.gtt;
      mmio = old.mmio;
      failsafe = old.failsafe;
      engines = slice_set old.engines engine (record { element = c.take.new.self; kept = (slice_index_or old.engines engine c.index-self-engine.result).kept });
      four = c.self-1.given.0;
    } in
    subst (λ tail. EndOf (is_here c.args.here) engine ended.before e old new ended.element tail) (sym (c.tail-tail.ensures ∙ (λ i. (same i).tail)))
    (end-of ended.before old (is_here c.args.here) engine ended.element ended.holds ended.own c.requires.engine ended.at_work d e new ended.ended
    (subst (λ (x : Held). WindowIsAbsent e x.window.guest x.window.engine) same c.release.ensures.absent)
    (subst (λ (x : Held). e.live ≡ d.live - length x.window.pages) same c.release.ensures.live)
    (subst (λ (x : Held). outside (window_part x.window.guest x.window.engine []) e ≡ outside (window_part x.window.guest x.window.engine x.window.pages) d) same c.release.ensures.outside)
    refl refl refl
    (taken-own old.engines engine c.index-self-engine.result within c.take.new.self c.take.ensures.after)
    (λ k differ. taken-other old.engines engine k (record { element = c.take.new.self; kept = (slice_index_or old.engines engine c.index-self-engine.result).kept }) differ))

pub returns-clause-engines : goal.returns-clause-engines
returns-clause-engines g c = window-engines (g.G.Gpu.state c.args.gpu.now) (g.G.Gpu.state c.release.new.gpu) c.in-Some.element.window c.release.ensures.outside
