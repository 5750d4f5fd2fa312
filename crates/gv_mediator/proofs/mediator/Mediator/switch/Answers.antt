use Rattle.std.proofs.Common.{ℕ, Bool, false, set, take, ap, sym, ◌∙◌}
use Rattle.gv_gpu.specs.Device.{Device}
use Rattle.gv_vgpu.specs.Exchange.{owning}
use Rattle.gv_vgpu.specs.Owners.{is_here}
use Rattle.gv_mediator.specs.Rota.{owners_in}
use Rattle.gv_mediator.specs.Tied.{IsAt}
use Rattle.gv_mediator.proofs.Copies.{stay-same}
use Rattle.gv_mediator.proofs.Switching.{away-next, copies-switched, holds-next, holds-owner, machine-stays, machine-switched, next-between, owner-there, owns-engine, tied-stays, tied-switched, works-same}
use Rattle.gv_mediator.proofs.mediator.Mediator.switch.Goals as goal

pub returns-then-next-owner-clause-machine : goal.returns-then-next-owner-clause-machine
returns-then-next-owner-clause-machine g c =
    let d = g.G.Gpu.state c.args.gpu.now in
    let m = c.args.self.now in
    let engine = c.args.engine in
    let owner = c.owner-owner.result.0 in
    let next = c.switch-next.result.0 in
    let rota = c.switch-next.new.self in
    let works = take c.len.result c.works_on-works.result in
    let works_are = works-same c.works_on-works.result c.deref.result.now m.guests.items engine.0 c.len.result d (owners_in m.rota) c.deref.ensures.value (c.len.ensures ∙ m.guests.ok.0) c.works_on-works.ensures in
    machine-stays d m c.requires.tied engine c.requires.engine works works_are owner c.owner-owner.ensures.owner next c.switch-next.ensures.owner rota c.switch-next.ensures.after c.if-next-owner.true

pub returns-then-next-owner-clause-copies : goal.returns-then-next-owner-clause-copies
returns-then-next-owner-clause-copies g c = stay-same (g.G.Gpu.state c.args.gpu.now) c.args.self.now.guests.items

pub returns-then-next-owner-clause-tied : goal.returns-then-next-owner-clause-tied
returns-then-next-owner-clause-tied g c =
    let d = g.G.Gpu.state c.args.gpu.now in
    let m = c.args.self.now in
    let engine = c.args.engine in
    let owner = c.owner-owner.result.0 in
    let next = c.switch-next.result.0 in
    let rota = c.switch-next.new.self in
    let works = take c.len.result c.works_on-works.result in
    let works_are = works-same c.works_on-works.result c.deref.result.now m.guests.items engine.0 c.len.result d (owners_in m.rota) c.deref.ensures.value (c.len.ensures ∙ m.guests.ok.0) c.works_on-works.ensures in
    tied-stays d m c.requires.tied engine c.requires.engine works works_are owner c.owner-owner.ensures.owner next c.switch-next.ensures.owner rota c.switch-next.ensures.after c.if-next-owner.true

pub put_away-requires-clause-holds : goal.put_away-requires-clause-holds
put_away-requires-clause-holds g c =
    let d = g.G.Gpu.state c.args.gpu.now in
    let m = c.args.self.now in
    let engine = c.args.engine in
    let owner = c.owner-owner.result.0 in
    let next = c.switch-next.result.0 in
    let rota = c.switch-next.new.self in
    let works = take c.len.result c.works_on-works.result in
    let works_are = works-same c.works_on-works.result c.deref.result.now m.guests.items engine.0 c.len.result d (owners_in m.rota) c.deref.ensures.value (c.len.ensures ∙ m.guests.ok.0) c.works_on-works.ensures in
    let old = c.index_mut.result.now in
    let here : IsAt m.guests.items owner old = (owner-there d m c.requires.tied engine c.requires.engine works works_are owner c.owner-owner.ensures.owner next c.switch-next.ensures.owner rota c.switch-next.ensures.after, sym c.index_mut.ensures.value) in
    let own = is_here c.owned_by-here.result in
    holds-owner d m c.requires.tied engine c.requires.engine works works_are owner c.owner-owner.ensures.owner next c.switch-next.ensures.owner rota c.switch-next.ensures.after old here own c.owned_by-here.ensures

pub put_away-requires-clause-own : goal.put_away-requires-clause-own
put_away-requires-clause-own g c =
    let d = g.G.Gpu.state c.args.gpu.now in
    let m = c.args.self.now in
    let engine = c.args.engine in
    let owner = c.owner-owner.result.0 in
    let next = c.switch-next.result.0 in
    let rota = c.switch-next.new.self in
    let works = take c.len.result c.works_on-works.result in
    let works_are = works-same c.works_on-works.result c.deref.result.now m.guests.items engine.0 c.len.result d (owners_in m.rota) c.deref.ensures.value (c.len.ensures ∙ m.guests.ok.0) c.works_on-works.ensures in
    let old = c.index_mut.result.now in
    let here : IsAt m.guests.items owner old = (owner-there d m c.requires.tied engine c.requires.engine works works_are owner c.owner-owner.ensures.owner next c.switch-next.ensures.owner rota c.switch-next.ensures.after, sym c.index_mut.ensures.value) in
    let own = is_here c.owned_by-here.result in
    owns-engine d m c.requires.tied engine c.requires.engine works works_are owner c.owner-owner.ensures.owner next c.switch-next.ensures.owner rota c.switch-next.ensures.after old here own c.owned_by-here.ensures

pub bring-requires-clause-holds : goal.bring-requires-clause-holds
bring-requires-clause-holds g c =
    let d = g.G.Gpu.state c.args.gpu.now in
    let m = c.args.self.now in
    let engine = c.args.engine in
    let owner = c.owner-owner.result.0 in
    let next = c.switch-next.result.0 in
    let rota = c.switch-next.new.self in
    let works = take c.len.result c.works_on-works.result in
    let works_are = works-same c.works_on-works.result c.deref.result.now m.guests.items engine.0 c.len.result d (owners_in m.rota) c.deref.ensures.value (c.len.ensures ∙ m.guests.ok.0) c.works_on-works.ensures in
    let old = c.index_mut.result.now in
    let here : IsAt m.guests.items owner old = (owner-there d m c.requires.tied engine c.requires.engine works works_are owner c.owner-owner.ensures.owner next c.switch-next.ensures.owner rota c.switch-next.ensures.after, sym c.index_mut.ensures.value) in
    let own = is_here c.owned_by-here.result in
    let e = g.G.Gpu.state c.put_away.new.gpu in
    let new = c.put_away.new.self in
    let away = c.in_ok-put_away.ensures.exchanges in
    let idle = c.in_ok-put_away.ensures.idle in
    let v = c.index.result.now in
    let within = next-between d m c.requires.tied engine c.requires.engine works works_are owner c.owner-owner.ensures.owner next c.switch-next.ensures.owner rota c.switch-next.ensures.after old here own c.owned_by-here.ensures e new away idle c.switch-next.ensures.there in
    let at : IsAt (set m.guests.items owner new) next v = (within, sym c.index.ensures) in
    let there = is_here c.without-there.result in
    let there_is = c.without-there.ensures ∙ ap (λ (h : ℕ → Bool). owning h engine.0 false) c.owned_by.ensures in
    holds-next d m c.requires.tied engine c.requires.engine works works_are owner c.owner-owner.ensures.owner next c.switch-next.ensures.owner rota c.switch-next.ensures.after old here own c.owned_by-here.ensures e new away idle v at there there_is

pub bring-requires-clause-away : goal.bring-requires-clause-away
bring-requires-clause-away g c =
    let d = g.G.Gpu.state c.args.gpu.now in
    let m = c.args.self.now in
    let engine = c.args.engine in
    let owner = c.owner-owner.result.0 in
    let next = c.switch-next.result.0 in
    let rota = c.switch-next.new.self in
    let works = take c.len.result c.works_on-works.result in
    let works_are = works-same c.works_on-works.result c.deref.result.now m.guests.items engine.0 c.len.result d (owners_in m.rota) c.deref.ensures.value (c.len.ensures ∙ m.guests.ok.0) c.works_on-works.ensures in
    let old = c.index_mut.result.now in
    let here : IsAt m.guests.items owner old = (owner-there d m c.requires.tied engine c.requires.engine works works_are owner c.owner-owner.ensures.owner next c.switch-next.ensures.owner rota c.switch-next.ensures.after, sym c.index_mut.ensures.value) in
    let own = is_here c.owned_by-here.result in
    let e = g.G.Gpu.state c.put_away.new.gpu in
    let new = c.put_away.new.self in
    let away = c.in_ok-put_away.ensures.exchanges in
    let idle = c.in_ok-put_away.ensures.idle in
    let v = c.index.result.now in
    let within = next-between d m c.requires.tied engine c.requires.engine works works_are owner c.owner-owner.ensures.owner next c.switch-next.ensures.owner rota c.switch-next.ensures.after old here own c.owned_by-here.ensures e new away idle c.switch-next.ensures.there in
    let at : IsAt (set m.guests.items owner new) next v = (within, sym c.index.ensures) in
    let there = is_here c.without-there.result in
    let there_is = c.without-there.ensures ∙ ap (λ (h : ℕ → Bool). owning h engine.0 false) c.owned_by.ensures in
    away-next d m c.requires.tied engine c.requires.engine works works_are owner c.owner-owner.ensures.owner next c.switch-next.ensures.owner rota c.switch-next.ensures.after old here own c.owned_by-here.ensures e new away idle v at there there_is

pub returns-clause-machine : goal.returns-clause-machine
returns-clause-machine g c =
    let d = g.G.Gpu.state c.args.gpu.now in
    let m = c.args.self.now in
    let engine = c.args.engine in
    let owner = c.owner-owner.result.0 in
    let next = c.switch-next.result.0 in
    let rota = c.switch-next.new.self in
    let works = take c.len.result c.works_on-works.result in
    let works_are = works-same c.works_on-works.result c.deref.result.now m.guests.items engine.0 c.len.result d (owners_in m.rota) c.deref.ensures.value (c.len.ensures ∙ m.guests.ok.0) c.works_on-works.ensures in
    let old = c.index_mut.result.now in
    let here : IsAt m.guests.items owner old = (owner-there d m c.requires.tied engine c.requires.engine works works_are owner c.owner-owner.ensures.owner next c.switch-next.ensures.owner rota c.switch-next.ensures.after, sym c.index_mut.ensures.value) in
    let own = is_here c.owned_by-here.result in
    let e = g.G.Gpu.state c.put_away.new.gpu in
    let new = c.put_away.new.self in
    let away = c.in_ok-put_away.ensures.exchanges in
    let idle = c.in_ok-put_away.ensures.idle in
    let v = c.index.result.now in
    let within = next-between d m c.requires.tied engine c.requires.engine works works_are owner c.owner-owner.ensures.owner next c.switch-next.ensures.owner rota c.switch-next.ensures.after old here own c.owned_by-here.ensures e new away idle c.switch-next.ensures.there in
    let at : IsAt (set m.guests.items owner new) next v = (within, sym c.index.ensures) in
    let there = is_here c.without-there.result in
    let there_is = c.without-there.ensures ∙ ap (λ (h : ℕ → Bool). owning h engine.0 false) c.owned_by.ensures in
    machine-switched d m c.requires.tied engine c.requires.engine works works_are owner c.owner-owner.ensures.owner next c.switch-next.ensures.owner rota c.switch-next.ensures.after old here own c.owned_by-here.ensures e new away idle v at there there_is (g.G.Gpu.state c.bring.new.gpu) c.in_ok-bring.ensures.exchanges

pub returns-clause-tied : goal.returns-clause-tied
returns-clause-tied g c =
    let d = g.G.Gpu.state c.args.gpu.now in
    let m = c.args.self.now in
    let engine = c.args.engine in
    let owner = c.owner-owner.result.0 in
    let next = c.switch-next.result.0 in
    let rota = c.switch-next.new.self in
    let works = take c.len.result c.works_on-works.result in
    let works_are = works-same c.works_on-works.result c.deref.result.now m.guests.items engine.0 c.len.result d (owners_in m.rota) c.deref.ensures.value (c.len.ensures ∙ m.guests.ok.0) c.works_on-works.ensures in
    let old = c.index_mut.result.now in
    let here : IsAt m.guests.items owner old = (owner-there d m c.requires.tied engine c.requires.engine works works_are owner c.owner-owner.ensures.owner next c.switch-next.ensures.owner rota c.switch-next.ensures.after, sym c.index_mut.ensures.value) in
    let own = is_here c.owned_by-here.result in
    let e = g.G.Gpu.state c.put_away.new.gpu in
    let new = c.put_away.new.self in
    let away = c.in_ok-put_away.ensures.exchanges in
    let idle = c.in_ok-put_away.ensures.idle in
    let v = c.index.result.now in
    let within = next-between d m c.requires.tied engine c.requires.engine works works_are owner c.owner-owner.ensures.owner next c.switch-next.ensures.owner rota c.switch-next.ensures.after old here own c.owned_by-here.ensures e new away idle c.switch-next.ensures.there in
    let at : IsAt (set m.guests.items owner new) next v = (within, sym c.index.ensures) in
    let there = is_here c.without-there.result in
    let there_is = c.without-there.ensures ∙ ap (λ (h : ℕ → Bool). owning h engine.0 false) c.owned_by.ensures in
    tied-switched d m c.requires.tied engine c.requires.engine works works_are owner c.owner-owner.ensures.owner next c.switch-next.ensures.owner rota c.switch-next.ensures.after old here own c.owned_by-here.ensures e new away idle v at there there_is (g.G.Gpu.state c.bring.new.gpu) c.in_ok-bring.ensures.exchanges

pub returns-clause-copies : goal.returns-clause-copies
returns-clause-copies g c =
    let d = g.G.Gpu.state c.args.gpu.now in
    let m = c.args.self.now in
    let engine = c.args.engine in
    let owner = c.owner-owner.result.0 in
    let next = c.switch-next.result.0 in
    let rota = c.switch-next.new.self in
    let works = take c.len.result c.works_on-works.result in
    let works_are = works-same c.works_on-works.result c.deref.result.now m.guests.items engine.0 c.len.result d (owners_in m.rota) c.deref.ensures.value (c.len.ensures ∙ m.guests.ok.0) c.works_on-works.ensures in
    let old = c.index_mut.result.now in
    let here : IsAt m.guests.items owner old = (owner-there d m c.requires.tied engine c.requires.engine works works_are owner c.owner-owner.ensures.owner next c.switch-next.ensures.owner rota c.switch-next.ensures.after, sym c.index_mut.ensures.value) in
    let own = is_here c.owned_by-here.result in
    let e = g.G.Gpu.state c.put_away.new.gpu in
    let new = c.put_away.new.self in
    let away = c.in_ok-put_away.ensures.exchanges in
    let idle = c.in_ok-put_away.ensures.idle in
    let v = c.index.result.now in
    let within = next-between d m c.requires.tied engine c.requires.engine works works_are owner c.owner-owner.ensures.owner next c.switch-next.ensures.owner rota c.switch-next.ensures.after old here own c.owned_by-here.ensures e new away idle c.switch-next.ensures.there in
    let at : IsAt (set m.guests.items owner new) next v = (within, sym c.index.ensures) in
    let there = is_here c.without-there.result in
    let there_is = c.without-there.ensures ∙ ap (λ (h : ℕ → Bool). owning h engine.0 false) c.owned_by.ensures in
    copies-switched d m c.requires.tied engine c.requires.engine works works_are owner c.owner-owner.ensures.owner next c.switch-next.ensures.owner rota c.switch-next.ensures.after old here own c.owned_by-here.ensures e new away idle v at there there_is (g.G.Gpu.state c.bring.new.gpu) c.in_ok-bring.ensures.exchanges

pub returns-clause-quiet : goal.returns-clause-quiet
returns-clause-quiet g c = ap (λ (x : Device). x.faults) c.in_ok-bring.ensures.exchanges.changes.outside ∙ ap (λ (x : Device). x.faults) c.in_ok-put_away.ensures.exchanges.changes.outside
