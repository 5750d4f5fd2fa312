use Rattle.std.proofs.Common.{length, refl, ap, sym, ◌∙◌, subst}
use Rattle.gv_sched.specs.Rota.{Owners, owner_of}
use Rattle.gv_mediator.specs.Rota.{owners_in}
use Rattle.gv_mediator.specs.Tied.{Ties, devices_in}
use Rattle.gv_mediator.proofs.FirstGuests.{machine-begun, ties-begun}
use Rattle.gv_mediator.proofs.mediator.Mediator.new.Goals as goal

pub returns-clause-machine : goal.returns-clause-machine
returns-clause-machine g c =
    let d = g.G.Gpu.state c.join_all.new.gpu in
    let made = c.in_ok-devices.ensures in
    let devices = c.in_ok-devices.devices.items in
    ap (λ (s : Owners). record { devices = devices_in d (owners_in s) devices; owners = owner_of s }) c.new.ensures
    ∙ machine-begun d devices c.args.guests.now c.requires.begin made.joined.0 made.joined.1 made.count made.few (length c.args.guests.now) made.machine

pub returns-clause-tied : goal.returns-clause-tied
returns-clause-tied g c =
    let d = g.G.Gpu.state c.join_all.new.gpu in
    let made = c.in_ok-devices.ensures in
    let devices = c.in_ok-devices.devices.items in
    record {
      ties = subst (λ (s : Owners). Ties d (owners_in s) devices) (sym c.new.ensures) (ties-begun d devices c.args.guests.now c.requires.begin made.joined.0 made.joined.1 made.count made.few (length c.args.guests.now) refl);
      guests = ap (λ (s : Owners). s.guests) c.new.ensures ∙ sym made.count;
      engines = ap (λ (s : Owners). length s.owners) c.new.ensures;
    }
