use Rattle.std.proofs.Common.{◌+◌, ◌∷◌, length, drop, get_or, ap, sym, ◌∙◌, subst, arith}
use Rattle.std.proofs.Math.Seq.{drop-cons}
use Rattle.std.proofs.lemmas.List.{append-nil, drop_all}
use Rattle.gv_balloon.specs.Shares.{nothing_given}
use Rattle.gv_mediator.specs.declared.guest.Guest.{Guest}
use Rattle.gv_mediator.specs.First.{all_joined}
use Rattle.gv_mediator.specs.Joining.{IsJoining, first_owner}
use Rattle.gv_mediator.specs.Tied.{devices_in}
use Rattle.gv_mediator.proofs.FirstGuests.{next-few, next-memory, starts, suc-is, then-joining}
use Rattle.gv_mediator.proofs.begin.join_all.Goals as goal

abbrev no_guest : Guest
no_guest = record { frames = 0; want = record { low = 0; high = 0 } }

pub join-requires-clause-joined : goal.join-requires-clause-joined
join-requires-clause-joined g c = c.loop-guest.invariant.joined

pub join-requires-clause-few : goal.join-requires-clause-few
join-requires-clause-few g c =
    let d = g.G.Gpu.state c.loop-guest.gpu in
    let i = c.loop-guest.guest-index in
    let all = c.args.guests.now in
    let guest = get_or all i no_guest in
    let joining : IsJoining (g.G.Gpu.state c.args.gpu.now) d c.loop-guest.devices.items c.loop-guest.given (guest ∷ drop (i + 1) all) all =
    subst (λ more. IsJoining (g.G.Gpu.state c.args.gpu.now) d c.loop-guest.devices.items c.loop-guest.given more all) (drop-cons all i no_guest c.loop-guest-test.true ∙ ap (λ k. guest ∷ drop k all) (suc-is i)) c.loop-guest.invariant in
    next-few (g.G.Gpu.state c.args.gpu.now) d c.loop-guest.devices.items c.loop-guest.given guest (drop (i + 1) all) all joining

pub join-requires-clause-some : goal.join-requires-clause-some
join-requires-clause-some g c =
    let d = g.G.Gpu.state c.loop-guest.gpu in
    let i = c.loop-guest.guest-index in
    let all = c.args.guests.now in
    let guest = get_or all i no_guest in
    let joining : IsJoining (g.G.Gpu.state c.args.gpu.now) d c.loop-guest.devices.items c.loop-guest.given (guest ∷ drop (i + 1) all) all =
    subst (λ more. IsJoining (g.G.Gpu.state c.args.gpu.now) d c.loop-guest.devices.items c.loop-guest.given more all) (drop-cons all i no_guest c.loop-guest-test.true ∙ ap (λ k. guest ∷ drop k all) (suc-is i)) c.loop-guest.invariant in
    joining.may.0

pub join-requires-clause-memory : goal.join-requires-clause-memory
join-requires-clause-memory g c =
    let d = g.G.Gpu.state c.loop-guest.gpu in
    let i = c.loop-guest.guest-index in
    let all = c.args.guests.now in
    let guest = get_or all i no_guest in
    let joining : IsJoining (g.G.Gpu.state c.args.gpu.now) d c.loop-guest.devices.items c.loop-guest.given (guest ∷ drop (i + 1) all) all =
    subst (λ more. IsJoining (g.G.Gpu.state c.args.gpu.now) d c.loop-guest.devices.items c.loop-guest.given more all) (drop-cons all i no_guest c.loop-guest-test.true ∙ ap (λ k. guest ∷ drop k all) (suc-is i)) c.loop-guest.invariant in
    next-memory (g.G.Gpu.state c.args.gpu.now) d c.loop-guest.devices.items c.loop-guest.given guest (drop (i + 1) all) all joining

pub join-requires-clause-fit : goal.join-requires-clause-fit
join-requires-clause-fit g c =
    let d = g.G.Gpu.state c.loop-guest.gpu in
    let i = c.loop-guest.guest-index in
    let all = c.args.guests.now in
    let guest = get_or all i no_guest in
    let joining : IsJoining (g.G.Gpu.state c.args.gpu.now) d c.loop-guest.devices.items c.loop-guest.given (guest ∷ drop (i + 1) all) all =
    subst (λ more. IsJoining (g.G.Gpu.state c.args.gpu.now) d c.loop-guest.devices.items c.loop-guest.given more all) (drop-cons all i no_guest c.loop-guest-test.true ∙ ap (λ k. guest ∷ drop k all) (suc-is i)) c.loop-guest.invariant in
    joining.may.1

pub returns-in_err-join-clause-ran : goal.returns-in_err-join-clause-ran
returns-in_err-join-clause-ran g c =
    let before = c.loop-guest.invariant.ran in
    let ran = c.join.ensures.ran in
    record {
      journal = ran.journal ∙ append-nil (g.G.Gpu.state c.loop-guest.gpu).journal ∙ before.journal;
      strays = ran.strays ∙ before.strays;
    }

pub returns-in_err-join-clause-quiet : goal.returns-in_err-join-clause-quiet
returns-in_err-join-clause-quiet g c = c.join.ensures.quiet ∙ c.loop-guest.invariant.quiet

pub loop-guest-preserved : goal.loop-guest-preserved
loop-guest-preserved g c =
    let d = g.G.Gpu.state c.loop-guest.gpu in
    let i = c.loop-guest.guest-index in
    let all = c.args.guests.now in
    let guest = get_or all i no_guest in
    let joining : IsJoining (g.G.Gpu.state c.args.gpu.now) d c.loop-guest.devices.items c.loop-guest.given (guest ∷ drop (i + 1) all) all =
    subst (λ more. IsJoining (g.G.Gpu.state c.args.gpu.now) d c.loop-guest.devices.items c.loop-guest.given more all) (drop-cons all i no_guest c.loop-guest-test.true ∙ ap (λ k. guest ∷ drop k all) (suc-is i)) c.loop-guest.invariant in
    let made = c.in_ok-join.ensures in
    then-joining (g.G.Gpu.state c.args.gpu.now) d c.loop-guest.devices.items c.loop-guest.given guest (drop (i + 1) all) all joining (g.G.Gpu.state c.join.new.gpu) c.join.new.devices.items c.join.new.given made.joined made.given made.devices made.count made.live made.ran made.quiet

pub returns-clause-joined : goal.returns-clause-joined
returns-clause-joined g c = (c.loop-guest.given, c.loop-guest.invariant.joined)

pub returns-clause-machine : goal.returns-clause-machine
returns-clause-machine g c =
    let d = g.G.Gpu.state c.loop-guest.gpu in
    let none = drop_all c.loop-guest.guest-index c.args.guests.now (omega arith) in
    ap (λ more. all_joined (record { devices = devices_in d first_owner c.loop-guest.devices.items; owners = λ engine. 0 }) more) (sym none) ∙ c.loop-guest.invariant.machine

pub returns-clause-count : goal.returns-clause-count
returns-clause-count g c =
    let none = ap length (drop_all c.loop-guest.guest-index c.args.guests.now (omega arith)) in
    let count = c.loop-guest.invariant.count in
    omega arith

pub returns-clause-few : goal.returns-clause-few
returns-clause-few g c =
    let few = c.loop-guest.invariant.few in
    omega arith

pub returns-clause-ran : goal.returns-clause-ran
returns-clause-ran g c = c.loop-guest.invariant.ran

pub returns-clause-quiet : goal.returns-clause-quiet
returns-clause-quiet g c = c.loop-guest.invariant.quiet

pub loop-guest-init : goal.loop-guest-init
loop-guest-init g c =
    subst (λ devices. IsJoining (g.G.Gpu.state c.args.gpu.now) (g.G.Gpu.state c.args.gpu.now) devices nothing_given c.args.guests.now c.args.guests.now) (sym c.new-devices.ensures.items)
    (starts (g.G.Gpu.state c.args.gpu.now) c.args.guests.now c.requires.begin c.requires.empty)
