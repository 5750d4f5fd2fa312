-- What a reply promises of the guests' tables, from what the call of one guest promises of its own.
use Rattle.std.proofs.Common.{◌≡◌, ℕ, ◌<◌, Bool, Some, Option, sym, ap, ◌∙◌, subst}
use Rattle.std.proofs.lemmas.List.{get_or-set_same, length-set}
use Rattle.std.specs.Vec.{with_item}
use Rattle.gv_types.specs.declared.event.Event.{Event}
use Rattle.gv_types.specs.declared.event.Event.TheVariants.{Read, Write, Turn, Switch, Move, Reset}
use Rattle.gv_types.specs.declared.reply.Answer.{Answer}
use Rattle.gv_types.specs.declared.reply.Reason.{Reason}
use Rattle.gv_gpu.specs.Device.{Device}
use Rattle.gv_gtt.specs.Gtt.{number_of}
use Rattle.gv_machine.specs.Machine.{device_at, event_receiver, guest_in}
use Rattle.gv_sched.specs.Rota.{owner_of}
use Rattle.gv_vgpu.specs.Access.{AccessMoves, AccessPokes, FrameMoves, WritePokes}
use Rattle.gv_vgpu.specs.Exact.{GrantsAreExact}
use Rattle.gv_vgpu.specs.Followed.{FollowsTables}
use Rattle.gv_vgpu.specs.Vgpu.{private_of}
use Rattle.gv_vgpu.specs.declared.vgpu.Vgpu.{Vgpu}
use Rattle.gv_vgpu.proofs.Exact.{grants_stay_exact}
use Rattle.gv_vgpu.proofs.Followed.{tables_are_followed}
use Rattle.gv_mediator.specs.Rota.{owners_in, owns}
use Rattle.gv_mediator.specs.Listed.{AnswersOnce}
use Rattle.gv_mediator.specs.Tables.{AllExact, AllFollow, EventMoves, EventOnce, EventPokes}
use Rattle.gv_mediator.specs.Tied.{IsAt, Tied, Ties, machine_of}
use Rattle.gv_mediator.specs.declared.mediator.Mediator.{Mediator}
use Rattle.gv_mediator.proofs.OneGuest.{device-there, one-there}
use Rattle.gv_mediator.proofs.Owning.{same-some}

-- ---- tables

pub all-follow : (d : Device) (m : Mediator) → Tied d m → AllFollow d m
all-follow d m tied g v at =
    let owners = owners_in m.rota in
    subst (FollowsTables d v) (sym (device-there d owners m.guests.items g v at ∙ ap (λ n. private_of d v (owns owners n)) (tied.ties.number g v at)))
    (tables_are_followed d v (owns owners g) (tied.ties.holds g v at))

-- ---- grants

pub all-exact : (d : Device) (m : Mediator) → Tied d m → AllExact d m
all-exact d m tied g v at =
    let owners = owners_in m.rota in
    subst (GrantsAreExact d v (owns owners g)) (sym (device-there d owners m.guests.items g v at ∙ ap (λ n. private_of d v (owns owners n)) (tied.ties.number g v at)))
    (grants_stay_exact d v (owns owners g) (tied.ties.holds g v at))

-- ---- one guest's device among all

module _ (d e : Device) (m : Mediator) (k : ℕ) (old new : Vgpu) (stopped : Bool) (here : IsAt m.guests.items k old) where
  abbrev after : Mediator
  after = record { guests = with_item m.guests k new; rota = m.rota; stopped = stopped }

  set-there : IsAt after.guests.items k new
  set-there = (subst (λ n. k < n) (sym (length-set m.guests.items k new)) here.0, get_or-set_same m.guests.items k new new here.0)

  pub moves-then : (one : Event) (answer : Answer) → guest_in (event_receiver (owner_of m.rota) one) ≡ Some k → AccessMoves e old new one answer → EventMoves e m after one answer
  moves-then (Read guest place width at) answer mine moves = tt
  moves-then (Write guest place width at value) answer mine moves = tt
  moves-then (Move guest frame) answer mine moves = λ v w before now.
      let same : guest.0 ≡ k = same-some guest.0 k mine in
      subst (λ v. FrameMoves e v w frame answer) (one-there m.guests.items k old v here (subst (λ n. IsAt m.guests.items n v) same before))
      (subst (λ w. FrameMoves e old w frame answer) (one-there after.guests.items k new w set-there (subst (λ n. IsAt after.guests.items n w) same now)) moves)
  moves-then (Reset guest) answer mine moves = tt
  moves-then (Turn engine) answer mine moves = tt
  moves-then (Switch engine) answer mine moves = tt

  pub once-then : (one : Event) (answer : Answer) → guest_in (event_receiver (owner_of m.rota) one) ≡ Some k → AnswersOnce (owns (owners_in m.rota) k) d e old new one answer → EventOnce d e m after one answer
  once-then one answer mine once g v w own before now =
      let same : g ≡ k = same-some g k (sym own ∙ mine) in
      subst (λ n. AnswersOnce (owns (owners_in m.rota) n) d e v w one answer) (sym same)
      (subst (λ v. AnswersOnce (owns (owners_in m.rota) k) d e v w one answer) (one-there m.guests.items k old v here (subst (λ n. IsAt m.guests.items n v) same before))
      (subst (λ w. AnswersOnce (owns (owners_in m.rota) k) d e old w one answer) (one-there after.guests.items k new w set-there (subst (λ n. IsAt after.guests.items n w) same now)) once))

  module _ (ties : Ties d (owners_in m.rota) m.guests.items) (number : number_of new.gtt ≡ number_of old.gtt) where
    before-is : device_at (machine_of d m).devices k ≡ private_of d old (owns (owners_in m.rota) k)
    before-is = device-there d (owners_in m.rota) m.guests.items k old here ∙ ap (λ n. private_of d old (owns (owners_in m.rota) n)) (ties.number k old here)

    after-is : device_at (machine_of e after).devices k ≡ private_of e new (owns (owners_in m.rota) k)
    after-is = device-there e (owners_in m.rota) after.guests.items k new set-there ∙ ap (λ n. private_of e new (owns (owners_in m.rota) n)) (number ∙ ties.number k old here)

    pub pokes-then :
        (one : Event) (failsafe : Option Reason) → guest_in (event_receiver (owner_of m.rota) one) ≡ Some k
        → AccessPokes d e (private_of d old (owns (owners_in m.rota) k)) (private_of e new (owns (owners_in m.rota) k)) one failsafe → EventPokes d e (machine_of d m) (machine_of e after) one failsafe
    pokes-then (Read guest place width at) failsafe mine pokes = tt
    pokes-then (Write guest place width at value) failsafe mine pokes =
        let same : guest.0 ≡ k = same-some guest.0 k mine in
        subst (λ n. WritePokes d e (device_at (machine_of d m).devices n) (device_at (machine_of e after).devices n) place at failsafe) (sym same)
        (subst (λ p. WritePokes d e p (device_at (machine_of e after).devices k) place at failsafe) (sym before-is)
        (subst (λ q. WritePokes d e (private_of d old (owns (owners_in m.rota) k)) q place at failsafe) (sym after-is) pokes))
    pokes-then (Move guest frame) failsafe mine pokes = tt
    pokes-then (Reset guest) failsafe mine pokes = tt
    pokes-then (Turn engine) failsafe mine pokes = tt
    pokes-then (Switch engine) failsafe mine pokes = tt
