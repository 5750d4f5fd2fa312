-- The guest that takes an event, and what comes of it for the machine.
use Rattle.std.proofs.Common.{◌≡◌, ℕ, ◌+◌, ◌*◌, ◌<◌, ◌≤◌, Bool, None, Some, List, [], ◌∷◌, ◌++◌, length, map, set, Result, Ok, Err, IfOk, IfErr, sym, ap, ◌∙◌, subst}
use Rattle.std.proofs.lemmas.List.{append-nil, length-map, length-set}
use Rattle.std.proofs.lemmas.Option.{none-some}
use Rattle.std.specs.Vec.{with_item}
use Rattle.gv_types.specs.declared.event.Event.{Event}
use Rattle.gv_types.specs.declared.event.Event.TheVariants.{Read, Write, Turn, Switch, Move, Reset}
use Rattle.gv_types.specs.declared.reply.Reply.{Reply}
use Rattle.gv_types.specs.declared.reply.Stop.{Stop}
use Rattle.gv_gpu.specs.Change.{Ran}
use Rattle.gv_gpu.specs.Device.{Device, JournalEntry}
use Rattle.gv_gtt.specs.Gtt.{frames_of, number_of, own_pages}
use Rattle.gv_machine.specs.Course.{Course}
use Rattle.gv_machine.specs.Machine.{Machine, Receiver, Happened, device, rota, device_at, event_receiver, guest_in, happened}
use Rattle.gv_private.specs.Device.{PrivateDevice}
use Rattle.gv_private.specs.Inputs.{Answered, answer}
use Rattle.gv_private.specs.Turn.{RanCommand}
use Rattle.gv_sched.specs.Rota.{owner_of}
use Rattle.gv_vgpu.specs.Access.{IsAccess, Replies}
use Rattle.gv_vgpu.specs.Changes.{Stops, journal_entry}
use Rattle.gv_vgpu.specs.Vgpu.{private_of}
use Rattle.gv_vgpu.specs.Standing.{HasRoomToLoad}
use Rattle.gv_vgpu.specs.declared.vgpu.Vgpu.{Vgpu}
use Rattle.gv_mediator.specs.Event.{IsEvent, IsGuestEvent, entries_ran, event_done, received_by}
use Rattle.gv_mediator.specs.Listed.{DeviceMayFault, DeviceMayLackMemory, EventMayFault, EventMayLackMemory, ReceiverMayFault, ReceiverMayLackMemory}
use Rattle.gv_mediator.specs.Rota.{owners_in, owns, is_guest}
use Rattle.gv_mediator.specs.Tied.{IsAt, Tied, Ties, devices_in, machine_of}
use Rattle.gv_mediator.specs.declared.mediator.Mediator.{Mediator}
use Rattle.gv_vgpu.proofs.Others.{device_stands, device_stays}
use Rattle.gv_vgpu.proofs.Small.{devices_are_small, windows_are_small}
use Rattle.gv_mediator.proofs.Copies.{AllStay, all-stay}
use Rattle.gv_mediator.proofs.OneGuest.{OwnersChange, device-there, devices-set, idle-stays, owners-stay, ties-after}
use Rattle.gv_mediator.proofs.Owning.{owner-of-engine, owns-it, same-some}
use Rattle.gv_mediator.proofs.Room.{IsSmall, all-at, is-small, live-below, room-for}

-- ---- results

pub ok-all : {A E : Type 0} (r : Result A E) (P Q : A → Type 0) → IfOk r P → ((a : A) → P a → Q a) → IfOk r Q
ok-all (Ok a) P Q is next = next a is
ok-all (Err e) P Q is next = tt

pub err-all : {A E : Type 0} (r : Result A E) (P Q : E → Type 0) → IfErr r P → ((e : E) → P e → Q e) → IfErr r Q
err-all (Ok a) P Q is next = tt
err-all (Err e) P Q is next = next e is

-- ---- the receiver

takes : (r : Receiver) (k : ℕ) → guest_in r ≡ Some k → r ≡ device k
takes (device g) k is = let same : g ≡ k = cc in ap device same
takes (rota engine) k is = cc

module _ (d : Device) (m : Mediator) (tied : Tied d m) (one : Event) (k : ℕ) (is : IsEvent (machine_of d m) one) (mine : guest_in (event_receiver (owner_of m.rota) one) ≡ Some k) where
  abbrev pub guests : List Vgpu
  guests = m.guests.items

  devices-many : length (devices_in d (owners_in m.rota) guests) ≡ length guests
  devices-many = length-map guests (λ (v : Vgpu). private_of d v (owns (owners_in m.rota) (number_of v.gtt)))

  named : (g : ℕ) → g < length (devices_in d (owners_in m.rota) guests) → Some g ≡ Some k → k < length guests
  named g there same = subst (λ n. n < length guests) (same-some g k same) (subst (λ n. g < n) devices-many there)

  -- it is there
  pub receiver-there : k < length guests
  receiver-there = by one is mine
    where
      by : (one : Event) → IsEvent (machine_of d m) one → guest_in (event_receiver (owner_of m.rota) one) ≡ Some k → k < length guests
      by (Read guest place width at) is mine = named guest.0 is.0 mine
      by (Write guest place width at value) is mine = named guest.0 is.0 mine
      by (Move guest frame) is mine = named guest.0 is.0 mine
      by (Reset guest) is mine = named guest.0 is mine
      by (Turn engine) is mine = tied.ties.there engine.0 k (owner-of-engine m.rota engine.0 is ∙ mine)
      by (Switch engine) is mine = absurd (none-some k mine)

  pub is-received : event_done (machine_of d m) one ≡ received_by (machine_of d m) one (device k)
  is-received = ap (received_by (machine_of d m) one) (takes (event_receiver (owner_of m.rota) one) k mine)

  module _ (old : Vgpu) (here : IsAt guests k old) where
    pub device-is : device_at (devices_in d (owners_in m.rota) guests) k ≡ private_of d old (owns (owners_in m.rota) k)
    device-is = device-there d (owners_in m.rota) guests k old here ∙ ap (λ n. private_of d old (owns (owners_in m.rota) n)) (tied.ties.number k old here)

    frames-are : length (device_at (devices_in d (owners_in m.rota) guests) k).memory ≡ length (frames_of old.gtt).pages
    frames-are = ap (λ (p : PrivateDevice). length p.memory) device-is ∙ length-map (frames_of old.gtt).pages d.words

    access-of : (one : Event) (g : ℕ) → Some g ≡ Some k → IsAccess g (length (device_at (devices_in d (owners_in m.rota) guests) g).memory) one → IsAccess (number_of old.gtt) (length (frames_of old.gtt).pages) one
    access-of one g same access =
        let number : g ≡ number_of old.gtt = same-some g k same ∙ sym (tied.ties.number k old here) in
        subst (λ n. IsAccess (number_of old.gtt) n one) (ap (λ g. length (device_at (devices_in d (owners_in m.rota) guests) g).memory) (same-some g k same) ∙ frames-are)
        (subst (λ n. IsAccess n (length (device_at (devices_in d (owners_in m.rota) guests) g).memory) one) number access)

    -- it is an event of that guest's device
    pub guest-event : IsGuestEvent (number_of old.gtt) (length (frames_of old.gtt).pages) (owns (owners_in m.rota) k) one
    guest-event = by one is mine
      where
        by : (one : Event) → IsEvent (machine_of d m) one → guest_in (event_receiver (owner_of m.rota) one) ≡ Some k → IsGuestEvent (number_of old.gtt) (length (frames_of old.gtt).pages) (owns (owners_in m.rota) k) one
        by (Read guest place width at) is mine = access-of (Read guest place width at) guest.0 mine is.1
        by (Write guest place width at value) is mine = access-of (Write guest place width at value) guest.0 mine is.1
        by (Move guest frame) is mine = access-of (Move guest frame) guest.0 mine is.1
        by (Reset guest) is mine = same-some guest.0 k mine ∙ sym (tied.ties.number k old here)
        by (Turn engine) is mine = (is, ap (is_guest k) (owner-of-engine m.rota engine.0 is ∙ mine) ∙ owns-it k)
        by (Switch engine) is mine = absurd (none-some k mine)

    small : (j : ℕ) (v : Vgpu) → IsAt guests j v → IsSmall v
    small j v at = is-small v (devices_are_small d v (owns (owners_in m.rota) j) (tied.ties.holds j v at))

    pub room-here : HasRoomToLoad d old
    room-here =
        subst (λ n. n + (4 * length (frames_of old.gtt).pages + 338) ≤ 131072 + own_pages old.gtt) (sym tied.ties.live)
        (room-for guests k old here (all-at IsSmall guests small) (windows_are_small d old (owns (owners_in m.rota) k) (tied.ties.holds k old here)) tied.ties.few tied.ties.eight)

    pub live-here : d.live < 131072
    live-here = subst (λ n. n < 131072) (sym tied.ties.live) (live-below guests (all-at IsSmall guests small) tied.ties.few tied.ties.eight)

    -- ---- at which it may stop

    receiver-is : event_receiver (owner_of m.rota) one ≡ device k
    receiver-is = takes (event_receiver (owner_of m.rota) one) k mine

    pub may-fault : DeviceMayFault (private_of d old (owns (owners_in m.rota) k)) one → EventMayFault (machine_of d m) one
    may-fault may = subst (ReceiverMayFault (machine_of d m) one) (sym receiver-is) (subst (λ p. DeviceMayFault p one) (sym device-is) may)

    pub may-lack : DeviceMayLackMemory d (private_of d old (owns (owners_in m.rota) k)) one → EventMayLackMemory d (machine_of d m) one
    may-lack may = subst (ReceiverMayLackMemory d (machine_of d m) one) (sym receiver-is) (subst (λ p. DeviceMayLackMemory d p one) (sym device-is) may)

    -- ---- what comes of it

    module _ (e : Device) (new : Vgpu) (reply : Reply) (replies : Replies (owns (owners_in m.rota) k) d e old new (answer (private_of d old (owns (owners_in m.rota) k)) one) reply) where
      answer-same : answer (device_at (devices_in d (owners_in m.rota) guests) k) one ≡ answer (private_of d old (owns (owners_in m.rota) k)) one
      answer-same = ap (λ (p : PrivateDevice). answer p one) device-is

      pub reply-is : map (λ (h : Happened). h.reply) (event_done (machine_of d m) one).came ≡ reply ∷ []
      reply-is =
          ap (λ (c : Course Machine Happened). map (λ (h : Happened). h.reply) c.came) is-received
          ∙ ap (λ (a : Answered). a.reply ∷ []) answer-same
          ∙ ap (λ (r : Reply). r ∷ []) replies.reply_is

      abbrev ran : List RanCommand
      ran = (answer (private_of d old (owns (owners_in m.rota) k)) one).ran

      owners : OwnersChange (owns (owners_in m.rota) k) (owners_in m.rota) (owners_in m.rota) k (length guests)
      owners = owners-stay d e (owners_in m.rota) guests k old new tied.ties ran replies.keeps.changes

      idle : (engine : ℕ) → owners_in m.rota engine ≡ None → e.loaded engine ≡ None
      idle = idle-stays d e (owners_in m.rota) guests k old new tied.ties ran replies.keeps.changes

      pub ties-then : Ties e (owners_in m.rota) (set guests k new)
      ties-then = ties-after device_stands device_stays devices_are_small windows_are_small d e (owners_in m.rota) (owners_in m.rota) (owns (owners_in m.rota) k) guests k old new here tied.ties ran replies.keeps.holds replies.keeps.changes owners idle

      pub machine-then : record { devices = devices_in e (owners_in m.rota) (set guests k new); owners = owner_of m.rota } ≡ (event_done (machine_of d m) one).left
      machine-then =
          ap (λ devices. record { devices = devices; owners = owner_of m.rota })
          (devices-set device_stands device_stays devices_are_small windows_are_small d e (owners_in m.rota) (owners_in m.rota) (owns (owners_in m.rota) k) guests k old new here tied.ties ran replies.keeps.holds replies.keeps.changes owners idle
          (answer (device_at (devices_in d (owners_in m.rota) guests) k) one).left (sym replies.left ∙ ap (λ (a : Answered). a.left) (sym answer-same)))
          ∙ ap (λ (c : Course Machine Happened). c.left) (sym is-received)

      pub tied-then : (stopped : Bool) → Tied e (record { guests = with_item m.guests k new; rota = m.rota; stopped = stopped })
      tied-then stopped = record { ties = ties-then; guests = tied.guests ∙ sym (length-set guests k new); engines = tied.engines }

      pub copies-then : AllStay d e guests (set guests k new)
      copies-then = all-stay d e (owners_in m.rota) (owners_in m.rota) (owns (owners_in m.rota) k) guests k old new here tied.ties ran replies.keeps.holds replies.keeps.changes owners idle replies.keeps.copies

      entries-same : map journal_entry (answer (private_of d old (owns (owners_in m.rota) k)) one).ran ≡ entries_ran (event_done (machine_of d m) one).came
      entries-same = ap (λ (a : Answered). map journal_entry a.ran) (sym answer-same) ∙ one-ran ∙ ap (λ (c : Course Machine Happened). entries_ran c.came) (sym is-received)
        where
          one-ran : map journal_entry (answer (device_at (devices_in d (owners_in m.rota) guests) k) one).ran ≡ entries_ran (happened (answer (device_at (devices_in d (owners_in m.rota) guests) k) one) ∷ [])
          one-ran = ap (map journal_entry) (sym (append-nil (answer (device_at (devices_in d (owners_in m.rota) guests) k) one).ran))

      pub ran-then : Ran d e (entries_ran (event_done (machine_of d m) one).came)
      ran-then = record {
        journal = ap (λ (x : Device). x.journal) replies.keeps.changes.outside ∙ ap (λ (ran : List JournalEntry). d.journal ++ ran) entries-same;
        strays = ap (λ (x : Device). x.strays) replies.keeps.changes.outside;
      }

-- after a call that stopped nothing ran
pub ran-stopped : (here : ℕ → Bool) (d e : Device) (v : Vgpu) (stop : Stop) → Stops here d e v stop → Ran d e []
ran-stopped here d e v stop stops = record {
  journal = ap (λ (x : Device). x.journal) stops.outside ∙ sym (append-nil d.journal);
  strays = ap (λ (x : Device). x.strays) stops.outside;
}
