-- A switch of an engine, and what comes of it for the machine.
use Rattle.std.proofs.Common.{◌≡◌, ℕ, ◌<◌, Bool, true, false, Option, None, Some, List, length, get_or, set, take, ap, sym, ◌∙◌, subst, refl}
use Rattle.std.proofs.lemmas.List.{get_or_default, length-map, length-set, set-get_or}
use Rattle.std.specs.Vec.{with_item}
use Rattle.gv_types.specs.Maps.{put}
use Rattle.gv_types.specs.declared.ids.EngineId.{EngineId}
use Rattle.gv_gpu.specs.Device.{Device}
use Rattle.gv_gtt.specs.Gtt.{number_of}
use Rattle.gv_machine.specs.Laws.{HasOwners}
use Rattle.gv_machine.specs.Machine.{owner_after, owner_told, switch_course, work_on}
use Rattle.gv_machine.proofs.Rotas.{owners-switched}
use Rattle.gv_sched.specs.Rota.{Owners, next_owner, owner_of, switched}
use Rattle.gv_vgpu.specs.Exchange.{Exchanges, owning}
use Rattle.gv_vgpu.specs.Vgpu.{private_of}
use Rattle.gv_vgpu.specs.Standing.{Holds}
use Rattle.gv_vgpu.specs.declared.vgpu.Vgpu.{Vgpu}
use Rattle.gv_mediator.specs.Rota.{is_guest, owners_in, owns}
use Rattle.gv_mediator.specs.Tied.{IsAt, Tied, Ties, devices_in, machine_of}
use Rattle.gv_mediator.specs.declared.mediator.Mediator.{Mediator}
use Rattle.gv_mediator.specs.Tables.{AllCopiesStay}
use Rattle.gv_mediator.proofs.Copies.{come-then}
use Rattle.gv_mediator.proofs.Exchange.{copies-away, copies-brought, devices-away, devices-brought, owners-given, put-same, ties-away, ties-brought, without-engine}
use Rattle.gv_mediator.proofs.Owning.{owner-of-engine, owns-it}

-- the works that were taken down are those on the engine
pub works-same :
    (works : List Bool) (seen guests : List Vgpu) (engine n : ℕ) (d : Device) (owners : ℕ → Option ℕ) → seen ≡ guests → n ≡ length guests
    → ((d : Device) (owners : ℕ → Option ℕ) → take (length seen) works ≡ work_on engine (devices_in d owners seen)) → take n works ≡ work_on engine (devices_in d owners guests)
works-same works seen guests engine n d owners same many are = ap (λ k. take k works) many ∙ subst (λ gs. take (length gs) works ≡ work_on engine (devices_in d owners gs)) same (are d owners)

module _ (d : Device) (m : Mediator) (tied : Tied d m) (engine : EngineId) (small : engine.0 < 4) (works : List Bool) (works_are : works ≡ work_on engine.0 (devices_in d (owners_in m.rota) m.guests.items))
    (owner : ℕ) (owner_is : owner ≡ owner_of m.rota engine.0) (next : ℕ) (next_is : next ≡ next_owner works (owner_of m.rota engine.0)) (rota : Owners) (rota_is : rota ≡ switched m.rota engine.0 works) where
  abbrev pub guests : List Vgpu
  guests = m.guests.items

  rota_given : rota ≡ record m.rota { owners = set m.rota.owners engine.0 next }
  rota_given = rota_is ∙ ap (λ n. record m.rota { owners = set m.rota.owners engine.0 n }) (sym next_is)

  has_owners : HasOwners m.rota (machine_of d m)
  has_owners = record { guests = tied.guests ∙ sym (length-map guests (λ (v : Vgpu). private_of d v (owns (owners_in m.rota) (number_of v.gtt)))); owners = refl }

  owners-then : owner_of rota ≡ (switch_course (machine_of d m) engine).left.owners
  owners-then = ap owner_of (rota_is ∙ ap (switched m.rota engine.0) works_are) ∙ sym (owners-switched m.rota (machine_of d m) engine small tied.engines has_owners).owners

  next-then : next ≡ owner_after (machine_of d m) engine.0
  next-then = next_is ∙ ap (λ w. next_owner w (owner_of m.rota engine.0)) works_are

  pub reply-then : (owner_told next).reply ≡ (owner_told (owner_after (machine_of d m) engine.0)).reply
  reply-then = ap (λ n. (owner_told n).reply) next-then

  pub next-there : next < rota.guests → next < length guests
  next-there there = subst (λ n. next < n) (ap (λ (r : Owners). r.guests) rota_given ∙ tied.guests) there

  mine : owners_in m.rota engine.0 ≡ Some owner
  mine = owner-of-engine m.rota engine.0 small ∙ ap Some (sym owner_is)

  pub owner-there : owner < length guests
  owner-there = tied.ties.there engine.0 owner mine

  -- ---- the owner stays

  module _ (same : next ≡ owner) where
    rota_same : rota ≡ m.rota
    rota_same = rota_given ∙ ap (λ n. record m.rota { owners = set m.rota.owners engine.0 n }) (same ∙ owner_is) ∙ ap (λ owners. record m.rota { owners = owners }) (set-get_or m.rota.owners engine.0 0)

    pub machine-stays : machine_of d (record m { rota = rota }) ≡ (switch_course (machine_of d m) engine).left
    machine-stays = λ i. record { devices = devices_in d (owners_in (rota_same i)) guests; owners = owners-then i }

    pub tied-stays : Tied d (record m { rota = rota })
    tied-stays = subst (λ (r : Owners). Tied d (record m { rota = r })) (sym rota_same) tied

  -- ---- it is put away

  module _ (old : Vgpu) (here : IsAt guests owner old) (own : ℕ → Bool) (own_is : own ≡ owns (owners_in m.rota) owner) where
    pub holds-owner : Holds d old own
    holds-owner = subst (Holds d old) (sym own_is) (tied.ties.holds owner old here)

    pub owns-engine : own engine.0 ≡ true
    owns-engine = ap (λ (h : ℕ → Bool). h engine.0) own_is ∙ ap (is_guest owner) mine ∙ owns-it owner

    module _ (e : Device) (new : Vgpu) (away : Exchanges own own (owning own engine.0 false) d e old new) (idle : e.loaded engine.0 ≡ None) where
      ties-between : Ties e (put (owners_in m.rota) engine.0 None) (set guests owner new)
      ties-between = ties-away d e (owners_in m.rota) guests owner engine.0 old new here tied.ties mine own own_is away idle

      pub next-between : next < rota.guests → next < length (set guests owner new)
      next-between there = subst (λ n. next < n) (sym (length-set guests owner new)) (next-there there)

      -- each guest is there
      between-there : (k : ℕ) (x : Vgpu) → IsAt guests k x → (y : Vgpu) × IsAt (set guests owner new) k y
      between-there k x at =
          let within : k < length (set guests owner new) = subst (λ n. k < n) (sym (length-set guests owner new)) at.0 in
          (get_or (set guests owner new) k x, (within, get_or_default (set guests owner new) k (get_or (set guests owner new) k x) x within))

      -- ---- and brought

      module _ (v : Vgpu) (at : IsAt (set guests owner new) next v) (there : ℕ → Bool) (there_is : there ≡ owning (owns (owners_in rota) next) engine.0 false) where
        there_owns : there ≡ owns (put (owners_in m.rota) engine.0 None) next
        there_owns = there_is ∙ ap (λ (r : Owners). owning (owns (owners_in r) next) engine.0 false) rota_given ∙ without-engine m.rota engine.0 next small tied.engines

        pub holds-next : Holds e v there
        holds-next = subst (Holds e v) (sym there_owns) (ties-between.holds next v at)

        pub away-next : there engine.0 ≡ false
        away-next = ap (λ (h : ℕ → Bool). h engine.0) there_owns ∙ ap (is_guest next) (put-same (owners_in m.rota) engine.0 None engine.0 refl)

        free : put (owners_in m.rota) engine.0 None engine.0 ≡ None
        free = put-same (owners_in m.rota) engine.0 None engine.0 refl

        owners-are : owners_in rota ≡ put (put (owners_in m.rota) engine.0 None) engine.0 (Some next)
        owners-are = ap owners_in rota_given ∙ owners-given m.rota engine.0 next small tied.engines

        module _ (f : Device) (brings : Exchanges (owning there engine.0 true) there (owning there engine.0 true) e f v v) where
          pub tied-switched : Tied f (record m { guests = with_item m.guests owner new; rota = rota })
          tied-switched = record {
            ties = subst (λ owners. Ties f owners (set guests owner new)) (sym owners-are)
                (ties-brought e f (put (owners_in m.rota) engine.0 None) (set guests owner new) next engine.0 v at ties-between free there there_owns brings);
            guests = ap (λ (r : Owners). r.guests) rota_given ∙ tied.guests ∙ sym (length-set guests owner new);
            engines = ap (λ (r : Owners). length r.owners) rota_given ∙ length-set m.rota.owners engine.0 next ∙ tied.engines;
          }

          pub copies-switched : AllCopiesStay d f m (record m { guests = with_item m.guests owner new; rota = rota })
          copies-switched =
              come-then d e f guests (set guests owner new) (set guests owner new) between-there
              (copies-away d e (owners_in m.rota) guests owner engine.0 old new here tied.ties mine own own_is away idle)
              (copies-brought e f (put (owners_in m.rota) engine.0 None) (set guests owner new) next engine.0 v at ties-between free there there_owns brings)

          devices-switched : devices_in f (owners_in rota) (set guests owner new) ≡ devices_in d (owners_in m.rota) guests
          devices-switched =
              ap (λ owners. devices_in f owners (set guests owner new)) owners-are
              ∙ devices-brought e f (put (owners_in m.rota) engine.0 None) (set guests owner new) next engine.0 v at ties-between free there there_owns brings
              ∙ devices-away d e (owners_in m.rota) guests owner engine.0 old new here tied.ties mine own own_is away idle

          pub machine-switched : machine_of f (record m { guests = with_item m.guests owner new; rota = rota }) ≡ (switch_course (machine_of d m) engine).left
          machine-switched = λ i. record { devices = devices-switched i; owners = owners-then i }
