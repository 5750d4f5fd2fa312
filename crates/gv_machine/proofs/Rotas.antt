-- Owners of engines: those of the rota, and guests that are there.
use Rattle.std.proofs.Common.{◌≡◌, ◌≢◌, ℕ, zero, suc, ◌+◌, ◌-◌, ◌%◌, ◌<◌, ◌≤◌, Bool, true, false, eqb, Option, None, Some, cond, List, length, get_or, set, refl, ap, sym, ◌∙◌, subst, ⊎_elim, mod-lt, arith}
use Rattle.std.proofs.lemmas.Bool.{cases_eq, eq-eqb, ne_eqb}
use Rattle.std.proofs.lemmas.List.{length-map, get_or-set_same, get_or-set_other}
use Rattle.std.specs.Option.{option_map_or}
use Rattle.std.specs.Prelude.{position}
use Rattle.gv_types.specs.Maps.{put}
use Rattle.gv_types.specs.declared.ids.EngineId.{EngineId}
use Rattle.gv_sched.specs.Rota.{Owners, first_owners, owner_of, next_owner, work_of_others, switched}
use Rattle.gv_sched.proofs.Order.{next_owner-first}
use Rattle.gv_private.specs.Device.{PrivateDevice}
use Rattle.gv_machine.specs.Laws.{HasOwners, FirstOwnersAreTheRotas, SwitchesAreTheRotas, SwitchesGoRound, DevicesKeepOwners}
use Rattle.gv_private.specs.Work.{has_work}
use Rattle.gv_machine.specs.Machine.{Machine, new_machine, Receiver, received, work_on, owner_after, switch_course}

-- the next owner is one of the guests
module _ (work : List Bool) (owner : ℕ) (there : owner < length work) where
  after_found : (found : Option ℕ) → option_map_or (λ between. (owner + 1 + between) % length work) found owner < length work
  after_found None = there
  after_found (Some between) = mod-lt (owner + 1 + between) (omega arith)

  pub next_owner-there : next_owner work owner < length work
  next_owner-there = after_found (position (λ w. w) (work_of_others work owner))

-- a new rota
first_owner : (guests engine : ℕ) → new_machine.owners engine ≡ owner_of (first_owners guests) engine
first_owner guests zero = refl
first_owner guests (suc zero) = refl
first_owner guests (suc (suc zero)) = refl
first_owner guests (suc (suc (suc zero))) = refl
first_owner guests (suc (suc (suc (suc engine)))) = refl

pub first_owners_are_the_rotas : FirstOwnersAreTheRotas
first_owners_are_the_rotas devices = record { guests = refl; owners = λ i engine. first_owner (length devices) engine i }

-- a switch, by a rota that has the machine's owners
module _ (s : Owners) (m : Machine) (engine : EngineId) (small : engine.0 < 4) (four : length s.owners ≡ 4) (same : HasOwners s m) where
  abbrev work : List Bool
  work = work_on engine.0 m.devices

  abbrev next : ℕ
  next = next_owner work (owner_of s engine.0)

  same_next : owner_after m engine.0 ≡ next
  same_next = ap (λ (owners : ℕ → ℕ). next_owner work (owners engine.0)) same.owners

  within : engine.0 < length s.owners
  within = subst (λ n. engine.0 < n) (sym four) small

  the_engine : (k : ℕ) → k ≡ engine.0 → put m.owners engine.0 (owner_after m engine.0) k ≡ get_or (set s.owners engine.0 next) k 0
  the_engine k is =
      ap (λ b. cond b (owner_after m engine.0) (m.owners k)) (eq-eqb k engine.0 is)
      ∙ same_next
      ∙ sym (ap (λ i. get_or (set s.owners engine.0 next) i 0) is ∙ get_or-set_same s.owners engine.0 next 0 within)

  another : (k : ℕ) → k ≢ engine.0 → put m.owners engine.0 (owner_after m engine.0) k ≡ get_or (set s.owners engine.0 next) k 0
  another k differ =
      ap (λ b. cond b (owner_after m engine.0) (m.owners k)) (ne_eqb k engine.0 differ)
      ∙ ap (λ (owners : ℕ → ℕ). owners k) same.owners
      ∙ sym (get_or-set_other s.owners engine.0 k next 0 differ)

  by_number : (k : ℕ) → put m.owners engine.0 (owner_after m engine.0) k ≡ get_or (set s.owners engine.0 next) k 0
  by_number k = ⊎_elim (the_engine k) (another k) (cases_eq k engine.0)

  pub owners-switched : HasOwners (switched s engine.0 work) (switch_course m engine).left
  owners-switched = record { guests = same.guests; owners = λ i k. by_number k i }

pub switches_are_the_rotas : SwitchesAreTheRotas
switches_are_the_rotas s m engine small four same = owners-switched s m engine small four same

pub switches_go_round : SwitchesGoRound
switches_go_round m engine there =
    let many = length-map m.devices (λ (p : PrivateDevice). has_work engine p) in
    next_owner-first (work_on engine m.devices) (m.owners engine) (subst (λ n. m.owners engine < n) (sym many) there)

pub devices_keep_owners : DevicesKeepOwners
devices_keep_owners m input g is = ap (λ (r : Receiver). (received m input r).left.owners) is

-- ---- owners are guests that are there

-- Each engine's owner is one of the guests, and guest 0 where there is none yet.
abbrev pub OwnersAreThere : Machine → Type 0
OwnersAreThere m = (engine : ℕ) → m.owners engine ≤ length m.devices - 1

module _ (m : Machine) (there : OwnersAreThere m) (some : 0 < length m.devices) where
  pub owner-there : (engine : ℕ) → m.owners engine < length m.devices
  owner-there engine = let most = there engine in omega arith

  pub next-there : (engine : ℕ) → owner_after m engine < length m.devices
  next-there engine =
      let many = length-map m.devices (λ (p : PrivateDevice). has_work engine p) in
      subst (λ n. owner_after m engine < n) many (next_owner-there (work_on engine m.devices) (m.owners engine) (subst (λ n. m.owners engine < n) (sym many) (owner-there engine)))

  by_engine : (engine k : ℕ) (b : Bool) → cond b (owner_after m engine) (m.owners k) ≤ length m.devices - 1
  by_engine engine k true = let next = next-there engine in omega arith
  by_engine engine k false = there k

  pub owners-there : (engine : EngineId) → OwnersAreThere (switch_course m engine).left
  owners-there engine k = by_engine engine.0 k (eqb k engine.0)
