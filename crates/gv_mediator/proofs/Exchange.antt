-- An engine goes from its owner to another guest: all guests' devices stand, for the same private devices.
use Rattle.std.proofs.Common.{◌≡◌, ◌≢◌, ℕ, ◌<◌, ◌==◌, nat_lt, Bool, true, false, [], Option, None, Some, List, length, get_or, set, ap, sym, ◌∙◌, ⊎_elim, subst, refl, if◌then◌else◌}
use Rattle.std.proofs.lemmas.Bool.{cases_eq, eq-eqb, ne_eqb}
use Rattle.std.proofs.lemmas.List.{append-nil, get_or-set_same, get_or-set_other, set-get_or}
use Rattle.std.proofs.lemmas.Option.{none-some}
use Rattle.gv_types.specs.Maps.{put}
use Rattle.gv_gpu.specs.Change.{Ran}
use Rattle.gv_gpu.specs.Device.{Device}
use Rattle.gv_gpu.specs.Part.{AreDisjoint}
use Rattle.gv_gtt.specs.Gtt.{number_of, ranges_of}
use Rattle.gv_machine.specs.Machine.{no_ranges}
use Rattle.gv_private.specs.Device.{new_device}
use Rattle.gv_sched.specs.Rota.{Owners}
use Rattle.gv_vgpu.specs.Changes.{ChangesOwn, journalled}
use Rattle.gv_vgpu.specs.Exchange.{Exchanges, owning}
use Rattle.gv_vgpu.specs.Vgpu.{private_of}
use Rattle.gv_vgpu.specs.declared.vgpu.Vgpu.{Vgpu}
use Rattle.gv_mediator.specs.Rota.{is_guest, owners_in, owns}
use Rattle.gv_mediator.specs.Tied.{IsAt, Ties, devices_in}
use Rattle.gv_vgpu.proofs.Others.{device_stands, device_stays}
use Rattle.gv_vgpu.proofs.Small.{devices_are_small, windows_are_small}
use Rattle.gv_mediator.proofs.Copies.{AllCome, all-come}
use Rattle.gv_mediator.proofs.OneGuest.{OwnersChange, device-there, devices-set, loaded-same, ties-after}
use Rattle.gv_mediator.proofs.Owning.{below-four, owners-disjoint, owns-it, same-some}

-- ---- owners

pub put-same : {A : Type 0} (f : ℕ → A) (k : ℕ) (v : A) (n : ℕ) → n ≡ k → put f k v n ≡ v
put-same f k v n is = ap (λ b. if b then v else f n) (eq-eqb n k is)

put-other : {A : Type 0} (f : ℕ → A) (k : ℕ) (v : A) (n : ℕ) → n ≢ k → put f k v n ≡ f n
put-other f k v n differ = ap (λ b. if b then v else f n) (ne_eqb n k differ)

put-again : {A : Type 0} (f : ℕ → A) (k : ℕ) (v w : A) → put (put f k v) k w ≡ put f k w
put-again {A = A} f k v w = λ i n. by (f n) (n == k) i
  where
    by : (x : A) (b : Bool) → (if b then w else (if b then v else x)) ≡ (if b then w else x)
    by x true = refl
    by x false = refl

other-guest : (g k : ℕ) → k ≢ g → is_guest k (Some g) ≡ false
other-guest g k differ = ne_eqb g k (λ is. differ (sym is))

-- The guest owns the engine no more, where nobody does.
owning-none : (owners : ℕ → Option ℕ) (engine g : ℕ) → owning (owns owners g) engine false ≡ owns (put owners engine None) g
owning-none owners engine g = λ i k. by (owners k) (k == engine) i
  where
    by : (o : Option ℕ) (b : Bool) → (if b then false else is_guest g o) ≡ is_guest g (if b then None else o)
    by o true = refl
    by o false = refl

owning-some : (owners : ℕ → Option ℕ) (engine n : ℕ) → owning (owns owners n) engine true ≡ owns (put owners engine (Some n)) n
owning-some owners engine n = λ i k. by (owners k) (k == engine) i
  where
    by : (o : Option ℕ) (b : Bool) → (if b then true else is_guest n o) ≡ is_guest n (if b then Some n else o)
    by o true = sym (owns-it n)
    by o false = refl

-- a guest that owns an engine neither before nor afterwards
owns-kept : (owners : ℕ → Option ℕ) (engine k : ℕ) (o : Option ℕ) → is_guest k (owners engine) ≡ false → is_guest k o ≡ false → owns (put owners engine o) k ≡ owns owners k
owns-kept owners engine k o was now = λ i j. each j i
  where
    each : (j : ℕ) → is_guest k (put owners engine o j) ≡ is_guest k (owners j)
    each j = ⊎_elim
        (λ is. ap (is_guest k) (put-same owners engine o j is) ∙ now ∙ sym (ap (λ n. is_guest k (owners n)) is ∙ was))
        (λ differ. ap (is_guest k) (put-other owners engine o j differ))
        (cases_eq j engine)

-- the rota with another owner of an engine
module _ (s : Owners) (engine n : ℕ) (small : engine < 4) (four : length s.owners ≡ 4) where
  abbrev pub given : Owners
  given = record s { owners = set s.owners engine n }

  at : (j : ℕ) → j ≡ engine → owners_in given j ≡ put (put (owners_in s) engine None) engine (Some n) j
  at j is =
      let below : nat_lt j 4 ≡ true = below-four j (subst (λ k. k < 4) (sym is) small) in
      ap (λ b. if b then Some (get_or (set s.owners engine n) j 0) else None) below
      ∙ ap Some (ap (λ k. get_or (set s.owners engine n) k 0) is ∙ get_or-set_same s.owners engine n 0 (subst (λ k. engine < k) (sym four) small))
      ∙ sym (put-same (put (owners_in s) engine None) engine (Some n) j is)

  off : (j : ℕ) → j ≢ engine → owners_in given j ≡ put (put (owners_in s) engine None) engine (Some n) j
  off j differ =
      ap (λ o. if nat_lt j 4 then Some o else None) (get_or-set_other s.owners engine j n 0 differ)
      ∙ sym (put-other (put (owners_in s) engine None) engine (Some n) j differ ∙ put-other (owners_in s) engine None j differ)

  pub owners-given : owners_in given ≡ put (put (owners_in s) engine None) engine (Some n)
  owners-given = λ i j. ⊎_elim (at j) (off j) (cases_eq j engine) i

  -- the engines that the new owner owns but for this one
  pub without-engine : owning (owns (owners_in given) n) engine false ≡ owns (put (owners_in s) engine None) n
  without-engine =
      owning-none (owners_in given) engine n
      ∙ ap (λ owners. owns (put owners engine None) n) owners-given
      ∙ ap (λ owners. owns owners n) (put-again (put (owners_in s) engine None) engine (Some n) None ∙ put-again (owners_in s) engine None None)

-- ---- a call by which owners change

module _ (d e : Device) (before after : ℕ → Option ℕ) (engines : ℕ → Bool) (guests : List Vgpu) (g : ℕ) (old new : Vgpu) (here : IsAt guests g old) (ties : Ties d before guests)
    (exchanges : Exchanges engines (owns before g) (owns after g) d e old new) (owners : OwnersChange engines before after g (length guests)) (idle : (engine : ℕ) → after engine ≡ None → e.loaded engine ≡ None) where
  changes : ChangesOwn engines (journalled d []) e old new
  changes = subst (λ journal. ChangesOwn engines (record d { journal = journal }) e old new) (sym (append-nil d.journal)) exchanges.changes

  pub ties-exchanged : Ties e after (set guests g new)
  ties-exchanged = ties-after device_stands device_stays devices_are_small windows_are_small d e before after engines guests g old new here ties [] exchanges.holds changes owners idle

  was : get_or (devices_in d before guests) g (new_device 0 0 no_ranges) ≡ private_of d old (owns before g)
  was = device-there d before guests g old here ∙ ap (λ n. private_of d old (owns before n)) (ties.number g old here)

  pub devices-exchanged : devices_in e after (set guests g new) ≡ devices_in d before guests
  devices-exchanged =
      devices-set device_stands device_stays devices_are_small windows_are_small d e before after engines guests g old new here ties [] exchanges.holds changes owners idle (private_of d old (owns before g)) exchanges.device
      ∙ ap (set (devices_in d before guests) g) (sym was)
      ∙ set-get_or (devices_in d before guests) g (new_device 0 0 no_ranges)

  pub copies-exchanged : AllCome d e guests (set guests g new)
  copies-exchanged = all-come d e before after engines guests g old new here ties [] exchanges.holds changes owners idle exchanges.copies

pub ran-exchanged : (engines before after : ℕ → Bool) (d e : Device) (old new : Vgpu) → Exchanges engines before after d e old new → Ran d e []
ran-exchanged engines before after d e old new exchanges = record {
  journal = ap (λ (x : Device). x.journal) exchanges.changes.outside ∙ sym (append-nil d.journal);
  strays = ap (λ (x : Device). x.strays) exchanges.changes.outside;
}

-- ---- put away

module _ (d e : Device) (owners : ℕ → Option ℕ) (guests : List Vgpu) (g engine : ℕ) (old new : Vgpu) (here : IsAt guests g old) (ties : Ties d owners guests) (mine : owners engine ≡ Some g)
    (own : ℕ → Bool) (is : own ≡ owns owners g) (exchanges : Exchanges own own (owning own engine false) d e old new) (idle : e.loaded engine ≡ None) where
  abbrev pub between : ℕ → Option ℕ
  between = put owners engine None

  away : Exchanges (owns owners g) (owns owners g) (owns between g) d e old new
  away =
      subst (λ after. Exchanges (owns owners g) (owns owners g) after d e old new) (owning-none owners engine g)
      (subst (λ own. Exchanges own own (owning own engine false) d e old new) is exchanges)

  there_between : (j k : ℕ) → between j ≡ Some k → k < length guests
  there_between j k owned = ⊎_elim
      (λ same. absurd (none-some k (sym (put-same owners engine None j same) ∙ owned)))
      (λ differ. ties.there j k (sym (put-other owners engine None j differ) ∙ owned))
      (cases_eq j engine)

  owners-away : OwnersChange (owns owners g) owners between g (length guests)
  owners-away = record {
    free = λ k differ. owners-disjoint owners g k (λ same. differ (sym same));
    same = λ k differ. owns-kept owners engine k None (ap (is_guest k) mine ∙ other-guest g k differ) refl;
    there = there_between;
  }

  idle-between : (j : ℕ) → between j ≡ None → e.loaded j ≡ None
  idle-between j none = ⊎_elim
      (λ same. ap e.loaded same ∙ idle)
      (λ differ.
      let was : owners j ≡ None = sym (put-other owners engine None j differ) ∙ none in
      loaded-same (number_of old.gtt) (ranges_of old.gtt) (owns owners g) d e away.changes.outside j (ap (is_guest g) was) ∙ ties.idle j was)
      (cases_eq j engine)

  pub ties-away : Ties e between (set guests g new)
  ties-away = ties-exchanged d e owners between (owns owners g) guests g old new here ties away owners-away idle-between

  pub copies-away : AllCome d e guests (set guests g new)
  copies-away = copies-exchanged d e owners between (owns owners g) guests g old new here ties away owners-away idle-between

  pub devices-away : devices_in e between (set guests g new) ≡ devices_in d owners guests
  devices-away = devices-exchanged d e owners between (owns owners g) guests g old new here ties away owners-away idle-between

-- ---- brought

module _ (d e : Device) (owners : ℕ → Option ℕ) (guests : List Vgpu) (n engine : ℕ) (v : Vgpu) (here : IsAt guests n v) (ties : Ties d owners guests) (free : owners engine ≡ None)
    (own : ℕ → Bool) (is : own ≡ owns owners n) (exchanges : Exchanges (owning own engine true) own (owning own engine true) d e v v) where
  abbrev pub afterwards : ℕ → Option ℕ
  afterwards = put owners engine (Some n)

  brought : Exchanges (owns afterwards n) (owns owners n) (owns afterwards n) d e v v
  brought =
      subst (λ now. Exchanges now (owns owners n) now d e v v) (owning-some owners engine n)
      (subst (λ own. Exchanges (owning own engine true) own (owning own engine true) d e v v) is exchanges)

  same_owns : (k : ℕ) → k ≢ n → owns afterwards k ≡ owns owners k
  same_owns k differ = owns-kept owners engine k (Some n) (ap (is_guest k) free) (other-guest n k differ)

  there_afterwards : (j k : ℕ) → afterwards j ≡ Some k → k < length guests
  there_afterwards j k owned = ⊎_elim
      (λ same. subst (λ m. m < length guests) (same-some n k (sym (put-same owners engine (Some n) j same) ∙ owned)) here.0)
      (λ differ. ties.there j k (sym (put-other owners engine (Some n) j differ) ∙ owned))
      (cases_eq j engine)

  owners-brought : OwnersChange (owns afterwards n) owners afterwards n (length guests)
  owners-brought = record {
    free = λ k differ. subst (AreDisjoint (owns afterwards n)) (same_owns k differ) (owners-disjoint afterwards n k (λ same. differ (sym same)));
    same = same_owns;
    there = there_afterwards;
  }

  idle-afterwards : (j : ℕ) → afterwards j ≡ None → e.loaded j ≡ None
  idle-afterwards j none = ⊎_elim
      (λ same. absurd (none-some n (sym none ∙ put-same owners engine (Some n) j same)))
      (λ differ.
      let was : owners j ≡ None = sym (put-other owners engine (Some n) j differ) ∙ none in
      loaded-same (number_of v.gtt) (ranges_of v.gtt) (owns afterwards n) d e brought.changes.outside j (ap (is_guest n) none) ∙ ties.idle j was)
      (cases_eq j engine)

  same_guests : set guests n v ≡ guests
  same_guests = ap (set guests n) (sym here.1) ∙ set-get_or guests n v

  pub ties-brought : Ties e afterwards guests
  ties-brought = subst (Ties e afterwards) same_guests (ties-exchanged d e owners afterwards (owns afterwards n) guests n v v here ties brought owners-brought idle-afterwards)

  pub copies-brought : AllCome d e guests guests
  copies-brought = subst (AllCome d e guests) same_guests (copies-exchanged d e owners afterwards (owns afterwards n) guests n v v here ties brought owners-brought idle-afterwards)

  pub devices-brought : devices_in e afterwards guests ≡ devices_in d owners guests
  devices-brought =
      ap (devices_in e afterwards) (sym same_guests)
      ∙ devices-exchanged d e owners afterwards (owns afterwards n) guests n v v here ties brought owners-brought idle-afterwards
