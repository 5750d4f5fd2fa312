-- What a call of one guest changes, seen by all.
use Rattle.std.proofs.Common.{◌≡◌, ◌≢◌, ℕ, ◌+◌, ◌*◌, ◌<◌, ◌≤◌, ◌||◌, Bool, true, false, cond, Option, None, Some, List, All, length, get_or, set, map, ap, sym, ◌∙◌, ⊎_elim, subst, arith, refl, if◌then◌else◌}
use Rattle.std.specs.List.{AllByRecursion, sum_by}
use Rattle.std.proofs.lemmas.List.{same_lists, length-map, length-set, get_or-map, get_or-set_same, get_or-set_other, get_or_default, set-get_or, map-set}
use Rattle.std.proofs.lemmas.List.Sums.{get_or-le-sum_by, sum_by-set}
use Rattle.std.proofs.lemmas.Bool.{cases_eq}
use Rattle.std.proofs.lemmas.Bool.Decides.{nat_tests}
use Rattle.std.proofs.lemmas.Option.{none-some}
use Rattle.gv_types.specs.declared.ids.Label.{Label}
use Rattle.gv_types.specs.declared.ranges.Ranges.{Ranges}
use Rattle.gv_entry.specs.Ranges.{InParts, owns_page}
use Rattle.gv_balloon.specs.Shares.{AreApart}
use Rattle.gv_gpu.specs.Device.{Device, Loaded}
use Rattle.gv_gpu.specs.Part.{AreDisjoint, guest_part, inside, is_in_windows, is_page_of, outside, standing_part}
use Rattle.gv_gpu.proofs.Guests.{apart-standing}
use Rattle.gv_gpu.proofs.Parts.{inside-kept}
use Rattle.gv_gpu.proofs.Seen.{global-others}
use Rattle.gv_gtt.specs.Gtt.{frames_of, number_of, own_pages, ranges_of, HasRoomFor}
use Rattle.gv_machine.specs.Machine.{no_ranges}
use Rattle.gv_private.specs.Device.{PrivateDevice, new_device}
use Rattle.gv_private.specs.Turn.{RanCommand}
use Rattle.gv_sggtt.specs.Mirror.{IsAbsent}
use Rattle.gv_vgpu.specs.Changes.{ChangesOwn, journalled, own_live}
use Rattle.gv_vgpu.specs.Laws.{DeviceStands, DeviceStays, DevicesAreSmall, WindowsAreSmall}
use Rattle.gv_vgpu.specs.Vgpu.{private_of}
use Rattle.gv_vgpu.specs.Standing.{Holds, IsAway}
use Rattle.gv_vgpu.specs.declared.vgpu.Vgpu.{Vgpu}
use Rattle.gv_mediator.specs.Rota.{is_guest, owns}
use Rattle.gv_mediator.specs.Tied.{IsAt, Ties, AreAllApart, all_frames, all_live, all_ranges, devices_in}
use Rattle.gv_mediator.proofs.Owning.{loaded-owner, owners-disjoint}
use Rattle.gv_mediator.proofs.Room.{IsSmall, all-at, is-small, room-for}

-- the ranges of a guest, among those of all
pub ranges-there : (guests : List Vgpu) (k : ℕ) (v : Vgpu) → IsAt guests k v → get_or (all_ranges guests) k no_ranges ≡ ranges_of v.gtt
ranges-there guests k v at = get_or-map (λ (v : Vgpu). ranges_of v.gtt) guests k v no_ranges at.0 ∙ ap (λ (v : Vgpu). ranges_of v.gtt) at.1

abbrev pub device_in : Device → (ℕ → Option ℕ) → Vgpu → PrivateDevice
device_in d owners v = private_of d v (owns owners (number_of v.gtt))

-- the device of a guest that is there
pub device-there : (d : Device) (owners : ℕ → Option ℕ) (guests : List Vgpu) (g : ℕ) (v : Vgpu) → IsAt guests g v → get_or (devices_in d owners guests) g (new_device 0 0 no_ranges) ≡ device_in d owners v
device-there d owners guests g v at = get_or-map (device_in d owners) guests g v (new_device 0 0 no_ranges) at.0 ∙ ap (device_in d owners) at.1

pub shown : (b : Bool) (l : Label) (x : Option Label) → cond b None x ≡ Some l → x ≡ Some l
shown true l x is = cc
shown false l x is = is

pub own_page : (g : ℕ) (l : Label) → is_page_of g (Some l) ≡ true → l.guest.0 ≡ g
own_page g l is = grind (arith, nat_tests)

-- there is one device at each place
pub one-there : (guests : List Vgpu) (k : ℕ) (v w : Vgpu) → IsAt guests k v → IsAt guests k w → v ≡ w
one-there guests k v w at also = sym at.1 ∙ get_or_default guests k v w at.0 ∙ also.1

-- What holds of the guest's device, and of each other one, holds at each place.
pub at-each : (R : Vgpu → Vgpu → Type 0) (guests : List Vgpu) (g : ℕ) (old new : Vgpu) → IsAt guests g old → R old new → ((k : ℕ) (x : Vgpu) → IsAt guests k x → k ≢ g → R x x)
    → (k : ℕ) (v w : Vgpu) → IsAt guests k v → IsAt (set guests g new) k w → R v w
at-each R guests g old new here own rest k v w before now = ⊎_elim
    (λ is.
    let first : old ≡ v = one-there guests g old v here (subst (λ n. IsAt guests n v) is before) in
    let second : new ≡ w = one-there (set guests g new) g new w placed (subst (λ n. IsAt (set guests g new) n w) is now) in
    subst (λ x. R x w) first (subst (λ y. R old y) second own))
    (λ differ.
    let was : IsAt guests k w = (before.0, sym (get_or-set_other guests g k new w differ) ∙ now.1) in
    subst (λ x. R x w) (one-there guests k w v was before) (rest k w was differ))
    (cases_eq k g)
  where
    placed : IsAt (set guests g new) g new
    placed = (subst (λ n. g < n) (sym (length-set guests g new)) here.0, get_or-set_same guests g new new here.0)

-- Who owns engines before and after a call of guest g. The engines that it changes are no other guest's, and each other
-- guest owns the same ones.
pub record OwnersChange (engines : ℕ → Bool) (before after : ℕ → Option ℕ) (g count : ℕ) : Type 0 where
  pub free : (k : ℕ) → k ≢ g → AreDisjoint engines (owns before k)
  pub same : (k : ℕ) → k ≢ g → owns after k ≡ owns before k
  pub there : (engine k : ℕ) → after engine ≡ Some k → k < count

-- on any other engine the same context is loaded
pub loaded-same : (g : ℕ) (r : Ranges) (engines : ℕ → Bool) (d e : Device) → outside (guest_part g r engines) e ≡ outside (guest_part g r engines) d → (engine : ℕ) → engines engine ≡ false → e.loaded engine ≡ d.loaded engine
loaded-same g r engines d e same engine other = subst (λ b. (if b then None else e.loaded engine) ≡ (if b then None else d.loaded engine)) other (λ i. (same i).loaded engine)

not-owned : (a b : Bool) → b ≡ true → (a ≡ true → b ≡ false) → a ≡ false
not-owned false b own free = refl
not-owned true b own free = let not = free refl in cc

module _ (stands : DeviceStands) (stays : DeviceStays) (small : DevicesAreSmall) (windows : WindowsAreSmall)
    (d e : Device) (before after : ℕ → Option ℕ) (engines : ℕ → Bool) (guests : List Vgpu) (g : ℕ) (old new : Vgpu) (here : IsAt guests g old) (ties : Ties d before guests) (ran : List RanCommand)
    (holds : Holds e new (owns after g)) (changes : ChangesOwn engines (journalled d ran) e old new) (owners : OwnersChange engines before after g (length guests)) (idle : (engine : ℕ) → after engine ≡ None → e.loaded engine ≡ None) where
  there : g < length guests
  there = here.0

  at : get_or guests g old ≡ old
  at = here.1

  number : number_of old.gtt ≡ g
  number = ties.number g old here

  -- ---- places in the list

  old_at : (k : ℕ) (x : Vgpu) → k ≢ g → IsAt (set guests g new) k x → IsAt guests k x
  old_at k x differ there = (subst (λ n. k < n) (length-set guests g new) there.0, sym (get_or-set_other guests g k new x differ) ∙ there.1)

  new_at : (k : ℕ) (x : Vgpu) → k ≡ g → IsAt (set guests g new) k x → new ≡ x
  new_at k x is within = sym (get_or-set_same guests g new x there) ∙ ap (λ i. get_or (set guests g new) i x) (sym is) ∙ within.1

  among : (k : ℕ) → k < length guests → k < length (all_ranges guests)
  among k h = subst (λ n. k < n) (sym (length-map guests (λ (v : Vgpu). ranges_of v.gtt))) h

  pub ranges-set : all_ranges (set guests g new) ≡ all_ranges guests
  ranges-set =
      map-set (λ (v : Vgpu). ranges_of v.gtt) guests g new
      ∙ ap (set (all_ranges guests) g) (changes.ranges ∙ sym (ranges-there guests g old here))
      ∙ set-get_or (all_ranges guests) g no_ranges

  -- ---- the others

  apart : (k : ℕ) (x : Vgpu) → IsAt guests k x → k ≢ g → AreApart (ranges_of old.gtt) (ranges_of x.gtt)
  apart k x within differ =
      let all = ties.apart g k (λ is. differ (sym is)) (among g there) (among k within.0) in
      subst (λ r. AreApart r (ranges_of x.gtt)) (ranges-there guests g old here) (subst (AreApart (get_or (all_ranges guests) g no_ranges)) (ranges-there guests k x within) all)

  others : (k : ℕ) (x : Vgpu) → IsAt guests k x → k ≢ g → number_of old.gtt ≢ number_of x.gtt
  others k x within differ = λ is. differ (sym (ties.number k x within) ∙ sym is ∙ number)

  parts : (k : ℕ) (x : Vgpu) → IsAt guests k x → InParts (ranges_of x.gtt)
  parts k x within = (ties.holds k x within).parts

  -- their parts of the device are as they were
  pub left : (k : ℕ) (x : Vgpu) → IsAt guests k x → k ≢ g → inside (standing_part (number_of x.gtt) (ranges_of x.gtt) (owns before k)) e ≡ inside (standing_part (number_of x.gtt) (ranges_of x.gtt) (owns before k)) d
  left k x within differ =
      inside-kept (guest_part (number_of old.gtt) (ranges_of old.gtt) engines) (standing_part (number_of x.gtt) (ranges_of x.gtt) (owns before k)) (journalled d ran) e
      (apart-standing (number_of old.gtt) (number_of x.gtt) (ranges_of old.gtt) (ranges_of x.gtt) (others k x within differ) (parts g old here) (parts k x within) (apart k x within differ) engines (owns before k) (owners.free k differ))
      changes.outside

  -- ---- loaded contexts

  numbered : (k : ℕ) (x : Vgpu) → IsAt guests k x → (h : ℕ) → h ≢ k → (l : Loaded) → l.owner ≡ h → l.owner ≢ number_of x.gtt
  numbered k x within h differ l is = λ same. differ (sym is ∙ same ∙ ties.number k x within)

  not_k : (k h : ℕ) → is_guest k (Some h) ≡ false → h ≢ k
  not_k k h is same = absurd (grind (arith, nat_tests))

  -- an engine of another guest's has the same context as before
  still : (h engine : ℕ) → h ≢ g → owns after h engine ≡ true → (owns before h engine ≡ true) × (e.loaded engine ≡ d.loaded engine)
  still h engine another own_now =
      let own : owns before h engine ≡ true = sym (ap (λ (f : ℕ → Bool). f engine) (owners.same h another)) ∙ own_now in
      (own, loaded-same (number_of old.gtt) (ranges_of old.gtt) engines (journalled d ran) e changes.outside engine (not-owned (engines engine) (owns before h engine) own (owners.free h another engine)))

  away : (k : ℕ) (x : Vgpu) → IsAt guests k x → k ≢ g → IsAway e (number_of x.gtt) (owns after k)
  away k x within differ engine below other l is = by (after engine) refl
    where
      by : (owner : Option ℕ) → after engine ≡ owner → l.owner ≢ number_of x.gtt
      by None none = absurd (none-some l (sym (idle engine none) ∙ is))
      by (Some h) owned = ⊎_elim
          (λ mine.
          let own : owns after g engine ≡ true = ap (is_guest g) owned ∙ own_test mine in
          numbered k x within g (λ same. differ (sym same)) l (loaded-owner e new (owns after g) engine holds below own l is ∙ changes.number ∙ number))
          (λ another.
          let y = get_or guests h old in
          let y_at : IsAt guests h y = (owners.there engine h owned, get_or_default guests h y old (owners.there engine h owned)) in
          let was = still h engine another (ap (is_guest h) owned ∙ same_test) in
          numbered k x within h (not_k k h (sym (ap (is_guest k) owned) ∙ other)) l (loaded-owner d y (owns before h) engine (ties.holds h y y_at) below was.0 l (sym was.1 ∙ is) ∙ ties.number h y y_at))
          (cases_eq h g)
        where
          own_test : h ≡ g → is_guest g (Some h) ≡ true
          own_test same = grind (arith, nat_tests)

          same_test : is_guest h (Some h) ≡ true
          same_test = grind (arith, nat_tests)

  -- ---- room

  old_small : AllByRecursion IsSmall guests
  old_small = all-at IsSmall guests (λ k v within. is-small v (small d v (owns before k) (ties.holds k v within)))

  new_small : AllByRecursion IsSmall (set guests g new)
  new_small = all-at IsSmall (set guests g new) (λ k v within. ⊎_elim
      (λ is. subst IsSmall (new_at k v is within) (is-small new (small e new (owns after g) holds)))
      (λ differ. let was = old_at k v differ within in is-small v (small d v (owns before k) (ties.holds k v was)))
      (cases_eq k g))

  sums : (f : Vgpu → ℕ) → sum_by f (set guests g new) + f old ≡ sum_by f guests + f new
  sums f = subst (λ v. sum_by f (set guests g new) + f v ≡ sum_by f guests + f new) at (sum_by-set f guests g new old there)

  own-within : own_live old ≤ d.live
  own-within = subst (λ n. own_live old ≤ n) (sym ties.live) (within_sum guests g old here)
    where
      within_sum : (xs : List Vgpu) (k : ℕ) (v : Vgpu) → IsAt xs k v → own_live v ≤ all_live xs
      within_sum xs k v within = subst (λ y. own_live y ≤ all_live xs) within.1 (get_or-le-sum_by own_live xs k v within.0)

  live-sum : (a b before after sum moved : ℕ) → a + before ≡ b + after → moved + before ≡ sum + after → b ≡ sum → a ≡ moved
  live-sum a b before after sum moved one two three = omega arith

  live-set : e.live ≡ all_live (set guests g new)
  live-set = live-sum e.live d.live (own_live old) (own_live new) (all_live guests) (all_live (set guests g new)) (changes.live own-within) (sums own_live) ties.live

  frames-sum : (a b c : ℕ) → a + b ≡ c + b → a ≡ c
  frames-sum a b c is = omega arith

  frames-set : all_frames (set guests g new) ≡ all_frames guests
  frames-set =
      frames-sum (all_frames (set guests g new)) (length (frames_of old.gtt).pages) (all_frames guests)
      (sums (λ (v : Vgpu). length (frames_of v.gtt).pages) ∙ ap (λ n. all_frames guests + n) changes.frames)

  new_few : all_frames (set guests g new) ≤ 16384
  new_few = subst (λ n. n ≤ 16384) (sym frames-set) ties.few

  new_eight : length (set guests g new) ≤ 8
  new_eight = subst (λ n. n ≤ 8) (sym (length-set guests g new)) ties.eight

  room-less : (l f p : ℕ) → l + (4 * f + 338) ≤ 131072 + p → l + (4 * f + 64) ≤ 131072 + p
  room-less l f p room = omega arith

  room : (k : ℕ) (x : Vgpu) → IsAt guests k x → k ≢ g → HasRoomFor e x.gtt
  room k x within differ =
      let placed : IsAt (set guests g new) k x = (subst (λ n. k < n) (sym (length-set guests g new)) within.0, get_or-set_other guests g k new x differ ∙ within.1) in
      room-less e.live (length (frames_of x.gtt).pages) (own_pages x.gtt)
      (subst (λ n. n + (4 * length (frames_of x.gtt).pages + 338) ≤ 131072 + own_pages x.gtt) (sym live-set)
      (room-for (set guests g new) k x placed new_small (windows d x (owns before k) (ties.holds k x within)) new_few new_eight))

  -- ---- all of it again

  holds-other : (k : ℕ) (x : Vgpu) → IsAt guests k x → k ≢ g → Holds e x (owns after k)
  holds-other k x within differ =
      let gone = subst (IsAway e (number_of x.gtt)) (owners.same k differ) (away k x within differ) in
      subst (Holds e x) (sym (owners.same k differ)) (stands d e x (owns before k) (ties.holds k x within) (left k x within differ) gone (room k x within differ))

  by_owner : (n : ℕ) (l : Label) (b : Bool) → e.label n ≡ Some l → is_page_of (number_of old.gtt) (Some l) ≡ b → l.guest.0 < length guests
  by_owner n l true is own = subst (λ k. k < length guests) (sym (own_page (number_of old.gtt) l own ∙ number)) there
  by_owner n l false is other =
      let seen : cond (is_page_of (number_of old.gtt) (e.label n)) None (e.label n) ≡ Some l = rw (is, other) refl in
      ties.pages n l (shown (is_page_of (number_of old.gtt) (d.label n)) l (d.label n) (sym (ap (λ (x : Device). x.label n) changes.outside) ∙ seen))

  unowned : (i : ℕ) → All (λ ranges. owns_page ranges i ≡ false) (all_ranges guests) → is_in_windows g i ≡ false → (owns_page (ranges_of old.gtt) i || is_in_windows (number_of old.gtt) i) ≡ false
  unowned i all window =
      let own : owns_page (ranges_of old.gtt) i ≡ false = subst (λ r. owns_page r i ≡ false) (ranges-there guests g old here) (all g no_ranges (among g there)) in
      let mine : is_in_windows (number_of old.gtt) i ≡ false = subst (λ k. is_in_windows k i ≡ false) (sym number) window in
      λ j. own j || mine j

  pub ties-after : Ties e after (set guests g new)
  ties-after = record {
    number = λ k x within. ⊎_elim
        (λ is. ap (λ (v : Vgpu). number_of v.gtt) (sym (new_at k x is within)) ∙ changes.number ∙ number ∙ sym is)
        (λ differ. ties.number k x (old_at k x differ within))
        (cases_eq k g);
    holds = λ k x within. ⊎_elim
        (λ is. subst (λ i. Holds e x (owns after i)) (sym is) (subst (λ v. Holds e v (owns after g)) (new_at k x is within) holds))
        (λ differ. holds-other k x (old_at k x differ within) differ)
        (cases_eq k g);
    apart = subst AreAllApart (sym ranges-set) ties.apart;
    there = λ engine k is. subst (λ n. k < n) (sym (length-set guests g new)) (owners.there engine k is);
    idle = idle;
    live = live-set;
    pages = λ n l is. subst (λ m. l.guest.0 < m) (sym (length-set guests g new)) (by_owner n l (is_page_of (number_of old.gtt) (Some l)) is refl);
    rest = λ i free far.
        let all = subst (All (λ ranges. owns_page ranges i ≡ false)) ranges-set free in
        let away : (k : ℕ) → k < length guests → is_in_windows k i ≡ false = λ k h. far k (subst (λ n. k < n) (sym (length-set guests g new)) h) in
        subst IsAbsent (sym (global-others (guest_part (number_of old.gtt) (ranges_of old.gtt) engines) (journalled d ran) e i (unowned i all (away g there)) changes.outside)) (ties.rest i all away);
    few = new_few;
    eight = new_eight;
  }

  pub devices-set : (p : PrivateDevice) → private_of e new (owns after g) ≡ p → devices_in e after (set guests g new) ≡ set (devices_in d before guests) g p
  devices-set p is = map-set (device_in e after) guests g new ∙ same_lists _ _ (simp (length-map, length-set)) (λ k b h.
      let now = map (device_in e after) guests in
      let was = devices_in d before guests in
      let hk : k < length guests = subst (λ n. k < n) (length-set now g (device_in e after new) ∙ length-map guests (device_in e after)) h in
      let mine : device_in e after new ≡ p = ap (λ n. private_of e new (owns after n)) (changes.number ∙ number) ∙ is in
      ⊎_elim
      (λ same_guest.
      ap (λ i. get_or (set now g (device_in e after new)) i b) same_guest
      ∙ get_or-set_same now g (device_in e after new) b (subst (λ n. g < n) (sym (length-map guests (device_in e after))) there)
      ∙ mine
      ∙ sym (ap (λ i. get_or (set was g p) i b) same_guest ∙ get_or-set_same was g p b (subst (λ n. g < n) (sym (length-map guests (device_in d before))) there)))
      (λ differ.
      let x = get_or guests k old in
      let within : IsAt guests k x = (hk, get_or_default guests k x old hk) in
      let own : owns after (number_of x.gtt) ≡ owns before k = ap (owns after) (ties.number k x within) ∙ owners.same k differ in
      get_or-set_other now g k (device_in e after new) b differ
      ∙ get_or-map (device_in e after) guests k old b hk
      ∙ ap (private_of e x) own
      ∙ stays d e x (owns before k) (ties.holds k x within) (left k x within differ)
      ∙ ap (λ n. private_of d x (owns before n)) (sym (ties.number k x within))
      ∙ sym (get_or-set_other was g k p b differ ∙ get_or-map (device_in d before) guests k old b hk))
      (cases_eq k g))

-- ---- a call that keeps owners

module _ (d e : Device) (owners : ℕ → Option ℕ) (guests : List Vgpu) (g : ℕ) (old new : Vgpu) (ties : Ties d owners guests) (ran : List RanCommand) (changes : ChangesOwn (owns owners g) (journalled d ran) e old new) where
  pub owners-stay : OwnersChange (owns owners g) owners owners g (length guests)
  owners-stay = record { free = λ k differ. owners-disjoint owners g k (λ is. differ (sym is)); same = λ k differ. refl; there = ties.there }

  pub idle-stays : (engine : ℕ) → owners engine ≡ None → e.loaded engine ≡ None
  idle-stays engine none = loaded-same (number_of old.gtt) (ranges_of old.gtt) (owns owners g) (journalled d ran) e changes.outside engine (ap (is_guest g) none) ∙ ties.idle engine none
