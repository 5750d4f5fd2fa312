-- All guests join, over an empty device.
use Rattle.std.proofs.Common.{◌≡◌, ℕ, zero, suc, ◌+◌, ◌<◌, ◌≤◌, ◌++◌, ◌∷◌, [], nat_le, nat_lt, ◌&&◌, if◌then◌else◌, List, All, Bool, true, false, None, Some, length, map, refl, sym, ap, ◌∙◌, subst, arith}
use Rattle.std.specs.List.{sum_by}
use Rattle.std.proofs.lemmas.List.{append-nil, length-map}
use Rattle.std.proofs.lemmas.List.Sums.{sum_by-cons}
use Rattle.std.proofs.lemmas.Bool.Decides.{nat_tests}
use Rattle.gv_types.specs.declared.ranges.Ranges.{Ranges}
use Rattle.gv_types.specs.declared.ranges.Want.{Want}
use Rattle.gv_balloon.specs.Shares.{fits, given_after, next_ranges, nothing_given}
use Rattle.gv_balloon.specs.declared.given.Given.{Given}
use Rattle.gv_gpu.specs.Change.{Ran}
use Rattle.gv_gpu.specs.Device.{Device, IsEmpty}
use Rattle.gv_machine.specs.Machine.{given_to, ranges_in}
use Rattle.gv_private.specs.Device.{PrivateDevice, new_device}
use Rattle.gv_sched.specs.Rota.{first_owners, owner_of}
use Rattle.gv_vgpu.specs.declared.vgpu.Vgpu.{Vgpu}
use Rattle.gv_mediator.specs.declared.guest.Guest.{Guest}
use Rattle.gv_mediator.specs.First.{MayBegin, all_joined, first_machine, wants_of}
use Rattle.gv_mediator.specs.Joining.{IsJoining, Joined, MayJoin, first_owner}
use Rattle.gv_mediator.specs.Rota.{owners_in, owns}
use Rattle.gv_mediator.specs.Tied.{IsAt, Ties, devices_in}
use Rattle.gv_vgpu.specs.Vgpu.{private_of}
use Rattle.gv_gtt.specs.Gtt.{number_of, ranges_of}
use Rattle.std.proofs.lemmas.Simd.{map-map}
use Rattle.gv_mmio.specs.Mmio.{ranges_of as mmio_ranges}
use Rattle.gv_mediator.proofs.Owning.{past-four}

pub suc-is : (i : ℕ) → suc i ≡ i + 1
suc-is i = omega arith

-- ---- who may join

sum-low : (want : Want) (more : List Want) → sum_by (λ (w : Want). w.low) (want ∷ more) ≡ want.low + sum_by (λ (w : Want). w.low) more
sum-low want more = sum_by-cons (λ (w : Want). w.low) want more

sum-high : (want : Want) (more : List Want) → sum_by (λ (w : Want). w.high) (want ∷ more) ≡ want.high + sum_by (λ (w : Want). w.high) more
sum-high want more = sum_by-cons (λ (w : Want). w.high) want more

fits-one : (given : Given) (want : Want) (low high more_low more_high : ℕ) → low ≡ want.low + more_low → high ≡ want.high + more_high → given.low + low ≤ 65536 → given.high + high ≤ 966656 → fits given want ≡ true
fits-one given want low high more_low more_high one two fit_low fit_high = grind (arith, nat_tests)

less-left : (a b c sum bound : ℕ) → sum ≡ b + c → a + sum ≤ bound → a + b + c ≤ bound
less-left a b c sum bound is fit = omega arith

may-join : (given : Given) (guests : List Guest) → All (λ (guest : Guest). 1 ≤ guest.frames) guests → given.low + sum_by (λ (w : Want). w.low) (wants_of guests) ≤ 65536 → given.high + sum_by (λ (w : Want). w.high) (wants_of guests) ≤ 966656
    → MayJoin given guests
may-join given [] frames low high = tt
may-join given (guest ∷ more) frames low high = (
  frames 0 guest (omega arith),
  fits-one given guest.want (sum_by (λ (w : Want). w.low) (wants_of (guest ∷ more))) (sum_by (λ (w : Want). w.high) (wants_of (guest ∷ more))) (sum_by (λ (w : Want). w.low) (wants_of more)) (sum_by (λ (w : Want). w.high) (wants_of more))
      (sum-low guest.want (wants_of more)) (sum-high guest.want (wants_of more)) low high,
  may-join (given_after given guest.want) more (λ k x h. frames (suc k) x (omega arith))
      (less-left given.low guest.want.low (sum_by (λ (w : Want). w.low) (wants_of more)) (sum_by (λ (w : Want). w.low) (wants_of (guest ∷ more))) 65536 (sum-low guest.want (wants_of more)) low)
      (less-left given.high guest.want.high (sum_by (λ (w : Want). w.high) (wants_of more)) (sum_by (λ (w : Want). w.high) (wants_of (guest ∷ more))) 966656 (sum-high guest.want (wants_of more)) high),
)

fit-low : (low high : ℕ) → (nat_le low 65536 && nat_le high 966656) ≡ true → low ≤ 65536
fit-low low high fit = grind (arith, nat_tests)

fit-high : (low high : ℕ) → (nat_le low 65536 && nat_le high 966656) ≡ true → high ≤ 966656
fit-high low high fit = grind (arith, nat_tests)

-- ---- at first

pub joined-none : (d : Device) → IsEmpty d → Joined d [] nothing_given
joined-none d empty = subst (λ e. Joined e [] nothing_given) (sym empty) (record {
  number = λ g v at. let there = at.0 in absurd (omega arith);
  holds = λ g v at. let there = at.0 in absurd (omega arith);
  apart = λ g k differ there also. absurd (omega arith);
  live = refl;
  frames = refl;
  pages = λ n l is. cc;
  rest = λ i all far. refl;
  idle = λ engine. refl;
  zeros = λ engine. refl;
  given_is = refl;
  among = λ k x there. absurd (omega arith);
})

pub starts : (d : Device) (guests : List Guest) → MayBegin guests → IsEmpty d → IsJoining d d [] nothing_given guests guests
starts d guests begin empty =
    let low = fit-low (sum_by (λ (w : Want). w.low) (wants_of guests)) (sum_by (λ (w : Want). w.high) (wants_of guests)) begin.fit in
    let high = fit-high (sum_by (λ (w : Want). w.low) (wants_of guests)) (sum_by (λ (w : Want). w.high) (wants_of guests)) begin.fit in
    record {
      joined = joined-none d empty;
      may = may-join nothing_given guests begin.frames (omega arith) (omega arith);
      count = omega arith;
      eight = begin.eight;
      few = let none : d.live ≡ 0 = ap (λ (x : Device). x.live) empty in let few = begin.few in omega arith;
      machine = refl;
      ran = record { journal = sym (append-nil d.journal); strays = refl };
      quiet = refl;
    }

same-maps : (f h : Vgpu → Ranges) (xs : List Vgpu) → ((k : ℕ) (v : Vgpu) → IsAt xs k v → f v ≡ h v) → map f xs ≡ map h xs
same-maps f h [] each = refl
same-maps f h (x ∷ xs) each = λ i. each 0 x (omega arith, refl) i ∷ same-maps f h xs (λ k v at. each (suc k) v (let there = at.0 in omega arith, at.1)) i

-- ---- one after another

-- the guest that is next
module _ (start d : Device) (devices : List Vgpu) (given : Given) (guest : Guest) (more all : List Guest) (joining : IsJoining start d devices given (guest ∷ more) all) where
  sum-next : sum_by (λ (g : Guest). g.frames) (guest ∷ more) ≡ guest.frames + sum_by (λ (g : Guest). g.frames) more
  sum-next = sum_by-cons (λ (g : Guest). g.frames) guest more

  pub next-few : length devices < 8
  next-few = let count = joining.count in let eight = joining.eight in omega arith

  pub next-memory : d.live + guest.frames ≤ 16384
  next-memory = let few = joining.few in let sum = sum-next in omega arith

  pub then-joining :
      (e : Device) (new : List Vgpu) (given_then : Given) → Joined e new given_then → given_then ≡ given_after given guest.want
      → devices_in e first_owner new ≡ devices_in d first_owner devices ++ new_device (length devices) guest.frames (next_ranges given guest.want) ∷ [] → length new ≡ length devices + 1 → e.live ≡ d.live + guest.frames → Ran d e [] → e.faults ≡ d.faults
      → IsJoining start e new given_then more all
  then-joining e new given_then joined is devices_are count live ran quiet = record {
    joined = joined;
    may = subst (λ g. MayJoin g more) (sym is) joining.may.2;
    count = let before = joining.count in omega arith;
    eight = joining.eight;
    few = let few = joining.few in let sum = sum-next in omega arith;
    machine = ap (λ ds. all_joined (record { devices = ds; owners = λ engine. 0 }) more) (devices_are ∙ same-device) ∙ joining.machine;
    ran = record {
      journal = ran.journal ∙ append-nil d.journal ∙ joining.ran.journal;
      strays = ran.strays ∙ joining.ran.strays;
    };
    quiet = quiet ∙ joining.quiet;
  }
    where
      now : List PrivateDevice
      now = devices_in d first_owner devices

      many : length devices ≡ length (devices_in d first_owner devices)
      many = sym (length-map devices (λ (v : Vgpu). private_of d v (owns first_owner (number_of v.gtt))))

      same-device : devices_in d first_owner devices ++ new_device (length devices) guest.frames (next_ranges given guest.want) ∷ []
          ≡ devices_in d first_owner devices ++ new_device (length (devices_in d first_owner devices)) guest.frames (next_ranges (given_to (ranges_in (devices_in d first_owner devices))) guest.want) ∷ []
      same-device = λ i. devices_in d first_owner devices ++ new_device (many i) guest.frames (next_ranges (given-same i) guest.want) ∷ []
        where
          given-same : given ≡ given_to (ranges_in (devices_in d first_owner devices))
          given-same = sym (ap given_to (map-map (λ (p : PrivateDevice). p.ranges) (λ (v : Vgpu). private_of d v (owns first_owner (number_of v.gtt))) devices
              ∙ same-maps (λ (v : Vgpu). mmio_ranges v.mmio) (λ (v : Vgpu). ranges_of v.gtt) devices (λ k v at. (joining.joined.holds k v at).ranges)) ∙ joining.joined.given_is)

-- ---- in the end

owner-first : (n k : ℕ) → owners_in (first_owners n) k ≡ first_owner k
owner-first n zero = refl
owner-first n (suc zero) = refl
owner-first n (suc (suc zero)) = refl
owner-first n (suc (suc (suc zero))) = refl
owner-first n (suc (suc (suc (suc k)))) =
    let past : nat_lt (suc (suc (suc (suc k)))) 4 ≡ false = past-four (suc (suc (suc (suc k)))) (omega arith) in
    (λ i. if past i then Some (owner_of (first_owners n) (suc (suc (suc (suc k))))) else None) ∙ sym (λ i. if past i then Some 0 else None)

pub owners-first : (n : ℕ) → owners_in (first_owners n) ≡ first_owner
owners-first n = λ i k. owner-first n k i

first-there : (n k g : ℕ) → 1 ≤ n → first_owner k ≡ Some g → g < n
first-there n k g some is = choose (nat_lt k 4) is
  where
    choose : (b : Bool) → (if b then Some 0 else None) ≡ Some g → g < n
    choose true is = let same : 0 ≡ g = cc in omega arith
    choose false is = cc

owner-all : (n : ℕ) → (λ engine. 0) ≡ owner_of (first_owners n)
owner-all n = λ i k. each k i
  where
    each : (k : ℕ) → 0 ≡ owner_of (first_owners n) k
    each zero = refl
    each (suc zero) = refl
    each (suc (suc zero)) = refl
    each (suc (suc (suc zero))) = refl
    each (suc (suc (suc (suc k)))) = refl

pub ties-first : (d : Device) (devices : List Vgpu) (given : Given) → Joined d devices given → 1 ≤ length devices → length devices ≤ 8 → d.live ≤ 16384 → Ties d first_owner devices
ties-first d devices given joined some eight few = record {
  number = joined.number;
  holds = joined.holds;
  apart = joined.apart;
  there = λ engine g is. first-there (length devices) engine g some is;
  idle = λ engine none. joined.idle engine;
  live = joined.live;
  pages = joined.pages;
  rest = joined.rest;
  few = subst (λ n. n ≤ 16384) joined.frames few;
  eight = eight;
}

-- The guests' devices are tied, and stand for the first machine.
module _ (d : Device) (devices : List Vgpu) (all : List Guest) (begin : MayBegin all) (given : Given) (joined : Joined d devices given) (count : length devices ≡ length all) (frames : d.live ≤ 16384) where
  pub ties-begun : (n : ℕ) → n ≡ length all → Ties d (owners_in (first_owners n)) devices
  ties-begun n is =
      subst (λ owners. Ties d owners devices) (sym (owners-first n))
      (ties-first d devices given joined (subst (λ m. 1 ≤ m) (sym count) begin.some) (subst (λ m. m ≤ 8) (sym count) begin.eight) frames)

  pub machine-begun : (n : ℕ) → record { devices = devices_in d first_owner devices; owners = λ engine. 0 } ≡ first_machine all
      → record { devices = devices_in d (owners_in (first_owners n)) devices; owners = owner_of (first_owners n) } ≡ first_machine all
  machine-begun n is = (λ i. record { devices = devices_in d (owners-first n i) devices; owners = sym (owner-all n) i }) ∙ is
