-- One more guest, with the next ranges of the global table.
use Rattle.std.proofs.Common.{◌≡◌, ◌≢◌, ℕ, ◌+◌, ◌*◌, ◌<◌, ◌≤◌, nat_lt, Bool, true, false, cond, None, Some, zero-add, List, [], ◌∷◌, ◌++◌, All, length, get_or, ap, sym, ◌∙◌, ⊎_elim, subst, arith, refl}
use Rattle.std.specs.List.{sum_by}
use Rattle.std.proofs.lemmas.List.{append-nil, same_lists, length-map, get_or-map, get_or_default, map_push}
use Rattle.std.proofs.lemmas.List.Elements.{All-push}
use Rattle.std.proofs.lemmas.List.Sums.{get_or-le-sum_by, sum_by-append}
use Rattle.std.proofs.lemmas.Bool.{cases_eq}
use Rattle.std.proofs.lemmas.Bool.Decides.{nat_tests}
use Rattle.std.proofs.lemmas.Grind.{common_steps}
use Rattle.std.proofs.lemmas.Option.{none-some}
use Rattle.gv_types.specs.declared.ids.Label.{Label}
use Rattle.gv_types.specs.declared.ranges.Ranges.{Ranges}
use Rattle.gv_types.specs.declared.ranges.Want.{Want}
use Rattle.gv_entry.specs.Ranges.{InParts, owns_page}
use Rattle.gv_balloon.specs.Shares.{AreAmong, AreApart, fits, next_ranges, given_after}
use Rattle.gv_balloon.specs.declared.given.Given.{Given}
use Rattle.gv_balloon.proofs.Consecutive.{among-apart, apart-among, among-after}
use Rattle.gv_gpu.specs.Change.{Ran}
use Rattle.gv_gpu.specs.Device.{Device}
use Rattle.gv_gpu.specs.Part.{frames_part, guest_part, inside, is_in_windows, is_page_of, outside, standing_part}
use Rattle.gv_gpu.proofs.Guests.{apart-standing, frames-within}
use Rattle.gv_gpu.proofs.Parts.{inside-kept, outside-widen}
use Rattle.gv_gtt.specs.Gtt.{frames_of, number_of, own_pages, ranges_of, HasRoomFor}
use Rattle.gv_guest.specs.Placed.{Hosts, nowhere}
use Rattle.gv_machine.specs.Machine.{given_to, no_ranges}
use Rattle.gv_private.specs.Device.{PrivateDevice}
use Rattle.gv_sggtt.specs.Mirror.{AreAbsent, IsAbsent}
use Rattle.gv_vgpu.specs.Changes.{own_live}
use Rattle.gv_vgpu.specs.Idle.{AreIdle, WindowsAreAbsent}
use Rattle.gv_vgpu.specs.Vgpu.{private_of}
use Rattle.gv_vgpu.specs.Standing.{Holds, IsAway}
use Rattle.gv_vgpu.specs.declared.vgpu.Vgpu.{Vgpu}
use Rattle.gv_mediator.specs.Joining.{Joined, first_owner}
use Rattle.gv_mediator.specs.Rota.{owns}
use Rattle.gv_mediator.specs.Tied.{AreAllApart, IsAt, all_frames, all_live, all_ranges, devices_in}
use Rattle.gv_vgpu.proofs.Others.{device_stands, device_stays}
use Rattle.gv_mediator.proofs.OneGuest.{device_in, own_page, ranges-there, shown}
use Rattle.gv_mediator.proofs.Owning.{owners-disjoint}

-- a list with one more element
module _ {X : Type 0} (xs : List X) (x : X) where
  at_front : (k : ℕ) (d : X) → k < length xs → get_or (xs ++ x ∷ []) k d ≡ get_or xs k d
  at_front k d h = grind (arith, common_steps)

  at_end : (d : X) → get_or (xs ++ x ∷ []) (length xs) d ≡ x
  at_end d = grind (arith, common_steps)

  longer : length (xs ++ x ∷ []) ≡ length xs + 1
  longer = grind (arith, common_steps)

  earlier : (k : ℕ) → k < length (xs ++ x ∷ []) → k ≢ length xs → k < length xs
  earlier k h differ = let n = longer in omega arith

-- one more range that is apart from all others
module _ (all : List Ranges) (r : Ranges) (apart : AreAllApart all) (first : (k : ℕ) → k < length all → AreApart r (get_or all k no_ranges)) (last : (k : ℕ) → k < length all → AreApart (get_or all k no_ranges) r) where
  both_last : (P : Type 0) (g k : ℕ) → g ≢ k → g ≡ length all → k ≡ length all → P
  both_last P g k differ one two = absurd (differ (one ∙ sym two))

  apart_end : (g k : ℕ) → g ≡ length all → k < length all → AreApart (get_or (all ++ r ∷ []) g no_ranges) (get_or (all ++ r ∷ []) k no_ranges)
  apart_end g k is h =
      subst (λ x. AreApart x (get_or (all ++ r ∷ []) k no_ranges)) (sym (ap (λ i. get_or (all ++ r ∷ []) i no_ranges) is ∙ at_end all r no_ranges))
      (subst (AreApart r) (sym (at_front all r k no_ranges h)) (first k h))

  end_apart : (g k : ℕ) → g < length all → k ≡ length all → AreApart (get_or (all ++ r ∷ []) g no_ranges) (get_or (all ++ r ∷ []) k no_ranges)
  end_apart g k h is =
      subst (AreApart (get_or (all ++ r ∷ []) g no_ranges)) (sym (ap (λ i. get_or (all ++ r ∷ []) i no_ranges) is ∙ at_end all r no_ranges))
      (subst (λ x. AreApart x r) (sym (at_front all r g no_ranges h)) (last g h))

  both_before : (g k : ℕ) → g ≢ k → g < length all → k < length all → AreApart (get_or (all ++ r ∷ []) g no_ranges) (get_or (all ++ r ∷ []) k no_ranges)
  both_before g k differ hg hk =
      subst (λ x. AreApart x (get_or (all ++ r ∷ []) k no_ranges)) (sym (at_front all r g no_ranges hg))
      (subst (AreApart (get_or all g no_ranges)) (sym (at_front all r k no_ranges hk)) (apart g k differ hg hk))

  pub apart-push : AreAllApart (all ++ r ∷ [])
  apart-push g k differ hg hk = ⊎_elim
      (λ g_last. ⊎_elim
      (λ k_last. both_last (AreApart (get_or (all ++ r ∷ []) g no_ranges) (get_or (all ++ r ∷ []) k no_ranges)) g k differ g_last k_last)
      (λ k_before. apart_end g k g_last (earlier all r k hk k_before))
      (cases_eq k (length all)))
      (λ g_before. ⊎_elim
      (λ k_last. end_apart g k (earlier all r g hg g_before) k_last)
      (λ k_before. both_before g k differ (earlier all r g hg g_before) (earlier all r k hk k_before))
      (cases_eq k (length all)))
      (cases_eq g (length all))

given_to-push : (all : List Ranges) (given : Given) (want : Want) → given_to all ≡ given → given_to (all ++ next_ranges given want ∷ []) ≡ given_after given want
given_to-push all given want is =
    ap (λ low. record { low = low; high = sum_by (λ (r : Ranges). r.high.pages) (all ++ next_ranges given want ∷ []) }) (low ∙ ap (λ (g : Given). g.low + want.low) is)
    ∙ ap (λ high. record { low = given.low + want.low; high = high }) (high ∙ ap (λ (g : Given). g.high + want.high) is)
  where
    low : sum_by (λ (r : Ranges). r.low.pages) (all ++ next_ranges given want ∷ []) ≡ sum_by (λ (r : Ranges). r.low.pages) all + want.low
    low = sum_by-append (λ (r : Ranges). r.low.pages) all (next_ranges given want ∷ []) ∙ ap (λ n. sum_by (λ (r : Ranges). r.low.pages) all + n) (zero-add want.low)

    high : sum_by (λ (r : Ranges). r.high.pages) (all ++ next_ranges given want ∷ []) ≡ sum_by (λ (r : Ranges). r.high.pages) all + want.high
    high = sum_by-append (λ (r : Ranges). r.high.pages) all (next_ranges given want ∷ []) ∙ ap (λ n. sum_by (λ (r : Ranges). r.high.pages) all + n) (zero-add want.high)

-- ---- before it is made

-- no page and no entry is a further guest's
module _ (d : Device) (guests : List Vgpu) (given : Given) (joined : Joined d guests given) where
  not_page : (n : ℕ) (l : Label) → d.label n ≡ Some l → l.guest.0 ≢ length guests
  not_page n l is same = let there = joined.pages n l is in absurd (omega arith)

  pub none-further : Hosts d (nowhere (length guests))
  none-further = record {
    labelled = λ j h. absurd (omega arith);
    long = λ j h. absurd (omega arith);
    below = λ j h. absurd (omega arith);
    apart = λ j i h. absurd (omega arith);
    all = λ n is. let there : length guests < length guests = joined.pages n _ is in absurd (omega arith);
  }

  past_windows : (ranges : Ranges) (i : ℕ) → InParts ranges → owns_page ranges i ≡ true → (g : ℕ) → is_in_windows g i ≡ false
  past_windows ranges i parts own g = let low = parts.low in let high = parts.high in grind (arith, nat_tests)

  pub entries-absent : (want : Want) → fits given want ≡ true → InParts (next_ranges given want) → AreAbsent d (next_ranges given want)
  entries-absent want fit parts = record {
    each = λ i own. joined.rest i
        (λ k x h. apart-among given want (get_or (all_ranges guests) k x) (joined.among k x h) fit i own)
        (λ g h. past_windows (next_ranges given want) i parts own g);
  }

  other_window : (g guest engine i : ℕ) → g < guest → engine < 4 → i < 0x200 → is_in_windows g (0xFC000 + (4 * guest + engine) * 0x200 + i) ≡ false
  other_window g guest engine i below four within = grind (arith, nat_tests)

  not_owned : (ranges : Ranges) (guest engine i : ℕ) → AreAmong given ranges → given.low ≤ 65536 → given.high ≤ 966656 → owns_page ranges (0xFC000 + (4 * guest + engine) * 0x200 + i) ≡ false
  not_owned ranges guest engine i among low high = let one = among.low in let two = among.from in let three = among.high in grind (arith, nat_tests)

  pub windows-absent : given.low ≤ 65536 → given.high ≤ 966656 → WindowsAreAbsent d (length guests)
  windows-absent low high engine four i within =
      joined.rest (0xFC000 + (4 * length guests + engine) * 0x200 + i)
      (λ k x h. not_owned (get_or (all_ranges guests) k x) (length guests) engine i (joined.among k x h) low high)
      (λ g h. other_window g (length guests) engine i h four within)

  above-idle : (k : ℕ) → 4 ≤ k → (g : ℕ) → owns first_owner g k ≡ false
  above-idle k past g = let test : nat_lt k 4 ≡ false = grind (arith, nat_tests) in rw test refl

  pub engines-idle : (g : ℕ) → AreIdle d g (owns first_owner g)
  engines-idle g = record {
    none_above = λ k past. above-idle k past g;
    none = λ k own. joined.idle k;
    unwritten = λ k own. joined.zeros k;
    away = λ k below other l is. absurd (none-some l (sym (joined.idle k) ∙ is));
  }

-- ---- then

module _ (d e : Device) (guests : List Vgpu) (v : Vgpu) (given : Given) (want : Want) (joined : Joined d guests given) (fit : fits given want ≡ true)
    (last : number_of v.gtt ≡ length guests) (next : ranges_of v.gtt ≡ next_ranges given want) (holds : Holds e v (owns first_owner (number_of v.gtt)))
    (live : e.live ≡ d.live + length (frames_of v.gtt).pages) (own : own_live v ≡ length (frames_of v.gtt).pages)
    (few : d.live + length (frames_of v.gtt).pages ≤ 16384) (eight : length guests < 8)
    (frames : outside (frames_part (number_of v.gtt)) e ≡ outside (frames_part (number_of v.gtt)) d) where
  abbrev pub mine : ℕ → Bool
  mine = owns first_owner (number_of v.gtt)

  same : outside (guest_part (number_of v.gtt) (ranges_of v.gtt) mine) e ≡ outside (guest_part (number_of v.gtt) (ranges_of v.gtt) mine) d
  same =
      let within = frames-within (number_of v.gtt) (ranges_of v.gtt) mine in
      outside-widen (frames_part (number_of v.gtt)) (frames_part (number_of v.gtt)) (guest_part (number_of v.gtt) (ranges_of v.gtt) mine) d e within within frames

  among_at : (k : ℕ) → k < length (all_ranges guests) → AreAmong given (get_or (all_ranges guests) k no_ranges)
  among_at k h = joined.among k no_ranges h

  there : (k : ℕ) → k < length guests → k < length (all_ranges guests)
  there k h = subst (λ n. k < n) (sym (length-map guests (λ (v : Vgpu). ranges_of v.gtt))) h

  apart_from : (k : ℕ) → k < length (all_ranges guests) → AreApart (ranges_of v.gtt) (get_or (all_ranges guests) k no_ranges)
  apart_from k h = subst (λ r. AreApart r (get_or (all_ranges guests) k no_ranges)) (sym next) (apart-among given want (get_or (all_ranges guests) k no_ranges) (among_at k h) fit)

  apart_to : (k : ℕ) → k < length (all_ranges guests) → AreApart (get_or (all_ranges guests) k no_ranges) (ranges_of v.gtt)
  apart_to k h = subst (AreApart (get_or (all_ranges guests) k no_ranges)) (sym next) (among-apart given want (get_or (all_ranges guests) k no_ranges) (among_at k h) fit)

  apart_guest : (k : ℕ) (x : Vgpu) → IsAt guests k x → AreApart (ranges_of v.gtt) (ranges_of x.gtt)
  apart_guest k x at = subst (AreApart (ranges_of v.gtt)) (ranges-there guests k x at) (apart_from k (there k at.0))

  is_last : (k : ℕ) (x : Vgpu) → IsAt (guests ++ v ∷ []) k x → k ≡ length guests → v ≡ x
  is_last k x at is = sym (at_end guests v x) ∙ ap (λ i. get_or (guests ++ v ∷ []) i x) (sym is) ∙ at.1

  old_at : (k : ℕ) (x : Vgpu) → k ≢ length guests → IsAt (guests ++ v ∷ []) k x → IsAt guests k x
  old_at k x differ at = let h = earlier guests v k at.0 differ in (h, sym (at_front guests v k x h) ∙ at.1)

  other_number : (k : ℕ) (x : Vgpu) → IsAt guests k x → number_of v.gtt ≢ number_of x.gtt
  other_number k x at = let number = joined.number k x at in let h = at.0 in λ is. absurd (omega arith)

  left : (k : ℕ) (x : Vgpu) → IsAt guests k x → inside (standing_part (number_of x.gtt) (ranges_of x.gtt) (owns first_owner k)) e ≡ inside (standing_part (number_of x.gtt) (ranges_of x.gtt) (owns first_owner k)) d
  left k x at =
      inside-kept (guest_part (number_of v.gtt) (ranges_of v.gtt) mine) (standing_part (number_of x.gtt) (ranges_of x.gtt) (owns first_owner k)) d e
      (apart-standing (number_of v.gtt) (number_of x.gtt) (ranges_of v.gtt) (ranges_of x.gtt) (other_number k x at) holds.parts (joined.holds k x at).parts (apart_guest k x at) mine (owns first_owner k)
      (owners-disjoint first_owner (number_of v.gtt) k (λ is. other_number k x at (is ∙ sym (joined.number k x at)))))
      same

  idle_now : (engine : ℕ) → e.loaded engine ≡ None
  idle_now engine = ap (λ (x : Device). x.loaded engine) frames ∙ joined.idle engine

  away : (k : ℕ) (x : Vgpu) → IsAway e (number_of x.gtt) (owns first_owner k)
  away k x engine below other l is = absurd (none-some l (sym (idle_now engine) ∙ is))

  -- ---- how many pages

  all_live-push : all_live (guests ++ v ∷ []) ≡ all_live guests + own_live v
  all_live-push = sum_by-append own_live guests (v ∷ []) ∙ ap (λ n. all_live guests + n) (zero-add (own_live v))

  all_frames-push : all_frames (guests ++ v ∷ []) ≡ all_frames guests + length (frames_of v.gtt).pages
  all_frames-push = sum_by-append (λ (x : Vgpu). length (frames_of x.gtt).pages) guests (v ∷ []) ∙ ap (λ n. all_frames guests + n) (zero-add (length (frames_of v.gtt).pages))

  live_now : e.live ≡ all_live (guests ++ v ∷ [])
  live_now = live ∙ ap (λ n. n + length (frames_of v.gtt).pages) joined.live ∙ ap (λ n. all_live guests + n) (sym own) ∙ sym all_live-push

  frames_now : e.live ≡ all_frames (guests ++ v ∷ [])
  frames_now = live ∙ ap (λ n. n + length (frames_of v.gtt).pages) joined.frames ∙ sym all_frames-push

  room-less : (l f p : ℕ) → l ≤ 16384 → f ≤ l → l + (4 * f + 64) ≤ 131072 + p
  room-less l f p few within = omega arith

  live_few : e.live ≤ 16384
  live_few = subst (λ n. n ≤ 16384) (sym live) few

  room : (k : ℕ) (x : Vgpu) → IsAt guests k x → HasRoomFor e x.gtt
  room k x at = room-less e.live (length (frames_of x.gtt).pages) (own_pages x.gtt) live_few below
    where
      below : length (frames_of x.gtt).pages ≤ e.live
      below =
          let part : length (frames_of x.gtt).pages ≤ all_frames guests = subst (λ y. length (frames_of y.gtt).pages ≤ all_frames guests) at.1 (get_or-le-sum_by (λ (x : Vgpu). length (frames_of x.gtt).pages) guests k x at.0) in
          let was = joined.frames in
          let now = live in
          omega arith

  -- ---- all of it again

  pub all_ranges-push : all_ranges (guests ++ v ∷ []) ≡ all_ranges guests ++ ranges_of v.gtt ∷ []
  all_ranges-push = map_push (λ (v : Vgpu). ranges_of v.gtt) guests v

  all_ranges-next : all_ranges (guests ++ v ∷ []) ≡ all_ranges guests ++ next_ranges given want ∷ []
  all_ranges-next = all_ranges-push ∙ ap (λ (r : Ranges). all_ranges guests ++ r ∷ []) next

  holds_other : (k : ℕ) (x : Vgpu) → IsAt guests k x → Holds e x (owns first_owner k)
  holds_other k x at = device_stands d e x (owns first_owner k) (joined.holds k x at) (left k x at) (away k x) (room k x at)

  more : length (guests ++ v ∷ []) ≡ length guests + 1
  more = longer guests v

  by_owner : (n : ℕ) (l : Label) (b : Bool) → e.label n ≡ Some l → is_page_of (number_of v.gtt) (Some l) ≡ b → l.guest.0 < length (guests ++ v ∷ [])
  by_owner n l true is own_it = let m = own_page (number_of v.gtt) l own_it in let k = more in let n = last in omega arith
  by_owner n l false is other =
      let seen : cond (is_page_of (number_of v.gtt) (e.label n)) None (e.label n) ≡ Some l = rw (is, other) refl in
      let old : l.guest.0 < length guests = joined.pages n l (shown (is_page_of (number_of v.gtt) (d.label n)) l (d.label n) (sym (ap (λ (x : Device). x.label n) same) ∙ seen)) in
      let k = more in
      omega arith

  pub joined-then : AreAmong (given_after given want) (next_ranges given want) → Joined e (guests ++ v ∷ []) (given_after given want)
  joined-then among = record {
    number = λ k x at. ⊎_elim
        (λ is. ap (λ (v : Vgpu). number_of v.gtt) (sym (is_last k x at is)) ∙ last ∙ sym is)
        (λ differ. joined.number k x (old_at k x differ at))
        (cases_eq k (length guests));
    holds = λ k x at. ⊎_elim
        (λ is. subst (λ i. Holds e x (owns first_owner i)) (last ∙ sym is) (subst (λ x. Holds e x mine) (is_last k x at is) holds))
        (λ differ. holds_other k x (old_at k x differ at))
        (cases_eq k (length guests));
    apart = subst AreAllApart (sym all_ranges-push) (apart-push (all_ranges guests) (ranges_of v.gtt) joined.apart apart_from apart_to);
    live = live_now;
    frames = frames_now;
    pages = λ n l is. by_owner n l (is_page_of (number_of v.gtt) (Some l)) is refl;
    rest = λ i free far.
        let all = subst (All (λ ranges. owns_page ranges i ≡ false)) all_ranges-push free in
        subst IsAbsent (sym (ap (λ (x : Device). x.global i) frames)) (joined.rest i (front i all) (λ g h. far g (let k = more in omega arith)));
    idle = idle_now;
    zeros = λ engine. ap (λ (x : Device). x.general engine) frames ∙ joined.zeros engine;
    given_is = ap given_to all_ranges-next ∙ given_to-push (all_ranges guests) given want joined.given_is;
    among = subst (All (AreAmong (given_after given want))) (sym all_ranges-next)
        (All-push (AreAmong (given_after given want)) (all_ranges guests) (next_ranges given want) (λ k d h. among-after given want (get_or (all_ranges guests) k d) (joined.among k d h)) among);
  }
    where
      front : (page : ℕ) → All (λ ranges. owns_page ranges page ≡ false) (all_ranges guests ++ ranges_of v.gtt ∷ []) → All (λ ranges. owns_page ranges page ≡ false) (all_ranges guests)
      front page all k x h = subst (λ r. owns_page r page ≡ false) (at_front (all_ranges guests) (ranges_of v.gtt) k x h) (all k x (let n = longer (all_ranges guests) (ranges_of v.gtt) in omega arith))

  kept_all : devices_in e first_owner guests ≡ devices_in d first_owner guests
  kept_all = same_lists _ _ (simp length-map refl) (λ k b h.
      let hk : k < length guests = rw length-map at h in
      let x = get_or guests k v in
      let at : IsAt guests k x = (hk, get_or_default guests k x v hk) in
      let here : owns first_owner (number_of x.gtt) ≡ owns first_owner k = ap (owns first_owner) (joined.number k x at) in
      get_or-map (device_in e first_owner) guests k v b hk
      ∙ ap (private_of e x) here
      ∙ device_stays d e x (owns first_owner k) (joined.holds k x at) (left k x at)
      ∙ ap (private_of d x) (sym here)
      ∙ sym (get_or-map (device_in d first_owner) guests k v b hk))

  pub devices-then : (new : PrivateDevice) → private_of e v mine ≡ new → devices_in e first_owner (guests ++ v ∷ []) ≡ devices_in d first_owner guests ++ new ∷ []
  devices-then new is = map_push (device_in e first_owner) guests v ∙ (λ i. kept_all i ++ is i ∷ [])

pub ran-frames : (g : ℕ) (d e : Device) → outside (frames_part g) e ≡ outside (frames_part g) d → Ran d e []
ran-frames g d e same = record { journal = ap (λ (x : Device). x.journal) same ∙ sym (append-nil d.journal); strays = ap (λ (x : Device). x.strays) same }
