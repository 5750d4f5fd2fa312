-- The entries of a window: each page has one of its own.
use Rattle.std.proofs.Common.{◌≡◌, ℕ, ◌+◌, ◌-◌, ◌^◌, ◌<◌, ◌≤◌, Bool, true, false, cond, ltb, refl, arith}
use Rattle.std.proofs.lemmas.Bool.Decides.{nat_tests}
use Rattle.gv_gpu.specs.Part.{is_in_window, is_in_windows, first_of_window}
use Rattle.gv_sring.specs.Window.{ring_pages, slot_of, most_pages}

pub few-ring : (tail : ℕ) → tail ≤ 65536 → ring_pages tail ≤ 16
few-ring tail h = omega arith

-- by where the page stands: the image, the ring, or the batches
slot-by : (r k : ℕ) (a b : Bool) → ltb k 2 ≡ a → ltb k (2 + r) ≡ b → r ≤ 16 → k < 2 + r + 256 → cond a k (cond b (0x10 + (k - 2)) (0x20 + (k - (2 + r)))) < 0x200
slot-by r k true b one two few less = grind (arith, nat_tests)
slot-by r k false true one two few less = grind (arith, nat_tests)
slot-by r k false false one two few less = grind (arith, nat_tests)

pub slot-below : (tail k : ℕ) → tail ≤ 65536 → k < most_pages tail → slot_of tail k < 0x200
slot-below tail k h less = slot-by (ring_pages tail) k (ltb k 2) (ltb k (2 + ring_pages tail)) refl refl (few-ring tail h) less

apart-by : (r j k : ℕ) (a b c d : Bool) → ltb j 2 ≡ a → ltb j (2 + r) ≡ b → ltb k 2 ≡ c → ltb k (2 + r) ≡ d → r ≤ 16
    → cond a j (cond b (0x10 + (j - 2)) (0x20 + (j - (2 + r)))) ≡ cond c k (cond d (0x10 + (k - 2)) (0x20 + (k - (2 + r)))) → j ≡ k
apart-by r j k true b true d e f g h few same = same
apart-by r j k true b false true e f g h few same = grind (arith, nat_tests)
apart-by r j k true b false false e f g h few same = grind (arith, nat_tests)
apart-by r j k false true true d e f g h few same = grind (arith, nat_tests)
apart-by r j k false true false true e f g h few same = grind (arith, nat_tests)
apart-by r j k false true false false e f g h few same = grind (arith, nat_tests)
apart-by r j k false false true d e f g h few same = grind (arith, nat_tests)
apart-by r j k false false false true e f g h few same = grind (arith, nat_tests)
apart-by r j k false false false false e f g h few same = grind (arith, nat_tests)

pub slot-apart : (tail j k : ℕ) → tail ≤ 65536 → slot_of tail j ≡ slot_of tail k → j ≡ k
slot-apart tail j k h same = apart-by (ring_pages tail) j k (ltb j 2) (ltb j (2 + ring_pages tail)) (ltb k 2) (ltb k (2 + ring_pages tail)) refl refl refl refl (few-ring tail h) same

-- the window's own entries
pub in-window : (guest engine i : ℕ) → i < 0x200 → is_in_window guest engine (first_of_window guest engine + i) ≡ true
in-window guest engine i less = grind (arith, nat_tests)

pub in-windows : (guest engine i : ℕ) → engine < 4 → i < 0x200 → is_in_windows guest (first_of_window guest engine + i) ≡ true
in-windows guest engine i few less = grind (arith, nat_tests)

pub index-below : (guest engine i : ℕ) → guest < 8 → engine < 4 → i < 0x200 → first_of_window guest engine + i < 2 ^ 20
index-below guest engine i g e less = omega arith
