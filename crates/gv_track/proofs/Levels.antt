-- The levels of a frame, when one of them is written.
use Rattle.std.proofs.Common.{◌≡◌, ◌≢◌, ◌↔◌, ℕ, ◌+◌, ◌-◌, ◌*◌, ◌%◌, ◌^◌, ◌<◌, Bool, true, false, eqb, List, [], ◌∷◌, length, get_or, get_or-set_same, get_or-set_other, set, map, replicate, refl, zero, suc, bit_or, bit_and, sym, ap, subst, ◌∙◌, ◌≤◌, arith, lit<, w8}
use Rattle.std.specs.Int.{bit_at}
use Rattle.std.proofs.lemmas.Nat.{or_lt}
use Rattle.std.proofs.lemmas.Nat.Bits.{bit_at_set_same, bit_at_set_other, bit_at_clear_same, bit_at_clear_other}
use Rattle.std.proofs.lemmas.List.{map-set, get_or-map, length-map, get_or_past}
use Rattle.gv_track.specs.Roles.{levels_in, levels_of, with_role, no_roles, bits_of, HasNoRole, ChangesRole}

abbrev four : (ℕ → Bool) → List Bool
four f = f 0 ∷ f 1 ∷ f 2 ∷ f 3 ∷ []

four-set : (f g : ℕ → Bool) (k : ℕ) (v : Bool) → k < 4 → g k ≡ v → ((i : ℕ) → i < 4 → i ≢ k → g i ≡ f i) → four g ≡ set (four f) k v
four-set f g zero v small here others =
    λ i. here i ∷ others 1 (lit< tt) (omega arith) i ∷ others 2 (lit< tt) (omega arith) i ∷ others 3 (lit< tt) (omega arith) i ∷ []
four-set f g (suc zero) v small here others =
    λ i. others 0 (lit< tt) (omega arith) i ∷ here i ∷ others 2 (lit< tt) (omega arith) i ∷ others 3 (lit< tt) (omega arith) i ∷ []
four-set f g (suc (suc zero)) v small here others =
    λ i. others 0 (lit< tt) (omega arith) i ∷ others 1 (lit< tt) (omega arith) i ∷ here i ∷ others 3 (lit< tt) (omega arith) i ∷ []
four-set f g (suc (suc (suc zero))) v small here others =
    λ i. others 0 (lit< tt) (omega arith) i ∷ others 1 (lit< tt) (omega arith) i ∷ others 2 (lit< tt) (omega arith) i ∷ here i ∷ []
four-set f g (suc (suc (suc (suc k)))) v small here others = absurd (omega arith)

abbrev is_one : ℕ → Bool
is_one b = eqb b 1

pub levels_in-or : (n k : ℕ) → k < 4 → levels_in (bit_or n (1 * 2 ^ k % 2 ^ 8)) ≡ set (levels_in n) k true
levels_in-or n k small =
    let within : k < 8 = omega arith in
    four-set (λ i. is_one (bit_at n i)) (λ i. is_one (bit_at (bit_or n (1 * 2 ^ k % 2 ^ 8)) i)) k true small
    (ap is_one (bit_at_set_same w8 n k within)) (λ i _ other. ap is_one (bit_at_set_other w8 n k within i other))

pub levels_in-and : (n k : ℕ) → k < 4 → levels_in (bit_and n (2 ^ 8 - 1 - 1 * 2 ^ k % 2 ^ 8)) ≡ set (levels_in n) k false
levels_in-and n k small =
    let within : k < 8 = omega arith in
    four-set (λ i. is_one (bit_at n i)) (λ i. is_one (bit_at (bit_and n (2 ^ 8 - 1 - 1 * 2 ^ k % 2 ^ 8)) i)) k false small
    (ap is_one (bit_at_clear_same w8 n k within)) (λ i below other. ap is_one (bit_at_clear_other w8 n k within i (let b : i < 8 = omega arith in b) other))

one_bit : (k : ℕ) → k < 4 → 1 * 2 ^ k % 2 ^ 8 < 16
one_bit zero small = lit< tt
one_bit (suc zero) small = lit< tt
one_bit (suc (suc zero)) small = lit< tt
one_bit (suc (suc (suc zero))) small = lit< tt
one_bit (suc (suc (suc (suc k)))) small = absurd (omega arith)

pub or_below : (n k : ℕ) → n < 16 → k < 4 → bit_or n (1 * 2 ^ k % 2 ^ 8) < 16
or_below n k few small = or_lt 4 n (1 * 2 ^ k % 2 ^ 8) few (one_bit k small)

-- one frame's levels are written
pub roles-set : (items : List ℕ) (frame new old level : ℕ) (live : Bool) (now : List (List Bool)) → map levels_in items ≡ now → frame < length items → old ≡ get_or items frame old
    → levels_in new ≡ set (levels_in old) (level - 1) live → map levels_in (set items frame new) ≡ with_role now frame level live
roles-set items frame new old level live now seen within is levels =
    map-set levels_in items frame new
    ∙ ap (set (map levels_in items) frame) (levels ∙ ap (λ l. set l (level - 1) live) (sym (get_or-map levels_in items frame old [] within ∙ ap levels_in (sym is))))
    ∙ ap (λ m. with_role m frame level live) seen

pub within : (items : List ℕ) (frame : ℕ) (now : List (List Bool)) → map levels_in items ≡ now → frame < length now → frame < length items
within items frame now seen h = omega (arith, simp length-map at (ap length seen))

pub no_levels : (n : ℕ) → map levels_in (replicate n 0) ≡ no_roles n
no_levels zero = refl
no_levels (suc n) = ap (λ roles. levels_in 0 ∷ roles) (no_levels n)

-- what writing one role means
pub changes-role : (now : List (List Bool)) (frame level : ℕ) (live : Bool) → frame < length now → level - 1 < length (levels_of now frame) → 1 ≤ level → ChangesRole now (with_role now frame level live) frame level live
changes-role now frame level live there known low = record {
  role = rw get_or-set_same (rw get_or-set_same refl);
  other_levels = λ k one other. rw get_or-set_same (let apart : k - 1 ≢ level - 1 = omega arith in rw get_or-set_other refl);
  other_frames = λ f other. rw get_or-set_other refl;
}

pub four_levels : (items : List ℕ) (frame : ℕ) (now : List (List Bool)) → map levels_in items ≡ now → frame < length now → length (levels_of now frame) ≡ 4
four_levels items frame now seen there = ap (λ m. length (levels_of m frame)) (sym seen) ∙ ap length (get_or-map levels_in items frame 0 [] (within items frame now seen there))

pub changed : (items : List ℕ) (frame level : ℕ) (live : Bool) (now new : List (List Bool)) → map levels_in items ≡ now → frame < length now → new ≡ with_role now frame level live → 1 ≤ level → level ≤ 4 → ChangesRole now new frame level live
changed items frame level live now new seen there is low high =
    subst (λ n. ChangesRole now n frame level live) (sym is)
    (changes-role now frame level live there (omega (arith, four_levels items frame now seen there)) low)

-- the bits of levels are 0 where there is none
some_level : (levels : List Bool) → bits_of levels ≡ 0 → (k : ℕ) → get_or levels k false ≡ false
some_level [] zero_bits k = get_or_past [] k false (omega arith)
some_level (true ∷ levels) zero_bits k = absurd (omega arith)
some_level (false ∷ levels) zero_bits zero = refl
some_level (false ∷ levels) zero_bits (suc k) = some_level levels (omega arith) k

no_level : (levels : List Bool) → ((k : ℕ) → get_or levels k false ≡ false) → bits_of levels ≡ 0
no_level [] absent = refl
no_level (true ∷ levels) absent = absurd (let e : true ≡ false = absent 0 in cc)
no_level (false ∷ levels) absent = omega (arith, no_level levels (λ k. absent (suc k)))

pub bits_none : (now : List (List Bool)) (frame bits : ℕ) → bits ≡ bits_of (levels_of now frame) → (bits ≡ 0) ↔ HasNoRole now frame
bits_none now frame bits is = (
  λ none level. some_level (levels_of now frame) (sym is ∙ none) (level - 1),
  λ absent. is ∙ no_level (levels_of now frame) (λ k. let next : k + 1 - 1 ≡ k = omega arith in rw (← next) (absent (k + 1))),
)
