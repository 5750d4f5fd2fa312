-- How many host pages all guests have together: there is always room.
use Rattle.std.proofs.Common.{◌≡◌, ℕ, zero, suc, ◌+◌, ◌*◌, ◌/◌, ◌<◌, ◌≤◌, List, [], ◌∷◌, length, refl, subst, arith}
use Rattle.std.specs.List.{AllByRecursion}
use Rattle.std.proofs.lemmas.List.Sums.{sum_by-cons}
use Rattle.gv_gtt.specs.Gtt.{frames_of, own_pages}
use Rattle.gv_vgpu.specs.Changes.{own_live}
use Rattle.gv_mediator.specs.Tied.{IsAt, all_frames, all_live}
use Rattle.gv_vgpu.specs.declared.vgpu.Vgpu.{Vgpu}

-- what holds at each place holds of all
pub all-at : (P : Vgpu → Type 0) (xs : List Vgpu) → ((k : ℕ) (v : Vgpu) → IsAt xs k v → P v) → AllByRecursion P xs
all-at P [] each = tt
all-at P (x ∷ xs) each = (each zero x (omega arith, refl), all-at P xs (λ k v at. each (suc k) v (let there = at.0 in omega arith, at.1)))

abbrev pub frames_in : Vgpu → ℕ
frames_in v = length (frames_of v.gtt).pages

-- the most pages of a guest, times 512
abbrev pub most : Vgpu → ℕ
most v = 2562 * frames_in v + 561152

abbrev pub IsSmall : Vgpu → Type 0
IsSmall v = 512 * own_live v ≤ most v

small-if : (n f q : ℕ) → n ≤ 5 * f + 2 * q + 1096 → 512 * q ≤ f → 512 * n ≤ 2562 * f + 561152
small-if n f q bound div = omega arith

div-below : (f : ℕ) → 512 * (f / 512) ≤ f
div-below f = omega arith

pub is-small : (v : Vgpu) → own_live v ≤ 5 * frames_in v + 2 * (frames_in v / 512) + 1096 → IsSmall v
is-small v bound = small-if (own_live v) (frames_in v) (frames_in v / 512) bound (div-below (frames_in v))

add-one : (a f n s l live frames : ℕ) → live ≡ a + l → frames ≡ f + s → 512 * a ≤ 2562 * f + 561152 → 512 * l ≤ 2562 * s + 561152 * n → 512 * live ≤ 2562 * frames + 561152 * suc n
add-one a f n s l live frames one two own more = omega arith

live-cons : (x : Vgpu) (xs : List Vgpu) → all_live (x ∷ xs) ≡ own_live x + all_live xs
live-cons x xs = sum_by-cons own_live x xs

frames-cons : (x : Vgpu) (xs : List Vgpu) → all_frames (x ∷ xs) ≡ frames_in x + all_frames xs
frames-cons x xs = sum_by-cons (λ (v : Vgpu). length (frames_of v.gtt).pages) x xs

-- all pages, times 512
pub all-small : (xs : List Vgpu) → AllByRecursion IsSmall xs → 512 * all_live xs ≤ 2562 * all_frames xs + 561152 * length xs
all-small [] each = omega arith
all-small (x ∷ xs) each = add-one (own_live x) (frames_in x) (length xs) (all_frames xs) (all_live xs) (all_live (x ∷ xs)) (all_frames (x ∷ xs)) (live-cons x xs) (frames-cons x xs) each.0 (all-small xs each.1)

first-one : (a f n s l live frames : ℕ) → live ≡ a + l → frames ≡ f + s → 512 * l ≤ 2562 * s + 561152 * n → 512 * live + (2562 * f + 561152) ≤ 2562 * frames + 561152 * suc n + 512 * a
first-one a f n s l live frames one two more = omega arith

later-one :
    (b h a f n s l live frames : ℕ) → live ≡ b + l → frames ≡ h + s → 512 * b ≤ 2562 * h + 561152 → 512 * l + (2562 * f + 561152) ≤ 2562 * s + 561152 * n + 512 * a
    → 512 * live + (2562 * f + 561152) ≤ 2562 * frames + 561152 * suc n + 512 * a
later-one b h a f n s l live frames one two own more = omega arith

-- where one guest had the most that it can have
pub with-most : (xs : List Vgpu) (k : ℕ) (v : Vgpu) → IsAt xs k v → AllByRecursion IsSmall xs → 512 * all_live xs + most v ≤ 2562 * all_frames xs + 561152 * length xs + 512 * own_live v
with-most [] k v at each = let there = at.0 in absurd (omega arith)
with-most (x ∷ xs) zero v at each =
    subst (λ y. 512 * all_live (x ∷ xs) + most y ≤ 2562 * all_frames (x ∷ xs) + 561152 * length (x ∷ xs) + 512 * own_live y) at.1
    (first-one (own_live x) (frames_in x) (length xs) (all_frames xs) (all_live xs) (all_live (x ∷ xs)) (all_frames (x ∷ xs)) (live-cons x xs) (frames-cons x xs) (all-small xs each.1))
with-most (x ∷ xs) (suc k) v at each =
    later-one (own_live x) (frames_in x) (own_live v) (frames_in v) (length xs) (all_frames xs) (all_live xs) (all_live (x ∷ xs)) (all_frames (x ∷ xs)) (live-cons x xs) (frames-cons x xs) each.0 (with-most xs k v (let there = at.0 in omega arith, at.1) each.1)

room-if : (l f p o s n : ℕ) → 512 * l + (2562 * f + 561152) ≤ 2562 * s + 561152 * n + 512 * o → o ≤ f + p + 1096 → s ≤ 16384 → n ≤ 8 → l + (4 * f + 338) ≤ 131072 + p
room-if l f p o s n bound own few eight = omega arith

-- So there is room for all that a guest can have, and for one more window.
pub room-for : (xs : List Vgpu) (k : ℕ) (v : Vgpu) → IsAt xs k v → AllByRecursion IsSmall xs → own_live v ≤ frames_in v + own_pages v.gtt + 1096 → all_frames xs ≤ 16384 → length xs ≤ 8 → all_live xs + (4 * frames_in v + 338) ≤ 131072 + own_pages v.gtt
room-for xs k v at each windows few eight = room-if (all_live xs) (frames_in v) (own_pages v.gtt) (own_live v) (all_frames xs) (length xs) (with-most xs k v at each) windows few eight

below-if : (l s n : ℕ) → 512 * l ≤ 2562 * s + 561152 * n → s ≤ 16384 → n ≤ 8 → l < 131072
below-if l s n bound few eight = omega arith

pub live-below : (xs : List Vgpu) → AllByRecursion IsSmall xs → all_frames xs ≤ 16384 → length xs ≤ 8 → all_live xs < 131072
live-below xs each few eight = below-if (all_live xs) (all_frames xs) (length xs) (all-small xs each) few eight
