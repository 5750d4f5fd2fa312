-- The part of each layer is within its guest's, and the parts of two guests are apart, as are their engines.
use Rattle.std.proofs.Common.{◌≡◌, ◌≢◌, ℕ, ◌<◌, Bool, true, false, not, ◌||◌, List, Option, None, Some, ap, ◌∙◌, ◌&&◌, eqb, arith, refl}
use Rattle.std.proofs.lemmas.Bool.{false≢true, eqb-true, or_left, or_right, or_from}
use Rattle.std.proofs.lemmas.Bool.Decides.{nat_tests}
use Rattle.gv_types.specs.declared.ids.Label.{Label}
use Rattle.gv_types.specs.declared.ranges.Ranges.{Ranges}
use Rattle.gv_entry.specs.Ranges.{InParts, owns_page}
use Rattle.gv_gpu.specs.Part.{Apart, Within, is_frame_of, is_shadow_of, is_page_of, is_named, is_in_window, is_in_windows, frames_part, entries_part, tables_part, window_part, context_part, engine_part, step_part, access_part, elements_part, guest_part, standing_part, AreDisjoint}

frame_page : (g : ℕ) (l : Option Label) → is_frame_of g l ≡ true → is_page_of g l ≡ true
frame_page g None is = cc
frame_page g (Some l) is = grind (arith, nat_tests)

shadow_page : (g : ℕ) (b : Bool) (l : Option Label) → (b && is_shadow_of g l) ≡ true → is_page_of g l ≡ true
shadow_page g b None is = grind (arith, nat_tests)
shadow_page g b (Some l) is = grind (arith, nat_tests)

one_window : (g e i : ℕ) → e < 4 → is_in_window g e i ≡ true → is_in_windows g i ≡ true
one_window g e i four is = grind (arith, nat_tests)

shadow_is_page : (g : ℕ) (l : Option Label) → is_shadow_of g l ≡ true → is_page_of g l ≡ true
shadow_is_page g None is = cc
shadow_is_page g (Some l) is = grind (arith, nat_tests)

-- ---- a guest's layers are within its part

pub frames-access : (g : ℕ) (ranges : Ranges) → Within (frames_part g) (access_part g ranges)
frames-access g ranges = record { page = λ n l h. h; entry = λ i h. cc; engine = λ e h. h; spare = λ h. h }

pub entries-access : (g : ℕ) (ranges : Ranges) → Within (entries_part ranges) (access_part g ranges)
entries-access g ranges = record { page = λ n l h. cc; entry = λ i h. h; engine = λ e h. h; spare = λ h. h }

module _ (g : ℕ) (ranges : Ranges) (here : ℕ → Bool) where
  pub frames-within : Within (frames_part g) (guest_part g ranges here)
  frames-within = record { page = λ n l h. frame_page g l h; entry = λ i h. cc; engine = λ e h. cc; spare = λ h. refl }

  pub entries-within : Within (entries_part ranges) (guest_part g ranges here)
  entries-within = record { page = λ n l h. cc; entry = λ i h. or_left (owns_page ranges i) (is_in_windows g i) h; engine = λ e h. cc; spare = λ h. refl }

  pub access-within : Within (access_part g ranges) (guest_part g ranges here)
  access-within = record { page = λ n l h. frame_page g l h; entry = λ i h. or_left (owns_page ranges i) (is_in_windows g i) h; engine = λ e h. cc; spare = λ h. refl }

  pub tables-within : (own : List ℕ) → Within (tables_part g own) (guest_part g ranges here)
  tables-within own = record { page = λ n l h. shadow_page g (is_named own n) l h; entry = λ i h. cc; engine = λ e h. cc; spare = λ h. refl }

  pub window-within : (engine : ℕ) (own : List ℕ) → engine < 4 → Within (window_part g engine own) (guest_part g ranges here)
  window-within engine own four = record {
    page = λ n l h. shadow_page g (is_named own n) l h;
    entry = λ i h. or_right (owns_page ranges i) (is_in_windows g i) (one_window g engine i four h);
    engine = λ e h. cc;
    spare = λ h. refl;
  }

  pub elements-within : Within (elements_part g here) (guest_part g ranges here)
  elements-within = record { page = λ n l h. shadow_is_page g l h; entry = λ i h. or_right (owns_page ranges i) (is_in_windows g i) h; engine = λ e h. h; spare = λ h. refl }

  module _ (engine : ℕ) (owned : here engine ≡ true) where
    one_engine : (e : ℕ) → eqb e engine ≡ true → here e ≡ true
    one_engine e h = ap here (eqb-true e engine h) ∙ owned

    pub engine-within : Within (engine_part engine) (guest_part g ranges here)
    engine-within = record { page = λ n l h. cc; entry = λ i h. cc; engine = one_engine; spare = λ h. refl }

    pub step-within : Within (step_part g engine) (guest_part g ranges here)
    step-within = record { page = λ n l h. frame_page g l h; entry = λ i h. cc; engine = one_engine; spare = λ h. refl }

    pub context-within : (image : ℕ) → Within (context_part g engine image) (guest_part g ranges here)
    context-within image = record { page = λ n l h. shadow_page g (eqb n image) l h; entry = λ i h. cc; engine = one_engine; spare = λ h. refl }

-- ---- the parts of one guest that are apart

-- The memory and the entries of one guest are apart from each other.
no_page : {A : Type 0} → false ≡ true → A
no_page is = absurd (false≢true is)

pub apart-entries-frames : (ranges : Ranges) (g : ℕ) → Apart (entries_part ranges) (frames_part g)
apart-entries-frames ranges g = record { dead = λ n. refl; page = λ n l h. no_page h; entry = λ i h. refl; engine = λ e h. refl; spare = λ h. refl }

pub apart-frames-entries : (g : ℕ) (ranges : Ranges) → Apart (frames_part g) (entries_part ranges)
apart-frames-entries g ranges = record { dead = λ n. refl; page = λ n l h. refl; entry = λ i h. no_page h; engine = λ e h. refl; spare = λ h. refl }

other_page : (g k : ℕ) (l : Option Label) → g ≢ k → is_page_of g l ≡ true → is_page_of k l ≡ false
other_page g k None differ is = refl
other_page g k (Some l) differ is = grind (arith, nat_tests)

other_window : (g k i : ℕ) → g ≢ k → is_in_windows g i ≡ true → is_in_windows k i ≡ false
other_window g k i differ is = grind (arith, nat_tests)

below_windows : (ranges : Ranges) (k i : ℕ) → InParts ranges → owns_page ranges i ≡ true → is_in_windows k i ≡ false
below_windows ranges k i parts own = let low = parts.low in let high = parts.high in grind (arith, nat_tests)

past_ranges : (ranges : Ranges) (g i : ℕ) → InParts ranges → is_in_windows g i ≡ true → owns_page ranges i ≡ false
past_ranges ranges g i parts own = let low = parts.low in let high = parts.high in grind (arith, nat_tests)

either : (a b : Bool) (P : Type 0) → (a || b) ≡ true → (a ≡ true → P) → (b ≡ true → P) → P
either true b P is first second = first refl
either false b P is first second = second is

-- What one guest changes leaves what stands of another, which owns other engines.
module _ (g k : ℕ) (r s : Ranges) (differ : g ≢ k) (own : InParts r) (other : InParts s) (apart : (page : ℕ) → owns_page r page ≡ true → owns_page s page ≡ false) where
  other_entry : (i : ℕ) → (owns_page r i || is_in_windows g i) ≡ true → (owns_page s i || is_in_windows k i) ≡ false
  other_entry i h = either (owns_page r i) (is_in_windows g i) _ h
      (λ mine. or_from (owns_page s i) (is_in_windows k i) (apart i mine) (below_windows r k i own mine))
      (λ window. or_from (owns_page s i) (is_in_windows k i) (past_ranges s g i other window) (other_window g k i differ window))

  pub apart-standing : (here there : ℕ → Bool) → AreDisjoint here there → Apart (guest_part g r here) (standing_part k s there)
  apart-standing here there disjoint = record {
    dead = λ n. refl;
    page = λ n l h. other_page g k l differ h;
    entry = other_entry;
    engine = disjoint;
    spare = λ h. refl;
  }

  -- a read or a write changes no engine
  pub apart-access : (there : ℕ → Bool) → Apart (access_part g r) (standing_part k s there)
  apart-access there = record {
    dead = λ n. refl;
    page = λ n l h. other_page g k l differ (frame_page g l h);
    entry = λ i h. other_entry i (or_left (owns_page r i) (is_in_windows g i) h);
    engine = λ e h. no_page h;
    spare = λ h. refl;
  }

no_frame : (k : ℕ) (l : Option Label) → is_page_of k l ≡ false → is_frame_of k l ≡ false
no_frame k None is = refl
no_frame k (Some l) is = ap (λ b. b && not l.shadow) is

-- the memory of a guest that isn't there yet
pub apart-access-frames : (g k : ℕ) (r : Ranges) → g ≢ k → Apart (access_part g r) (frames_part k)
apart-access-frames g k r differ = record {
  dead = λ n. refl;
  page = λ n l h. no_frame k l (other_page g k l differ (frame_page g l h));
  entry = λ i h. refl;
  engine = λ e h. refl;
  spare = λ h. refl;
}

-- A guest's reads and writes leave the engines that it owns, and its windows and shadow pages.
pub apart-elements : (g : ℕ) (r : Ranges) (here : ℕ → Bool) → InParts r → Apart (access_part g r) (elements_part g here)
apart-elements g r here parts = record {
  dead = λ n. refl;
  page = λ n l h. frame_or_shadow l h;
  entry = λ i h. below_windows r g i parts h;
  engine = λ e h. no_page h;
  spare = λ h. refl;
}
  where
    frame_or_shadow : (l : Option Label) → is_frame_of g l ≡ true → is_shadow_of g l ≡ false
    frame_or_shadow None is = refl
    frame_or_shadow (Some l) is = grind (arith, nat_tests)
