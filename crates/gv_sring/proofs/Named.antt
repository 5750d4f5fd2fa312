-- A window's part, where the list of its pages gets one more or loses its last.
use Rattle.std.proofs.Common.{◌≡◌, ℕ, ◌<◌, Bool, true, false, ◌&&◌, ◌||◌, List, [], ◌∷◌, ◌++◌, None, Some, length, get_or, refl, ap, sym, ◌∙◌, cond, eqb, arith}
use Rattle.std.proofs.Math.Bool.{or-true, or-false, and-false}
use Rattle.std.proofs.lemmas.Bool.{eq-eqb, eqb-true, and_from}
use Rattle.std.proofs.lemmas.List.Folds.{list_any-append, list_any_at}
use Rattle.std.proofs.lemmas.Grind.{common_steps}
use Rattle.gv_types.specs.Maps.{put}
use Rattle.gv_gpu.specs.Device.{Device, added, released}
use Rattle.gv_gpu.specs.Part.{outside, is_named, is_shadow_of, window_part, shadow_label}
use Rattle.gv_gpu.proofs.Changed.{outside-added, outside-released}

named_last : (own : List ℕ) (page n : ℕ) → is_named (own ++ page ∷ []) n ≡ (is_named own n || (eqb page n || false))
named_last own page n = list_any-append (λ p. eqb p n) own (page ∷ [])

pub named-is-last : (own : List ℕ) (page : ℕ) → is_named (own ++ page ∷ []) page ≡ true
named-is-last own page = named_last own page page ∙ ap (λ b. is_named own page || (b || false)) (eq-eqb page page refl) ∙ or-true (is_named own page)

-- each page of the list is named
pub named-at : (own : List ℕ) (k : ℕ) → k < length own → is_named own (get_or own k 0) ≡ true
named-at own k less = list_any_at (λ p. eqb p (get_or own k 0)) own k 0 less (eq-eqb (get_or own k 0) (get_or own k 0) refl)

pub shadow-own : (guest : ℕ) → is_shadow_of guest (Some (shadow_label guest)) ≡ true
shadow-own guest = and_from (eqb guest guest) true (eq-eqb guest guest refl) refl

module _ (guest engine : ℕ) (own : List ℕ) (page : ℕ) (d : Device) (free : d.label page ≡ None) where
  test_same : (n : ℕ) → (is_named (own ++ page ∷ []) n && is_shadow_of guest (d.label n)) ≡ (is_named own n && is_shadow_of guest (d.label n))
  test_same n = by_page (eqb page n) refl
    where
      by_page : (b : Bool) → eqb page n ≡ b → (is_named (own ++ page ∷ []) n && is_shadow_of guest (d.label n)) ≡ (is_named own n && is_shadow_of guest (d.label n))
      by_page true is =
          let none : is_shadow_of guest (d.label n) ≡ false = ap (λ q. is_shadow_of guest (d.label q)) (sym (eqb-true page n is)) ∙ ap (is_shadow_of guest) free in
          ap (λ b. is_named (own ++ page ∷ []) n && b) none ∙ and-false (is_named (own ++ page ∷ []) n) ∙ sym (ap (λ b. is_named own n && b) none ∙ and-false (is_named own n))
      by_page false is = ap (λ b. b && is_shadow_of guest (d.label n)) (named_last own page n ∙ ap (λ b. is_named own n || (b || false)) is ∙ or-false (is_named own n))

  -- a page that isn't live makes no difference
  pub named-dead : outside (window_part guest engine (own ++ page ∷ [])) d ≡ outside (window_part guest engine own) d
  named-dead = λ i. record (outside (window_part guest engine own) d) {
    words = λ n. cond (test_same n i) [] (d.words n);
    label = λ n. cond (test_same n i) None (d.label n);
  }

pub last_own : (guest : ℕ) (own : List ℕ) (page : ℕ) → (is_named (own ++ page ∷ []) page && is_shadow_of guest (Some (shadow_label guest))) ≡ true
last_own guest own page = and_from (is_named (own ++ page ∷ []) page) (is_shadow_of guest (Some (shadow_label guest))) (named-is-last own page) (shadow-own guest)

pub window-added : (guest engine : ℕ) (own : List ℕ) (page : ℕ) (d : Device) → d.label page ≡ None → d.words page ≡ []
    → outside (window_part guest engine (own ++ page ∷ [])) (added d page (shadow_label guest)) ≡ outside (window_part guest engine own) d
window-added guest engine own page d free empty =
    outside-added (window_part guest engine (own ++ page ∷ [])) d page (shadow_label guest) (and-false (is_named (own ++ page ∷ []) page)) (last_own guest own page) free empty
    ∙ named-dead guest engine own page d free

pub window-released : (guest engine : ℕ) (own : List ℕ) (page : ℕ) (d : Device) → d.label page ≡ Some (shadow_label guest)
    → outside (window_part guest engine own) (released d page) ≡ outside (window_part guest engine (own ++ page ∷ [])) d
window-released guest engine own page d is =
    sym (named-dead guest engine own page (released d page) gone)
    ∙ outside-released (window_part guest engine (own ++ page ∷ [])) d page (shadow_label guest) (and-false (is_named (own ++ page ∷ []) page)) (last_own guest own page) is
  where
    gone : put d.label page None page ≡ None
    gone = grind (arith, common_steps)

-- a page of the list, as the part's test has it
pub in-part : (guest engine : ℕ) (own : List ℕ) (k : ℕ) (d : Device) → k < length own → d.label (get_or own k 0) ≡ Some (shadow_label guest)
    → (is_named own (get_or own k 0) && is_shadow_of guest (d.label (get_or own k 0))) ≡ true
in-part guest engine own k d less is = and_from (is_named own (get_or own k 0)) (is_shadow_of guest (d.label (get_or own k 0))) (named-at own k less) (ap (is_shadow_of guest) is ∙ shadow-own guest)
