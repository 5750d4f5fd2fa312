-- One more page for the frames.
use Rattle.std.proofs.Common.{◌≡◌, ◌≢◌, ℕ, ◌<◌, List, [], ◌∷◌, ◌++◌, ◌||◌, length, get_or, map, sym, ap, ◌∙◌, arith, None, Some, true, false, eqb, refl, subst, ⊎_elim}
use Rattle.std.proofs.lemmas.List.{same_lists, get_or-map, length-map, map_push}
use Rattle.std.proofs.lemmas.List.Folds.{list_any-append}
use Rattle.std.proofs.lemmas.Bool.{cases_eq, eq-eqb, or_left}
use Rattle.std.proofs.lemmas.Grind.{common_steps}
use Rattle.std.proofs.Math.Bool.{or-true}
use Rattle.gv_types.specs.Maps.{put}
use Rattle.gv_types.specs.Memory.{zero_words, length-zero_words}
use Rattle.gv_gpu.specs.Device.{Device, added}
use Rattle.gv_gpu.specs.Part.{outside, frames_part}
use Rattle.gv_gpu.proofs.Changed.{outside-added}
use Rattle.gv_guest.specs.Placed.{Placed, Hosts, memory_in, frame_label, is_among}
use Rattle.gv_guest.proofs.Written.{own_frame}

among_last : (pages : List ℕ) (page n : ℕ) → is_among (pages ++ page ∷ []) n ≡ (is_among pages n || (eqb page n || false))
among_last pages page n = list_any-append (λ p. eqb p n) pages (page ∷ [])

is_last : (pages : List ℕ) (page : ℕ) → is_among (pages ++ page ∷ []) page ≡ true
is_last pages page = among_last pages page page ∙ ap (λ b. is_among pages page || (b || false)) (eq-eqb page page refl) ∙ or-true (is_among pages page)

module _ (d : Device) (placed : Placed) (page : ℕ) (stands : Hosts d placed) (free : d.label page ≡ None) where
  abbrev grown : Placed
  grown = record placed { pages = placed.pages ++ page ∷ [] }

  abbrev after : Device
  after = added d page (frame_label placed.guest)

  other_page : (k : ℕ) → k < length placed.pages → get_or placed.pages k 0 ≢ page
  other_page k h = λ same. let l = stands.labelled k h in cc

  old_page : (q : ℕ) → put d.label page (Some (frame_label placed.guest)) q ≡ Some (frame_label placed.guest) → q ≢ page → is_among (placed.pages ++ page ∷ []) q ≡ true
  old_page q h differ =
      let was : d.label q ≡ Some (frame_label placed.guest) = grind (arith, common_steps) in
      among_last placed.pages page q ∙ or_left (is_among placed.pages q) (eqb page q || false) (stands.all q was)

  pub stands-added : page < 131072 → Hosts after grown
  stands-added low = record {
    labelled = λ k h. grind (arith, common_steps, other_page k, stands.labelled k);
    long = λ k h. grind (arith, common_steps, length-zero_words, other_page k, stands.long k);
    below = λ k h. grind (arith, common_steps, other_page k, stands.below k);
    apart = λ j k hj hk e. grind (arith, common_steps, other_page k, other_page j, stands.apart j k);
    all = λ q h. ⊎_elim (λ is. subst (λ q. is_among (placed.pages ++ page ∷ []) q ≡ true) (sym is) (is_last placed.pages page)) (old_page q h) (cases_eq q page);
  }

  kept : (k : ℕ) → k < length placed.pages → put d.words page zero_words (get_or placed.pages k 0) ≡ d.words (get_or placed.pages k 0)
  kept k h = grind (arith, common_steps, other_page k)

  kept_all : map (put d.words page zero_words) placed.pages ≡ map d.words placed.pages
  kept_all = same_lists _ _ (simp length-map) (λ k e h.
      let hk : k < length placed.pages = rw length-map at h in
      get_or-map (put d.words page zero_words) placed.pages k 0 e hk ∙ kept k hk ∙ sym (get_or-map d.words placed.pages k 0 e hk))

  at_page : put d.words page zero_words page ≡ zero_words
  at_page = grind (arith, common_steps)

  pub memory-added : memory_in after grown ≡ memory_in d placed ++ zero_words ∷ []
  memory-added = map_push (put d.words page zero_words) placed.pages page ∙ (λ i. kept_all i ++ at_page i ∷ [])

  pub frames-added : d.words page ≡ [] → outside (frames_part placed.guest) after ≡ outside (frames_part placed.guest) d
  frames-added empty = outside-added (frames_part placed.guest) d page (frame_label placed.guest) refl (own_frame placed.guest) free empty
