-- What an arena's fields say of its contents.
use Rattle.std.proofs.Common.{◌≡◌, ℕ, zero, suc, ◌+◌, ◌<◌, ◌≤◌, Bool, true, false, List, [], ◌∷◌, length, set, get_or, sym, ap, ◌∙◌, arith, refl, length-set, Some, None, Option}
use Rattle.std.proofs.lemmas.List.Sums.{sum_by-set, count_by-le-length}
use Rattle.std.specs.Prelude.{count_by, cond, IsSome}
use Rattle.std.specs.Option.{is_some}
use Rattle.gv_arena.specs.Contents.{Contents, padded, words_at, words_of, words_or_none, is_live, live}
use Rattle.gv_arena.specs.ArenaHolds.{Holds, contents, spare_of, shown, shown_page}
use Rattle.gv_arena.specs.declared.arena.Arena.TheInside.{Inside}
use Rattle.gv_arena.proofs.Padding.{get_or-padded, set-padded, sum_by-padded}
use Rattle.gv_arena.proofs.Shown.{length-shown, shown_at, shown_written, count-shown}

marked_within : (marks : List Bool) (i : ℕ) → get_or marks i false ≡ true → i < length marks
marked_within [] i e = cc
marked_within (m ∷ ms) zero e = omega arith
marked_within (m ∷ ms) (suc i) e = omega (arith, marked_within ms i e)

-- how many numbers are to spare, after one is given or taken back
module _ (marks : List Bool) (i : ℕ) (within : i < length marks) where
  pub spare_given : get_or marks i false ≡ false → spare_of (set marks i true) + 1 ≡ spare_of marks
  spare_given e =
      let none : ℕ = 0 in let one : ℕ = 1 in
      let was : cond (get_or marks i false) one none ≡ none = ap (λ (b : Bool). cond b one none) e in
      omega (arith, was, sum_by-set (λ (b : Bool). cond b 1 0) marks i true false within, length-set marks i true, count_by-le-length (λ (b : Bool). b) marks, count_by-le-length (λ (b : Bool). b) (set marks i true))

  pub spare_back : get_or marks i false ≡ true → spare_of (set marks i false) ≡ spare_of marks + 1
  spare_back e =
      let none : ℕ = 0 in let one : ℕ = 1 in
      let was : cond (get_or marks i false) one none ≡ one = ap (λ (b : Bool). cond b one none) e in
      omega (arith, was, sum_by-set (λ (b : Bool). cond b 1 0) marks i false false within, length-set marks i false, count_by-le-length (λ (b : Bool). b) marks, count_by-le-length (λ (b : Bool). b) (set marks i false))

some_marked : (mark : Bool) (words : List ℕ) → is_some (shown_page mark words) ≡ mark
some_marked true words = refl
some_marked false words = refl

-- how many pages are live, by the marks
pub live_by : (marks : List Bool) (pages : List (List ℕ)) → length marks ≤ length pages → count_by is_some (padded None (shown marks pages)) ≡ count_by (λ mark. mark) marks
live_by marks pages le =
    let counted : Option (List ℕ) → ℕ = λ p. cond (is_some p) 1 0 in
    sum_by-padded None counted refl (shown marks pages) ∙ count-shown marks pages le

module _ (a : Inside) (now : Contents) (h : Holds a) (v : contents a ≡ now) where
  pub pages_are : padded None (shown a.numbers a.store) ≡ now.pages
  pages_are = ap (λ (n : Contents). n.pages) v

  pub spare_is : spare_of a.numbers ≡ now.spare
  spare_is = ap (λ (n : Contents). n.spare) v

  pub live_are : count_by (λ mark. mark) a.numbers ≡ live now
  live_are = sym (live_by a.numbers a.store h.enough) ∙ ap (λ (n : Contents). live n) v

  pub all_are : live now + now.spare ≡ length a.numbers
  all_are = omega (arith, spare_is, live_are, count_by-le-length (λ (b : Bool). b) a.numbers)

  module _ (page : ℕ) where
    pub page_at : words_at now page ≡ shown_page (get_or a.numbers page false) (get_or a.store page [])
    page_at = sym (ap (λ (n : Contents). words_at n page) v) ∙ get_or-padded None (shown a.numbers a.store) page ∙ shown_at a.numbers a.store page h.enough

    pub mark_at : get_or a.numbers page false ≡ is_live now page
    mark_at = sym (some_marked (get_or a.numbers page false) (get_or a.store page [])) ∙ ap is_some (sym page_at)

    -- the pages, with another word list or none in place of one
    pub pages_set : (p : Option (List ℕ)) → page < length a.numbers → padded None (set (shown a.numbers a.store) page p) ≡ set now.pages page p
    pages_set p within = sym (set-padded None (shown a.numbers a.store) page p (omega (arith, length-shown a.numbers a.store h.enough))) ∙ ap (λ (n : Contents). set n.pages page p) v

    module _ (some : IsSome (words_at now page)) where
      pub number_within : page < length a.numbers
      number_within = marked_within a.numbers page (mark_at ∙ some)

      pub page_within : page < length a.store
      page_within = omega (arith, number_within, h.enough)

      pub live_page : words_at now page ≡ Some (get_or a.store page [])
      live_page = page_at ∙ ap (λ (b : Bool). shown_page b (get_or a.store page [])) (mark_at ∙ some)

      pub words_are : words_of now page ≡ get_or a.store page []
      words_are = ap words_or_none live_page

      pub pages_written : (words : List ℕ) → padded None (shown a.numbers (set a.store page words)) ≡ set now.pages page (Some words)
      pages_written words = ap (padded None) (shown_written a.numbers a.store page words (mark_at ∙ some)) ∙ pages_set (Some words) number_within
