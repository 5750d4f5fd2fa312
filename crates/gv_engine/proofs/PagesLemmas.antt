-- Words that are put in the place of a page's.
use Rattle.std.proofs.Common.{◌≡◌, ℕ, ◌+◌, ◌/◌, List, get_or, set, Option, Some, sym, ap, ◌∙◌, add-one, arith, IsSome}
use Rattle.std.proofs.lemmas.Bool.Decides.{nat_tests}
use Rattle.std.proofs.lemmas.Grind.{common_steps}
use Rattle.gv_types.specs.Maps.{put}
use Rattle.gv_types.specs.Bits.{with_byte}
use Rattle.gv_types.specs.declared.ids.Label.{Label}
use Rattle.gv_arena.specs.Contents.{Contents, words_at, words_of, live, with_page}
use Rattle.gv_engine.specs.Pages.{Held, held_by, with_words, bytes_put}

module _ {A : Type 0} (f : ℕ → A) (k : ℕ) where
  pub put-same : (x : A) → put f k x k ≡ x
  put-same x = grind (arith, nat_tests)

  pub put-own : put f k (f k) ≡ f
  put-own = λ i n. at n i
    where
      at : (n : ℕ) → put f k (f k) n ≡ f n
      at n = grind (arith, nat_tests)

  pub put-twice : (x y : A) → put (put f k x) k y ≡ put f k y
  put-twice x y = λ i n. at n i
    where
      at : (n : ℕ) → put (put f k x) k y n ≡ put f k y n
      at n = grind (arith, nat_tests)

pub with_words-own : (h : Held) (page : ℕ) → with_words h page (h.words page) ≡ h
with_words-own h page = λ i. record h { words = put-own h.words page i }

-- one byte more is stored
pub put-step : (h now next : Held) (page at n word value : ℕ) (bytes : ℕ → ℕ) → now ≡ with_words h page (bytes_put (h.words page) at bytes n)
    → word ≡ get_or (now.words page) ((at + n) / 8) 0 → value ≡ with_byte word (at + n) (bytes n)
    → next ≡ with_words now page (set (now.words page) ((at + n) / 8) value)
    → next ≡ with_words h page (bytes_put (h.words page) at bytes (n + 1))
unfolding bytes_put
put-step h now next page at n word value bytes is read made then =
    let before = bytes_put (h.words page) at bytes n in
    let after : List ℕ → List ℕ = λ ws. set ws ((at + n) / 8) (with_byte (get_or ws ((at + n) / 8) 0) (at + n) (bytes n)) in
    then ∙ ap (λ v. with_words now page (set (now.words page) ((at + n) / 8) v)) (made ∙ ap (λ w. with_byte w (at + n) (bytes n)) read)
    ∙ ap (λ (k : Held). with_words k page (after (k.words page))) is
    ∙ (λ i. record h { words = put-twice h.words page before (after (put h.words page before page)) i })
    ∙ ap (λ ws. with_words h page (after ws)) (put-same h.words page before)
    ∙ ap (λ k. with_words h page (bytes_put (h.words page) at bytes k)) (sym (add-one n))

-- a page of an arena has other words
module _ (pages : Contents) (labels : List (Option Label)) (page : ℕ) (words : List ℕ) (there : IsSome (words_at pages page)) where
  words_same : (q : ℕ) → words_of (with_page pages page (Some words)) q ≡ put (λ n. words_of pages n) page words q
  words_same q = grind (arith, common_steps)

  live_same : live (with_page pages page (Some words)) ≡ live pages
  live_same = grind (arith, common_steps)

  pub held-with_page : held_by (with_page pages page (Some words)) labels ≡ with_words (held_by pages labels) page words
  held-with_page = λ i. record (held_by pages labels) { words = λ q. words_same q i; live = live_same i }
