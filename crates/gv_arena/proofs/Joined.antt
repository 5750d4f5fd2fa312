-- The pages of chunks, one after another.
use Rattle.std.proofs.Common.{◌≡◌, ℕ, suc, ◌-◌, ◌*◌, ◌/◌, ◌%◌, ◌<◌, List, [], ◌∷◌, ◌++◌, length, set, get_or, refl, sym, ap, ◌∙◌, subst, inl, inr, arith, length-append, length-set, get_or-set_same, get_or-set_other, append-nil}
use Rattle.std.proofs.lemmas.Bool.{cases_lt, cases_eq}
use Rattle.std.proofs.lemmas.List.{get_or_append_left, get_or-append_right, set-append_left, set-append_right, get_or_push, length_push, get_or_read}
use Rattle.std.proofs.lemmas.List.Concat.{flat_map-append}
use Rattle.gv_arena.specs.Store.{joined, AreChunks}

tail_chunks : (c : List (List ℕ)) (cs : List (List (List ℕ))) → AreChunks (c ∷ cs) → AreChunks cs
tail_chunks c cs h k lt = h (suc k) (omega arith)

pub length-joined : (cs : List (List (List ℕ))) → AreChunks cs → length (joined cs) ≡ length cs * 64
length-joined [] h = refl
length-joined (c ∷ cs) h = omega (arith, length-append c (joined cs), h 0 (omega arith), length-joined cs (tail_chunks c cs h))

pub get_or-joined : (cs : List (List (List ℕ))) (i : ℕ) → AreChunks cs → get_or (joined cs) i [] ≡ get_or (get_or cs (i / 64) []) (i % 64) []
get_or-joined [] i h = refl
get_or-joined (c ∷ cs) i h = let long : length c ≡ 64 = h 0 (omega arith) in elim (cases_lt i 64) [
  | inl lt ↦ (let row : i / 64 ≡ 0 = omega arith in let place : i % 64 ≡ i = omega arith in
      get_or_append_left c (joined cs) [] i (omega (arith, long)) ∙ sym (rw row (rw place refl)))
  | inr le ↦ (let row : i / 64 ≡ suc ((i - 64) / 64) = omega arith in let place : i % 64 ≡ (i - 64) % 64 = omega arith in
      get_or-append_right c (joined cs) 64 i [] long le ∙ get_or-joined cs (i - 64) (tail_chunks c cs h) ∙ sym (rw row (rw place refl)))
]

pub set-joined : (cs : List (List (List ℕ))) (i : ℕ) (p : List ℕ) → AreChunks cs → i < length cs * 64
    → joined (set cs (i / 64) (set (get_or cs (i / 64) []) (i % 64) p)) ≡ set (joined cs) i p
set-joined [] i p h lt = absurd (omega arith)
set-joined (c ∷ cs) i p h lt = let long : length c ≡ 64 = h 0 (omega arith) in elim (cases_lt i 64) [
  | inl low ↦ (let row : i / 64 ≡ 0 = omega arith in let place : i % 64 ≡ i = omega arith in
      rw row (rw place (sym (set-append_left c (joined cs) i p (omega (arith, long))))))
  | inr le ↦ (let row : i / 64 ≡ suc ((i - 64) / 64) = omega arith in let place : i % 64 ≡ (i - 64) % 64 = omega arith in
      rw row (rw place (ap (λ ps. c ++ ps) (set-joined cs (i - 64) p (tail_chunks c cs h) (omega arith)) ∙ sym (set-append_right c (joined cs) 64 i p long le))))
]

pub chunks-set : (cs : List (List (List ℕ))) (k : ℕ) (c : List (List ℕ)) → AreChunks cs → length c ≡ 64 → AreChunks (set cs k c)
chunks-set cs k c h long j lt = let within : j < length cs = omega (arith, length-set cs k c) in elim (cases_eq j k) [
  | inl same ↦ subst (λ n. length (get_or (set cs k c) n []) ≡ 64) (sym same) (ap length (get_or-set_same cs k c [] (omega arith)) ∙ long)
  | inr apart ↦ ap length (get_or-set_other cs k j c [] apart) ∙ h j within
]

pub chunks_push : (cs : List (List (List ℕ))) (c : List (List ℕ)) → AreChunks cs → length c ≡ 64 → AreChunks (cs ++ c ∷ [])
chunks_push cs c h long j lt = elim (cases_lt j (length cs)) [
  | inl within ↦ ap length (get_or_append_left cs (c ∷ []) [] j within) ∙ h j within
  | inr le ↦ (let last : length cs ≡ j = omega (arith, length_push cs c) in ap length (get_or_push cs c [] j last) ∙ long)
]

pub joined_push : (cs : List (List (List ℕ))) (c : List (List ℕ)) → joined (cs ++ c ∷ []) ≡ joined cs ++ c
joined_push cs c = flat_map-append (λ p. p) cs (c ∷ []) ∙ ap (λ ps. joined cs ++ ps) (append-nil c)

-- a page by its chunk c and its place in it
module _ (cs : List (List (List ℕ))) (all : List (List ℕ)) (h : AreChunks cs) (v : joined cs ≡ all) (page : ℕ) (inside : page < length all) where
  within_places : page < length cs * 64
  within_places = omega (arith, length-joined cs h, ap length v)

  pub chunk_within : page / 64 < length cs
  chunk_within = let places = within_places in omega arith

  module _ (c : List (List ℕ)) (is : c ≡ get_or cs (page / 64) c) where
    chunk_is : c ≡ get_or cs (page / 64) []
    chunk_is = get_or_read cs (page / 64) c chunk_within is []

    pub chunk_long : length c ≡ 64
    chunk_long = ap length chunk_is ∙ h (page / 64) chunk_within

    pub page_is : get_or c (page % 64) [] ≡ get_or all page []
    page_is = ap (λ (d : List (List ℕ)). get_or d (page % 64) []) chunk_is ∙ sym (get_or-joined cs page h) ∙ ap (λ (ps : List (List ℕ)). get_or ps page []) v

    pub chunk_set : (p : List ℕ) → joined (set cs (page / 64) (set c (page % 64) p)) ≡ set all page p
    chunk_set p = ap (λ (d : List (List ℕ)). joined (set cs (page / 64) (set d (page % 64) p))) chunk_is ∙ set-joined cs page p h within_places ∙ ap (λ (ps : List (List ℕ)). set ps page p) v

    pub chunks_kept : (d : List (List ℕ)) (p : List ℕ) → d ≡ set c (page % 64) p → AreChunks (set cs (page / 64) d)
    chunks_kept d p e = chunks-set cs (page / 64) d h (ap length e ∙ length-set c (page % 64) p ∙ chunk_long)
