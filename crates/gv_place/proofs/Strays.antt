-- Reading a copied command strays nowhere.
use Rattle.std.proofs.Common.{◌≡◌, ℕ, suc, zero, ◌+◌, ◌*◌, ◌%◌, ◌<◌, ◌||◌, not, Bool, true, false, cond, eqb, refl, ap, ◌∙◌, arith}
use Rattle.std.proofs.lemmas.Bool.Decides.{nat_tests}
use Rattle.gv_gpu.specs.Device.{Device, Loaded}
use Rattle.gv_gpu.specs.Physical.{is_anothers, page_strays, read_page, walk_strays, read_strays, dword_strays}
use Rattle.gv_gpu.specs.Step.{dwords_stray}
use Rattle.gv_sring.specs.Copy.{Shown}
use Rattle.gv_place.proofs.Kept.{aligned-test}

module _ (d : Device) (l : Loaded) (image : ℕ) where
  any-root : (at : ℕ) → read_page d l.root true at ≡ read_page d 0 true at
  unfolding read_page
  any-root at = refl

  own : (guest : ℕ) → not (eqb guest guest) ≡ false
  own guest = grind (arith, nat_tests)

  no-stray : (at : ℕ) → Shown d l.owner image at → read_strays d l true at ≡ false
  unfolding read_strays walk_strays
  no-stray at s =
      ap (page_strays d l.owner) (any-root at ∙ s.names)
      ∙ ap (is_anothers l.owner) s.label
      ∙ own l.owner

  by_alignment : ℕ → Bool → Bool
  by_alignment at b = cond b (read_strays d l true at) (read_strays d l true at || read_strays d l true (at + 1) || read_strays d l true (at + 2) || read_strays d l true (at + 3))

  dword-no-stray : (at : ℕ) → at % 4 ≡ 0 → Shown d l.owner image at → dword_strays d l true at ≡ false
  unfolding dword_strays by_alignment
  dword-no-stray at fit s = ap (by_alignment at) (aligned-test at fit) ∙ no-stray at s

  four : (at k : ℕ) → at % 4 ≡ 0 → (at + 4 * k) % 4 ≡ 0
  four at k h = omega arith

  pub dwords-no-stray : (at n : ℕ) → at % 4 ≡ 0 → ((k : ℕ) → k < n → Shown d l.owner image (at + 4 * k)) → dwords_stray d l true at n ≡ false
  unfolding dwords_stray
  dwords-no-stray at zero fit shown = refl
  dwords-no-stray at (suc n) fit shown =
      let before = dwords-no-stray at n fit (λ k h. let less : k < suc n = omega arith in shown k less) in
      let last : n < suc n = omega arith in
      ap (λ b. b || dword_strays d l true (at + 4 * n)) before
      ∙ dword-no-stray (at + 4 * n) (four at n fit) (shown n last)
