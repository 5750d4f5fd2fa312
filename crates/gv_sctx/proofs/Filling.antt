-- A filled image holds what was filled in.
use Rattle.std.proofs.Common.{◌≡◌, ℕ, ◌+◌, ◌*◌, ◌/◌, ◌^◌, ◌<◌, true, cond, eqb, List, [], ◌∷◌, length, refl, ap, ◌∙◌, arith, lit<}
use Rattle.std.proofs.lemmas.List.{length-set}
use Rattle.std.proofs.lemmas.Bool.Decides.{nat_tests}
use Rattle.gv_types.specs.Maps.{put}
use Rattle.gv_ctx.specs.Saved.{fields_of, saved_of}
use Rattle.gv_ctx.specs.declared.saved.Saved.{Saved}
use Rattle.gv_ctx.proofs.Places.{saved_of-fields_of}
use Rattle.gv_gpu.specs.Device.{Device}
use Rattle.gv_gpu.specs.Context.{state_dword, context_of}
use Rattle.gv_gpu.specs.Part.{Part, outside}
use Rattle.gv_gpu.proofs.Changed.{outside-poked}
use Rattle.gv_sctx.specs.Image.{page_dword, word_with, with_dword, dword_poked, dwords_poked, filled_words, image_fields, AreDwords, saved_in}
use Rattle.gv_sctx.specs.Context.{HasImage}
use Rattle.gv_sctx.proofs.Dwords.{dword-after}
use Rattle.gv_sctx.proofs.Saving.{state-dword}

-- a dword of a page that is filled
abbrev pub filled_dword : ℕ → List (ℕ × ℕ) → ℕ → ℕ
filled_dword old [] m = old
filled_dword old (x ∷ more) m = filled_dword (cond (eqb m x.0) x.1 old) more m

pub length-filled : (words : List ℕ) (pairs : List (ℕ × ℕ)) → length (filled_words words pairs) ≡ length words
unfolding filled_words
length-filled words [] = refl
length-filled words (x ∷ more) = length-filled (with_dword words x.0 x.1) more ∙ length-set words (x.0 / 2) _

pub filled-after : (words : List ℕ) (pairs : List (ℕ × ℕ)) → length words ≡ 512 → AreDwords pairs → (m : ℕ) → page_dword (filled_words words pairs) m ≡ filled_dword (page_dword words m) pairs m
unfolding filled_words
filled-after words [] long all m = refl
filled-after words (x ∷ more) long all m =
    let low = all.0 in
    let within : x.0 / 2 < length words = omega arith in
    filled-after (with_dword words x.0 x.1) more (length-set words (x.0 / 2) _ ∙ long) all.2 m
    ∙ ap (λ old. filled_dword old more m) (dword-after words x.0 x.1 within all.1 m)

-- ---- the device

-- one dword on
pub poked-first : (d : Device) (page : ℕ) (x : ℕ × ℕ) (more : List (ℕ × ℕ)) → dwords_poked d page (x ∷ more) ≡ dwords_poked (dword_poked d page x.0 x.1) page more
unfolding dwords_poked
poked-first d page x more = refl

pub poked-none : (d : Device) (page : ℕ) (pairs : List (ℕ × ℕ)) → pairs ≡ [] → dwords_poked d page pairs ≡ d
unfolding dwords_poked
poked-none d page pairs is = ap (dwords_poked d page) is

put-same : {A : Type 0} (f : ℕ → A) (k : ℕ) (v : A) → put f k v k ≡ v
put-same f k v = grind (arith, nat_tests)

pub poked-words : (d : Device) (page : ℕ) (pairs : List (ℕ × ℕ)) → (dwords_poked d page pairs).words page ≡ filled_words (d.words page) pairs
unfolding dwords_poked filled_words
poked-words d page [] = refl
poked-words d page (x ∷ more) = poked-words (dword_poked d page x.0 x.1) page more ∙ ap (λ ws. filled_words ws more) (put-same d.words page (with_dword (d.words page) x.0 x.1))

pub poked-label : (d : Device) (page : ℕ) (pairs : List (ℕ × ℕ)) → (dwords_poked d page pairs).label ≡ d.label
unfolding dwords_poked
poked-label d page [] = refl
poked-label d page (x ∷ more) = poked-label (dword_poked d page x.0 x.1) page more

-- What has the page doesn't see the rest of the device change.
pub poked-outside : (p : Part) (d : Device) (page : ℕ) (pairs : List (ℕ × ℕ)) → p.page page (d.label page) ≡ true → outside p (dwords_poked d page pairs) ≡ outside p d
unfolding dwords_poked
poked-outside p d page [] own = refl
poked-outside p d page (x ∷ more) own = poked-outside p (dword_poked d page x.0 x.1) page more own ∙ outside-poked p d page own (x.0 / 2) (word_with (d.words page) x.0 x.1)

pub poked-dword : (d : Device) (page : ℕ) (pairs : List (ℕ × ℕ)) → length (d.words page) ≡ 512 → AreDwords pairs → (m : ℕ) → page_dword ((dwords_poked d page pairs).words page) m ≡ filled_dword (page_dword (d.words page) m) pairs m
poked-dword d page pairs long all m = ap (λ ws. page_dword ws m) (poked-words d page pairs) ∙ filled-after (d.words page) pairs long all m

module _ (d : Device) (page start : ℕ) (place : Saved) (tail root : ℕ) (long : length (d.words page) ≡ 512) (all : AreDwords (image_fields start place tail root)) where
  abbrev after : List ℕ
  after = (dwords_poked d page (image_fields start place tail root)).words page

  there : (m : ℕ) → page_dword after m ≡ filled_dword (page_dword (d.words page) m) (image_fields start place tail root) m
  there m = poked-dword d page (image_fields start place tail root) long all m

  fields-there : page_dword after 0x05 ∷ page_dword after 0x0D ∷ page_dword after 0x0F ∷ page_dword after 0x11 ∷ page_dword after 0x13 ∷ page_dword after 0x15 ∷ page_dword after 0x17 ∷ [] ≡ fields_of place
  fields-there = λ i. there 0x05 i ∷ there 0x0D i ∷ there 0x0F i ∷ there 0x11 i ∷ there 0x13 i ∷ there 0x15 i ∷ there 0x17 i ∷ []

  -- the place that is saved there is the one that was filled in
  pub poked-saved : saved_in after ≡ place
  poked-saved = ap saved_of fields-there ∙ saved_of-fields_of place

module _ (d : Device) (guest descriptor image owner start : ℕ) (place : Saved) (tail root : ℕ) (words : List ℕ)
    (has : HasImage d guest descriptor image) (is : d.words image ≡ filled_words words (image_fields start place tail root)) (long : length words ≡ 512) (all : AreDwords (image_fields start place tail root)) where
  at : (m : ℕ) → m < 1024 → state_dword d descriptor m ≡ filled_dword (page_dword words m) (image_fields start place tail root) m
  at m h = state-dword d guest descriptor image has m h ∙ ap (λ ws. page_dword ws m) is ∙ filled-after words (image_fields start place tail root) long all m

  abbrev read_fields : List ℕ
  read_fields = state_dword d descriptor 0x05 ∷ state_dword d descriptor 0x0D ∷ state_dword d descriptor 0x0F
      ∷ state_dword d descriptor 0x11 ∷ state_dword d descriptor 0x13 ∷ state_dword d descriptor 0x15 ∷ state_dword d descriptor 0x17 ∷ []

  fields-back : read_fields ≡ fields_of place
  fields-back = λ i. at 0x05 (lit< tt) i ∷ at 0x0D (lit< tt) i ∷ at 0x0F (lit< tt) i ∷ at 0x11 (lit< tt) i ∷ at 0x13 (lit< tt) i ∷ at 0x15 (lit< tt) i ∷ at 0x17 (lit< tt) i ∷ []

  rooted : (0 * 2 ^ 32 + root * 0x1000) / 4096 ≡ root
  rooted = omega arith

  -- The place that is saved there is the one that was filled in.
  pub saved-filled : saved_of read_fields ≡ place
  saved-filled = ap saved_of fields-back ∙ saved_of-fields_of place

  pub context-filled : context_of d owner descriptor ≡ record { descriptor = descriptor; owner = owner; place = place; tail = tail; ring_start = start; root = root }
  unfolding context_of
  context-filled = λ i. record {
    descriptor = descriptor;
    owner = owner;
    place = saved-filled i;
    tail = at 0x07 (lit< tt) i;
    ring_start = at 0x09 (lit< tt) i;
    root = root-back i;
  }
    where
      root-back : (state_dword d descriptor 0x31 * 2 ^ 32 + state_dword d descriptor 0x33) / 4096 ≡ root
      root-back = ap (λ h. (h * 2 ^ 32 + state_dword d descriptor 0x33) / 4096) (at 0x31 (lit< tt)) ∙ ap (λ h. (0 * 2 ^ 32 + h) / 4096) (at 0x33 (lit< tt)) ∙ rooted
