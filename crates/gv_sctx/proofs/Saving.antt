-- A context is put away into its image, and comes back from it as it was.
use Rattle.std.proofs.Common.{◌≡◌, ◌≢◌, ℕ, suc, zero, ◌+◌, ◌*◌, ◌/◌, ◌%◌, ◌^◌, ◌<◌, Bool, true, false, cond, eqb, ltb, List, [], ◌∷◌, length, get_or, Option, None, Some, is_some, refl, ap, sym, subst, ◌∙◌, arith, lit<}
use Rattle.std.proofs.lemmas.Bool.Decides.{nat_tests}
use Rattle.gv_types.specs.Maps.{put}
use Rattle.gv_types.specs.Memory.{half_of, with_half}
use Rattle.gv_types.specs.declared.ids.Label.{Label}
use Rattle.gv_ctx.specs.Descriptor.{descriptor_of}
use Rattle.gv_ctx.specs.Saved.{fields_of, saved_of}
use Rattle.gv_ctx.proofs.Places.{saved_of-fields_of}
use Rattle.gv_gpu.specs.Device.{Device, Loaded, with_loaded, with_page_word}
use Rattle.gv_gpu.specs.Physical.{page_of, read_page, write_page, word_in, word_stored, operand_at, operand_stored}
use Rattle.gv_gpu.specs.Context.{state_at, state_dword, field_dwords, fields_stored, context_saved, context_of, stopped_with, stopped, loaded_after, context_submitted}
use Rattle.gv_sctx.specs.Image.{page_dword, with_dword, saved_in}
use Rattle.gv_sctx.specs.Context.{HasImage, HoldsContext}
use Rattle.gv_sctx.proofs.Dwords.{fields_in, field_in, length-fields, fields-after}

-- the words of a page, all at once
abbrev pub with_words : Device → ℕ → List ℕ → Device
with_words d page words = record d { words = put d.words page words }

-- ---- the image's page by its dwords' addresses

page_at : (p n : ℕ) → n < 1024 → (p * 4096 + 4096 + 4 * n) / 4096 ≡ p + 1
page_at p n h = omega arith

word_at : (p n : ℕ) → n < 1024 → (p * 4096 + 4096 + 4 * n) % 4096 / 8 ≡ n / 2
word_at p n h = omega arith

low_at : (p n : ℕ) → (p * 4096 + 4096 + 4 * n) % 8 ≡ 4 * n % 8
low_at p n = omega arith

below_end : (p n : ℕ) → n < 1024 → p + 1 < 2 ^ 20 → ltb (p * 4096 + 4096 + 4 * n) (2 ^ 32) ≡ true
below_end p n h b = let e : p * 4096 + 4096 + 4 * n < 2 ^ 32 = omega arith in grind (arith, nat_tests)

odd : (n : ℕ) → (n * 4096 + 3) % 2 ≡ 1
odd n = omega arith

second : (n : ℕ) → (n * 4096 + 3) / 2 % 2 ≡ 1
second n = omega arith

above : (n : ℕ) → (n * 4096 + 3) / 4096 ≡ n
above n = omega arith

test_one : (n : ℕ) → n ≡ 1 → eqb n 1 ≡ true
test_one n h = grind (arith, nat_tests)

abbrev entry_by : Device → Bool → ℕ → ℕ
entry_by d below page = cond below (d.global page) 0

abbrev live_by : Option Label → ℕ → Option ℕ
live_by l page = cond (is_some l) (Some page) None

abbrev named_by : Bool → Option Label → ℕ → Option ℕ
named_by present l page = cond present (live_by l page) None

abbrev page_from : Device → ℕ → Option ℕ
page_from d entry = page_of d entry

abbrev written_from : Device → ℕ → Option ℕ
written_from d entry = cond (eqb (entry / 2 % 2) 1) (page_of d entry) None

module _ (d : Device) (guest descriptor image : ℕ) (has : HasImage d guest descriptor image) where
  abbrev own_page : ℕ
  own_page = (descriptor_of descriptor).page

  abbrev own_entry : ℕ
  own_entry = d.global (own_page + 1)

  present : own_entry % 2 ≡ 1
  present = ap (λ e. e % 2) has.entry ∙ odd image

  writable : own_entry / 2 % 2 ≡ 1
  writable = ap (λ e. e / 2 % 2) has.entry ∙ second image

  names : own_entry / 4096 ≡ image
  names = ap (λ e. e / 4096) has.entry ∙ above image

  image-entry : (n : ℕ) → n < 1024 → entry_by d (ltb (state_at descriptor n) (2 ^ 32)) (state_at descriptor n / 4096) ≡ own_entry
  image-entry n h = ap (λ b. entry_by d b (state_at descriptor n / 4096)) (below_end own_page n h has.below) ∙ ap d.global (page_at own_page n h)

  names-image : page_of d own_entry ≡ Some image
  names-image =
      ap (λ b. named_by b (d.label (own_entry / 4096)) (own_entry / 4096)) (test_one (own_entry % 2) present)
      ∙ ap (λ q. live_by (d.label q) q) names
      ∙ ap (λ l. live_by l image) has.label

  pub reads-image : (n : ℕ) → n < 1024 → read_page d 0 true (state_at descriptor n) ≡ Some image
  unfolding read_page
  reads-image n h = ap (page_from d) (image-entry n h) ∙ names-image

  pub writes-image : (n : ℕ) → n < 1024 → write_page d 0 true (state_at descriptor n) ≡ Some image
  unfolding write_page
  writes-image n h = ap (written_from d) (image-entry n h) ∙ ap (λ b. cond b (page_of d own_entry) None) (test_one (own_entry / 2 % 2) writable) ∙ names-image

  abbrev half_by : Bool → ℕ → ℕ
  half_by low word = cond low (word % 2 ^ 32) (word / 2 ^ 32)

  pub state-dword : (n : ℕ) → n < 1024 → state_dword d descriptor n ≡ page_dword (d.words image) n
  unfolding operand_at
  state-dword n h =
      ap (λ page. half_of (word_in d page (state_at descriptor n)) (state_at descriptor n)) (reads-image n h)
      ∙ ap (λ k. half_of (get_or (d.words image) k 0) (state_at descriptor n)) (word_at own_page n h)
      ∙ ap (λ k. half_by (eqb k 0) (get_or (d.words image) (n / 2) 0)) (low_at own_page n)

  abbrev with_half_by : Bool → ℕ → ℕ → ℕ
  with_half_by low word value = cond low (word / 2 ^ 32 * 2 ^ 32 + value) (value * 2 ^ 32 + word % 2 ^ 32)

  pub dword-stored : (n value : ℕ) → n < 1024 → operand_stored d 0 true (state_at descriptor n) value ≡ with_words d image (with_dword (d.words image) n value)
  unfolding operand_stored
  dword-stored n value h =
      ap (λ page. word_stored d page (state_at descriptor n) (with_half (word_in d page (state_at descriptor n)) (state_at descriptor n) value)) (writes-image n h)
      ∙ ap (λ k. with_page_word d image k (with_half (get_or (d.words image) k 0) (state_at descriptor n) value)) (word_at own_page n h)
      ∙ ap (λ k. with_page_word d image (n / 2) (with_half_by (eqb k 0) (get_or (d.words image) (n / 2) 0) value)) (low_at own_page n)

-- ---- the page's words, all at once

put-same : {A : Type 0} (f : ℕ → A) (k : ℕ) (v : A) → put f k v k ≡ v
put-same f k v = grind (arith, nat_tests)

put-again : {A : Type 0} (f : ℕ → A) (k : ℕ) (v w : A) (n : ℕ) → put (put f k v) k w n ≡ put f k w n
put-again f k v w n = by (eqb n k)
  where
    by : (b : Bool) → cond b w (cond b v (f n)) ≡ cond b w (f n)
    by true = refl
    by false = refl

put-own : {A : Type 0} (f : ℕ → A) (k n : ℕ) → put f k (f k) n ≡ f n
put-own f k n = grind (arith, nat_tests)

pub put-other : {A : Type 0} (f : ℕ → A) (k : ℕ) (v : A) (n : ℕ) → n ≢ k → put f k v n ≡ f n
put-other f k v n differ = grind (arith, nat_tests)

words-again : (d : Device) (page : ℕ) (one two : List ℕ) → with_words (with_words d page one) page two ≡ with_words d page two
words-again d page one two = λ i. record d { words = λ n. put-again d.words page one two n i }

words-own : (d : Device) (page : ℕ) → with_words d page (d.words page) ≡ d
words-own d page = λ i. record d { words = λ n. put-own d.words page n i }

words-there : (d : Device) (page : ℕ) (words : List ℕ) → (with_words d page words).words page ≡ words
words-there d page words = put-same d.words page words

has-words : (d : Device) (guest descriptor image : ℕ) (words : List ℕ) → length words ≡ 512 → HasImage d guest descriptor image → HasImage (with_words d image words) guest descriptor image
has-words d guest descriptor image words long has = record {
  below = has.below;
  entry = has.entry;
  label = has.label;
  long = ap length (words-there d image words) ∙ long;
}

low_field : (n : ℕ) → get_or field_dwords n 0 < 1024
low_field zero = lit< tt
low_field (suc zero) = lit< tt
low_field (suc (suc zero)) = lit< tt
low_field (suc (suc (suc zero))) = lit< tt
low_field (suc (suc (suc (suc zero)))) = lit< tt
low_field (suc (suc (suc (suc (suc zero))))) = lit< tt
low_field (suc (suc (suc (suc (suc (suc zero)))))) = lit< tt
low_field (suc (suc (suc (suc (suc (suc (suc n))))))) = lit< tt

module _ (d : Device) (guest descriptor image : ℕ) (has : HasImage d guest descriptor image) (fields : List ℕ) (small : (k : ℕ) → get_or fields k 0 < 2 ^ 32) where
  abbrev page_then : ℕ → List ℕ
  page_then n = fields_in (d.words image) fields n

  pub fields-stored : (n : ℕ) → fields_stored d descriptor fields n ≡ with_words d image (page_then n)
  unfolding fields_stored fields_in
  fields-stored zero = sym (words-own d image)
  fields-stored (suc n) =
      let long = length-fields (d.words image) fields has.long small n in
      let e = with_words d image (page_then n) in
      ap (λ x. operand_stored x 0 true (state_at descriptor (get_or field_dwords n 0)) (get_or fields n 0)) (fields-stored n)
      ∙ dword-stored e guest descriptor image (has-words d guest descriptor image (page_then n) long has) (get_or field_dwords n 0) (get_or fields n 0) (low_field n)
      ∙ ap (λ ws. with_words e image (with_dword ws (get_or field_dwords n 0) (get_or fields n 0))) (words-there d image (page_then n))
      ∙ words-again d image (page_then n) (with_dword (page_then n) (get_or field_dwords n 0) (get_or fields n 0))

  -- a dword of the image, after all fields were stored
  pub dword-then : (m : ℕ) → m < 1024 → state_dword (with_words d image (page_then 7)) descriptor m ≡ field_in (state_dword d descriptor m) fields 7 m
  dword-then m h =
      state-dword (with_words d image (page_then 7)) guest descriptor image (has-words d guest descriptor image (page_then 7) (length-fields (d.words image) fields has.long small 7) has) m h
      ∙ ap (λ ws. page_dword ws m) (words-there d image (page_then 7))
      ∙ fields-after (d.words image) fields has.long small 7 m
      ∙ ap (λ old. field_in old fields 7 m) (sym (state-dword d guest descriptor image has m h))

-- ---- the whole context

module _ (d : Device) (image engine : ℕ) (l : Loaded) (is : d.loaded engine ≡ Some l) (has : HasImage d l.owner l.descriptor image) (small : (k : ℕ) → get_or (fields_of l.place) k 0 < 2 ^ 32) where
  abbrev put_away : Device
  put_away = with_words d image (fields_in (d.words image) (fields_of l.place) 7)

  pub stopped-is : stopped d engine ≡ with_loaded put_away engine None
  unfolding stopped
  stopped-is = ap (stopped_with d engine) is ∙ ap (λ x. with_loaded x engine None) (fields-stored d l.owner l.descriptor image has (fields_of l.place) small 7)

  saved-then : (m : ℕ) → page_dword (put_away.words image) m ≡ field_in (page_dword (d.words image) m) (fields_of l.place) 7 m
  saved-then m =
      ap (λ ws. page_dword ws m) (words-there d image (fields_in (d.words image) (fields_of l.place) 7))
      ∙ fields-after (d.words image) (fields_of l.place) has.long small 7 m

  saved-fields : page_dword (put_away.words image) 0x05 ∷ page_dword (put_away.words image) 0x0D ∷ page_dword (put_away.words image) 0x0F
      ∷ page_dword (put_away.words image) 0x11 ∷ page_dword (put_away.words image) 0x13 ∷ page_dword (put_away.words image) 0x15 ∷ page_dword (put_away.words image) 0x17 ∷ []
      ≡ fields_of l.place
  saved-fields = λ i. saved-then 0x05 i ∷ saved-then 0x0D i ∷ saved-then 0x0F i ∷ saved-then 0x11 i ∷ saved-then 0x13 i ∷ saved-then 0x15 i ∷ saved-then 0x17 i ∷ []

  -- the place stands in the image's words
  pub stopped-saved : saved_in ((stopped d engine).words image) ≡ l.place
  stopped-saved = ap (λ e. saved_in (e.words image)) stopped-is ∙ ap saved_of saved-fields ∙ saved_of-fields_of l.place

  at : (m : ℕ) → m < 1024 → state_dword put_away l.descriptor m ≡ field_in (state_dword d l.descriptor m) (fields_of l.place) 7 m
  at m h = dword-then d l.owner l.descriptor image has (fields_of l.place) small m h

  abbrev read_fields : Device → List ℕ
  read_fields e = state_dword e l.descriptor 0x05 ∷ state_dword e l.descriptor 0x0D ∷ state_dword e l.descriptor 0x0F
      ∷ state_dword e l.descriptor 0x11 ∷ state_dword e l.descriptor 0x13 ∷ state_dword e l.descriptor 0x15 ∷ state_dword e l.descriptor 0x17 ∷ []

  fields-back : read_fields put_away ≡ fields_of l.place
  fields-back = λ i. at 0x05 (lit< tt) i ∷ at 0x0D (lit< tt) i ∷ at 0x0F (lit< tt) i ∷ at 0x11 (lit< tt) i ∷ at 0x13 (lit< tt) i ∷ at 0x15 (lit< tt) i ∷ at 0x17 (lit< tt) i ∷ []

  place-back : saved_of (read_fields put_away) ≡ l.place
  place-back = ap saved_of fields-back ∙ saved_of-fields_of l.place

  pub stopped-image : HasImage (stopped d engine) l.owner l.descriptor image
  stopped-image =
      let P : Device → Type 0 = λ e. HasImage e l.owner l.descriptor image in
      let away = has-words d l.owner l.descriptor image (fields_in (d.words image) (fields_of l.place) 7) (length-fields (d.words image) (fields_of l.place) has.long small 7) has in
      let unloaded : HasImage (with_loaded put_away engine None) l.owner l.descriptor image = record { below = away.below; entry = away.entry; label = away.label; long = away.long } in
      subst P (sym stopped-is) unloaded

  module _ (holds : HoldsContext d l) where
    tail-back : state_dword put_away l.descriptor 0x07 ≡ l.tail
    tail-back = at 0x07 (lit< tt) ∙ holds.tail

    start-back : state_dword put_away l.descriptor 0x09 ≡ l.ring_start
    start-back = at 0x09 (lit< tt) ∙ holds.ring_start

    root-back : (state_dword put_away l.descriptor 0x31 * 2 ^ 32 + state_dword put_away l.descriptor 0x33) / 4096 ≡ l.root
    root-back = ap (λ h. (h * 2 ^ 32 + state_dword put_away l.descriptor 0x33) / 4096) (at 0x31 (lit< tt))
        ∙ ap (λ h. (state_dword d l.descriptor 0x31 * 2 ^ 32 + h) / 4096) (at 0x33 (lit< tt)) ∙ holds.root

    context-back : context_of put_away l.owner l.descriptor ≡ l
    unfolding context_of
    context-back = λ i. record { descriptor = l.descriptor; owner = l.owner; place = place-back i; tail = tail-back i; ring_start = start-back i; root = root-back i }

    -- The image of a context that was stopped holds it as it was.
    pub stopped-context : context_of (stopped d engine) l.owner l.descriptor ≡ l
    unfolding context_of operand_at read_page
    stopped-context = ap (λ e. context_of e l.owner l.descriptor) stopped-is ∙ context-back

    -- and it goes on holding it
    pub stopped-holds : HoldsContext (stopped d engine) l
    unfolding operand_at read_page
    stopped-holds =
        let P : Device → Type 0 = λ e. HoldsContext e l in
        let away : HoldsContext put_away l = record { tail = tail-back; ring_start = start-back; root = root-back } in
        let unloaded : HoldsContext (with_loaded put_away engine None) l = record { tail = away.tail; ring_start = away.ring_start; root = away.root } in
        subst P (sym stopped-is) unloaded

-- A context that is loaded where none was is the one that its image holds.
pub submitted-context : (d : Device) (engine owner descriptor : ℕ) → d.loaded engine ≡ None → context_submitted d engine owner descriptor ≡ with_loaded d engine (Some (context_of d owner descriptor))
unfolding context_submitted
submitted-context d engine owner descriptor none = ap (λ x. loaded_after (context_saved d x) engine owner descriptor) none
