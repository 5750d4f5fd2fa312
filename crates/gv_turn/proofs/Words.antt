-- A word of a frame, read and written in the host page; what such a write leaves as it was.
use Rattle.std.proofs.Common.{◌≡◌, ℕ, ◌+◌, ◌*◌, ◌/◌, ◌%◌, ◌^◌, ◌<◌, Bool, true, false, List, [], Option, Some, None, IfSome, cond, length, get_or, set, map, refl, sym, ap, ◌∙◌, arith, eqb}
use Rattle.std.proofs.lemmas.Bool.{eqb-true, ne_eqb, true≢false}
use Rattle.std.proofs.lemmas.Grind.{common_steps}
use Rattle.std.proofs.lemmas.List.{same_lists, get_or-map, length-map, length-set}
use Rattle.gv_types.specs.Maps.{put}
use Rattle.gv_types.specs.Memory.{Memory, half_of, with_half}
use Rattle.gv_types.specs.declared.event.Width.TheVariants.{Four, Eight}
use Rattle.gv_entry.specs.Tables.{frame_words}
use Rattle.gv_gpu.specs.Device.{Device}
use Rattle.gv_gpu.specs.Physical.{word_in, word_stored, is_shadow}
use Rattle.gv_guest.specs.Placed.{Placed, Hosts, memory_in}
use Rattle.gv_private.specs.Grants.{frame_read, frame_written}
use Rattle.gv_private.specs.Space.{word_at}
use Rattle.gv_shape.specs.Shadow.{Pages}
use Rattle.gv_shape.specs.Shadows.{Shadows, KeepsPages, host_page}
use Rattle.gv_gpu.specs.Part.{shadow_label}

-- the word of a granted frame that an address lies in; without a grant 0
abbrev pub frame_word : Memory → Option ℕ → ℕ → ℕ
frame_word m None at = 0
frame_word m (Some frame) at = get_or (frame_words m frame) (at % 4096 / 8) 0

abbrev pub with_frame_word : Memory → Option ℕ → ℕ → ℕ → Memory
with_frame_word m None at word = m
with_frame_word m (Some frame) at word = set m frame (set (frame_words m frame) (at % 4096 / 8) word)

-- ---- dwords and words of the private device, by words of frames

frame_of : (frame at : ℕ) → (frame * 4096 + at % 4096) / 8 / 512 ≡ frame
frame_of frame at = omega arith

index_of : (frame at : ℕ) → (frame * 4096 + at % 4096) / 8 % 512 ≡ at % 4096 / 8
index_of frame at = omega arith

half_in : (frame at : ℕ) → (frame * 4096 + at % 4096) % 8 ≡ at % 8
half_in frame at = omega arith

index_same : (at : ℕ) → at / 8 * 8 % 4096 / 8 ≡ at % 4096 / 8
index_same at = omega arith

no_half : (b : Bool) → ◌≡◌ {A = ℕ} (cond b 0 0) 0
no_half true = refl
no_half false = refl

pub dword-read : (m : Memory) (grant : Option ℕ) (at : ℕ) → frame_read m Four at grant ≡ half_of (frame_word m grant at) at
dword-read m None at = sym (no_half (eqb (at % 8) 0))
dword-read m (Some f) at =
    let a = frame_of f at in
    let b = index_of f at in
    let c = half_in f at in
    λ i. half_of_test (get_or (get_or m (a i) []) (b i) 0) (c i)
  where
    half_of_test : ℕ → ℕ → ℕ
    half_of_test word rest = cond (eqb rest 0) (word % 2 ^ 32) (word / 2 ^ 32)

pub word-read : (m : Memory) (grant : Option ℕ) (at : ℕ) → frame_read m Eight (word_at at) grant ≡ frame_word m grant at
word-read m None at = refl
word-read m (Some f) at =
    let a = frame_of f (at / 8 * 8) in
    let b = index_of f (at / 8 * 8) ∙ index_same at in
    λ i. get_or (get_or m (a i) []) (b i) 0

pub dword-written : (m : Memory) (grant : Option ℕ) (at value : ℕ) → frame_written m Four at value grant ≡ with_frame_word m grant at (with_half (frame_word m grant at) at value)
dword-written m None at value = refl
dword-written m (Some f) at value =
    let a = frame_of f at in
    let b = index_of f at in
    let c = half_in f at in
    λ i. set m (a i) (set (get_or m (a i) []) (b i) (let word = get_or (get_or m (a i) []) (b i) 0 in cond (eqb (c i) 0) (word / 2 ^ 32 * 2 ^ 32 + value) (value * 2 ^ 32 + word % 2 ^ 32)))

pub word-written : (m : Memory) (grant : Option ℕ) (at word : ℕ) → frame_written m Eight (word_at at) word grant ≡ with_frame_word m grant at word
word-written m None at word = refl
word-written m (Some f) at word =
    let a = frame_of f (at / 8 * 8) in
    let b = index_of f (at / 8 * 8) ∙ index_same at in
    λ i. set m (a i) (set (get_or m (a i) []) (b i) word)

-- ---- the host page's word

put_at : (f : ℕ → List ℕ) (pages : List ℕ) (k j : ℕ) (x : List ℕ) → ((j k : ℕ) → j < length pages → k < length pages → get_or pages j 0 ≡ get_or pages k 0 → j ≡ k) → k < length pages → j < length pages → put f (get_or pages k 0) x (get_or pages j 0) ≡ get_or (set (map f pages) k x) j []
put_at f pages k j x apart hk hj =
    let a = apart j k hj hk in
    let m = get_or-map f pages j 0 [] hj in
    let l = length-map pages f in
    grind (arith, common_steps)

map_put : (f : ℕ → List ℕ) (pages : List ℕ) (k : ℕ) (x : List ℕ) → ((j k : ℕ) → j < length pages → k < length pages → get_or pages j 0 ≡ get_or pages k 0 → j ≡ k) → k < length pages → map (put f (get_or pages k 0) x) pages ≡ set (map f pages) k x
map_put f pages k x apart hk =
    same_lists _ _ (simp (length-map, length-set)) (λ j d h.
    let hj : j < length pages = rw length-map at h in
    grind (arith, common_steps, put_at f pages k j x apart hk hj, get_or-map (put f (get_or pages k 0) x) pages j 0 d hj))

length_put : (f : ℕ → List ℕ) (page index word q : ℕ) → length (put f page (set (f page) index word) q) ≡ length (f q)
length_put f page index word q = by_test (eqb q page) refl
  where
    by_test : (b : Bool) → eqb q page ≡ b → length (cond b (set (f page) index word) (f q)) ≡ length (f q)
    by_test true is = length-set (f page) index word ∙ ap (λ k. length (f k)) (sym (eqb-true q page is))
    by_test false is = refl

module _ (d : Device) (placed : Placed) (stands : Hosts d placed) where
  pub word-same : (grant : Option ℕ) (at : ℕ) → IfSome grant (λ f. f < length placed.pages) → word_in d (host_page placed grant) at ≡ frame_word (memory_in d placed) grant at
  word-same None at low = refl
  word-same (Some f) at low = ap (λ ws. get_or ws (at % 4096 / 8) 0) (sym (get_or-map d.words placed.pages f 0 [] low))

  pub memory-stored : (grant : Option ℕ) (at word : ℕ) → IfSome grant (λ f. f < length placed.pages) → memory_in (word_stored d (host_page placed grant) at word) placed ≡ with_frame_word (memory_in d placed) grant at word
  memory-stored None at word low = refl
  memory-stored (Some f) at word low =
      map_put d.words placed.pages f (set (d.words (get_or placed.pages f 0)) (at % 4096 / 8) word) stands.apart low
      ∙ ap (λ ws. set (map d.words placed.pages) f (set ws (at % 4096 / 8) word)) (sym (get_or-map d.words placed.pages f 0 [] low))

  pub hosts-stored : (page : Option ℕ) (at word : ℕ) → Hosts (word_stored d page at word) placed
  hosts-stored None at word = stands
  hosts-stored (Some page) at word = record {
    labelled = stands.labelled;
    long = λ k h. length_put d.words page (at % 4096 / 8) word (get_or placed.pages k 0) ∙ stands.long k h;
    below = stands.below;
    apart = stands.apart;
    all = stands.all;
  }

  -- a shadow page keeps its words
  shadow-kept : (grant : Option ℕ) (at word page : ℕ) → IfSome grant (λ f. f < length placed.pages) → d.label page ≡ Some (shadow_label placed.guest) → (word_stored d (host_page placed grant) at word).words page ≡ d.words page
  shadow-kept None at word page low shadow = refl
  shadow-kept (Some f) at word page low shadow =
      ap (λ b. cond b (set (d.words (get_or placed.pages f 0)) (at % 4096 / 8) word) (d.words page))
      (ne_eqb page (get_or placed.pages f 0) (λ is. true≢false (ap is_shadow (sym shadow ∙ ap d.label is ∙ stands.labelled f low))))

  label-kept : (page : Option ℕ) (at word : ℕ) → (word_stored d page at word).label ≡ d.label
  label-kept None at word = refl
  label-kept (Some page) at word = refl

  -- a store to a frame leaves the nodes' pages
  pub pages-stored : (m : Memory) (roots : List ℕ) (pages : Pages) (grant : Option ℕ) (at word : ℕ) → IfSome grant (λ f. f < length placed.pages) → Shadows d placed m roots pages
      → KeepsPages pages d (word_stored d (host_page placed grant) at word)
  pages-stored m roots pages grant at word low shadows = record {
    label = λ level frame p is. ap (λ f. f p) (label-kept (host_page placed grant) at word);
    words = λ level frame p is. shadow-kept grant at word p low (shadows.local.labelled level frame p is);
  }
