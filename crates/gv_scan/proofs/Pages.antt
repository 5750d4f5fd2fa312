-- Pages, one after the other.
use Rattle.std.proofs.Common.{◌≡◌, ℕ, suc, zero, ◌+◌, ◌-◌, ◌*◌, ◌/◌, ◌%◌, ◌^◌, ◌<◌, ◌≤◌, ◌&&◌, true, false, length, refl, ap, sym, ◌∙◌, arith}
use Rattle.std.proofs.lemmas.List.FromFn.{length-map-range_with_len}
use Rattle.std.proofs.lemmas.Bool.{and_parts}
use Rattle.gv_ctx.specs.Image.{IsImage}
use Rattle.gv_ctx.specs.declared.image.Image.{Image}
use Rattle.gv_fetch.specs.Fetch.{GlobalSpace, owns_pages, ring_size, ring_at, ring_count, ring_dwords}

pages-first : (space : GlobalSpace) (page n : ℕ) → owns_pages space page (suc n) ≡ (space.owned page && owns_pages space (page + 1) n)
unfolding owns_pages
pages-first space page n = refl

pub pages-none : (space : GlobalSpace) (page : ℕ) → owns_pages space page 0 ≡ true
unfolding owns_pages
pages-none space page = refl

next : (first n : ℕ) → first + n + 1 ≡ first + (n + 1)
next first n = omega arith

pages-here : (space : GlobalSpace) (first n count : ℕ) → n < count → owns_pages space (first + n) (count - n) ≡ (space.owned (first + n) && owns_pages space (first + (n + 1)) (count - (n + 1)))
pages-here space first n count h =
    let left : count - n ≡ suc (count - (n + 1)) = omega arith in
    ap (owns_pages space (first + n)) left
    ∙ pages-first space (first + n) (count - (n + 1))
    ∙ ap (λ p. space.owned (first + n) && owns_pages space p (count - (n + 1))) (next first n)

pub page-away : (space : GlobalSpace) (first n count : ℕ) → n < count → space.owned (first + n) ≡ false → owns_pages space (first + n) (count - n) ≡ false
page-away space first n count h away = pages-here space first n count h ∙ ap (λ b. b && owns_pages space (first + (n + 1)) (count - (n + 1))) away

pub page-on : (space : GlobalSpace) (first n count : ℕ) → n < count → space.owned (first + n) ≡ true → owns_pages space (first + (n + 1)) (count - (n + 1)) ≡ owns_pages space (first + n) (count - n)
page-on space first n count h own = sym (pages-here space first n count h ∙ ap (λ b. b && owns_pages space (first + (n + 1)) (count - (n + 1))) own)

pub page-owned : (space : GlobalSpace) (first count n : ℕ) → owns_pages space first count ≡ true → n < count → space.owned (first + n) ≡ true
page-owned space first zero n h less = absurd (omega arith)
page-owned space first (suc count) zero h less =
    let e : first + 0 ≡ first = omega arith in
    ap space.owned e ∙ (and_parts (space.owned first) (owns_pages space (first + 1) count) (sym (pages-first space first count) ∙ h)).0
page-owned space first (suc count) (suc n) h less =
    let smaller : n < count = omega arith in
    let e : first + (suc n) ≡ first + 1 + n = omega arith in
    ap space.owned e ∙ page-owned space (first + 1) count n (and_parts (space.owned first) (owns_pages space (first + 1) count) (sym (pages-first space first count) ∙ h)).1 smaller

below-size : (x pages : ℕ) → 1 ≤ pages → x % (pages * 4096) < pages * 4096
below-size x pages some = let z : 0 < pages * 4096 = omega arith in omega arith

page-of : (start offset : ℕ) → start % 4096 ≡ 0 → (start + offset) / 4096 ≡ start / 4096 + offset / 4096
page-of start offset h = omega arith

pub ring-owned : (space : GlobalSpace) (image : Image) (k : ℕ) → IsImage image → owns_pages space (image.start / 4096) image.pages ≡ true → space.owned (ring_at image k / 4096) ≡ true
ring-owned space image k is owned =
    let offset = (image.head + 4 * k) % ring_size image in
    let inside : offset < image.pages * 4096 = below-size (image.head + 4 * k) image.pages is.some_pages in
    let page : offset / 4096 < image.pages = omega arith in
    ap space.owned (page-of image.start offset is.start) ∙ page-owned space (image.start / 4096) image.pages (offset / 4096) owned page

quarter : (x pages : ℕ) → 1 ≤ pages → pages ≤ 16 → x % (pages * 4096) / 4 ≤ 16384
quarter x pages some few = let b = below-size x pages some in omega arith

pub ring-small : (space : GlobalSpace) (image : Image) → IsImage image → length (ring_dwords space image) ≤ 16384
ring-small space image is =
    let long = length-map-range_with_len (λ k. space.word (ring_at image k)) 0 (ring_count image) in
    let few = quarter (ring_size image + image.tail - image.head) image.pages is.some_pages is.few_pages in
    omega arith

pub ring-low : (space : GlobalSpace) (image : Image) → IsImage image → ((page : ℕ) → space.owned page ≡ true → page < 2 ^ 20) → owns_pages space (image.start / 4096) image.pages ≡ true → image.start + image.pages * 4096 ≤ 2 ^ 32
ring-low space image is below owned =
    let some = is.some_pages in
    let last : image.pages - 1 < image.pages = omega arith in
    let b = below (image.start / 4096 + (image.pages - 1)) (page-owned space (image.start / 4096) image.pages (image.pages - 1) owned last) in
    let fit = is.start in
    omega arith
