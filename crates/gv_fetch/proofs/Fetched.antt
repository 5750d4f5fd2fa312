-- What the fetch of an image gives, by the fetch of its ring's dwords.
use Rattle.std.proofs.Common.{◌≡◌, ℕ, ◌+◌, ◌-◌, ◌*◌, ◌/◌, ◌%◌, ◌<◌, ◌≤◌, length, Result, Ok, Err, refl, ap, arith}
use Rattle.std.proofs.Math.Nat.{mod-lt}
use Rattle.std.proofs.lemmas.List.FromFn.{length-map-range_with_len}
use Rattle.gv_types.specs.declared.reply.Reason.{Reason}
use Rattle.gv_ctx.specs.Image.{IsImage}
use Rattle.gv_ctx.specs.declared.image.Image.{Image}
use Rattle.gv_fetch.specs.Items.{Items, depth}
use Rattle.gv_fetch.specs.Fetch.{GlobalSpace, Got, items_of, whole_ring, ring_size, ring_at, ring_count, ring_dwords, fetched}
use Rattle.gv_fetch.proofs.Forms.{check-ok}
use Rattle.gv_fetch.proofs.Depth.{ring-depth}

pub record FetchedRing (space : GlobalSpace) (engine : ℕ) (image : Image) (items : Items) : Type 0 where
  pub got : Got
  pub is : whole_ring space engine (ring_dwords space image) 262144 ≡ Ok got
  pub same : got.items ≡ items

of-items : (r : Result Got Reason) (items : Items) → items_of r ≡ Ok items → (got : Got) × (r ≡ Ok got) × (got.items ≡ items)
of-items (Err reason) items is = cc
of-items (Ok got) items is = (got, refl, (let first : got.items ≡ items = cc in first))

pub fetched-ring : (space : GlobalSpace) (engine : ℕ) (image : Image) (items : Items) → fetched space engine image ≡ Ok items → FetchedRing space engine image items
fetched-ring space engine image items is =
    let r = of-items (whole_ring space engine (ring_dwords space image) 262144) items (check-ok _ _ _ items is).1 in
    record { got = r.0; is = r.1; same = r.2 }

quarter : (n size pages : ℕ) → size ≡ pages * 4096 → 1 ≤ pages → pages ≤ 16 → n % size / 4 ≤ 16384
quarter n size pages is some few =
    let positive : 0 < size = omega arith in
    let below = mod-lt n positive in
    omega arith

pub ring-few : (image : Image) → IsImage image → ring_count image ≤ 16384
ring-few image form = quarter (ring_size image + image.tail - image.head) (ring_size image) image.pages refl form.some_pages form.few_pages

pub length-ring : (space : GlobalSpace) (image : Image) → length (ring_dwords space image) ≡ ring_count image
length-ring space image = length-map-range_with_len (λ k. space.word (ring_at image k)) 0 (ring_count image)

pub fetched-short : (space : GlobalSpace) (engine : ℕ) (image : Image) (items : Items) → IsImage image → fetched space engine image ≡ Ok items → depth items ≤ 278529
fetched-short space engine image items form is =
    let f = fetched-ring space engine image items is in
    let long = length-ring space image in
    let few = ring-few image form in
    let deep = (ring-depth space engine (length (ring_dwords space image)) (ring_dwords space image) 262144 f.got f.is).0 in
    let same = ap depth f.same in
    omega arith
