-- A window whose pages hold a placed program has its copy.
use Rattle.std.proofs.Common.{◌≡◌, ℕ, ◌+◌, ◌*◌, ◌/◌, ◌<◌, ◌≤◌, List, length, ap, sym, subst, ◌∙◌, arith}
use Rattle.gv_gpu.specs.Device.{Device}
use Rattle.gv_sring.specs.Copy.{HasCopy, IsCopied}
use Rattle.gv_sring.specs.Packing.{HoldsParts, ArePlaced, count_of}
use Rattle.gv_sring.specs.Window.{Window, Shows, slot_of, ring_pages, page_at, batches_address, ring_address}
use Rattle.gv_sring.proofs.WindowReads.{has-copy, ring-slot, batch-slot}

pages-of : (tail n : ℕ) → tail ≡ 4 * n → (tail + 4095) / 4096 ≡ (n + 1023) / 1024
pages-of tail n h = omega arith

few-parts : (n : ℕ) → n ≤ 16384 → (n + 1023) / 1024 ≤ 16
few-parts n h = omega arith

many-parts : (n : ℕ) → n ≤ 262144 → (n + 1023) / 1024 ≤ 256
many-parts n h = omega arith

module _ (d : Device) (w : Window) (guest : w.guest < 8) (engine : w.engine < 4) (shows : Shows d w) (ring batches after_ring after_batches : List ℕ)
    (tail : w.tail ≡ 4 * length after_ring) (same_ring : length after_ring ≡ length ring) (same_batches : length after_batches ≡ length batches)
    (few : length ring ≤ 16384) (many : length batches ≤ 262144) (count : length w.pages ≡ 2 + count_of after_ring + count_of after_batches)
    (ring_parts : HoldsParts d w 2 after_ring (count_of after_ring)) (batch_parts : HoldsParts d w (2 + count_of after_ring) after_batches (count_of after_batches))
    (ring_placed : ArePlaced (batches_address w.guest w.engine) ring after_ring) (batches_placed : ArePlaced (batches_address w.guest w.engine) batches after_batches) where
  ring_count : ring_pages w.tail ≡ count_of after_ring
  ring_count = pages-of w.tail (length after_ring) tail

  ring_copy : HasCopy d w.guest (page_at w 1) (ring_address w.guest w.engine) after_ring
  ring_copy =
      let sixteen = few-parts (length after_ring) (let s = same_ring in omega arith) in
      has-copy d w 2 0x10 after_ring guest engine shows (omega arith) (omega arith)
      (λ i less. ring-slot w.tail i (let c = ring_count in omega arith))
      (omega arith) ring_parts

  batch_copy : HasCopy d w.guest (page_at w 1) (batches_address w.guest w.engine) after_batches
  batch_copy =
      let most = many-parts (length after_batches) (let s = same_batches in omega arith) in
      has-copy d w (2 + count_of after_ring) 0x20 after_batches guest engine shows (omega arith) (omega arith)
      (λ i less. ap (λ n. slot_of w.tail (2 + n + i)) (sym ring_count) ∙ batch-slot w.tail i)
      (omega arith) batch_parts

  pub built-copied : IsCopied d w ring batches
  built-copied layout is =
      let base = batches_address w.guest w.engine in
      let one = ring_placed layout.ring is.ring_is is.ring_copies in
      let two = batches_placed layout.batches is.batches_are is.batch_copies in
      let one_long = ap length one in
      let two_long = ap length two in
      record {
        ring = subst (HasCopy d w.guest (page_at w 1) (ring_address w.guest w.engine)) one ring_copy;
        batches = subst (HasCopy d w.guest (page_at w 1) base) two batch_copy;
        ring_small = let s = same_ring in omega arith;
        batches_small = let s = same_batches in omega arith;
        start_aligned = omega arith;
        base_aligned = omega arith;
      }
