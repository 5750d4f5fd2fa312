-- A memory stands and holds the same where its part of the device is the same.
use Rattle.std.proofs.Common.{◌≡◌, ℕ, ◌<◌, true, Some, length, get_or, sym, ap, ◌∙◌, refl}
use Rattle.std.proofs.lemmas.List.{same_lists, get_or-map, length-map}
use Rattle.gv_gpu.specs.Device.{Device}
use Rattle.gv_types.specs.declared.ranges.Ranges.{Ranges}
use Rattle.gv_gpu.specs.Change.{ChangesOnly, Leaves}
use Rattle.gv_gpu.specs.Part.{Part, inside, frames_part, entries_part}
use Rattle.gv_gpu.proofs.Guests.{apart-entries-frames}
use Rattle.gv_gpu.proofs.Changes.{leaves}
use Rattle.gv_gpu.proofs.Seen.{label-same, words-same}
use Rattle.gv_guest.specs.Placed.{Placed, Hosts, KeepsMemory, memory_in, frame_label}
use Rattle.gv_guest.proofs.Written.{own_frame}

module _ (w : Part) (d e : Device) (placed : Placed) (own : (n : ℕ) → w.page n (Some (frame_label placed.guest)) ≡ true) (left : Leaves w d e) where
  same : inside w e ≡ inside w d
  same = left.same

  label : (k : ℕ) → d.label k ≡ Some (frame_label placed.guest) → e.label k ≡ Some (frame_label placed.guest)
  label k h = label-same w d e same k (frame_label placed.guest) (own k) h

  pub stands-kept : Hosts d placed → Hosts e placed
  stands-kept stands = record {
    labelled = λ k h. label (get_or placed.pages k 0) (stands.labelled k h);
    long = λ k h. ap length (words-same w d e same (get_or placed.pages k 0) (frame_label placed.guest) (own (get_or placed.pages k 0)) (stands.labelled k h)) ∙ stands.long k h;
    below = stands.below;
    apart = stands.apart;
    all = λ n h. stands.all n (label-same w e d (sym same) n (frame_label placed.guest) (own n) h);
  }

  pub memory-kept : Hosts d placed → memory_in e placed ≡ memory_in d placed
  memory-kept stands = same_lists _ _ (simp length-map refl) (λ k x h.
      let hk : k < length placed.pages = rw length-map at h in
      let page = get_or placed.pages k 0 in
      get_or-map e.words placed.pages k 0 x hk ∙ words-same w d e same page (frame_label placed.guest) (own page) (stands.labelled k hk) ∙ sym (get_or-map d.words placed.pages k 0 x hk))

-- What changes entries of the global table alone leaves every memory.
module _ (ranges : Ranges) (n : ℕ) (d e : Device) (placed : Placed) (changes : ChangesOnly (entries_part ranges) n d e) where
  frames_left : Leaves (frames_part placed.guest) d e
  frames_left = leaves (apart-entries-frames ranges placed.guest) changes

  pub memory-entries : Hosts d placed → KeepsMemory placed d e
  memory-entries stands = record {
    stands = stands-kept (frames_part placed.guest) d e placed (λ n. own_frame placed.guest) frames_left stands;
    memory = memory-kept (frames_part placed.guest) d e placed (λ n. own_frame placed.guest) frames_left stands;
  }
