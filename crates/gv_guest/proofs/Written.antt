-- A write to one page, seen by the frames.
use Rattle.std.proofs.Common.{◌≡◌, ℕ, ◌*◌, ◌/◌, ◌%◌, ◌<◌, List, [], length, get_or, set, map, arith, ap, sym, subst, ◌∙◌, true, Some, refl}
use Rattle.std.proofs.lemmas.List.{same_lists, get_or-map, length-map, length-set}
use Rattle.std.proofs.lemmas.Bool.{eq-eqb}
use Rattle.std.proofs.lemmas.Grind.{common_steps}
use Rattle.gv_types.specs.Maps.{put}
use Rattle.gv_types.specs.Memory.{with_word}
use Rattle.gv_gpu.specs.Change.{ChangesOnly}
use Rattle.gv_gpu.specs.Device.{Device, poked}
use Rattle.gv_gpu.specs.Part.{frames_part, is_frame_of}
use Rattle.gv_gpu.proofs.Changes.{poked-changes}
use Rattle.gv_guest.specs.Placed.{Placed, Hosts, memory_in, frame_label}

put_at : (f : ℕ → List ℕ) (pages : List ℕ) (k j : ℕ) (x : List ℕ) → ((j k : ℕ) → j < length pages → k < length pages → get_or pages j 0 ≡ get_or pages k 0 → j ≡ k) → k < length pages → j < length pages → put f (get_or pages k 0) x (get_or pages j 0) ≡ get_or (set (map f pages) k x) j []
put_at f pages k j x apart hk hj =
    let a = apart j k hj hk in
    let m = get_or-map f pages j 0 [] hj in
    let l = length-map pages f in
    grind (arith, common_steps)

map_put : (f : ℕ → List ℕ) (pages : List ℕ) (k : ℕ) (x : List ℕ) → ((j k : ℕ) → j < length pages → k < length pages → get_or pages j 0 ≡ get_or pages k 0 → j ≡ k) → k < length pages → map (put f (get_or pages k 0) x) pages ≡ set (map f pages) k x
map_put f pages k x apart hk =
    same_lists _ _ (simp (length-map, length-set)) (λ j d h.
    let hj : j < length pages = rw length-map at h in
    grind (arith, common_steps, put_at f pages k j x apart hk hj, get_or-map (put f (get_or pages k 0) x) pages j 0 d hj))

pub own_frame : (guest : ℕ) → is_frame_of guest (Some (frame_label guest)) ≡ true
own_frame guest = rw (eq-eqb guest guest refl) refl

module _ (d e : Device) (placed : Placed) (number value page : ℕ) (stands : Hosts d placed) (within : number < length placed.pages * 512) (at : page ≡ get_or placed.pages (number / 512) 0) (step : e ≡ poked d page (number % 512) value) where
  frame : number / 512 < length placed.pages
  frame = omega arith

  pub memory-poked : memory_in e placed ≡ with_word (memory_in d placed) number value
  memory-poked =
      let m = get_or-map d.words placed.pages (number / 512) 0 [] frame in
      rw (step, at) (rw m (map_put d.words placed.pages (number / 512) (set (d.words (get_or placed.pages (number / 512) 0)) (number % 512) value) stands.apart frame))

  pub frames-poked : ChangesOnly (frames_part placed.guest) 1 d e
  frames-poked =
      let label : d.label page ≡ Some (frame_label placed.guest) = ap d.label at ∙ stands.labelled (number / 512) frame in
      subst (ChangesOnly (frames_part placed.guest) 1 d) (sym step)
      (poked-changes (frames_part placed.guest) d page (number % 512) value (ap (is_frame_of placed.guest) label ∙ own_frame placed.guest))
