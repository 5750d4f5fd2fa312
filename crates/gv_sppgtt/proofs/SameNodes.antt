-- What is known of the tables, when the nodes keep their pages and lose no parent.
use Rattle.std.proofs.Common.{ℕ, ◌+◌, ◌*◌, ◌≤◌, ◌≡◌, Bool, true, List, length, sym, ◌∙◌, subst, arith}
use Rattle.gv_types.specs.declared.ids.GuestId.{GuestId}
use Rattle.gv_types.specs.declared.ids.Label.{Label}
use Rattle.gv_gpu.specs.Device.{Device}
use Rattle.gv_guest.specs.Placed.{Placed}
use Rattle.gv_nodes.specs.NodeMap.{NodeMap}
use Rattle.gv_rmap.specs.Chains.{ReverseMap}
use Rattle.gv_shape.specs.Shadow.{Local}
use Rattle.gv_sppgtt.specs.Sound.{Sound, Boarded, Chained, Pinned, readings_in, pages_in, parents_in, flag}
use Rattle.gv_shape.specs.Counts.{namings}
use Rattle.gv_sppgtt.specs.Grown.{count_of}
use Rattle.gv_gpu.specs.Part.{shadow_label}

pub label-is : (g : GuestId) (n : ℕ) → g.0 ≡ n → ◌≡◌ {A = Label} (record { guest = g; shadow = true }) (shadow_label n)
label-is g n e = λ i. record { guest = record { 0 = e i }; shadow = true }

module _ (d : Device) (placed : Placed) (nodes made : NodeMap) (chains : ReverseMap) (owners : List ℕ) (told : List Bool)
    (frames : made.frames ≡ nodes.frames) (pages : pages_in made ≡ pages_in nodes) where
  pub sound-same : ((k f : ℕ) → parents_in nodes k f ≤ parents_in made k f) → Sound d placed nodes chains owners told → Sound d placed made chains owners told
  sound-same more s = record {
    frames = frames ∙ s.frames;
    chains_long = s.chains_long;
    told_long = s.told_long;
    owners_long = s.owners_long;
    boarded = subst (λ P. Boarded d (length placed.pages) P owners) (sym pages) s.boarded;
    local = subst (λ P. Local d placed P (flag told) (readings_in d.words owners P)) (sym pages) s.local;
    chained = subst (λ P. Chained P (readings_in d.words owners P) chains) (sym pages) s.chained;
    counted = λ k f some.
        let c = s.counted k f some in
        let m = more k f in
        subst (λ P. namings (length placed.pages) (readings_in d.words owners P) k f ≤ parents_in made k f) (sym pages) (omega arith);
  }

  pub pinned-same : (pins : List ℕ) → Pinned (length placed.pages) pins (readings_in d.words owners (pages_in nodes)) → Pinned (length placed.pages) pins (readings_in d.words owners (pages_in made))
  pinned-same pins p = subst (λ P. Pinned (length placed.pages) pins (readings_in d.words owners P)) (sym pages) p

  pub room-same : d.live + (4 * length placed.pages + 64) ≤ 131072 + count_of (length placed.pages) (pages_in nodes) → d.live + (4 * length placed.pages + 64) ≤ 131072 + count_of (length placed.pages) (pages_in made)
  room-same r = subst (λ P. d.live + (4 * length placed.pages + 64) ≤ 131072 + count_of (length placed.pages) P) (sym pages) r
