-- What is the guest's own changed, over calls one after another.
use Rattle.std.proofs.Common.{◌≡◌, ℕ, ◌≤◌, Bool, ◌∙◌, subst}
use Rattle.gv_types.specs.declared.ranges.Ranges.{Ranges}
use Rattle.gv_types.specs.declared.reply.Stop.{Stop}
use Rattle.gv_gpu.specs.Device.{Device, counted, with_faults}
use Rattle.gv_gpu.specs.Part.{guest_part, outside}
use Rattle.gv_gtt.specs.Gtt.{number_of, ranges_of}
use Rattle.gv_vgpu.specs.Changes.{ChangesOwn, Stops, own_live}
use Rattle.gv_vgpu.specs.declared.vgpu.Vgpu.{Vgpu}
use Rattle.gv_vgpu.proofs.Same.{moves-then}

-- what is outside of a guest's part
pub outside-then :
    (here : ℕ → Bool) (d e f : Device) (a b : Vgpu) → number_of b.gtt ≡ number_of a.gtt → ranges_of b.gtt ≡ ranges_of a.gtt
    → outside (guest_part (number_of a.gtt) (ranges_of a.gtt) here) e ≡ outside (guest_part (number_of a.gtt) (ranges_of a.gtt) here) d
    → outside (guest_part (number_of b.gtt) (ranges_of b.gtt) here) f ≡ outside (guest_part (number_of b.gtt) (ranges_of b.gtt) here) e
    → outside (guest_part (number_of a.gtt) (ranges_of a.gtt) here) f ≡ outside (guest_part (number_of a.gtt) (ranges_of a.gtt) here) d
outside-then here d e f a b number ranges first second =
    subst (λ (r : Ranges). outside (guest_part (number_of a.gtt) r here) f ≡ outside (guest_part (number_of a.gtt) r here) e) ranges
    (subst (λ guest. outside (guest_part guest (ranges_of b.gtt) here) f ≡ outside (guest_part guest (ranges_of b.gtt) here) e) number second)
    ∙ first

pub changes-then : (here : ℕ → Bool) (d e f : Device) (a b c : Vgpu) → ChangesOwn here d e a b → ChangesOwn here e f b c → ChangesOwn here d f a c
changes-then here d e f a b c first second = record {
  number = second.number ∙ first.number;
  frames = second.frames ∙ first.frames;
  ranges = second.ranges ∙ first.ranges;
  outside = outside-then here d e f a b first.number first.ranges first.outside second.outside;
  live = moves-then d e f (own_live a) (own_live b) (own_live c) first.live second.live;
}

-- and then a call that stopped
pub stops-then : (here : ℕ → Bool) (d e f : Device) (a b : Vgpu) (stop : Stop) → ChangesOwn here d e a b → Stops here e f b stop → Stops here d f a stop
stops-then here d e f a b stop first second = record {
  outside = outside-then here (with_faults d f.faults) (with_faults e f.faults) f a b first.number first.ranges (λ i. with_faults (first.outside i) f.faults) second.outside;
  cause = λ is. subst (λ faults. counted faults ≤ f.faults) (λ i. (first.outside i).faults) (second.cause is);
  memory = λ is. second.memory is ∙ (λ i. (first.outside i).faults);
}
