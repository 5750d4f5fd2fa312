-- A guest that fails, behind other calls.
use Rattle.std.proofs.Common.{◌≡◌, ◌≢◌, ℕ, ◌<◌, Bool, true, Option, None, Some, length, refl, sym, ◌∙◌, subst}
use Rattle.gv_types.specs.Memory.{Memory}
use Rattle.gv_types.specs.declared.reply.Reason.{Reason}
use Rattle.gv_element.specs.Works.{Held}
use Rattle.gv_element.proofs.Beside.{stay-apart}
use Rattle.gv_entry.specs.Ranges.{InParts}
use Rattle.gv_gpu.specs.Device.{Device}
use Rattle.gv_gtt.specs.Changes.{Changes}
use Rattle.gv_gtt.specs.Gtt.{gtt_part, memory_of, number_of, ranges_of}
use Rattle.gv_gtt.specs.Standing.{Stands}
use Rattle.gv_gtt.proofs.Others.{changes_stay_inside}
use Rattle.gv_mmio.specs.Mmio.{guest_of, ranges_of as mmio_ranges}
use Rattle.gv_private.specs.Device.{fails, reset_device}
use Rattle.gv_vgpu.specs.Changes.{Makes, MayFail, own_live}
use Rattle.gv_vgpu.specs.Vgpu.{engine_at, private_of}
use Rattle.gv_vgpu.specs.Standing.{Holds, Occupies, OccupiesOn, StandsOn}
use Rattle.gv_vgpu.specs.declared.vgpu.Vgpu.{Vgpu}
use Rattle.gv_vgpu.specs.declared.notice.Notice.{Notice}
use Rattle.gv_vgpu.proofs.Copies.{comes-gone, none-at-work}
use Rattle.gv_vgpu.proofs.Kept.{engine-same, idle-on, works-on}
use Rattle.gv_vgpu.proofs.Own.{changes-then}
use Rattle.gv_vgpu.proofs.Same.{beside-same, moves-none, moves-with-tables}

-- ---- what holds, occupies

occupies-on : (d : Device) (v : Vgpu) (engine : ℕ) (here : Bool) (element : Option Held) → StandsOn d v engine here element → OccupiesOn d v engine here element
occupies-on d v engine here None stands = stands
occupies-on d v engine here (Some x) stands = record { root_page = stands.root_page; works = stands.works; apart = stands.apart }

pub holds-occupies : (d : Device) (v : Vgpu) (here : ℕ → Bool) → Holds d v here → Occupies d v here
holds-occupies d v here holds = record {
  stands = holds.translates.serving.stands;
  parts = holds.parts;
  number = holds.number;
  ranges = holds.ranges;
  below = holds.below;
  engines = λ k four. occupies-on d v k (here k) (engine_at v k).element (holds.engines k four);
  beside = holds.beside;
  away = holds.away;
  none_above = holds.none_above;
  sixteen = holds.sixteen;
  kept = holds.kept;
}

-- A guest that holds may fail at once.
pub holds-may-fail : (d : Device) (v : Vgpu) (here : ℕ → Bool) → Holds d v here → MayFail here d d v v (memory_of d v.gtt)
holds-may-fail d v here holds = record {
  occupies = holds-occupies d v here holds;
  changes = record {
    number = refl;
    frames = refl;
    ranges = refl;
    outside = refl;
    live = moves-none d (own_live v) (own_live v) refl;
  };
  memory_is = refl;
}

-- ---- a change of memory and tables alone, whatever it answered

module _ (d e : Device) (old new : Vgpu) (here : ℕ → Bool) (holds : Holds d old here) (changes : Changes d e old.gtt new.gtt) (registers : new.mmio ≡ old.mmio) (engines : new.engines ≡ old.engines) (failsafe : new.failsafe ≡ old.failsafe) where
  same : (k : ℕ) → engine_at new k ≡ engine_at old k
  same = engine-same d e old new here holds changes registers engines failsafe

  number-same : number_of new.gtt ≡ number_of old.gtt
  number-same = λ i. (changes.frames i).guest

  occupies-after : (k : ℕ) (element : Option Held) → StandsOn d old k (here k) element → OccupiesOn e new k (here k) element
  occupies-after k None stands = idle-on d e old new k (here k) holds.parts changes stands
  occupies-after k (Some x) stands = record {
    root_page = stands.root_page;
    works = (works-on d e old.gtt new.gtt k (here k) stands.root_page x holds.parts changes stands.apart stands.works).works;
    apart = stay-apart d e x.window (gtt_part old.gtt) (gtt_part new.gtt) stands.works.runs.shows stands.apart changes.outside;
  }

  pub may-fail-after : Stands e new.gtt → MayFail here d e old new (memory_of e new.gtt)
  may-fail-after stands = record {
    occupies = record {
      stands = stands;
      parts = subst InParts (sym changes.ranges) holds.parts;
      number = (λ i. guest_of (registers i)) ∙ holds.number ∙ sym number-same;
      ranges = (λ i. mmio_ranges (registers i)) ∙ holds.ranges ∙ sym changes.ranges;
      below = subst (λ g. g < 8) (sym number-same) holds.below;
      engines = λ k four. subst (λ x. OccupiesOn e new k (here k) x.element) (sym (same k)) (occupies-after k (engine_at old k).element (holds.engines k four));
      beside = beside-same old new (λ k i. (same k i).element) holds.beside;
      away = λ k below other l is. subst (λ g. l.owner ≢ g) (sym number-same) (holds.away k below other l ((λ i. (sym changes.outside i).loaded k) ∙ is));
      none_above = holds.none_above;
      sixteen = λ k n own above. (λ i. (changes.outside i).general k n) ∙ holds.sixteen k n own above;
      kept = λ k four. subst (λ x. length x.kept ≡ 16) (sym (same k)) (holds.kept k four);
    };
    changes = record {
      number = number-same;
      frames = λ i. length (changes.frames i).pages;
      ranges = changes.ranges;
      outside = changes_stay_inside d e old.gtt new.gtt here changes;
      live = moves-with-tables old new (λ k i. (same k i).element) d e (λ i. length (changes.frames i).pages) changes.live;
    };
    memory_is = refl;
  }

-- ---- one after another

-- A guest fails, and its private device does, of which only number, ranges and memory matter.
pub fails-then :
    (here : ℕ → Bool) (d e f : Device) (a b c : Vgpu) (m : Memory) (reason : Reason) (notice : Notice) → guest_of a.mmio ≡ number_of a.gtt → mmio_ranges a.mmio ≡ ranges_of a.gtt
    → MayFail here d e a b m → Makes here e f b c (fails (private_of e b here) reason) notice → Makes here d f a c (fails (record (private_of d a here) { memory = m }) reason) notice
fails-then here d e f a b c m reason notice number ranges first second = record {
  written =
      (λ i. record { device = record (reset_device (same-number i) (same-ranges i) (sym first.memory_is i)) { failsafe = true }; irq = None; reason = Some reason })
      ∙ second.written;
  keeps = record {
    holds = second.keeps.holds;
    changes = changes-then here d e f a b c first.changes second.keeps.changes;
    copies = comes-gone d f a c (λ k. none-at-work f (number_of c.gtt) k (here k) (engine_at c k).element (λ i. ((sym second.written i).device.engines k).element));
  };
}
  where
    same-number : guest_of a.mmio ≡ guest_of b.mmio
    same-number = number ∙ sym first.changes.number ∙ sym first.occupies.number

    same-ranges : mmio_ranges a.mmio ≡ mmio_ranges b.mmio
    same-ranges = ranges ∙ sym first.changes.ranges ∙ sym first.occupies.ranges
