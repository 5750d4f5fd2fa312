-- What calls leave, one after another.
use Rattle.std.proofs.Common.{ℕ, ◌+◌, ◌≡◌, List, get_or, length, refl, sym, ◌∙◌, arith}
use Rattle.gv_gpu.specs.Device.{Device}
use Rattle.gv_guest.specs.Placed.{Placed}
use Rattle.gv_shape.specs.Counts.{leaves}
use Rattle.gv_sppgtt.specs.State.{pages_of, readings_of}
use Rattle.gv_sppgtt.specs.Holding.{Keeps}
use Rattle.gv_sppgtt.specs.Serving.{ChangesTables}
use Rattle.gv_sppgtt.specs.declared.tables.Tables.{Tables}
use Rattle.gv_sppgtt.proofs.LiveCounts.{live-none, live_trans}

pub changes-none : (placed : Placed) (d : Device) (t : Tables) (pins : List ℕ) → ChangesTables placed d d t t pins pins
changes-none placed d t pins = record { memory = refl; others = refl; live = live-none (length placed.pages) d (pages_of t); guest = refl; pins = λ h. refl }

pub changes_trans : (placed : Placed) (d e f : Device) (t u v : Tables) (x y z : List ℕ) → ChangesTables placed d e t u x y → ChangesTables placed e f u v y z → ChangesTables placed d f t v x z
changes_trans placed d e f t u v x y z first second = record {
  memory = second.memory ∙ first.memory;
  others = second.others ∙ first.others;
  live = live_trans (length placed.pages) d e f (pages_of t) (pages_of u) (pages_of v) first.live second.live;
  guest = second.guest ∙ first.guest;
  pins = λ h. let a = first.pins h in let b = second.pins h in omega arith;
}

pub changes-kept : (placed : Placed) (d e : Device) (t u : Tables) (x y : List ℕ) → Keeps placed d e t u x y → ChangesTables placed d e t u x y
changes-kept placed d e t u x y k = record { memory = k.memory; others = k.outside; live = k.live; guest = k.guest; pins = k.pins }

-- the same readings, so the same leaves
pub pins-same : (frames : ℕ) (d e : Device) (t u : Tables) (pins : List ℕ) → ((k f i : ℕ) → readings_of e u k f i ≡ readings_of d t k f i) → (h : ℕ) → get_or pins h 0 + leaves frames (readings_of d t) h ≡ get_or pins h 0 + leaves frames (readings_of e u) h
pins-same frames d e t u pins same h = λ j. get_or pins h 0 + leaves frames (λ k f i. sym (same k f i) j) h
