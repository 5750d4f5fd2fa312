use Rattle.std.proofs.Common.{◌≡◌, ◌%◌, ℕ, None, ap, sym, subst, arith}
use Rattle.gv_types.specs.declared.ranges.Ranges.{Ranges}
use Rattle.gv_gpu.specs.Device.{Device, IsEmpty}
use Rattle.gv_gpu.specs.Part.{outside, frames_part, entries_part}
use Rattle.gv_gpu.proofs.Guests.{apart-frames-entries}
use Rattle.gv_gpu.proofs.Changes.{leaves-outside}
use Rattle.gv_guest.specs.Placed.{Placed, Hosts, nowhere}
use Rattle.gv_engine.specs.Whole.{whole}
use Rattle.gv_sggtt.specs.Table.{Table, zero_table}
use Rattle.gv_sggtt.specs.Mirror.{Mirrors, AreAbsent}
use Rattle.gv_sggtt.proofs.Kept.{mirrors-zero, absent-kept}
use Rattle.gvtbox.proofs.layers.guest.Goals as goal

-- The entries of an empty device are absent, also after frames were made for a guest.
absent-at-first : (d e : Device) (guest : ℕ) (ranges : Ranges) → IsEmpty d → outside (frames_part guest) e ≡ outside (frames_part guest) d → AreAbsent e ranges
absent-at-first d e guest ranges empty same =
    let entries = leaves-outside (apart-frames-entries guest ranges) same in
    absent-kept (entries_part ranges) d e ranges (λ page own. own) entries (record { each = λ page own. ap (λ (d : Device). d.global page % 2) empty })

mirrors-at-first : (d e : Device) (guest : ℕ) (ranges : Ranges) (frames : ℕ) (placed : Placed) (t : Table) → t ≡ zero_table ranges frames → IsEmpty d → outside (frames_part guest) e ≡ outside (frames_part guest) d → Mirrors e t placed
mirrors-at-first d e guest ranges frames placed t is empty same =
    subst (λ (t : Table). Mirrors e t placed) (sym is) (mirrors-zero e ranges frames placed (absent-at-first d e guest ranges empty same))

pub returns-clause-mirrors : goal.returns-clause-mirrors
returns-clause-mirrors c = mirrors-at-first (whole c.new-gpu.result) (whole c.new.new.gpu) 0 _ _ c.in_ok-memory.memory.frames c.in_ok-table.table c.in_ok-table.ensures c.new-gpu.ensures c.in_ok-memory.ensures.outside

stands-nowhere : (d : Device) (guest : ℕ) → IsEmpty d → Hosts d (nowhere guest)
stands-nowhere d guest empty = record {
  labelled = λ k h. absurd (omega arith);
  long = λ k h. absurd (omega arith);
  below = λ k h. absurd (omega arith);
  apart = λ j k hj hk same. absurd (omega arith);
  all = λ n h. let none : d.label n ≡ None = ap (λ (x : Device). x.label n) empty in cc;
}

pub new-requires-clause-none : goal.new-requires-clause-none
new-requires-clause-none c = stands-nowhere (whole c.new-gpu.result) 0 c.new-gpu.ensures
