-- What writes of a guest's memory and tables leave.
use Rattle.std.proofs.Common.{◌≡◌, ℕ, Bool, length, slice_index_or, sym, ◌∙◌}
use Rattle.gv_types.specs.declared.event.Width.{Width}
use Rattle.gv_entry.specs.Global.{global_entry, with_entry}
use Rattle.gv_gpu.specs.Device.{Device}
use Rattle.gv_gtt.specs.Changes.{Changes}
use Rattle.gv_gtt.specs.Gtt.{frames_of, gtt_part, over, ranges_of, entries_of}
use Rattle.gv_gtt.specs.Standing.{Translates}
use Rattle.gv_gtt.proofs.Others.{changes_stay_inside}
use Rattle.gv_private.specs.Access.{entry_after, page_at, table_written}
use Rattle.gv_private.specs.Device.{PrivateDevice}
use Rattle.gv_vgpu.specs.Changes.{Keeps}
use Rattle.gv_vgpu.specs.Vgpu.{no_engine, private_of}
use Rattle.gv_vgpu.specs.Standing.{Holds}
use Rattle.gv_vgpu.specs.declared.vgpu.Vgpu.{Vgpu}
use Rattle.gv_vgpu.proofs.Copies.{comes-tables}
use Rattle.gv_vgpu.proofs.Kept.{KeepsRoots, holds-after, private-after}
use Rattle.gv_vgpu.proofs.Same.{moves-with-tables}
use Rattle.gv_vgpu.proofs.Working.{over-private}

module _ (d e : Device) (old new : Vgpu) (here : ℕ → Bool) (holds : Holds d old here) (changes : Changes d e old.gtt new.gtt) (registers : new.mmio ≡ old.mmio) (engines : new.engines ≡ old.engines) (failsafe : new.failsafe ≡ old.failsafe) where
  -- what a change of memory and tables alone keeps
  pub keeps-after : Translates e new.gtt → KeepsRoots old.gtt new.gtt → Keeps here d e old new
  keeps-after translates roots = record {
    holds = holds-after d e old new here holds changes registers engines failsafe translates roots;
    changes = record {
      number = λ i. (changes.frames i).guest;
      frames = frames-same;
      ranges = changes.ranges;
      outside = changes_stay_inside d e old.gtt new.gtt here changes;
      live = moves-with-tables old new (λ k i. (slice_index_or (engines i) k no_engine).element) d e frames-same changes.live;
    };
    copies = comes-tables d e old new here (gtt_part new.gtt) holds changes.outside (λ k i. (slice_index_or (engines i) k no_engine).element);
  }
    where
      frames-same : length (frames_of new.gtt).pages ≡ length (frames_of old.gtt).pages
      frames-same = λ i. length (changes.frames i).pages

  -- a write of an entry of the global table
  pub table-written :
      (width : Width) (offset value entry : ℕ) → entry ≡ entry_after width offset (global_entry (ranges_of old.gtt) (entries_of old.gtt) (page_at offset)) value
      → ((p : PrivateDevice) → over p e new.gtt ≡ record (over p d old.gtt) { entries = with_entry (ranges_of old.gtt) (entries_of old.gtt) (page_at offset) entry })
      → private_of e new here ≡ table_written (private_of d old here) width offset value
  table-written width offset value entry is written =
      sym (private-after d e old new here holds changes registers engines failsafe)
      ∙ written (private_of d old here)
      ∙ (λ i. record (over-private d old here holds i) { entries = with_entry (sym holds.ranges i) (entries_of old.gtt) (page_at offset) (entry-path i) })
    where
      entry-path : entry ≡ (entry_after width offset (global_entry (private_of d old here).ranges (entries_of old.gtt) (page_at offset)) value)
      entry-path = is ∙ (λ i. entry_after width offset (global_entry (sym holds.ranges i) (entries_of old.gtt) (page_at offset)) value)
