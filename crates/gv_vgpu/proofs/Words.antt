-- What writes of a guest's memory leave.
use Rattle.std.proofs.Common.{◌≡◌, ℕ, Bool, true, false, None, if◌then◌else◌, sym, ◌∙◌}
use Rattle.gv_types.specs.Memory.{memory_write}
use Rattle.gv_types.specs.declared.event.Width.{Width}
use Rattle.gv_types.specs.declared.reply.Reason.TheVariants.{Entry}
use Rattle.gv_entry.specs.SameTables.{has}
use Rattle.gv_entry.specs.Tables.{has_bad_entry}
use Rattle.gv_gpu.specs.Device.{Device}
use Rattle.gv_gtt.specs.Changes.{Changes}
use Rattle.gv_gtt.specs.Gtt.{memory_of, nodes_in, over, roots_in}
use Rattle.gv_gtt.specs.Standing.{Stands, Translates}
use Rattle.gv_private.specs.Access.{memory_written}
use Rattle.gv_private.specs.Device.{PrivateDevice, fails, quietly}
use Rattle.gv_vgpu.specs.Changes.{Makes, injected}
use Rattle.gv_vgpu.specs.Vgpu.{private_of}
use Rattle.gv_vgpu.specs.Standing.{Holds}
use Rattle.gv_vgpu.specs.declared.vgpu.Vgpu.{Vgpu}
use Rattle.gv_vgpu.specs.declared.notice.Notice.{Notice}
use Rattle.gv_vgpu.proofs.Failing.{fails-then, may-fail-after}
use Rattle.gv_vgpu.proofs.Kept.{private-after}
use Rattle.gv_vgpu.proofs.Working.{over-private}
use Rattle.gv_vgpu.proofs.Written.{keeps-after}

module _
    (d e : Device) (old new : Vgpu) (here : ℕ → Bool) (holds : Holds d old here) (changes : Changes d e old.gtt new.gtt) (registers : new.mmio ≡ old.mmio) (engines : new.engines ≡ old.engines) (failsafe : new.failsafe ≡ old.failsafe)
    (width : Width) (at value : ℕ) (memory : memory_of e new.gtt ≡ memory_write (memory_of d old.gtt) width at value)
  where
    -- no live table has a bad entry then
    pub good-written :
        Translates e new.gtt → ((root : ℕ) → nodes_in new.gtt 4 root ≡ nodes_in old.gtt 4 root) → has_bad_entry (memory_of e new.gtt) (roots_in old.gtt) ≡ false
        → ((p : PrivateDevice) → over p e new.gtt ≡ record (over p d old.gtt) { memory = memory_write (memory_of d old.gtt) width at value })
        → (notice : Notice) → notice ≡ injected None → Makes here d e old new (memory_written (private_of d old here) width at value) notice
    good-written translates nodes good written notice is = record {
      written =
          (λ i. if unbad i then fails (record (private_of d old here) { memory = memory_write (memory_of d old.gtt) width at value }) Entry else quietly (record (private_of d old here) { memory = memory_write (memory_of d old.gtt) width at value }))
          ∙ (λ i. record { device = same i; irq = (sym is i).irq; reason = (sym is i).failsafe });
      keeps = keeps-after d e old new here holds changes registers engines failsafe translates (λ root there. ((λ i. has (roots i) root) ∙ there, nodes root));
    }
      where
        unbad : has_bad_entry (memory_write (memory_of d old.gtt) width at value) (roots_in old.gtt) ≡ false
        unbad = (λ i. has_bad_entry (sym memory i) (roots_in old.gtt)) ∙ good

        roots : roots_in new.gtt ≡ roots_in old.gtt
        roots = λ i. (written (private_of d old here) i).roots

        same : record (private_of d old here) { memory = memory_write (memory_of d old.gtt) width at value } ≡ private_of e new here
        same =
            (λ i. record (sym (over-private d old here holds) i) { memory = memory_write (memory_of d old.gtt) width at value })
            ∙ sym (written (private_of d old here))
            ∙ private-after d e old new here holds changes registers engines failsafe

    -- a live table has one, and the guest fails
    pub bad-written :
        (f : Device) (c : Vgpu) (notice : Notice) → Stands e new.gtt → has_bad_entry (memory_of e new.gtt) (roots_in old.gtt) ≡ true
        → Makes here e f new c (fails (private_of e new here) Entry) notice → Makes here d f old c (memory_written (private_of d old here) width at value) notice
    bad-written f c notice stands bad made = record {
      written =
          (λ i. if has_bad_entry (sym memory i) (roots_in old.gtt) then fails (record (private_of d old here) { memory = sym memory i }) Entry else quietly (record (private_of d old here) { memory = sym memory i }))
          ∙ (λ i. if bad i then fails (record (private_of d old here) { memory = memory_of e new.gtt }) Entry else quietly (record (private_of d old here) { memory = memory_of e new.gtt }))
          ∙ failed.written;
      keeps = failed.keeps;
    }
      where
        failed : Makes here d f old c (fails (record (private_of d old here) { memory = memory_of e new.gtt }) Entry) notice
        failed = fails-then here d e f old new c (memory_of e new.gtt) Entry notice holds.number holds.ranges
            (may-fail-after d e old new here holds changes registers engines failsafe stands) made
