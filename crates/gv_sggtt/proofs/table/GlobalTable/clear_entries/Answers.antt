use Rattle.std.proofs.Common.{◌≡◌, ℕ, ◌+◌, ◌<◌, ◌≤◌, cond, length, get_or, set, Option, sym, ap, ◌∙◌, subst, refl, arith}
use Rattle.std.proofs.lemmas.List.{length-set}
use Rattle.gv_types.specs.declared.ranges.Ranges.{Ranges}
use Rattle.gv_entry.specs.Entry.{global_frame}
use Rattle.gv_entry.specs.Global.{with_entry_at, pages_of}
use Rattle.gv_entry.specs.Grants.{unless}
use Rattle.gv_gpu.specs.Device.{with_global}
use Rattle.gv_gpu.specs.Change.{ChangesOnly}
use Rattle.gv_gpu.specs.Part.{entries_part}
use Rattle.gv_gpu.proofs.Changes.{changes-then, global-changes}
use Rattle.gv_guest.proofs.Kept.{memory-entries}
use Rattle.gv_sggtt.specs.Linked.{is_frame}
use Rattle.gv_sggtt.specs.Mirror.{Mirrors}
use Rattle.gv_sggtt.specs.Pins.{ChangesOwnPins}
use Rattle.gv_sggtt.specs.Table.{Table, entry_grant, guards}
use Rattle.gv_sggtt.proofs.OwnPins.{changes-written, own-changes-then}
use Rattle.gv_sggtt.proofs.Written.{some-live, mirrors-written}
use Rattle.gv_sggtt.proofs.table.GlobalTable.clear_entries.Goals as goal

pub set_global-requires-clause-live : goal.set_global-requires-clause-live
set_global-requires-clause-live g c =
    let kept = c.loop-slot.invariant in
    let frames : length c.args.memory.now.pages ≡ c.loop-slot.self-inside.entries.frames = c.requires.frames ∙ sym kept.frames in
    some-live (g.G.Gpu.state c.loop-slot.gpu) c.args.memory.now kept.memory.stands (subst (λ n. 1 ≤ n) (sym frames) kept.is.some)

pub loop-slot-preserved : goal.loop-slot-preserved
loop-slot-preserved g c =
    let kept = c.loop-slot.invariant in
    let d = g.G.Gpu.state c.loop-slot.gpu in
    let placed = c.args.memory.now in
    let inside = c.loop-slot.self-inside in
    let table : Table = record { ranges = inside.ranges; frames = inside.entries.frames; entries = inside.entries.values; guarded = inside.guarded.items } in
    let page = c.page_at.result in
    let slot = c.in-Some.slot in
    let after = with_global d page 0 in
    let within : slot < pages_of inside.ranges = subst (λ n. slot < n) kept.is.whole c.in-Some.ensures.there in
    let written : Table = record table { entries = set table.entries slot 0 } in
    let new : Table = record table { frames = c.take_written.new.self.frames; entries = c.take_written.new.self.values } in
    let is : written ≡ new = λ i. record table { frames = sym c.take_written.ensures.frames i; entries = sym c.in-Some.ensures.values i } in
    let mirrors = subst (λ (o : Option ℕ). Mirrors after (record table { entries = with_entry_at table.entries o 0 }) placed) c.page_at.ensures.slot (mirrors-written d table placed page slot 0 0 kept.is c.page_at.ensures.slot within refl kept.mirrors) in
    let old : c.unguarded.result ≡ entry_grant table (get_or table.entries slot 0) =
    c.unguarded.ensures
    ∙ ap (λ flags. unless (guards flags) c.global_of-frame.result) c.deref.ensures.value
    ∙ ap (unless (guards table.guarded)) (c.global_of-frame.ensures ∙ ap (global_frame c.in-Some.entry) (c.frames.ensures ∙ c.take_written.ensures.frames) ∙ ap (λ entry. global_frame entry table.frames) c.in-Some.ensures.entry) in
    let less = subst (λ (o : Option ℕ). (k : ℕ) → get_or c.unpin.new.pins k 0 + cond (is_frame k o) 1 0 ≡ get_or c.loop-slot.pins k 0) old c.unpin.ensures.each in
    let pins = changes-written table slot 0 c.in-Some.ensures.there c.loop-slot.pins c.unpin.new.pins c.unpin.new.pins c.unpin.ensures.frames refl less (λ k. omega arith) in
    let step = global-changes (entries_part inside.ranges) d page 0 c.page_at.ensures.owned in
    let memory = memory-entries inside.ranges 0 d after placed step kept.memory.stands in
    let long = ap length c.in-Some.ensures.values ∙ length-set table.entries slot 0 in
    let e_is = c.set_global.ensures in
    record {
      ranges = kept.ranges;
      frames = c.take_written.ensures.frames ∙ kept.frames;
      guarded = kept.guarded;
      is = record {
        parts = kept.is.parts;
        some = subst (λ n. 1 ≤ n) (sym c.take_written.ensures.frames) kept.is.some;
        few = subst (λ n. n ≤ 16384) (sym c.take_written.ensures.frames) kept.is.few;
        whole = long ∙ kept.is.whole;
        flags = kept.is.flags ∙ sym c.take_written.ensures.frames;
      };
      memory = rw e_is (record { stands = memory.stands; memory = memory.memory ∙ kept.memory.memory });
      mirrors = rw e_is (subst (λ (t : Table). Mirrors after t placed) is mirrors);
      pins = own-changes-then c.args.self.now table new c.args.pins.now c.loop-slot.pins c.unpin.new.pins kept.pins (subst (λ (t : Table). ChangesOwnPins table t c.loop-slot.pins c.unpin.new.pins) is pins);
      changes = rw e_is (changes-then kept.changes (subst (λ (r : Ranges). ChangesOnly (entries_part r) 0 d after) kept.ranges step));
    }
