use Rattle.std.proofs.Common.{◌≡◌, get_or, sym, ap, ◌∙◌}
use Rattle.gv_entry.specs.Entry.{global_frame}
use Rattle.gv_sggtt.proofs.Relinked.{linked-without, all-linked}
use Rattle.gv_sggtt.proofs.linked.LinkedEntries.take_written.Goals as goal

pub unlink-requires-clause-linked : goal.unlink-requires-clause-linked
unlink-requires-clause-linked c =
    let inside = c.self.inside in
    let slot = c.in_ok-slot.slot in
    let named : global_frame (get_or inside.entries.values slot 0) inside.frames ≡ c.global_of.result = sym (c.global_of.ensures ∙ ap (λ entry. global_frame entry inside.frames) c.in_ok-slot.ensures.entry) in
    all-linked inside.frames inside.entries.values inside.chains c.self.invariant slot c.in_ok-slot.ensures.there c.global_of.result named

pub invariant_of-self-2 : goal.invariant_of-self-2
invariant_of-self-2 c =
    let inside = c.self.inside in
    let slot = c.in_ok-slot.slot in
    let named : global_frame (get_or inside.entries.values slot 0) inside.frames ≡ c.global_of.result = sym (c.global_of.ensures ∙ ap (λ entry. global_frame entry inside.frames) c.in_ok-slot.ensures.entry) in
    rw (c.in_ok-slot.ensures.values, c.unlink.ensures) (linked-without inside.frames inside.entries.values inside.chains c.self.invariant slot c.in_ok-slot.ensures.there c.global_of.result named)
