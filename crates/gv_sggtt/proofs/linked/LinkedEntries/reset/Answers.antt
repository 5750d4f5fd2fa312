use Rattle.std.proofs.Common.{◌≡◌, ◌<◌, length, get_or, sym, ap, ◌∙◌, subst}
use Rattle.gv_entry.specs.Entry.{global_frame}
use Rattle.gv_sggtt.specs.Linked.{Linked}
use Rattle.gv_sggtt.proofs.Relinked.{linked-without, all-linked}
use Rattle.gv_sggtt.proofs.linked.LinkedEntries.reset.Goals as goal

pub unlink-requires-clause-linked : goal.unlink-requires-clause-linked
unlink-requires-clause-linked c =
    let inside = c.self.inside in
    let there = subst (λ (s : Linked). c.args.slot < length s.values) (sym c.self.view_is) c.requires in
    let named : global_frame (get_or inside.entries.values c.args.slot 0) inside.frames ≡ c.frame-frame.result = sym (c.frame-frame.ensures ∙ ap (λ (s : Linked). global_frame (get_or s.values c.args.slot 0) s.frames) (sym c.self.view_is)) in
    all-linked inside.frames inside.entries.values inside.chains c.self.invariant c.args.slot there c.frame-frame.result named

pub invariant_of-self : goal.invariant_of-self
invariant_of-self c =
    let inside = c.self.inside in
    let there = subst (λ (s : Linked). c.args.slot < length s.values) (sym c.self.view_is) c.requires in
    let named : global_frame (get_or inside.entries.values c.args.slot 0) inside.frames ≡ c.frame-frame.result = sym (c.frame-frame.ensures ∙ ap (λ (s : Linked). global_frame (get_or s.values c.args.slot 0) s.frames) (sym c.self.view_is)) in
    rw (c.set.ensures, c.unlink.ensures) (linked-without inside.frames inside.entries.values inside.chains c.self.invariant c.args.slot there c.frame-frame.result named)
