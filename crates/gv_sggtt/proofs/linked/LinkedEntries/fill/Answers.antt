use Rattle.std.proofs.Common.{◌≡◌, ◌<◌, None, length, get_or, sym, subst}
use Rattle.gv_entry.specs.Entry.{global_frame}
use Rattle.gv_sggtt.specs.Linked.{Linked}
use Rattle.gv_sggtt.proofs.Relinked.{linked-with, all-absent, all-room}
use Rattle.gv_sggtt.proofs.linked.LinkedEntries.fill.Goals as goal

pub link-requires-clause-absent : goal.link-requires-clause-absent
link-requires-clause-absent c =
    let inside = c.self.inside in
    let free = subst (λ (s : Linked). global_frame (get_or s.values c.args.slot 0) s.frames ≡ None) (sym c.self.view_is) c.requires.free in
    let there = subst (λ (s : Linked). c.args.slot < length s.values) (sym c.self.view_is) c.requires.within in
    all-absent inside.frames inside.entries.values inside.chains c.self.invariant c.args.slot there c.args.value c.global_of.result free (sym c.global_of.ensures)

pub link-requires-clause-room : goal.link-requires-clause-room
link-requires-clause-room c =
    let inside = c.self.inside in
    let free = subst (λ (s : Linked). global_frame (get_or s.values c.args.slot 0) s.frames ≡ None) (sym c.self.view_is) c.requires.free in
    let there = subst (λ (s : Linked). c.args.slot < length s.values) (sym c.self.view_is) c.requires.within in
    all-room inside.frames inside.entries.values inside.chains c.self.invariant c.args.slot there c.args.value c.global_of.result free (sym c.global_of.ensures)

pub invariant_of-self : goal.invariant_of-self
invariant_of-self c =
    let inside = c.self.inside in
    let free = subst (λ (s : Linked). global_frame (get_or s.values c.args.slot 0) s.frames ≡ None) (sym c.self.view_is) c.requires.free in
    let there = subst (λ (s : Linked). c.args.slot < length s.values) (sym c.self.view_is) c.requires.within in
    rw (c.set.ensures, c.link.ensures) (linked-with inside.frames inside.entries.values inside.chains c.self.invariant c.args.slot there c.args.value c.global_of.result free (sym c.global_of.ensures))
