use Rattle.std.proofs.Common.{◌<◌, false, length, sym, ◌∙◌, subst, arith}
use Rattle.std.proofs.lemmas.List.{get_or_read, length-set}
use Rattle.gv_sggtt.specs.Entries.{Kept}
use Rattle.gv_sggtt.proofs.WrittenSlots.{written-again, written-first, room-left}
use Rattle.gv_sggtt.proofs.entries.Entries.set.Goals as goal

pub invariant_of-self : goal.invariant_of-self
invariant_of-self c =
    let inside = c.self.inside in
    let w = c.self.invariant.0 in
    let there : c.args.slot < length inside.values.items = subst (λ (s : Kept). c.args.slot < length s.values) (sym c.self.view_is) c.requires in
    let flagged : c.args.slot < length inside.is_written.items = let each = w.each in omega arith in
    let was = sym (get_or_read inside.is_written.items c.args.slot _ flagged c.index.ensures false) ∙ c.if-index.true in
    (written-again inside.values.items inside.written.items inside.is_written.items w c.args.slot c.args.value there was, rw length-set c.self.invariant.1)

pub unwrap-requires : goal.unwrap-requires
unwrap-requires c =
    let inside = c.self.inside in
    let w = c.self.invariant.0 in
    let there : c.args.slot < length inside.values.items = subst (λ (s : Kept). c.args.slot < length s.values) (sym c.self.view_is) c.requires in
    let flagged : c.args.slot < length inside.is_written.items = let each = w.each in omega arith in
    let was = sym (get_or_read inside.is_written.items c.args.slot _ flagged c.index.ensures false) ∙ c.if-index.false in
    let room : length inside.written.items < length inside.values.items = room-left inside.values.items inside.written.items inside.is_written.items w c.args.slot c.args.value there was in
    c.push.ensures.succeeds (omega (arith, inside.written.ok.0, c.self.invariant.1))

pub invariant_of-self-2 : goal.invariant_of-self-2
invariant_of-self-2 c =
    let inside = c.self.inside in
    let w = c.self.invariant.0 in
    let there : c.args.slot < length inside.values.items = subst (λ (s : Kept). c.args.slot < length s.values) (sym c.self.view_is) c.requires in
    let flagged : c.args.slot < length inside.is_written.items = let each = w.each in omega arith in
    let was = sym (get_or_read inside.is_written.items c.args.slot _ flagged c.index.ensures false) ∙ c.if-index.false in
    let items = rw c.unwrap.ensures at c.push.ensures.items in
    rw items (
      written-first inside.values.items inside.written.items inside.is_written.items w c.args.slot c.args.value there was,
      rw length-set (omega (arith, c.self.invariant.1, c.push.ensures.capacity)),
    )
