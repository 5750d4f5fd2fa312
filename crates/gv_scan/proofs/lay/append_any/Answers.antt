use Rattle.std.proofs.Common.{Option, Some, sym, subst, length}
use Rattle.gv_scan.specs.Listed.{LevelLists, LevelLaid}
use Rattle.gv_scan.specs.declared.lay.Level.{Level}
use Rattle.gv_scan.proofs.lay.append_any.Goals as goal

pub returns-in_ok-place-in-Some : goal.returns-in_ok-place-in-Some
returns-in_ok-place-in-Some c =
    let before = c.args.batches.now.items in
    let P : Option Level → Type 0 = λ level. (l : LevelLists level (length before)) → LevelLaid l.left before c.append_level.new.batches.items (Some c.in_ok-place-in-Some.place) in
    record { laid = subst P (sym c.in-Some.is) c.in_ok-place-in-Some.ensures.laid }
