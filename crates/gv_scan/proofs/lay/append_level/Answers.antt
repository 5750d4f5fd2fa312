use Rattle.std.proofs.Common.{ℕ, Some, sym, subst, length, false}
use Rattle.gv_scan.specs.Listed.{BatchLaid, ListsBatch, LevelLists, LevelLaid}
use Rattle.gv_scan.specs.declared.lay.Level.{Level}
use Rattle.gv_scan.proofs.Joined.{level-few, level-laid}
use Rattle.gv_scan.proofs.lay.append_level.Goals as goal

pub first_level-requires-clause-few : goal.first_level-requires-clause-few
first_level-requires-clause-few c =
    level-few c.in-Fetched.words (length c.args.batches.now.items) (let P : Level → Type 0 = λ level. LevelLists (Some level) (length c.args.batches.now.items) in subst P c.in-Fetched.is c.requires.lists)

pub returns-in_ok-offset-in-Fetched : goal.returns-in_ok-offset-in-Fetched
returns-in_ok-offset-in-Fetched c =
    let before = c.args.batches.now.items in
    let after = c.first_level.new.batches.items in
    let at = c.in_ok-offset-in-Fetched.field-0-1 in
    let words = c.in-Fetched.words in
    let P : Level → Type 0 = λ level. (l : LevelLists (Some level) (length before)) → LevelLaid l.left before after (Some record { at = c.from.result; live = false }) in
    let Q : ℕ → Type 0 = λ offset. (b : ListsBatch words.now 0) → BatchLaid words.now 0 at offset before after b in
    record { laid = subst P (sym c.in-Fetched.is) (level-laid words at c.from.result before after (subst Q (sym c.from.ensures) c.in_ok-offset-in-Fetched.ensures.laid)) }
