use Rattle.std.proofs.Common.{◌/◌, ◌%◌, ◌+◌, ◌<◌, ◌≤◌, length, ◌∙◌, arith}
use Rattle.gv_arena.proofs.Overwriting.{piece_inside, piece_below, piece_above, words_set}
use Rattle.gv_arena.proofs.row.copy_piece.Goals as goal

pub returns-clause-words : goal.returns-clause-words
returns-clause-words c = words_set c.args.target.now (c.args.to / 8) c.with_bytes.result (omega (arith, c.told-target, c.requires.to, c.requires.piece.0)) c.with_bytes.type_inv c.fits-target

pub returns-clause-copied : goal.returns-clause-copied
returns-clause-copied c =
    let ws = c.args.target.now in
    let to = c.args.to in
    let n = c.args.count in
    let within : to / 8 < length ws = omega (arith, c.told-target, c.requires.to, c.requires.piece.0) in
    let fits : to % 8 + n ≤ 8 = c.requires.piece.1 in
    record {
      copied = λ m lt. piece_inside ws to n c.word_at-value.result c.with_bytes.result within fits c.with_bytes.ensures m lt ∙ c.word_at-value.ensures m (omega (arith, fits));
      before = piece_below ws to n c.word_at-value.result c.with_bytes.result within fits c.with_bytes.ensures;
      after = piece_above ws to n c.word_at-value.result c.with_bytes.result within fits c.with_bytes.ensures;
    }
