-- The word after the last one is as if 0, as a list is past its end.
use Rattle.std.proofs.Common.{◌≡◌, ◌+◌, ◌/◌, ◌∙◌, get_or, sym, ap, arith}
use Rattle.std.proofs.lemmas.List.{get_or_past}
use Rattle.std.specs.Int.{byte_at}
use Rattle.gv_arena.proofs.PageBytes.{window_reads}
use Rattle.gv_arena.proofs.row.word_at.Goals as goal
use Rattle.gv_arena.proofs.row.word_at.Goals.{then-index-lt-PAGE_WORDS, else-index-lt-PAGE_WORDS}

pub returns : goal.returns
returns c i small =
    let words = c.args.words.now in
    let next : c.if-index-lt-PAGE_WORDS.next ≡ get_or words (c.args.at / 8 + 1) 0 = elim c.if-index-lt-PAGE_WORDS.branch [
      | then-index-lt-PAGE_WORDS w ↦ w.next-is
      | else-index-lt-PAGE_WORDS w ↦ w.next-is ∙ sym (get_or_past words (c.args.at / 8 + 1) 0 (omega (arith, w.if-index-lt-PAGE_WORDS.false, c.told-words)))
    ] in
    ap (byte_at i) c.window.ensures ∙ window_reads words c.told-words c.fits-words c.args.at c.if-index-lt-PAGE_WORDS.next c.requires next i small
