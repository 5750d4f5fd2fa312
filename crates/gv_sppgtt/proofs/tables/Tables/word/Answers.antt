use Rattle.std.proofs.Common.{◌≡◌, ◌+◌, ◌<◌, get_or, length, sym, subst}
use Rattle.std.proofs.lemmas.List.{length-map}
use Rattle.gv_entry.specs.Tables.{frame_words}
use Rattle.gv_guest.specs.Placed.{memory_in}
use Rattle.gv_sppgtt.proofs.BadEntries.{large-is, below-large}
use Rattle.gv_sppgtt.proofs.tables.Tables.word.Goals as goal

pub returns-in-Large-clause-form : goal.returns-in-Large-clause-form
returns-in-Large-clause-form g c =
    let d = g.G.Gpu.state c.args.gpu.now in
    let m = memory_in d c.args.frames.now in
    let long : length m ≡ length c.args.frames.now.pages = length-map c.args.frames.now.pages d.words in
    let is = large-is (get_or (frame_words m c.args.frame) c.args.index 0) c.args.level (length m) c.in-Large.to c.in-Large.writable (sym c.in-Large.ensures) in
    below-large (length c.args.frames.now.pages) c.args.level c.in-Large.to c.split_level.result c.in-Large.writable c.split_level.ensures is.0 is.1.0 (subst (λ n. c.in-Large.to + 511 < n) long is.1.1)
