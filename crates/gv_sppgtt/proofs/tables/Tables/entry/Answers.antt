use Rattle.std.proofs.Common.{◌≡◌, ◌<◌, length, get_or, sym, ap, ◌∙◌, subst}
use Rattle.std.proofs.lemmas.List.{length-map}
use Rattle.gv_entry.specs.Entry.{process_entry}
use Rattle.gv_entry.specs.Tables.{frame_words}
use Rattle.gv_guest.specs.Placed.{memory_in}
use Rattle.gv_sppgtt.proofs.Poked.{read-entry}
use Rattle.gv_sppgtt.proofs.tables.Tables.entry.Goals as goal

pub returns : goal.returns
returns g c =
    let d = g.G.Gpu.state c.args.gpu.now in
    let m = memory_in d c.args.frames.now in
    let long : length m ≡ length c.args.frames.now.pages = length-map c.args.frames.now.pages d.words in
    let read = rw (c.from.ensures, c.from-2.ensures) at c.read.ensures in
    let word = read ∙ read-entry m c.args.frame c.args.index (subst (λ n. c.args.frame < n) (sym long) c.requires.frame) c.requires.within in
    c.process_of.ensures ∙ ap (λ w. process_entry w c.args.level c.count.result) word ∙ ap (λ n. process_entry (get_or (frame_words m c.args.frame) c.args.index 0) c.args.level n) (c.count.ensures ∙ sym long)
