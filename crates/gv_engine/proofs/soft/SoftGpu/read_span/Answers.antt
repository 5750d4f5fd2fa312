use Rattle.std.proofs.Common.{ℕ, ◌%◌, ◌+◌, ◌∙◌, sym, ap, arith, List}
use Rattle.gv_engine.specs.Pages.{byte_in}
use Rattle.gv_engine.specs.Whole.{whole}
use Rattle.gv_engine.proofs.RowLemmas.{byte-absent, byte-there}
use Rattle.gv_engine.proofs.soft.SoftGpu.read_span.Goals as goal

pub returns-in-None-clause-bytes : goal.returns-in-None-clause-bytes
returns-in-None-clause-bytes c = λ k h.
    c.clear_bytes.ensures.bytes k h ∙ sym (byte-absent (whole c.args.self.now) c.args.context.now.root c.args.at k (omega (arith, c.requires.page)) (sym c.in-None.is ∙ c.reading-reached.ensures.page))

pub returns-in-Some-clause-bytes : goal.returns-in-Some-clause-bytes
returns-in-Some-clause-bytes c = λ k h.
    c.read_bytes.ensures.bytes k h ∙ ap (λ (words : List ℕ). byte_in words (c.args.at % 4096 + k)) c.words.ensures.words
    ∙ sym (byte-there (whole c.args.self.now) c.args.context.now.root c.args.at k (omega (arith, c.requires.page)) c.in-Some.page (sym c.in-Some.is ∙ c.reading-reached.ensures.page))
