use Rattle.std.proofs.Common.{ap, sym, ◌∙◌, get_or, ◌+◌}
use Rattle.std.specs.Option.{is_some}
use Rattle.gv_engine.specs.Held.{held}
use Rattle.gv_engine.specs.Pages.{Held, bytes_put}
use Rattle.gv_engine.proofs.PagesLemmas.{with_words-own, put-step}
use Rattle.gv_engine.proofs.pages.Pages.store_bytes.Goals as goal

pub loop-n-init : goal.loop-n-init
unfolding bytes_put
loop-n-init c = sym (with_words-own (held c.args.self.now) c.args.page)

pub word-requires-clause-live : goal.word-requires-clause-live
word-requires-clause-live c = ap (λ (h : Held). is_some (h.label c.args.page)) c.loop-n.invariant ∙ c.requires.live

pub loop-n-preserved : goal.loop-n-preserved
loop-n-preserved c =
    put-step (held c.args.self.now) (held c.loop-n.self) (held c.set_word.new.self) c.args.page c.args.at c.loop-n.n c.word.result c.with_byte-word.result (λ k. get_or c.args.row.now (c.args.from + k) 0)
    c.loop-n.invariant c.word.ensures c.with_byte-word.ensures c.set_word.ensures

pub set_word-requires-clause-live : goal.set_word-requires-clause-live
set_word-requires-clause-live c = ap (λ (h : Held). is_some (h.label c.args.page)) c.loop-n.invariant ∙ c.requires.live
