-- An arena without pages, and no labels.
use Rattle.std.proofs.Common.{◌≡◌, ℕ, List, [], Option, None, get_or, ap, sym, ◌∙◌}
use Rattle.std.specs.Option.{is_some}
use Rattle.gv_types.specs.declared.ids.Label.{Label}
use Rattle.gv_arena.specs.Contents.{Contents, live, words_at, words_or_none, nothing}
use Rattle.gv_arena.proofs.Nothing.{words_at-nothing, live-nothing}
use Rattle.gv_engine.proofs.pages.Pages.new.Goals as goal

no_label : (labels : List (Option Label)) → labels ≡ [] → (page : ℕ) → get_or labels page None ≡ None
no_label labels e page = ap (λ (ls : List (Option Label)). get_or ls page None) e

no_words : (pages : Contents) → pages ≡ nothing → (page : ℕ) → words_at pages page ≡ None
no_words pages e page = ap (λ (c : Contents). words_at c page) e ∙ words_at-nothing page

pub invariant_of-result-clause-labelled : goal.invariant_of-result-clause-labelled
invariant_of-result-clause-labelled c = λ page.
    ap is_some (no_label c.new-2.result.items c.new-2.ensures.items page) ∙ sym (ap is_some (no_words c.new.result c.new.ensures page))

pub returns : goal.returns
returns c = λ i. record {
  label = λ page. no_label c.new-2.result.items c.new-2.ensures.items page i;
  words = λ page. words_or_none (no_words c.new.result c.new.ensures page i);
  live = (ap live c.new.ensures ∙ live-nothing) i;
}
