use Rattle.std.proofs.Common.{ap, Some, ◌≡◌, ◌∙◌}
use Rattle.std.specs.Prelude.{pos, true}
use Rattle.clap.specs.Words.{Rule, rule_of}
use Rattle.clap.specs.declared.builder.value_parser.ValueParser.{ValueParser}
use Rattle.clap.specs.declared.builder.value_parser.ValueParser.TheVariants as parsers
use Rattle.gv_words.proofs.task.number.Goals as goal

pub returns-clause-rule : goal.returns-clause-rule
returns-clause-rule c =
    let given = c.value_parser-2.ensures.given in
    let parser : ValueParser = parsers.Signed (pos 0) (pos 4294967295) in
    let is_parser : c.value_parser-2.result.value_parser ≡ Some parser = given.1 ∙ ap (λ (p : ValueParser). Some p) (given.2 ∙ c.value_parser.ensures) in
    let is : c.value_parser-2.result ≡ record (record c.new.result { required = true }) { value_parser = Some parser } =
    c.value_parser-2.ensures.others ∙ (λ i. record (c.required.ensures i) { value_parser = is_parser i }) in
    ap rule_of is ∙ ap (λ (r : Rule). record r { required = true; parser = Some parser }) c.new.ensures.rule
