use Rattle.std.proofs.Common.{◌∙◌}
use Rattle.gv_text.proofs.Hex.{hex-one}
use Rattle.gv_text.proofs.printed.Printed.of_digit.Goals as goal

pub returns-clause-value : goal.returns-clause-value
returns-clause-value c = c.of_word.ensures ∙ hex-one c.args.number c.glyph.result c.requires c.glyph.ensures
