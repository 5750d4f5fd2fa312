use Rattle.std.proofs.Common.{◌∷◌, ◌++◌, ap, ◌∙◌}
use Rattle.gv_text.proofs.Hex.{hex-one}
use Rattle.gv_text.proofs.printed.Printed.digit.Goals as goal

pub returns-clause-value : goal.returns-clause-value
returns-clause-value c = c.word.ensures.value ∙ ap (λ w. c.args.self.now ++ 32 ∷ w) (hex-one c.args.number c.glyph.result c.requires.small c.glyph.ensures)
