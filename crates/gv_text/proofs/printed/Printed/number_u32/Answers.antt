use Rattle.std.proofs.Common.{arith, ap, length}
use Rattle.gv_text.proofs.Hex.{length-hex_u32}
use Rattle.gv_text.specs.Report.{hex}
use Rattle.gv_text.proofs.printed.Printed.number_u32.Goals as goal

pub digits-requires : goal.digits-requires
digits-requires c = let digits = length-hex_u32 c.args.number (omega arith) in omega (arith, ap (λ n. length (hex n)) c.from.ensures)

pub returns-clause-len : goal.returns-clause-len
returns-clause-len c = let digits = length-hex_u32 c.args.number (omega arith) in omega (arith, ap (λ n. length (hex n)) c.from.ensures)
