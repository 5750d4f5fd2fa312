use Rattle.std.proofs.Common.{arith}
use Rattle.gv_text.proofs.Hex.{length-hex_u64}
use Rattle.gv_text.proofs.printed.Printed.number.Goals as goal

pub digits-requires : goal.digits-requires
digits-requires c = omega (arith, length-hex_u64 c.args.number (omega arith))

pub returns-clause-len : goal.returns-clause-len
returns-clause-len c = omega (arith, length-hex_u64 c.args.number (omega arith), c.digits.ensures.len)
