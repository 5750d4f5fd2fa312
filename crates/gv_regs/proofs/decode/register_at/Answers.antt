use Rattle.std.proofs.Common.{sym, ap, subst, arith}
use Rattle.std.proofs.lemmas.Bool.Decides.{nat_tests}
use Rattle.gv_regs.specs.Table.{target_of}
use Rattle.gv_regs.specs.Decoded.{StandsAt}
use Rattle.gv_regs.proofs.Found.{row_at-unaligned, engine_stands, shared_stands}
use Rattle.gv_regs.proofs.decode.register_at.Goals as goal

pub returns-then-offset-ne0 : goal.returns-then-offset-ne0
returns-then-offset-ne0 c = ap (λ row. target_of row c.args.offset) (row_at-unaligned c.args.offset (grind (arith, nat_tests)))

pub returns-in-Some : goal.returns-in-Some
returns-in-Some c = subst (StandsAt c.args.offset) (sym c.register_in.ensures) (engine_stands c.args.offset c.in-Some.engine.0 (omega arith) c.in-Some.ensures)

pub returns-in-None : goal.returns-in-None
returns-in-None c = subst (StandsAt c.args.offset) (sym c.register_in-in-None.ensures) (shared_stands c.args.offset (omega arith) c.in-None.ensures)
