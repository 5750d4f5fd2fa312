use Rattle.gv_regs.proofs.MaskedBits.{masked_bits}
use Rattle.gv_regs.proofs.registers.masked.Goals as goal

pub returns-clause-bits : goal.returns-clause-bits
returns-clause-bits c = masked_bits c.args.old c.args.value c.ranges.value.fits
