-- How a register file is held.
use Rattle.gv_regs.specs.declared.registers.Registers.TheInside.{Inside}
use Rattle.gv_regs.specs.Registers.{RegisterFile}

abbrev pub file_of : Inside → RegisterFile
file_of s = record { guest = s.guest.0; ranges = s.ranges; kept = s.kept }
