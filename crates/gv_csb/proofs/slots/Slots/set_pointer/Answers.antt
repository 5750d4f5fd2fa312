use Rattle.std.proofs.Common.{arith, bit_and, ◌/◌}
use Rattle.std.proofs.lemmas.Nat.{and_le_r}
use Rattle.gv_csb.proofs.Masked.{masked_below}
use Rattle.gv_csb.proofs.slots.Slots.set_pointer.Goals as goal

pub invariant_of-self : goal.invariant_of-self
invariant_of-self c =
    let was = c.self.invariant in
    record {
      running = was.running;
      pending = was.pending;
      behind = was.behind;
      valid = was.valid;
      pairs = was.pairs;
      write = was.write;
      read = masked_below c.self.inside.read (bit_and (c.args.value / 256) 7) (bit_and (c.args.value / 16777216) 7) was.read (omega (arith, and_le_r (c.args.value / 256) 7));
    }
