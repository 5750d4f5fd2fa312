-- How the registers are held.
use Rattle.gv_irq.specs.declared.group.Group.{Group as Held}
use Rattle.gv_irq.specs.declared.irq.Irq.TheInside.{Inside}
use Rattle.gv_irq.specs.Irq.{Group, Interrupts}

abbrev pub group_of : Held → Group
group_of g = record { imr = g.imr; iir = g.iir; ier = g.ier }

abbrev pub interrupts_of : Inside → Interrupts
interrupts_of s = record { master = s.master; zero = group_of s.zero; one = group_of s.one; three = group_of s.three }
