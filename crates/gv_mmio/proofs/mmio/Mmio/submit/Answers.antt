use Rattle.std.proofs.Common.{◌≡◌, false, refl, sym, ap, ◌∙◌}
use Rattle.gv_csb.specs.Slots.{submitted, submission_answer}
use Rattle.gv_private.specs.Device.{with_slots}
use Rattle.gv_private.specs.Submission.{starting_events}
use Rattle.gv_mmio.specs.Mmio.{behind, ports_at}
use Rattle.gv_mmio.proofs.Ported.{list-starts, list-waits}
use Rattle.gv_csb.specs.declared.slots.Submitted.TheVariants.{Accepted}
use Rattle.gv_mmio.proofs.mmio.Mmio.submit.Goals as goal

pub returns-in-Accepted-true-clause-wrote : goal.returns-in-Accepted-true-clause-wrote
returns-in-Accepted-true-clause-wrote c = λ p.
    let slots = (ports_at c.args.self.now c.args.engine.0).slots in
    let first = c.args.list.first in (
      refl,
      list-starts (with_slots (behind p c.args.self.now) c.args.engine.0 (submitted slots first c.args.list.second)) (behind p c.enqueue.new.self) c.args.engine.0 (submission_answer slots first)
          (c.enqueue.ensures.device p) (sym c.enqueue.ensures.answer ∙ cc),
    )

pub returns-in-Accepted-false-clause-wrote : goal.returns-in-Accepted-false-clause-wrote
returns-in-Accepted-false-clause-wrote c = λ p.
    let slots = (ports_at c.args.self.now c.args.engine.0).slots in
    let first = c.args.list.first in
    list-waits (with_slots (behind p c.args.self.now) c.args.engine.0 (submitted slots first c.args.list.second)) (behind p c.enqueue.new.self) c.args.engine.0 (submission_answer slots first)
    (c.enqueue.ensures.device p) (ap starting_events (let is : submission_answer slots first ≡ Accepted false = cc in is))

pub returns-in-Dropped-clause-wrote : goal.returns-in-Dropped-clause-wrote
returns-in-Dropped-clause-wrote c = λ p.
    let slots = (ports_at c.args.self.now c.args.engine.0).slots in
    let first = c.args.list.first in
    list-waits (with_slots (behind p c.args.self.now) c.args.engine.0 (submitted slots first c.args.list.second)) (behind p c.enqueue.new.self) c.args.engine.0 (submission_answer slots first)
    (c.enqueue.ensures.device p) (ap starting_events (sym c.enqueue.ensures.answer ∙ c.in-Dropped.is))
