use Rattle.std.proofs.Common.{sym, ap, ◌∙◌}
use Rattle.gv_private.specs.Device.{PrivateDevice, quietly}
use Rattle.gv_private.specs.Submission.{list_submitted, port_written}
use Rattle.gv_mmio.specs.Port.{writes_of}
use Rattle.gv_mmio.specs.Mmio.{behind, ports_at}
use Rattle.gv_mmio.proofs.Ported.{port-full, port-more, submits-same}
use Rattle.gv_mmio.proofs.mmio.Mmio.write_port.Goals as goal

pub returns-in-Some-clause-wrote : goal.returns-in-Some-clause-wrote
returns-in-Some-clause-wrote c = λ p.
    let writes = writes_of (ports_at c.args.self.now c.args.engine.0).port in
    let list = c.in-Some.list in
    let engine = c.args.engine.0 in
    submits-same (port_written (behind p c.args.self.now) engine c.args.value) (list_submitted (behind p c.take_write.new.self) engine list.first list.second) (behind p c.submit.new.self) engine c.submit.result
    (port-full writes c.args.value (behind p c.args.self.now) engine list (sym c.take_write.ensures.list ∙ c.in-Some.is)
    ∙ ap (λ (q : PrivateDevice). list_submitted q engine list.first list.second) (sym (c.take_write.ensures.device p)))
    (c.submit.ensures.wrote p)

pub returns-in-None-clause-wrote : goal.returns-in-None-clause-wrote
returns-in-None-clause-wrote c = λ p.
    let writes = writes_of (ports_at c.args.self.now c.args.engine.0).port in
    port-more writes c.args.value (behind p c.args.self.now) c.args.engine.0 (sym c.take_write.ensures.list ∙ c.in-None.is)
    ∙ ap quietly (sym (c.take_write.ensures.device p))
