use Rattle.std.proofs.Common.{◌++◌, sym, subst}
use Rattle.gv_lines.specs.Outlet.{Passes, got}
use Rattle.gv_lines.proofs.Passing.{passes-trans}
use Rattle.gv_text.specs.Report.{text_of}
use Rattle.gv_machine.specs.Report.{ending_said}
use Rattle.gv_run.specs.Tied.{machine_in}
use Rattle.gv_run.proofs.Guests.{made-of, has-memories}
use Rattle.gv_run.proofs.Saying.{passes-part, passes-all}
use Rattle.gv_run.proofs.run.Run.finish.Goals as goal

pub tell_ending-requires-clause-made : goal.tell_ending-requires-clause-made
tell_ending-requires-clause-made g c = λ is. made-of (g.G.Gpu.state c.args.gpu.now) c.args.self.now.known c.args.self.now.stage c.requires.agrees (c.requires.made is)

pub tell_ending-requires-clause-all : goal.tell_ending-requires-clause-all
tell_ending-requires-clause-all g c = sym c.requires.agrees.guests.count

pub returns-in_err-flush_to-clause-part : goal.returns-in_err-flush_to-clause-part
returns-in_err-flush_to-clause-part g c =
    let held = g.K.Sink.held in
    let d = g.G.Gpu.state c.args.gpu.now in
    let all = c.args.self.now.report ++ text_of (ending_said c.args.ending (machine_in d c.args.self.now.stage)) in
    passes-part all c.flush_to.new.self (got c.args.outlet.now (held c.args.sink.now)) (got c.flush_to.new.outlet (held c.flush_to.new.sink))
    (passes-trans all c.tell_ending.new.report c.flush_to.new.self (got c.args.outlet.now (held c.args.sink.now)) (got c.tell_ending.new.outlet (held c.tell_ending.new.sink)) (got c.flush_to.new.outlet (held c.flush_to.new.sink)) c.in_ok-tell_ending.ensures.told c.flush_to.ensures.passes)

pub returns-clause-told : goal.returns-clause-told
returns-clause-told g c =
    let held = g.K.Sink.held in
    let d = g.G.Gpu.state c.args.gpu.now in
    let all = c.args.self.now.report ++ text_of (ending_said c.args.ending (machine_in d c.args.self.now.stage)) in
    let a = got c.args.outlet.now (held c.args.sink.now) in
    let passes = passes-trans all c.tell_ending.new.report c.flush_to.new.self a (got c.tell_ending.new.outlet (held c.tell_ending.new.sink)) (got c.flush_to.new.outlet (held c.flush_to.new.sink)) c.in_ok-tell_ending.ensures.told c.flush_to.ensures.passes in
    passes-all all a (got c.flush_to.new.outlet (held c.flush_to.new.sink)) (subst (λ l. Passes all l a (got c.flush_to.new.outlet (held c.flush_to.new.sink))) c.in_ok-flush_to.ensures.ok passes)

pub returns-clause-part : goal.returns-clause-part
returns-clause-part g c =
    let held = g.K.Sink.held in
    let d = g.G.Gpu.state c.args.gpu.now in
    let all = c.args.self.now.report ++ text_of (ending_said c.args.ending (machine_in d c.args.self.now.stage)) in
    passes-part all c.flush_to.new.self (got c.args.outlet.now (held c.args.sink.now)) (got c.flush_to.new.outlet (held c.flush_to.new.sink))
    (passes-trans all c.tell_ending.new.report c.flush_to.new.self (got c.args.outlet.now (held c.args.sink.now)) (got c.tell_ending.new.outlet (held c.tell_ending.new.sink)) (got c.flush_to.new.outlet (held c.flush_to.new.sink)) c.in_ok-tell_ending.ensures.told c.flush_to.ensures.passes)

pub returns-in_err-tell_ending-clause-memories : goal.returns-in_err-tell_ending-clause-memories
returns-in_err-tell_ending-clause-memories g c = λ is.
    let d = g.G.Gpu.state c.args.gpu.now in
    has-memories d c.args.self.now.stage c.devices_have_memories.ensures (made-of d c.args.self.now.known c.args.self.now.stage c.requires.agrees (c.requires.made is))

pub returns-in_err-flush_to-clause-memories : goal.returns-in_err-flush_to-clause-memories
returns-in_err-flush_to-clause-memories g c = λ is.
    let d = g.G.Gpu.state c.args.gpu.now in
    has-memories d c.args.self.now.stage c.devices_have_memories.ensures (made-of d c.args.self.now.known c.args.self.now.stage c.requires.agrees (c.requires.made is))

pub returns-clause-memories : goal.returns-clause-memories
returns-clause-memories g c = λ is.
    let d = g.G.Gpu.state c.args.gpu.now in
    has-memories d c.args.self.now.stage c.devices_have_memories.ensures (made-of d c.args.self.now.known c.args.self.now.stage c.requires.agrees (c.requires.made is))
