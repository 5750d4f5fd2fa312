use Rattle.std.proofs.Common.{◌<◌, ◌≤◌, ◌+◌, ◌++◌, length, drop, refl, arith}
use Rattle.gv_lines.specs.Outlet.{got}
use Rattle.gv_text.specs.Report.{text_of}
use Rattle.gv_machine.specs.Machine.{device_at}
use Rattle.gv_machine.specs.Report.{memory_said, memories_said}
use Rattle.gv_mediator.specs.Tied.{machine_of}
use Rattle.gv_run.proofs.Memories.{memories-kept, memories-done}
use Rattle.gv_run.proofs.Saying.{saying-all, saying-more, saying-front, saying-part, saying-done}
use Rattle.gv_run.proofs.ending.tell_memories.Goals as goal

pub loop-number-init : goal.loop-number-init
loop-number-init g c =
    let m = (machine_of (g.G.Gpu.state c.args.gpu.now) c.args.mediator.now).devices in
    record {
      saying = saying-all c.args.report.now (text_of (memories_said 0 m)) (got c.args.outlet.now (g.K.Sink.held c.args.sink.now));
      later = omega arith;
    }

pub loop-number-preserved : goal.loop-number-preserved
loop-number-preserved g c =
    let m = (machine_of (g.G.Gpu.state c.args.gpu.now) c.args.mediator.now).devices in
    let held = g.K.Sink.held in
    let n = c.loop-number.number in
    let kept = c.loop-number.invariant.saying in
    let there : n < length m = omega (arith, c.requires.all) in
    let text = text_of (memory_said n (device_at m n).memory) in
    let left = text_of (memories_said n (drop n m)) in
    let later = text_of (memories_said (n + 1) (drop (n + 1) m)) in
    let all = c.args.report.now ++ text_of (memories_said 0 m) in
    let is = memories-kept m n there kept.said (kept.said ++ text) all refl kept.whole in
    record {
      saying = saying-more all left c.loop-number.report (got c.args.outlet.now (held c.args.sink.now)) (got c.loop-number.outlet (held c.loop-number.sink)) kept text later is c.tell_memory.new.report (got c.tell_memory.new.outlet (held c.tell_memory.new.sink)) c.in_ok-tell_memory.ensures.told;
      later = omega (arith, c.tell_memory.ensures.later);
    }

pub returns-in_err-tell_memory-clause-part : goal.returns-in_err-tell_memory-clause-part
returns-in_err-tell_memory-clause-part g c =
    let m = (machine_of (g.G.Gpu.state c.args.gpu.now) c.args.mediator.now).devices in
    let held = g.K.Sink.held in
    let n = c.loop-number.number in
    let kept = c.loop-number.invariant.saying in
    let there : n < length m = omega (arith, c.requires.all) in
    let text = text_of (memory_said n (device_at m n).memory) in
    let left = text_of (memories_said n (drop n m)) in
    let later = text_of (memories_said (n + 1) (drop (n + 1) m)) in
    let all = c.args.report.now ++ text_of (memories_said 0 m) in
    let is = memories-kept m n there kept.said (kept.said ++ text) all refl kept.whole in
    saying-front all left c.loop-number.report (got c.args.outlet.now (held c.args.sink.now)) (got c.loop-number.outlet (held c.loop-number.sink)) kept text later is (got c.tell_memory.new.outlet (held c.tell_memory.new.sink)) c.tell_memory.ensures.part

pub returns-clause-told : goal.returns-clause-told
returns-clause-told g c =
    let m = (machine_of (g.G.Gpu.state c.args.gpu.now) c.args.mediator.now).devices in
    let held = g.K.Sink.held in
    let n = c.loop-number.number in
    let kept = c.loop-number.invariant.saying in
    let past : length m ≤ n = omega (arith, c.requires.all) in
    let left = text_of (memories_said n (drop n m)) in
    let all = c.args.report.now ++ text_of (memories_said 0 m) in
    saying-done all left c.loop-number.report (got c.args.outlet.now (held c.args.sink.now)) (got c.loop-number.outlet (held c.loop-number.sink)) kept
    (memories-done m n past kept.said all kept.whole)

pub returns-clause-part : goal.returns-clause-part
returns-clause-part g c =
    let m = (machine_of (g.G.Gpu.state c.args.gpu.now) c.args.mediator.now).devices in
    let held = g.K.Sink.held in
    saying-part (c.args.report.now ++ text_of (memories_said 0 m)) _ c.loop-number.report (got c.args.outlet.now (held c.args.sink.now)) (got c.loop-number.outlet (held c.loop-number.sink)) c.loop-number.invariant.saying
