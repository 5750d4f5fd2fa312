use Rattle.std.proofs.Common.{length, arith, ◌<◌, ◌≤◌, ◌*◌, ◌+◌, ◌++◌, ◌∷◌, [], drop, refl, subst}
use Rattle.std.specs.List.{concat}
use Rattle.gv_lines.specs.Outlet.{Passes, got}
use Rattle.gv_machine.specs.Machine.{device_at}
use Rattle.gv_mediator.specs.Tied.{machine_of}
use Rattle.gv_text.specs.Report.{text_of}
use Rattle.gv_machine.specs.Report.{words_said, memory_said}
use Rattle.gv_run.proofs.Saying.{saying-all, saying-more, saying-part, saying-front, saying-done, passes-part}
use Rattle.gv_run.proofs.Memories.{whole-memory}
use Rattle.gv_run.proofs.Words.{words_kept, words_done}
use Rattle.gv_run.proofs.ending.tell_memory.Goals as goal

pub loop-number-init : goal.loop-number-init
loop-number-init g c =
    let m = (device_at (machine_of (g.G.Gpu.state c.args.gpu.now) c.args.mediator.now).devices c.args.guest.0).memory in
    record {
      saying = saying-all c.args.report.now (text_of (memory_said c.args.guest.0 m)) (got c.args.outlet.now (g.K.Sink.held c.args.sink.now));
      later = omega arith;
    }

pub loop-number-preserved : goal.loop-number-preserved
loop-number-preserved g c =
    let d = g.G.Gpu.state c.args.gpu.now in
    let m = (device_at (machine_of d c.args.mediator.now).devices c.args.guest.0).memory in
    let held = g.K.Sink.held in
    let n = c.loop-number.number in
    let who = c.args.guest.0 in
    let within : n < length m * 512 = omega (arith, c.frames.ensures) in
    let kept = c.loop-number.invariant.saying in
    let text = text_of (words_said who (n * 8) (c.memory_word-value.result ∷ [])) in
    let left = text_of (words_said who (n * 8) (drop n (concat m))) in
    let later = text_of (words_said who ((n + 1) * 8) (drop (n + 1) (concat m))) in
    let all = c.args.report.now ++ text_of (memory_said who m) in
    let is = words_kept m who n (whole-memory d (machine_of d c.args.mediator.now) who (c.devices_have_memories.ensures d c.args.mediator.now c.requires.stands.tied) c.requires.there) within
    kept.said (kept.said ++ text) all c.memory_word-value.result c.memory_word-value.ensures refl kept.whole in
    let passes = subst (λ l. Passes l c.pass_to.new.self (got c.loop-number.outlet (held c.loop-number.sink)) (got c.pass_to.new.outlet (held c.pass_to.new.sink))) c.in_ok-tell_word.ensures c.pass_to.ensures.passes in
    record {
      saying = saying-more all left c.loop-number.report (got c.args.outlet.now (held c.args.sink.now)) (got c.loop-number.outlet (held c.loop-number.sink)) kept text later is c.pass_to.new.self (got c.pass_to.new.outlet (held c.pass_to.new.sink)) passes;
      later = omega (arith, c.pass_to.ensures.cause.later);
    }

pub returns-in_err-tell_word-clause-part : goal.returns-in_err-tell_word-clause-part
returns-in_err-tell_word-clause-part g c =
    let m = (device_at (machine_of (g.G.Gpu.state c.args.gpu.now) c.args.mediator.now).devices c.args.guest.0).memory in
    let held = g.K.Sink.held in
    saying-part (c.args.report.now ++ text_of (memory_said c.args.guest.0 m)) _ c.loop-number.report (got c.args.outlet.now (held c.args.sink.now)) (got c.loop-number.outlet (held c.loop-number.sink)) c.loop-number.invariant.saying

pub returns-in_err-pass_to-clause-part : goal.returns-in_err-pass_to-clause-part
returns-in_err-pass_to-clause-part g c =
    let d = g.G.Gpu.state c.args.gpu.now in
    let m = (device_at (machine_of d c.args.mediator.now).devices c.args.guest.0).memory in
    let held = g.K.Sink.held in
    let n = c.loop-number.number in
    let who = c.args.guest.0 in
    let within : n < length m * 512 = omega (arith, c.frames.ensures) in
    let kept = c.loop-number.invariant.saying in
    let text = text_of (words_said who (n * 8) (c.memory_word-value.result ∷ [])) in
    let left = text_of (words_said who (n * 8) (drop n (concat m))) in
    let later = text_of (words_said who ((n + 1) * 8) (drop (n + 1) (concat m))) in
    let all = c.args.report.now ++ text_of (memory_said who m) in
    let is = words_kept m who n (whole-memory d (machine_of d c.args.mediator.now) who (c.devices_have_memories.ensures d c.args.mediator.now c.requires.stands.tied) c.requires.there) within
    kept.said (kept.said ++ text) all c.memory_word-value.result c.memory_word-value.ensures refl kept.whole in
    let passes = subst (λ l. Passes l c.pass_to.new.self (got c.loop-number.outlet (held c.loop-number.sink)) (got c.pass_to.new.outlet (held c.pass_to.new.sink))) c.in_ok-tell_word.ensures c.pass_to.ensures.passes in
    saying-front all left c.loop-number.report (got c.args.outlet.now (held c.args.sink.now)) (got c.loop-number.outlet (held c.loop-number.sink)) kept text later is (got c.pass_to.new.outlet (held c.pass_to.new.sink))
    (passes-part (c.loop-number.report ++ text) c.pass_to.new.self (got c.loop-number.outlet (held c.loop-number.sink)) (got c.pass_to.new.outlet (held c.pass_to.new.sink)) passes)

pub returns-clause-told : goal.returns-clause-told
returns-clause-told g c =
    let d = g.G.Gpu.state c.args.gpu.now in
    let m = (device_at (machine_of d c.args.mediator.now).devices c.args.guest.0).memory in
    let held = g.K.Sink.held in
    let n = c.loop-number.number in
    let who = c.args.guest.0 in
    let past : length m * 512 ≤ n = omega (arith, c.frames.ensures) in
    let kept = c.loop-number.invariant.saying in
    let left = text_of (words_said who (n * 8) (drop n (concat m))) in
    let all = c.args.report.now ++ text_of (memory_said who m) in
    saying-done all left c.loop-number.report (got c.args.outlet.now (held c.args.sink.now)) (got c.loop-number.outlet (held c.loop-number.sink)) kept
    (words_done m who n (whole-memory d (machine_of d c.args.mediator.now) who (c.devices_have_memories.ensures d c.args.mediator.now c.requires.stands.tied) c.requires.there) past kept.said all kept.whole)

pub returns-clause-part : goal.returns-clause-part
returns-clause-part g c =
    let m = (device_at (machine_of (g.G.Gpu.state c.args.gpu.now) c.args.mediator.now).devices c.args.guest.0).memory in
    let held = g.K.Sink.held in
    saying-part (c.args.report.now ++ text_of (memory_said c.args.guest.0 m)) _ c.loop-number.report (got c.args.outlet.now (held c.args.sink.now)) (got c.loop-number.outlet (held c.loop-number.sink)) c.loop-number.invariant.saying
