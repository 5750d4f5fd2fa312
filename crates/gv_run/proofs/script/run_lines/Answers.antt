use Rattle.std.proofs.Common.{◌+◌, [], length, refl, ap, sym, ◌∙◌, subst, arith}
use Rattle.gv_text.specs.Script.{script_limit-is, accepted}
use Rattle.gv_text.specs.declared.known.Known.{Known}
use Rattle.gv_lines.specs.Reader.{ReaderState, HandsOut, IsOneLine, bytes_of}
use Rattle.gv_lines.specs.declared.next.Next.{Next}
use Rattle.gv_run.specs.Tied.{machine_in}
use Rattle.gv_run.proofs.Streaming.{Reading, reading-start, reading-begun, reading-still, reading-held, reading-passed, reading-taken, reading-fault, reading-ends, reading-refused, reading-ended, reading-began, reading-last, reading-began_last, reading-more, is_last-true, is_line, fewer-left, number-more}
use Rattle.gv_run.proofs.EventLines.{end-known}
use Rattle.gv_run.proofs.Guests.{first-machine}
use Rattle.gv_run.proofs.script.run_lines.Goals as goal

pub loop-next-init : goal.loop-next-init
loop-next-init g c =
    let d = g.G.Gpu.state c.args.gpu.now in
    let none = first-machine d c.args.run.now.stage c.requires.stage in
    let held = ap (λ (s : ReaderState). length s.held) c.requires.reader in
    let taken = ap (λ (s : ReaderState). s.taken) c.requires.reader in
    record {
      agrees = c.requires.agrees;
      reading = reading-start d (g.K.Sink.held c.args.sink.now) (g.S.Source.left c.args.source.now) c.args.reader.now c.args.run.now.known (machine_in d c.args.run.now.stage) c.args.run.now.report c.requires.reader c.requires.known none c.requires.report;
      numbered = omega arith;
      within = omega arith;
      limit = ap (λ (s : ReaderState). s.limit) c.requires.reader;
      strays = refl;
      quiet = refl;
      reads = omega arith;
      writes = omega arith;
    }

-- ---- the source fails

pub returns-in_err-flush-clause-begun : goal.returns-in_err-flush-clause-begun
returns-in_err-flush-clause-begun g c =
    reading-begun (reading-passed c.loop-next.invariant.reading c.flush.new.self (g.K.Sink.held c.flush.new.sink) c.flush.ensures.passes)

pub returns-in_err-flush-clause-taken : goal.returns-in_err-flush-clause-taken
returns-in_err-flush-clause-taken g c =
    reading-taken c.loop-next.invariant.reading c.advance.new.self (g.S.Source.left c.advance.new.source) [] c.in_default.ensures.hands_out c.advance.ensures.bound

pub returns-in_default-clause-fault : goal.returns-in_default-clause-fault
returns-in_default-clause-fault g c = λ stop.
    reading-fault c.loop-next.invariant.reading c.advance.new.self (g.S.Source.left c.advance.new.source) c.in_default.ensures.hands_out c.in_default.ensures.nothing_held
    c.flush.new.self c.in_ok-flush.ensures.ok (g.K.Sink.held c.flush.new.sink) c.flush.ensures.passes

pub returns-in_default-clause-begun : goal.returns-in_default-clause-begun
returns-in_default-clause-begun g c =
    reading-begun (reading-passed c.loop-next.invariant.reading c.flush.new.self (g.K.Sink.held c.flush.new.sink) c.flush.ensures.passes)

pub returns-in_default-clause-taken : goal.returns-in_default-clause-taken
returns-in_default-clause-taken g c =
    reading-taken c.loop-next.invariant.reading c.advance.new.self (g.S.Source.left c.advance.new.source) [] c.in_default.ensures.hands_out c.advance.ensures.bound

-- ---- no line comes

pub returns-in-Some-clause-done : goal.returns-in-Some-clause-done
returns-in-Some-clause-done g c =
    reading-ends c.loop-next.invariant.reading c.advance.new.self (g.S.Source.left c.advance.new.source) c.in-Ok.next c.in-Ok.ensures.tells
    c.in-Some.ending (sym c.ending_at.ensures ∙ c.in-Some.is) c.loop-next.run.stage refl

pub returns-in-Some-clause-begun : goal.returns-in-Some-clause-begun
returns-in-Some-clause-begun g c = reading-begun c.loop-next.invariant.reading

pub returns-in-Some-clause-taken : goal.returns-in-Some-clause-taken
returns-in-Some-clause-taken g c =
    reading-taken c.loop-next.invariant.reading c.advance.new.self (g.S.Source.left c.advance.new.source) _ c.in-Ok.ensures.hands_out c.advance.ensures.bound

-- ---- a line comes

pub returns-in_default-accepted-clause-done : goal.returns-in_default-accepted-clause-done
returns-in_default-accepted-clause-done g c =
    let is = ap (accepted c.loop-next.run.known) (sym c.line-bytes.ensures) ∙ sym c.accepted.ensures.value ∙ c.in_default-accepted.is in
    reading-refused c.loop-next.invariant.reading c.advance.new.self (g.S.Source.left c.advance.new.source) c.in-Ok.next c.in-Ok.ensures.tells
    (sym c.ending_at.ensures ∙ c.in_default-ending_at.is) is c.loop-next.run.stage refl

pub returns-in_default-accepted-clause-begun : goal.returns-in_default-accepted-clause-begun
returns-in_default-accepted-clause-begun g c = reading-begun c.loop-next.invariant.reading

pub returns-in_default-accepted-clause-taken : goal.returns-in_default-accepted-clause-taken
returns-in_default-accepted-clause-taken g c =
    reading-taken c.loop-next.invariant.reading c.advance.new.self (g.S.Source.left c.advance.new.source) _ c.in-Ok.ensures.hands_out c.advance.ensures.bound

pub end-requires-clause-some : goal.end-requires-clause-some
end-requires-clause-some g c = end-known c.loop-next.run.known c.in-Some-accepted.line (sym c.is_end.ensures ∙ c.if-is_end.true) c.in-Some-accepted.ensures.accepts

pub returns-in_err-end-clause-begun : goal.returns-in_err-end-clause-begun
returns-in_err-end-clause-begun g c = reading-begun (reading-still c.loop-next.invariant.reading (g.G.Gpu.state c.end.new.gpu) c.end.ensures.ran)

pub returns-in_err-end-clause-taken : goal.returns-in_err-end-clause-taken
returns-in_err-end-clause-taken g c =
    reading-taken c.loop-next.invariant.reading c.advance.new.self (g.S.Source.left c.advance.new.source) _ c.in-Ok.ensures.hands_out c.advance.ensures.bound

pub returns-then-is_end-clause-done : goal.returns-then-is_end-clause-done
returns-then-is_end-clause-done g c =
    let is = ap (accepted c.loop-next.run.known) (sym c.line-bytes.ensures) ∙ sym c.accepted.ensures.value ∙ c.in-Some-accepted.is in
    let later = reading-held (reading-still c.loop-next.invariant.reading (g.G.Gpu.state c.end.new.gpu) c.end.ensures.ran) c.end.new.self.report c.end.ensures.report in
    reading-ended later c.advance.new.self (g.S.Source.left c.advance.new.source) c.in-Ok.next c.in-Ok.ensures.tells
    (sym c.ending_at.ensures ∙ c.in_default-ending_at.is) c.in-Some-accepted.line is (sym c.is_end.ensures ∙ c.if-is_end.true) c.end.new.self.stage (sym c.in_ok-end.ensures.machine)

pub returns-then-is_end-clause-begun : goal.returns-then-is_end-clause-begun
returns-then-is_end-clause-begun g c = reading-begun (reading-still c.loop-next.invariant.reading (g.G.Gpu.state c.end.new.gpu) c.end.ensures.ran)

pub returns-then-is_end-clause-taken : goal.returns-then-is_end-clause-taken
returns-then-is_end-clause-taken g c =
    reading-taken c.loop-next.invariant.reading c.advance.new.self (g.S.Source.left c.advance.new.source) _ c.in-Ok.ensures.hands_out c.advance.ensures.bound

pub returns-in_err-line-clause-begun : goal.returns-in_err-line-clause-begun
returns-in_err-line-clause-begun g c =
    let is = ap (accepted c.loop-next.run.known) (sym c.line-bytes.ensures) ∙ sym c.accepted.ensures.value ∙ c.in-Some-accepted.is in
    reading-began c.loop-next.invariant.reading c.advance.new.self (g.S.Source.left c.advance.new.source) c.in-Ok.next c.in-Ok.ensures.tells
    (sym c.ending_at.ensures ∙ c.in_default-ending_at.is) c.in-Some-accepted.line is (sym c.is_end.ensures ∙ c.if-is_end.false) (g.G.Gpu.state c.line.new.gpu) c.in_err-line.ensures.runs.part

pub returns-in_err-line-clause-taken : goal.returns-in_err-line-clause-taken
returns-in_err-line-clause-taken g c =
    reading-taken c.loop-next.invariant.reading c.advance.new.self (g.S.Source.left c.advance.new.source) _ c.in-Ok.ensures.hands_out c.advance.ensures.bound

pub returns-in_err-pass_on-clause-begun : goal.returns-in_err-pass_on-clause-begun
returns-in_err-pass_on-clause-begun g c =
    let is = ap (accepted c.loop-next.run.known) (sym c.line-bytes.ensures) ∙ sym c.accepted.ensures.value ∙ c.in-Some-accepted.is in
    let done = c.in_ok-line.ensures.runs.done in
    reading-began_last c.loop-next.invariant.reading c.advance.new.self (g.S.Source.left c.advance.new.source) c.in-Ok.next c.in-Ok.ensures.tells
    (sym c.ending_at.ensures ∙ c.in_default-ending_at.is) c.in-Some-accepted.line is (sym c.is_end.ensures ∙ c.if-is_end.false)
    _ c.line.new.self.report (g.G.Gpu.state c.line.new.gpu) done.machine done.report done.ran c.pass_on.new.self (g.K.Sink.held c.pass_on.new.sink) c.pass_on.ensures.passes

pub returns-in_err-pass_on-clause-taken : goal.returns-in_err-pass_on-clause-taken
returns-in_err-pass_on-clause-taken g c =
    reading-taken c.loop-next.invariant.reading c.advance.new.self (g.S.Source.left c.advance.new.source) _ c.in-Ok.ensures.hands_out c.advance.ensures.bound

pub overflow_add-number : goal.overflow_add-number
overflow_add-number g c = omega (arith, script_limit-is)

-- ---- the last line, which has no line feed

pub returns-then-is_last-clause-done : goal.returns-then-is_last-clause-done
returns-then-is_last-clause-done g c =
    let is = ap (accepted c.loop-next.run.known) (sym c.line-bytes.ensures) ∙ sym c.accepted.ensures.value ∙ c.in-Some-accepted.is in
    let done = c.in_ok-line.ensures.runs.done in
    reading-last c.loop-next.invariant.reading c.advance.new.self (g.S.Source.left c.advance.new.source) c.in-Ok.next c.in-Ok.ensures.tells
    (sym c.ending_at.ensures ∙ c.in_default-ending_at.is) c.in-Some-accepted.line is (sym c.is_end.ensures ∙ c.if-is_end.false)
    _ c.line.new.self.report (g.G.Gpu.state c.line.new.gpu) done.machine done.report done.ran
    (is_last-true c.in-Ok.next (sym c.is_last.ensures ∙ c.if-is_last.true)) c.pass_on.new.self (g.K.Sink.held c.pass_on.new.sink) c.pass_on.ensures.passes c.line.new.self.stage refl

pub returns-then-is_last-clause-begun : goal.returns-then-is_last-clause-begun
returns-then-is_last-clause-begun g c =
    let is = ap (accepted c.loop-next.run.known) (sym c.line-bytes.ensures) ∙ sym c.accepted.ensures.value ∙ c.in-Some-accepted.is in
    let done = c.in_ok-line.ensures.runs.done in
    reading-began_last c.loop-next.invariant.reading c.advance.new.self (g.S.Source.left c.advance.new.source) c.in-Ok.next c.in-Ok.ensures.tells
    (sym c.ending_at.ensures ∙ c.in_default-ending_at.is) c.in-Some-accepted.line is (sym c.is_end.ensures ∙ c.if-is_end.false)
    _ c.line.new.self.report (g.G.Gpu.state c.line.new.gpu) done.machine done.report done.ran c.pass_on.new.self (g.K.Sink.held c.pass_on.new.sink) c.pass_on.ensures.passes

pub returns-then-is_last-clause-taken : goal.returns-then-is_last-clause-taken
returns-then-is_last-clause-taken g c =
    reading-taken c.loop-next.invariant.reading c.advance.new.self (g.S.Source.left c.advance.new.source) _ c.in-Ok.ensures.hands_out c.advance.ensures.bound

-- ---- the next round

pub loop-next-smaller : goal.loop-next-smaller
loop-next-smaller g c =
    let t = c.advance.new.self in
    let line = is_line c.in-Ok.next c.loop-next.number (sym c.ending_at.ensures ∙ c.in_default-ending_at.is) (sym c.is_last.ensures ∙ c.if-is_last.false) in
    let hands = subst (λ (next : Next). HandsOut c.loop-next.reader t (g.S.Source.left c.loop-next.source) (g.S.Source.left c.advance.new.source) (bytes_of next t.line)) line c.in-Ok.ensures.hands_out in
    fewer-left c.loop-next.reader t (g.S.Source.left c.loop-next.source) (g.S.Source.left c.advance.new.source) t.line hands c.advance.ensures.bound

pub loop-next-preserved : goal.loop-next-preserved
loop-next-preserved g c =
    let t = c.advance.new.self in
    let left = g.S.Source.left in
    let held = g.K.Sink.held in
    let start = g.G.Gpu.state c.args.gpu.now in
    let e = g.G.Gpu.state c.line.new.gpu in
    let n = c.loop-next.number in
    let going = sym c.ending_at.ensures ∙ c.in_default-ending_at.is in
    let line = is_line c.in-Ok.next n going (sym c.is_last.ensures ∙ c.if-is_last.false) in
    let hands = subst (λ (next : Next). HandsOut c.loop-next.reader t (left c.loop-next.source) (left c.advance.new.source) (bytes_of next t.line)) line c.in-Ok.ensures.hands_out in
    let plain = subst (λ (next : Next). IsOneLine next t.line) line c.in-Ok.ensures.one_line in
    let is = ap (accepted c.loop-next.run.known) (sym c.line-bytes.ensures) ∙ sym c.accepted.ensures.value ∙ c.in-Some-accepted.is in
    let done = c.in_ok-line.ensures.runs.done in
    let m = machine_in e c.line.new.self.stage in
    let more = reading-more c.loop-next.invariant.reading t (left c.advance.new.source) c.in-Ok.next c.in-Ok.ensures.tells
    going c.in-Some-accepted.line is (sym c.is_end.ensures ∙ c.if-is_end.false) m c.line.new.self.report e done.machine done.report done.ran plain hands in
    let known = subst (λ (known : Known). Reading start (held c.args.sink.now) (left c.args.source.now) t (left c.advance.new.source) known (n + 1) m c.line.new.self.report e (held c.loop-next.sink)) (sym c.in_ok-line.ensures.known) more in
    record {
      agrees = c.in_ok-line.ensures.agrees;
      quiet = c.in_ok-line.ensures.runs.quiet ∙ c.loop-next.invariant.quiet;
      reading = reading-passed known c.pass_on.new.self (held c.pass_on.new.sink) c.pass_on.ensures.passes;
      numbered = number-more c.loop-next.reader t (left c.loop-next.source) (left c.advance.new.source) t.line hands n c.loop-next.invariant.numbered;
      within = omega (arith, c.advance.ensures.bound, hands.limit, c.loop-next.invariant.limit);
      limit = hands.limit ∙ c.loop-next.invariant.limit;
      strays = c.in_ok-line.ensures.runs.done.ran.strays ∙ c.loop-next.invariant.strays;
      reads = omega (arith, c.loop-next.invariant.reads, c.advance.ensures.cause.later);
      writes = omega (arith, c.loop-next.invariant.writes, c.pass_on.ensures.cause.later);
    }
