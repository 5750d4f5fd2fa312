use Rattle.std.proofs.Common.{◌≡◌, ◌-◌, ◌≤◌, take, drop, length, arith, ap, subst, length-take}
use Rattle.std.proofs.lemmas.List.{drop-drop, take-take, length-drop}
use Rattle.std.specs.Io.KnownBytes.{Appends}
use Rattle.gv_lines.specs.Writer.{PassesOn}
use Rattle.gv_lines.proofs.Passing.{PassesOn-step}
use Rattle.gv_lines.proofs.writer.write_out.Goals as goal

pub loop-written-preserved : goal.loop-written-preserved
loop-written-preserved g c =
    let held = g.K.Sink.held in
    let items = c.args.buffer.now.items in
    let first = c.args.written.now in
    let w = c.loop-written.written in
    let n = c.in_ok-written.field-0 in
    let size = c.min-end.result - w in
    let slice = ap (λ l. take size (drop w l)) c.deref.ensures.value in
    let within : n ≤ length (take size (drop w items)) = subst (λ l. n ≤ length l) slice c.in_ok-written.ensures.bound in
    let few : n ≤ length (drop w items) = omega (arith, length-take size (drop w items)) in
    let front : take n (take size (drop w items)) ≡ take n (drop w items) = take-take n size (drop w items) (omega (arith, length-take size (drop w items))) in
    let bytes = subst (λ l. Appends (held c.loop-written.sink) (held c.write.new.self) l) front (subst (λ l. Appends (held c.loop-written.sink) (held c.write.new.self) (take n l)) slice c.in_ok-written.ensures.bytes) in
    let step = PassesOn-step (drop first items) (drop w items) (held c.args.sink.now) (held c.loop-written.sink) (held c.write.new.self) n c.loop-written.invariant.passes few bytes in
    record {
      within = omega (arith, length-drop w items);
      passes = subst (λ l. PassesOn (drop first items) l (held c.args.sink.now) (held c.write.new.self)) (drop-drop n w items) step;
      later = omega (arith, c.in_ok-written.ensures.cause.later);
    }
