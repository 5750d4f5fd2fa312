use Rattle.std.proofs.Common.{ℕ, ◌+◌, ◌-◌, ◌≤◌, length, take, drop, arith, ap, sym, subst, ◌∙◌, length-take}
use Rattle.gv_lines.specs.Reader.{ReaderState, within_limit}
use Rattle.gv_lines.proofs.Buffer.{slice_range-front, slice_range-rest}
use Rattle.gv_lines.proofs.reader.LineReader.hand_out.Goals as goal

pub returns : goal.returns
returns c =
    let s = c.self.inside in
    let n = c.args.count in
    let m = c.args.dropped in
    let few = subst (λ (v : ReaderState). n + m ≤ length (within_limit v)) (sym c.self.view_is) c.requires in
    let within : n + m ≤ s.end - s.next = omega (arith, few, length-take {A = ℕ}) in
    let front = slice_range-front s.buffer.items s.next s.end n m within in
    let rest = slice_range-rest s.buffer.items s.next s.end n m within in
    (λ i. record { line = front i; held = rest i; taken = s.taken; limit = s.limit; ended = s.ended })
    ∙ ap (λ (v : ReaderState). record v { line = take n v.held; held = drop (n + m) v.held }) c.self.view_is
