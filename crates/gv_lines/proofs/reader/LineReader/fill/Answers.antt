use Rattle.std.proofs.Common.{◌≡◌, ◌+◌, ◌-◌, ◌≤◌, ◌++◌, length, take, arith, ap, sym, ◌∙◌, length-take-le}
use Rattle.std.specs.List.{slice_range}
use borrow.Rule.Slice.PartMut.{put_mid}
use Rattle.std.proofs.lemmas.List.{with_items_is}
use Rattle.gv_lines.specs.Reader.{ReaderState}
use Rattle.gv_lines.proofs.Buffer.{slice_range-more, length-put_mid}
use Rattle.gv_lines.proofs.reader.LineReader.fill.Goals as goal

pub returns-clause-hands_out : goal.returns-clause-hands_out
returns-clause-hands_out g c =
    let s = c.self.inside in
    let n = c.in_ok-count.count in
    let into = c.read.new.into in
    let room = c.min-room.result in
    let k = s.end - s.next in
    let fits : n ≤ length into = c.in_ok-count.ensures.bound in
    let items = c.deref_mut.result.now in
    let now = put_mid k (k + room - k) items into in
    let long : length now ≡ c.copy_within.new.self.len = length-put_mid k (k + room - k) items into (omega arith) (omega arith) ∙ c.deref_mut.ensures.len in
    let moved = c.deref_mut.ensures.value ∙ c.copy_within.ensures.items in
    let more = ap (λ l. slice_range l 0 (k + n)) (with_items_is c.copy_within.new.self now long)
    ∙ ap (λ l. slice_range (put_mid k (k + room - k) l into) 0 (k + n)) moved
    ∙ slice_range-more s.buffer.items into s.next s.end (k + room - k) n (omega arith) (omega arith) fits in
    let held = ap (λ (v : ReaderState). v.held) c.self.view_is in
    record {
      piece = take n into;
      source = c.in_ok-count.ensures.bytes.0;
      bytes = ap (λ l. l ++ take n into) (sym held) ∙ sym more;
      taken = ap (λ (v : ReaderState). v.taken + n) c.self.view_is ∙ ap (λ l. c.args.self.now.taken + l) (sym (length-take-le n into fits));
      limit = ap (λ (v : ReaderState). v.limit) c.self.view_is;
    }
