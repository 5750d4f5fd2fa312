use Rattle.gv_scan.proofs.Joined.{ring-few, ring-lists, outer-lists, inner-lists, all-laid}
use Rattle.gv_scan.proofs.lay.lay_out.Goals as goal

pub ring-requires-clause-few : goal.ring-requires-clause-few
ring-requires-clause-few c = ring-few c.args.ring_words.now c.args.outer c.args.inner c.requires.lists.0 c.requires.lists.1 c.requires.lists.2

pub append_any-requires : goal.append_any-requires
append_any-requires c =
    let l = c.requires.lists in
    let laid = c.in_ok-own.ensures.laid (ring-lists c.args.ring_words.now c.args.outer c.args.inner l.0 l.1 l.2) in
    record { lists = outer-lists c.args.ring_words.now c.args.outer c.args.inner l.0 l.1 l.2 c.in_ok-own.own.items c.ring.new.batches.items laid }

pub append_any-requires-2 : goal.append_any-requires-2
append_any-requires-2 c =
    let l = c.requires.lists in
    let laid = c.in_ok-own.ensures.laid (ring-lists c.args.ring_words.now c.args.outer c.args.inner l.0 l.1 l.2) in
    let first = c.in_ok-first.ensures.laid (outer-lists c.args.ring_words.now c.args.outer c.args.inner l.0 l.1 l.2 c.in_ok-own.own.items c.ring.new.batches.items laid) in
    record { lists = inner-lists c.args.ring_words.now c.args.outer c.args.inner l.0 l.1 l.2 c.in_ok-own.own.items c.ring.new.batches.items laid c.append_any.new.batches.items c.in_ok-first.first first }

pub returns : goal.returns
returns c = record {
  laid = λ engine w l.
      let laid = c.in_ok-own.ensures.laid (ring-lists c.args.ring_words.now c.args.outer c.args.inner engine w l) in
      let first = c.in_ok-first.ensures.laid (outer-lists c.args.ring_words.now c.args.outer c.args.inner engine w l c.in_ok-own.own.items c.ring.new.batches.items laid) in
      let second = c.in_ok-second.ensures.laid (inner-lists c.args.ring_words.now c.args.outer c.args.inner engine w l c.in_ok-own.own.items c.ring.new.batches.items laid c.append_any.new.batches.items c.in_ok-first.first first) in
      all-laid c.args.ring_words.now c.args.outer c.args.inner engine w l c.in_ok-own.own.items c.ring.new.batches.items laid c.append_any.new.batches.items c.in_ok-first.first first c.append_any-2.new.batches.items c.in_ok-second.second second;
}
