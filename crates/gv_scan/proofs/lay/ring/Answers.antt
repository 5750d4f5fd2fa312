use Rattle.std.proofs.Common.{◌+◌, ◌∙◌, ℕ, length, sym, ap, subst, arith}
use Rattle.std.proofs.lemmas.List.{take_rest}
use Rattle.gv_cmd.specs.Command.{decoded}
use Rattle.gv_scan.specs.Listed.{BeginsWithCommand, ListsBatch, RingSoFar, BatchLaid}
use Rattle.gv_scan.proofs.Walking.{ring-front, ring-long, ring-goes, ring-ends, ring-starts, ring-behind, batch-there}
use Rattle.gv_scan.proofs.lay.ring.Goals as goal

pub front-command-requires : goal.front-command-requires
front-command-requires c =
    subst BeginsWithCommand (sym (take_rest c.args.words.now c.ring.at)) (ring-front c.args.words.now c.ring.at c.ring.own.items c.ring.batches.items c.requires.lists (c.ring.invariant.so_far c.requires.lists) c.ring-test.true)

pub first_level-requires-clause-lists : goal.first_level-requires-clause-lists
first_level-requires-clause-lists c =
    let is = ap decoded (sym (take_rest c.args.words.now c.ring.at)) ∙ c.front-command.ensures in
    let count = ap length c.words.ensures.value in
    let r = c.requires.lists in
    let so = sym c.starts.ensures ∙ c.if-starts.true in
    let P : ℕ → Type 0 = λ n. ListsBatch c.args.words.now (c.ring.at + n) in
    let s = ring-starts c.args.words.now c.ring.at c.ring.own.items c.ring.batches.items r (c.ring.invariant.so_far r) c.ring-test.true c.front-command.result is so in
    subst P (sym count) (batch-there c.args.words.now c.ring.at c.ring.own.items c.ring.batches.items r (c.ring.invariant.so_far r) c.ring-test.true c.front-command.result is s)

pub first_level-requires-clause-few : goal.first_level-requires-clause-few
first_level-requires-clause-few c =
    let room = c.ring.invariant.room in
    let within = c.ring.invariant.within in
    let few = c.requires.few in
    omega arith

pub ring-smaller-then-starts : goal.ring-smaller-then-starts
ring-smaller-then-starts c =
    let is = ap decoded (sym (take_rest c.args.words.now c.ring.at)) ∙ c.front-command.ensures in
    let count = ap length c.words.ensures.value in
    let r = c.requires.lists in
    let so = sym c.starts.ensures ∙ c.if-starts.true in
    let P : ℕ → Type 0 = λ n. (b : ListsBatch c.args.words.now (c.ring.at + n)) → BatchLaid c.args.words.now (c.ring.at + n) c.in_ok-offset.end c.in_ok-offset.offset c.ring.batches.items c.first_level.new.batches.items b in
    let s = ring-starts c.args.words.now c.ring.at c.ring.own.items c.ring.batches.items r (c.ring.invariant.so_far r) c.ring-test.true c.front-command.result is so in
    let laid = subst P count c.in_ok-offset.ensures.laid (batch-there c.args.words.now c.ring.at c.ring.own.items c.ring.batches.items r (c.ring.invariant.so_far r) c.ring-test.true c.front-command.result is s) in
    let past = laid.past in
    let end = c.in_ok-offset.ensures.within in
    let long = ring-long c.args.words.now c.ring.at c.ring.own.items c.ring.batches.items r (c.ring.invariant.so_far r) c.ring-test.true c.front-command.result is in
    omega (arith, long.0, long.1)

pub ring-preserved-then-starts : goal.ring-preserved-then-starts
ring-preserved-then-starts c =
    let is = ap decoded (sym (take_rest c.args.words.now c.ring.at)) ∙ c.front-command.ensures in
    let count = ap length c.words.ensures.value in
    let so = sym c.starts.ensures ∙ c.if-starts.true in
    let P : ℕ → Type 0 = λ n. (b : ListsBatch c.args.words.now (c.ring.at + n)) → BatchLaid c.args.words.now (c.ring.at + n) c.in_ok-offset.end c.in_ok-offset.offset c.ring.batches.items c.first_level.new.batches.items b in
    let whole = subst P count c.in_ok-offset.ensures.laid in
    record {
      within = c.in_ok-offset.ensures.within;
      room = let room = c.ring.invariant.room in let more = c.in_ok-offset.ensures.room in omega arith;
      so_far = λ r.
          let s = ring-starts c.args.words.now c.ring.at c.ring.own.items c.ring.batches.items r (c.ring.invariant.so_far r) c.ring-test.true c.front-command.result is so in
          let laid = whole (batch-there c.args.words.now c.ring.at c.ring.own.items c.ring.batches.items r (c.ring.invariant.so_far r) c.ring-test.true c.front-command.result is s) in
          ring-behind c.args.words.now c.ring.at c.ring.own.items c.ring.batches.items r (c.ring.invariant.so_far r) c.ring-test.true c.front-command.result is s
          c.append_start.new.list.items c.first_level.new.batches.items c.in_ok-offset.offset c.in_ok-offset.end laid c.in_ok-append_start.ensures;
    }

pub ring-preserved : goal.ring-preserved
ring-preserved c =
    let is = ap decoded (sym (take_rest c.args.words.now c.ring.at)) ∙ c.front-command.ensures in
    let count = ap length c.words.ensures.value in
    let long = ring-long c.args.words.now c.ring.at c.ring.own.items c.ring.batches.items c.requires.lists (c.ring.invariant.so_far c.requires.lists) c.ring-test.true c.front-command.result is in
    record {
      within = omega (arith, long.1);
      room = let room = c.ring.invariant.room in omega arith;
      so_far = λ r.
          let P : ℕ → Type 0 = λ n. RingSoFar c.args.words.now (c.ring.at + n) c.append.new.list.items c.ring.batches.items r in
          subst P (sym count) (ring-goes c.args.words.now c.ring.at c.ring.own.items c.ring.batches.items r (c.ring.invariant.so_far r) c.ring-test.true c.front-command.result is
          (sym c.starts.ensures ∙ c.if-starts.false) c.append.new.list.items c.in_ok-append.ensures);
    }

pub returns-clause-laid : goal.returns-clause-laid
returns-clause-laid c = λ r. ring-ends c.args.words.now c.ring.at c.ring.own.items c.ring.batches.items r (c.ring.invariant.so_far r) c.ring-test.false
