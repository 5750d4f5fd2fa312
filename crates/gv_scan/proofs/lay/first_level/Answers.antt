use Rattle.std.proofs.Common.{◌+◌, ◌*◌, ◌∙◌, ◌++◌, List, [], ℕ, length, length-append, sym, ap, subst, arith}
use Rattle.std.proofs.lemmas.List.{take_rest}
use Rattle.gv_cmd.specs.Command.{decoded}
use Rattle.gv_fetch.specs.Items.{start_at}
use Rattle.gv_scan.specs.Listed.{BeginsWithCommand, ListsBatch, ListsSecond, BatchSoFar, BatchLaid, SecondLaid}
use Rattle.gv_scan.proofs.Walking.{batch-begins, batch-within, batch-front, batch-long, batch-three, batch-goes, batch-ends, batch-starts, second-there}
use Rattle.gv_scan.proofs.lay.first_level.Goals as goal

pub batch-init : goal.batch-init
batch-init c =
    let P : List ℕ → Type 0 = λ xs. (b : ListsBatch c.args.words.now c.args.start) → BatchSoFar c.args.words.now c.args.start c.args.start c.args.batches.now.items c.args.batches.now.items xs b in
    let begins : P [] = (λ b. batch-begins c.args.words.now c.args.start c.args.batches.now.items b) in
    record {
      room = let none = ap length c.new-own.ensures.items in omega arith;
      within = let w = batch-within c.args.words.now c.args.start c.args.start c.args.batches.now.items c.args.batches.now.items [] c.requires.lists (begins c.requires.lists) in omega arith;
      so_far = subst P (sym c.new-own.ensures.items) begins;
    }

pub front-command-requires : goal.front-command-requires
front-command-requires c =
    subst BeginsWithCommand (sym (take_rest c.args.words.now c.batch.at)) (batch-front c.args.words.now c.args.start c.batch.at c.args.batches.now.items c.batch.batches.items c.batch.own.items c.requires.lists (c.batch.invariant.so_far c.requires.lists))

pub end_offset-offset-requires : goal.end_offset-offset-requires
end_offset-offset-requires c =
    let room = c.batch.invariant.room in
    let within = c.batch.invariant.within in
    let few = c.requires.few in
    let here = ap length c.deref.ensures.value in
    omega arith

pub second_level-requires : goal.second_level-requires
second_level-requires c =
    let is = ap decoded (sym (take_rest c.args.words.now c.batch.at)) ∙ c.front-command.ensures in
    let count = ap length c.words.ensures.value in
    let P : ℕ → Type 0 = λ n. ListsSecond c.args.words.now (c.batch.at + n) in
    record {
      lists = subst P (sym count) (second-there c.args.words.now c.args.start c.batch.at c.args.batches.now.items c.batch.batches.items c.batch.own.items c.requires.lists (c.batch.invariant.so_far c.requires.lists) c.front-command.result is (sym c.starts.ensures ∙ c.if-starts.true));
    }

pub append_batch-requires : goal.append_batch-requires
append_batch-requires c =
    let room = c.batch.invariant.room in
    let within = c.batch.invariant.within in
    let few = c.requires.few in
    omega arith

pub returns-then-ends-clause-room : goal.returns-then-ends-clause-room
returns-then-ends-clause-room c =
    let room = c.batch.invariant.room in
    let count = ap length c.words.ensures.value in
    let one = ap length c.in_ok-append.ensures ∙ length-append c.batch.own.items c.front-command.result in
    let two = ap length (c.in_ok-offset.ensures.items ∙ ap (λ xs. c.batch.batches.items ++ xs) c.deref-then-ends.ensures.value) ∙ length-append c.batch.batches.items c.append.new.list.items in
    omega arith

pub returns-then-ends-clause-within : goal.returns-then-ends-clause-within
returns-then-ends-clause-within c =
    let is = ap decoded (sym (take_rest c.args.words.now c.batch.at)) ∙ c.front-command.ensures in
    let count = ap length c.words.ensures.value in
    let long = batch-long c.args.words.now c.args.start c.batch.at c.args.batches.now.items c.batch.batches.items c.batch.own.items c.requires.lists (c.batch.invariant.so_far c.requires.lists) c.front-command.result is in
    omega (arith, long.1)

pub batch-smaller : goal.batch-smaller
batch-smaller c =
    let is = ap decoded (sym (take_rest c.args.words.now c.batch.at)) ∙ c.front-command.ensures in
    let count = ap length c.words.ensures.value in
    let long = batch-long c.args.words.now c.args.start c.batch.at c.args.batches.now.items c.batch.batches.items c.batch.own.items c.requires.lists (c.batch.invariant.so_far c.requires.lists) c.front-command.result is in
    omega (arith, long.0, long.1)

pub batch-preserved : goal.batch-preserved
batch-preserved c =
    let is = ap decoded (sym (take_rest c.args.words.now c.batch.at)) ∙ c.front-command.ensures in
    let count = ap length c.words.ensures.value in
    let long = batch-long c.args.words.now c.args.start c.batch.at c.args.batches.now.items c.batch.batches.items c.batch.own.items c.requires.lists (c.batch.invariant.so_far c.requires.lists) c.front-command.result is in
    record {
      room =
          let room = c.batch.invariant.room in
          let one = ap length c.in_ok-append.ensures ∙ length-append c.batch.own.items c.front-command.result in
          omega arith;
      within = omega (arith, long.1);
      so_far = λ b.
          let P : ℕ → Type 0 = λ n. BatchSoFar c.args.words.now c.args.start (c.batch.at + n) c.args.batches.now.items c.batch.batches.items c.append.new.list.items b in
          subst P (sym count) (batch-goes c.args.words.now c.args.start c.batch.at c.args.batches.now.items c.batch.batches.items c.batch.own.items b (c.batch.invariant.so_far b) c.front-command.result is
          (sym c.starts.ensures ∙ c.if-starts.false) c.append.new.list.items c.in_ok-append.ensures (sym c.ends.ensures ∙ c.if-ends.false));
    }

pub returns-then-ends-clause-laid : goal.returns-then-ends-clause-laid
returns-then-ends-clause-laid c = λ b.
    let is = ap decoded (sym (take_rest c.args.words.now c.batch.at)) ∙ c.front-command.ensures in
    let count = ap length c.words.ensures.value in
    let P : ℕ → Type 0 = λ n. BatchLaid c.args.words.now c.args.start (c.batch.at + n) c.in_ok-offset.offset c.args.batches.now.items c.append_batch.new.batches.items b in
    subst P (sym count) (batch-ends c.args.words.now c.args.start c.batch.at c.args.batches.now.items c.batch.batches.items c.batch.own.items b (c.batch.invariant.so_far b) c.front-command.result is
    (sym c.starts.ensures ∙ c.if-starts.false) c.append.new.list.items c.append_batch.new.batches.items c.in_ok-offset.offset c.in_ok-append.ensures (sym c.ends.ensures ∙ c.if-ends.true)
    (c.in_ok-offset.ensures.items ∙ ap (λ xs. c.batch.batches.items ++ xs) c.deref-then-ends.ensures.value) c.in_ok-offset.ensures.offset)

-- behind a start and its batch
pub batch-preserved-then-starts : goal.batch-preserved-then-starts
batch-preserved-then-starts c =
    let is = ap decoded (sym (take_rest c.args.words.now c.batch.at)) ∙ c.front-command.ensures in
    let count = ap length c.words.ensures.value in
    let offset = c.end_offset-offset.ensures ∙ ap (λ xs. 4 * length xs) c.deref.ensures.value in
    record {
      room =
          let room = c.batch.invariant.room in
          let b = c.requires.lists in
          let start = batch-three c.args.words.now c.args.start c.batch.at c.args.batches.now.items c.batch.batches.items c.batch.own.items b (c.batch.invariant.so_far b) c.front-command.result is (sym c.starts.ensures ∙ c.if-starts.true) in
          let one = ap length c.in_ok-append_start.ensures ∙ length-append c.batch.own.items (start_at c.front-command.result c.end_offset-offset.result) in
          let two = c.in_ok-at.ensures.room.1 in
          omega arith;
      within = c.in_ok-at.ensures.within;
      so_far = λ b.
          let so = sym c.starts.ensures ∙ c.if-starts.true in
          let P : ℕ → Type 0 = λ n. (s : ListsSecond c.args.words.now (c.batch.at + n)) → SecondLaid c.args.words.now (c.batch.at + n) c.in_ok-at.at c.batch.batches.items c.second_level.new.batches.items s in
          let there = second-there c.args.words.now c.args.start c.batch.at c.args.batches.now.items c.batch.batches.items c.batch.own.items b (c.batch.invariant.so_far b) c.front-command.result is so in
          let laid = subst P count c.in_ok-at.ensures.laid there in
          batch-starts c.args.words.now c.args.start c.batch.at c.args.batches.now.items c.batch.batches.items c.batch.own.items b (c.batch.invariant.so_far b) c.front-command.result is so
          c.append_start.new.list.items c.second_level.new.batches.items c.in_ok-at.at laid.past
          (c.in_ok-append_start.ensures ∙ ap (λ n. c.batch.own.items ++ start_at c.front-command.result n) offset) laid.copied;
    }

pub batch-smaller-then-starts : goal.batch-smaller-then-starts
batch-smaller-then-starts c =
    let is = ap decoded (sym (take_rest c.args.words.now c.batch.at)) ∙ c.front-command.ensures in
    let count = ap length c.words.ensures.value in
    let so = sym c.starts.ensures ∙ c.if-starts.true in
    let b = c.requires.lists in
    let P : ℕ → Type 0 = λ n. (s : ListsSecond c.args.words.now (c.batch.at + n)) → SecondLaid c.args.words.now (c.batch.at + n) c.in_ok-at.at c.batch.batches.items c.second_level.new.batches.items s in
    let there = second-there c.args.words.now c.args.start c.batch.at c.args.batches.now.items c.batch.batches.items c.batch.own.items b (c.batch.invariant.so_far b) c.front-command.result is so in
    let laid = subst P count c.in_ok-at.ensures.laid there in
    let past = laid.past in
    let end = c.in_ok-at.ensures.within in
    let long = batch-long c.args.words.now c.args.start c.batch.at c.args.batches.now.items c.batch.batches.items c.batch.own.items b (c.batch.invariant.so_far b) c.front-command.result is in
    omega (arith, long.0, long.1)
