use Rattle.std.proofs.Common.{◌≡◌, ℕ, ◌+◌, ◌-◌, ◌*◌, ◌∙◌, ap, sym, subst, arith, length, length-append, List, Ok, refl, ◌++◌}
use Rattle.gv_cmd.specs.declared.stands.Stands.TheVariants.{Privileged, Second}
use Rattle.gv_fetch.specs.Fetch.{whole_batch, batch_command}
use Rattle.gv_fetch.specs.Items.{start_at}
use Rattle.gv_scan.specs.Scan.{IsFault, SecondDone, FirstDone, FirstSoFar}
use Rattle.gv_scan.proofs.Steps.{first-begins, first-refused, first-second-refused, first-goes, first-ends, first-starts, fault-lifts, start-long}
use Rattle.gv_scan.proofs.batches.first_level.Goals as goal

pub commands-init : goal.commands-init
commands-init g c = record {
  small = c.requires.small;
  aligned = c.requires.aligned;
  room = let none = ap length c.new-own.ensures.items in omega arith;
  so_far =
      let P : List ℕ → Type 0 = λ xs. FirstSoFar (g.R.Reader.space c.args.reader.now) c.args.engine.0 (whole_batch (g.R.Reader.space c.args.reader.now) c.args.engine.0 Privileged c.args.start c.args.budget) c.args.start c.args.budget c.args.batches.now.items c.args.batches.now.items xs in
      subst P (sym c.new-own.ensures.items) (first-begins (g.R.Reader.space c.args.reader.now) c.args.engine.0 c.args.start c.args.budget c.args.batches.now.items);
}

pub returns-in-Err-clause-fault : goal.returns-in-Err-clause-fault
returns-in-Err-clause-fault g c =
    first-refused (g.R.Reader.space c.args.reader.now) c.args.engine.0 _ c.commands.at c.commands.left _ _ _ c.commands.invariant.so_far c.in-Err.reason (sym c.batch_command.ensures.value ∙ c.in-Err.is)

pub returns-in-Err-with_second_level-clause-fault : goal.returns-in-Err-with_second_level-clause-fault
returns-in-Err-with_second_level-clause-fault g c =
    let space = g.R.Reader.space c.args.reader.now in
    let P : ℕ → Type 0 = λ n. IsFault (whole_batch space c.args.engine.0 Second c.in-Some.to (c.commands.left - n)) c.in-Err-with_second_level.fault in
    fault-lifts (whole_batch space c.args.engine.0 Second c.in-Some.to (c.commands.left - length c.in-Ok.command)) _ c.in-Err-with_second_level.fault
    (subst P c.dwords_of-count.ensures.value c.in-Err-with_second_level.ensures.fault)
    (λ reason inner. first-second-refused space c.args.engine.0 _ c.commands.at c.commands.left _ _ _ c.commands.invariant.so_far c.in-Ok.command (sym c.batch_command.ensures.value ∙ c.in-Ok.is)
    c.in-Some.ensures.start.0 c.in-Some.to reason c.in-Some.ensures.start.1 inner)

pub commands-preserved-in-Some : goal.commands-preserved-in-Some
commands-preserved-in-Some g c =
    let space = g.R.Reader.space c.args.reader.now in
    let is : batch_command space c.args.engine.0 Privileged c.commands.at c.commands.left ≡ Ok c.in-Ok.command = sym c.batch_command.ensures.value ∙ c.in-Ok.is in
    let count = c.dwords_of-count.ensures.value in
    let P : ℕ → Type 0 = λ n. SecondDone (whole_batch space c.args.engine.0 Second c.in-Some.to (c.commands.left - n)) c.commands.batches.items c.with_second_level.new.batches.items c.in-Ok-with_second_level.rest in
    let so_far = first-starts space c.args.engine.0 _ c.commands.at c.commands.left _ _ _ c.commands.invariant.so_far c.in-Ok.command is
    c.in-Some.ensures.start.0 c.in-Some.to c.in-Ok-with_second_level.rest (4 * length c.commands.batches.items) c.with_second_level.new.batches.items c.with_second_level.new.own.items c.in-Some.ensures.start.1 refl
    (let room = c.commands.invariant.room in let most = c.requires.room in omega arith)
    (subst P count c.in-Ok-with_second_level.ensures.done) c.in-Ok-with_second_level.ensures.start in
    let Q : ℕ → Type 0 = λ n. FirstSoFar space c.args.engine.0 (whole_batch space c.args.engine.0 Privileged c.args.start c.args.budget) (c.commands.at + 4 * n) c.in-Ok-with_second_level.rest c.args.batches.now.items c.with_second_level.new.batches.items c.with_second_level.new.own.items in
    let few = c.dwords_of-count.ensures.few in
    record {
      small = let low = c.in-Ok.ensures.low in omega arith;
      aligned = let fit = c.commands.invariant.aligned in omega arith;
      room =
          let three = start-long space c.args.engine.0 Privileged c.commands.at c.commands.left c.in-Ok.command is c.in-Some.ensures.start.0 c.in-Some.to c.in-Some.ensures.start.1 in
          let long = ap length c.in-Ok-with_second_level.ensures.start ∙ length-append c.commands.own.items (start_at c.in-Ok.command (4 * length c.commands.batches.items)) in
          let before = c.commands.invariant.room in
          let after = c.in-Ok-with_second_level.ensures.room in
          let enough = c.in-Ok.ensures.long.1 in
          omega arith;
      so_far = subst Q (sym count) so_far;
    }

pub returns-then-ends-clause-done : goal.returns-then-ends-clause-done
returns-then-ends-clause-done g c =
    let space = g.R.Reader.space c.args.reader.now in
    let done = first-ends space c.args.engine.0 _ c.commands.at c.commands.left _ _ _ c.commands.invariant.so_far
    c.in-Ok.command (sym c.batch_command.ensures.value ∙ c.in-Ok.is) c.append.new.list.items c.in_ok-append.ensures.items c.in_default.ensures.start (sym c.ends.ensures ∙ c.if-ends.true)
    c.append_batch.new.batches.items c.in_ok-offset.offset (c.in_ok-offset.ensures.items ∙ ap (λ xs. c.commands.batches.items ++ xs) c.deref.ensures.value) c.in_ok-offset.ensures.offset (let room = c.commands.invariant.room in let most = c.requires.room in let offset = c.in_ok-offset.ensures.offset in omega arith) in
    let P : ℕ → Type 0 = λ n. FirstDone (whole_batch space c.args.engine.0 Privileged c.args.start c.args.budget) c.args.batches.now.items c.append_batch.new.batches.items c.in_ok-offset.offset (c.commands.left - n) in
    subst P (sym c.dwords_of-count.ensures.value) done

pub commands-preserved : goal.commands-preserved
commands-preserved g c =
    let space = g.R.Reader.space c.args.reader.now in
    let so_far = first-goes space c.args.engine.0 _ c.commands.at c.commands.left _ _ _ c.commands.invariant.so_far
    c.in-Ok.command (sym c.batch_command.ensures.value ∙ c.in-Ok.is) c.append.new.list.items c.in_ok-append.ensures.items c.in_default.ensures.start (sym c.ends.ensures ∙ c.if-ends.false) in
    let P : ℕ → Type 0 = λ n. FirstSoFar space c.args.engine.0 (whole_batch space c.args.engine.0 Privileged c.args.start c.args.budget) (c.commands.at + 4 * n) (c.commands.left - n) c.args.batches.now.items c.commands.batches.items c.append.new.list.items in
    let few = c.dwords_of-count.ensures.few in
    record {
      small = let low = c.in-Ok.ensures.low in omega arith;
      aligned = let fit = c.commands.invariant.aligned in omega arith;
      room =
          let long = ap length c.in_ok-append.ensures.items ∙ length-append c.commands.own.items c.in-Ok.command in
          let count = c.dwords_of-count.ensures.value in
          let before = c.commands.invariant.room in
          let enough = c.in-Ok.ensures.long.1 in
          omega arith;
      so_far = subst P (sym c.dwords_of-count.ensures.value) so_far;
    }
