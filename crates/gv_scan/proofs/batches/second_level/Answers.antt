use Rattle.std.proofs.Common.{ℕ, ◌+◌, ◌-◌, ◌*◌, ◌∙◌, ap, sym, subst, arith, length, length-append}
use Rattle.gv_cmd.specs.declared.stands.Stands.TheVariants.{Second}
use Rattle.gv_fetch.specs.Fetch.{whole_batch}
use Rattle.gv_scan.specs.Scan.{SecondDone, SecondSoFar}
use Rattle.gv_scan.proofs.Steps.{second-begins, second-refused, second-ends, second-goes}
use Rattle.gv_scan.proofs.batches.second_level.Goals as goal

pub returns-in-Err-clause-fault : goal.returns-in-Err-clause-fault
returns-in-Err-clause-fault g c =
    second-refused (g.R.Reader.space c.args.reader.now) c.args.engine.0 _ c.loop-command.at c.loop-command.left _ _ c.loop-command.invariant.so_far c.in-Err.reason (sym c.batch_command.ensures.value ∙ c.in-Err.is)

pub returns-then-ends-clause-done : goal.returns-then-ends-clause-done
returns-then-ends-clause-done g c =
    let done = second-ends (g.R.Reader.space c.args.reader.now) c.args.engine.0 _ c.loop-command.at c.loop-command.left _ _ c.loop-command.invariant.so_far
    c.in-Ok.command c.append.new.list.items (sym c.batch_command.ensures.value ∙ c.in-Ok.is) c.in_ok-count.ensures.items (sym c.ends.ensures ∙ c.if-ends.true) in
    let P : ℕ → Type 0 = λ n. SecondDone (whole_batch (g.R.Reader.space c.args.reader.now) c.args.engine.0 Second c.args.start c.args.budget) c.args.batches.now.items c.append.new.list.items (c.loop-command.left - n) in
    subst P (sym c.in_ok-count.ensures.count) done

pub loop-command-preserved : goal.loop-command-preserved
loop-command-preserved g c =
    let so_far = second-goes (g.R.Reader.space c.args.reader.now) c.args.engine.0 _ c.loop-command.at c.loop-command.left _ _ c.loop-command.invariant.so_far
    c.in-Ok.command c.append.new.list.items (sym c.batch_command.ensures.value ∙ c.in-Ok.is) c.in_ok-count.ensures.items (sym c.ends.ensures ∙ c.if-ends.false) in
    let P : ℕ → Type 0 = λ n. SecondSoFar (g.R.Reader.space c.args.reader.now) c.args.engine.0 (whole_batch (g.R.Reader.space c.args.reader.now) c.args.engine.0 Second c.args.start c.args.budget)
    (c.loop-command.at + 4 * n) (c.loop-command.left - n) c.args.batches.now.items c.append.new.list.items in
    record {
      small = let low = c.in-Ok.ensures.low in let few = c.in_ok-count.ensures.few in omega arith;
      aligned = let fit = c.loop-command.invariant.aligned in omega arith;
      room =
          let long = ap length c.in_ok-count.ensures.items ∙ length-append c.loop-command.batches.items c.in-Ok.command in
          let count = c.in_ok-count.ensures.count in
          let few = c.in-Ok.ensures.long.1 in
          let before = c.loop-command.invariant.room in
          omega arith;
      so_far = subst P (sym c.in_ok-count.ensures.count) so_far;
    }

pub loop-command-init : goal.loop-command-init
loop-command-init g c = record {
  small = c.requires.small;
  aligned = c.requires.aligned;
  room = omega arith;
  so_far = second-begins (g.R.Reader.space c.args.reader.now) c.args.engine.0 c.args.start c.args.budget c.args.batches.now.items;
}
