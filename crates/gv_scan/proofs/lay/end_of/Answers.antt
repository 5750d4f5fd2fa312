use Rattle.std.proofs.Common.{◌+◌, ◌∙◌, ℕ, length, sym, ap, subst, arith}
use Rattle.std.proofs.lemmas.List.{take_rest}
use Rattle.gv_cmd.specs.Command.{decoded}
use Rattle.gv_scan.specs.Listed.{BeginsWithCommand, SecondSoFar}
use Rattle.gv_scan.proofs.Walking.{second-ends, second-goes, second-begins, second-within, second-front, second-long}
use Rattle.gv_scan.proofs.lay.end_of.Goals as goal

pub batch-init : goal.batch-init
batch-init c = record {
  on = omega arith;
  within = let w = second-within c.args.words.now c.args.start c.args.start c.requires (second-begins c.args.words.now c.args.start c.requires) in omega arith;
  so_far = λ b. second-begins c.args.words.now c.args.start b;
}

pub front-command-requires : goal.front-command-requires
front-command-requires c =
    subst BeginsWithCommand (sym (take_rest c.args.words.now c.batch.at)) (second-front c.args.words.now c.args.start c.batch.at c.requires (c.batch.invariant.so_far c.requires))

pub returns-then-ends-clause-past : goal.returns-then-ends-clause-past
returns-then-ends-clause-past c = λ b.
    let is = ap decoded (sym (take_rest c.args.words.now c.batch.at)) ∙ c.front-command.ensures in
    let count = ap length c.words.ensures.value in
    let end = second-ends c.args.words.now c.args.start c.batch.at b c.front-command.result is (c.batch.invariant.so_far b) (sym c.ends.ensures ∙ c.if-ends.true) in
    omega arith

pub returns-then-ends-clause-within : goal.returns-then-ends-clause-within
returns-then-ends-clause-within c =
    let is = ap decoded (sym (take_rest c.args.words.now c.batch.at)) ∙ c.front-command.ensures in
    let count = ap length c.words.ensures.value in
    let long = second-long c.args.words.now c.args.start c.batch.at c.requires c.front-command.result is (c.batch.invariant.so_far c.requires) in
    omega (arith, long.1)

pub batch-smaller : goal.batch-smaller
batch-smaller c =
    let is = ap decoded (sym (take_rest c.args.words.now c.batch.at)) ∙ c.front-command.ensures in
    let count = ap length c.words.ensures.value in
    let long = second-long c.args.words.now c.args.start c.batch.at c.requires c.front-command.result is (c.batch.invariant.so_far c.requires) in
    omega (arith, long.0, long.1)

pub batch-preserved : goal.batch-preserved
batch-preserved c =
    let is = ap decoded (sym (take_rest c.args.words.now c.batch.at)) ∙ c.front-command.ensures in
    let count = ap length c.words.ensures.value in
    let long = second-long c.args.words.now c.args.start c.batch.at c.requires c.front-command.result is (c.batch.invariant.so_far c.requires) in
    record {
      on = let o = c.batch.invariant.on in omega arith;
      within = omega (arith, long.1);
      so_far = λ b.
          let P : ℕ → Type 0 = λ n. SecondSoFar c.args.words.now c.args.start (c.batch.at + n) b in
          subst P (sym count) (second-goes c.args.words.now c.args.start c.batch.at b c.front-command.result is (c.batch.invariant.so_far b) (sym c.ends.ensures ∙ c.if-ends.false));
    }
