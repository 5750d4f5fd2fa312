use Rattle.std.proofs.Common.{ℕ, ◌+◌, ◌∙◌, ap, sym, subst, arith, length, length-append, length-drop, [], List, drop}
use Rattle.std.proofs.lemmas.List.{take_rest}
use Rattle.gv_cmd.specs.declared.stands.Stands.TheVariants.{Privileged}
use Rattle.gv_fetch.specs.Items.{start_at}
use Rattle.gv_fetch.specs.Fetch.{whole_batch, whole_ring, ring_command}
use Rattle.gv_scan.specs.Scan.{RingSoFar}
use Rattle.gv_scan.proofs.Steps.{ring-begins, ring-refused, ring-inner-refused, ring-goes, ring-starts, start-three, ring-done, ring-fits, fault-lifts}
use Rattle.gv_scan.proofs.ring.scan_ring.Goals as goal

pub commands-init : goal.commands-init
commands-init g c =
    let space = g.R.Reader.space c.args.reader.now in
    let P : List ℕ → Type 0 = λ xs. RingSoFar space c.args.engine.0 (whole_ring space c.args.engine.0 c.args.ring.now 262144) c.args.ring.now 0 262144 xs c.new-batches.result.items in
    let Q : List ℕ → Type 0 = λ xs. RingSoFar space c.args.engine.0 (whole_ring space c.args.engine.0 c.args.ring.now 262144) c.args.ring.now 0 262144 [] xs in
    record {
      within = omega arith;
      own = ap length c.new-own.ensures.items;
      room = let none = ap length c.new-batches.ensures.items in omega arith;
      so_far = subst P (sym c.new-own.ensures.items) (subst Q (sym c.new-batches.ensures.items) (ring-begins space c.args.engine.0 c.args.ring.now 262144));
    }

pub returns-in-Err-clause-fault : goal.returns-in-Err-clause-fault
returns-in-Err-clause-fault g c =
    let space = g.R.Reader.space c.args.reader.now in
    ring-refused space c.args.engine.0 _ c.args.ring.now c.commands.at c.commands.left _ _ c.commands.invariant.so_far c.commands-test.true c.in-Err.reason
    (ap (ring_command space c.args.engine.0) (sym (take_rest c.args.ring.now c.commands.at)) ∙ sym c.ring_command.ensures.value ∙ c.in-Err.is)

pub returns-clause-done : goal.returns-clause-done
returns-clause-done g c =
    ring-done (g.R.Reader.space c.args.reader.now) c.args.engine.0 _ c.args.ring.now c.commands.at c.commands.left _ _ c.commands.invariant.so_far c.commands-test.false

pub returns-in-Err-with_first_level-clause-fault : goal.returns-in-Err-with_first_level-clause-fault
returns-in-Err-with_first_level-clause-fault g c =
    let space = g.R.Reader.space c.args.reader.now in
    let is = ap (ring_command space c.args.engine.0) (sym (take_rest c.args.ring.now c.commands.at)) ∙ sym c.ring_command.ensures.value ∙ c.in-Ok.is in
    fault-lifts (whole_batch space c.args.engine.0 Privileged c.in-Some.to c.commands.left) _ c.in-Err-with_first_level.fault c.in-Err-with_first_level.ensures.fault
    (λ reason inner. ring-inner-refused space c.args.engine.0 _ c.args.ring.now c.commands.at c.commands.left _ _ c.commands.invariant.so_far c.commands-test.true c.in-Ok.command is
    c.in-Some.ensures.start.0 c.in-Some.to reason c.in-Some.ensures.start.1 inner)

pub commands-preserved-in-Some : goal.commands-preserved-in-Some
commands-preserved-in-Some g c =
    let space = g.R.Reader.space c.args.reader.now in
    let is = ap (ring_command space c.args.engine.0) (sym (take_rest c.args.ring.now c.commands.at)) ∙ sym c.ring_command.ensures.value ∙ c.in-Ok.is in
    let done = c.in-Ok-with_first_level.ensures.done in
    let so_far = ring-starts space c.args.engine.0 _ c.args.ring.now c.commands.at c.commands.left _ _ c.commands.invariant.so_far c.commands-test.true c.in-Ok.command is
    c.in-Some.ensures.start.0 c.in-Some.to done.offset c.in-Ok-with_first_level.rest c.with_first_level.new.own.items c.with_first_level.new.batches.items c.in-Some.ensures.start.1 done.outer done.start in
    let P : ℕ → Type 0 = λ n. RingSoFar space c.args.engine.0 (whole_ring space c.args.engine.0 c.args.ring.now 262144) c.args.ring.now (c.commands.at + n) c.in-Ok-with_first_level.rest c.with_first_level.new.own.items c.with_first_level.new.batches.items in
    record {
      within =
          let long = c.in-Ok.ensures.long.1 in
          let count = c.dwords_of-at.ensures.value in
          let left = ap length (take_rest c.args.ring.now c.commands.at) ∙ length-drop c.commands.at c.args.ring.now in
          omega arith;
      own =
          let three = start-three space c.args.engine.0 (drop c.commands.at c.args.ring.now) c.in-Ok.command is c.in-Some.ensures.start.0 c.in-Some.to c.in-Some.ensures.start.1 in
          let long = ap length done.start ∙ length-append c.commands.own.items (start_at c.in-Ok.command done.offset) in
          let count = c.dwords_of-at.ensures.value in
          let before = c.commands.invariant.own in
          omega arith;
      room = let before = c.commands.invariant.room in let after = c.in-Ok-with_first_level.ensures.room in omega arith;
      so_far = subst P (sym c.dwords_of-at.ensures.value) so_far;
    }

pub commands-preserved : goal.commands-preserved
commands-preserved g c =
    let space = g.R.Reader.space c.args.reader.now in
    let is = ap (ring_command space c.args.engine.0) (sym (take_rest c.args.ring.now c.commands.at)) ∙ sym c.ring_command.ensures.value ∙ c.in-Ok.is in
    let so_far = ring-goes space c.args.engine.0 _ c.args.ring.now c.commands.at c.commands.left _ _ c.commands.invariant.so_far c.commands-test.true c.in-Ok.command is
    c.append.new.list.items c.in_ok-append.ensures.items c.in_default.ensures.start in
    let P : ℕ → Type 0 = λ n. RingSoFar space c.args.engine.0 (whole_ring space c.args.engine.0 c.args.ring.now 262144) c.args.ring.now (c.commands.at + n) c.commands.left c.append.new.list.items c.commands.batches.items in
    record {
      within =
          let long = c.in-Ok.ensures.long.1 in
          let count = c.dwords_of-at.ensures.value in
          let left = ap length (take_rest c.args.ring.now c.commands.at) ∙ length-drop c.commands.at c.args.ring.now in
          omega arith;
      own =
          let long = ap length c.in_ok-append.ensures.items ∙ length-append c.commands.own.items c.in-Ok.command in
          let count = c.dwords_of-at.ensures.value in
          let before = c.commands.invariant.own in
          omega arith;
      room = c.commands.invariant.room;
      so_far = subst P (sym c.dwords_of-at.ensures.value) so_far;
    }

pub returns-clause-fits : goal.returns-clause-fits
returns-clause-fits g c =
    let own = c.commands.invariant.own in
    let within = c.commands.invariant.within in
    let small = c.requires in
    let room = c.commands.invariant.room in
    ring-fits (g.R.Reader.space c.args.reader.now) c.args.engine.0 _ c.args.ring.now c.commands.at c.commands.left _ _ c.commands.invariant.so_far (omega arith) (omega arith)
