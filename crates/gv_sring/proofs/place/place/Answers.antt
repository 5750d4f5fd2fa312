use Rattle.std.proofs.Common.{◌≡◌, ◌+◌, List, ◌∷◌, ℕ, drop, length, sym, ap, subst, ◌∙◌}
use Rattle.std.specs.List.{concat}
use Rattle.std.proofs.lemmas.List.{take_rest}
use Rattle.gv_cmd.specs.Command.{decoded}
use Rattle.gv_scan.specs.Layout.{IsCopy, AreCopies}
use Rattle.gv_sring.specs.Packing.{BeginsWithCopy}
use Rattle.gv_sring.proofs.PlacedLemmas.{HalfPlaced, front, placed-on, placed-all, placed-length, same-front, half-within}
use Rattle.gv_sring.proofs.place.place.Goals as goal

pub front-command-requires : goal.front-command-requires
front-command-requires c =
    let w = c.requires.whole in
    let here = front c.args.base c.args.words.now c.commands.at c.commands.list.items w.commands w.is w.each (c.commands.invariant.so_far w.commands w.is w.each) c.commands-test.true in
    subst BeginsWithCopy (sym (take_rest c.args.words.now c.commands.at)) here.begins

pub append_placed-requires-clause-copy : goal.append_placed-requires-clause-copy
append_placed-requires-clause-copy c =
    let w = c.requires.whole in
    let here = front c.args.base c.args.words.now c.commands.at c.commands.list.items w.commands w.is w.each (c.commands.invariant.so_far w.commands w.is w.each) c.commands-test.true in
    let is = ap decoded (sym (take_rest c.args.words.now c.commands.at)) ∙ c.front-command.ensures in
    subst IsCopy (same-front (drop c.commands.at c.args.words.now) c.front-command.result here.begins is) here.begins.copy

pub commands-preserved : goal.commands-preserved
commands-preserved c =
    let base = c.args.base in
    let words = c.args.words.now in
    let at = c.commands.at in
    let count = ap length c.words.ensures.value in
    let next = c.append_placed.new.list.items in
    let is = ap decoded (sym (take_rest words at)) ∙ c.front-command.ensures in
    let on : (commands : List (List ℕ)) → concat commands ≡ words → AreCopies commands → HalfPlaced base words (at + length c.words.result.now) next commands = (λ commands whole each.
    let half = c.commands.invariant.so_far commands whole each in
    let here = front base words at c.commands.list.items commands whole each half c.commands-test.true in
    let same = same-front (drop at words) c.front-command.result here.begins is in
    let more = here.rest ∙ ap (λ x. x ∷ here.more) same in
    let P : ℕ → Type 0 = λ n. HalfPlaced base words (at + n) next commands in
    subst P (sym count) (placed-on base words at c.commands.list.items commands whole each half c.front-command.result here.more next more c.in_ok-append_placed.ensures)) in
    let w = c.requires.whole in
    record {
      within = half-within base words (at + length c.words.result.now) next w.commands w.is (on w.commands w.is w.each);
      so_far = on;
    }

pub returns-clause-placed : goal.returns-clause-placed
returns-clause-placed c = λ commands whole each.
    placed-all c.args.base c.args.words.now c.commands.at c.commands.list.items commands whole each (c.commands.invariant.so_far commands whole each) c.commands-test.false

pub returns-clause-count : goal.returns-clause-count
returns-clause-count c =
    placed-length c.args.base c.args.words.now c.commands.list.items c.requires.whole.commands c.requires.whole.is c.requires.whole.each
    (λ commands whole each. placed-all c.args.base c.args.words.now c.commands.at c.commands.list.items commands whole each (c.commands.invariant.so_far commands whole each) c.commands-test.false)
