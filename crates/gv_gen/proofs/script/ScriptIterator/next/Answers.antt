use Rattle.std.proofs.Common.{sym, ◌∙◌, refl}
use Rattle.gv_gen.specs.Script.{group_lines, lines_behind}
use Rattle.gv_gen.proofs.FirstLine.{left_at, left_past, first_left}
use Rattle.gv_gen.proofs.script.ScriptIterator.next.Goals as goal

pub returns-in-Some-clause-steps : goal.returns-in-Some-clause-steps
returns-in-Some-clause-steps c =
    let s = c.self.inside in
    sym c.self.view_is ∙ left_at (group_lines s.group) (lines_behind s.group s.rounds s.generator.state) s.index c.in-Some.line (sym c.in-Some.ensures.line)

pub returns-clause-steps : goal.returns-clause-steps
returns-clause-steps c =
    let s = c.self.inside in
    let next = c.in_ok-self-inside.field-0 in
    let n = c.next_group.new.rounds in
    let x = c.next_group.new.generator.state in
    let none = left_past (group_lines s.group) (lines_behind s.group s.rounds s.generator.state) s.index (sym c.in_default.ensures.line) in
    first_left (group_lines next) (lines_behind next n x) c.line-2.result c.args.self.now c.line-2.ensures.line (c.line-2.ensures.some refl) (sym c.self.view_is ∙ none ∙ c.in_ok-self-inside.ensures.some)
