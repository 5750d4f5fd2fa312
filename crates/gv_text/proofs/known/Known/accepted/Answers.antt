use Rattle.std.proofs.Common.{◌≡◌, ℕ, List, Bool, Option, Some, None, Result, refl, ap, sym, ◌∙◌, ok_or}
use Rattle.std.specs.Result.{result_ok}
use Rattle.gv_text.specs.Number.{◌>>=◌, provided}
use Rattle.gv_text.specs.Grammar.{line_of, bad_line}
use Rattle.gv_text.specs.Script.{accepts, accepted}
use Rattle.gv_text.specs.declared.script_line.BadLine.{BadLine}
use Rattle.gv_text.specs.declared.known.Known.{Known}
use Rattle.gv_text.specs.declared.script_line.Line.{Line}
use Rattle.gv_text.proofs.known.Known.accepted.Goals as goal

result_ok-ok_or : (o : Option Line) (e : BadLine) → result_ok (ok_or o e) ≡ o
result_ok-ok_or None e = refl
result_ok-ok_or (Some line) e = refl

-- the line that a call of the reader told, if any
told : (bytes : List ℕ) (o line : Option Line) (result : Result Line BadLine) → result ≡ ok_or (line_of bytes) bad_line → o ≡ result_ok result → o ≡ line → line_of bytes ≡ line
told bytes o line result value ok was = sym (result_ok-ok_or (line_of bytes) bad_line) ∙ ap result_ok (sym value) ∙ sym ok ∙ was

no_line : (known : Known) (bytes : List ℕ) → line_of bytes ≡ None → accepted known bytes ≡ None
no_line known bytes is = ap (λ o. o >>= λ line. provided (accepts known line) line) is

accepted_line : (known : Known) (bytes : List ℕ) (line : Line) (b : Bool) → line_of bytes ≡ Some line → accepts known line ≡ b → accepted known bytes ≡ provided b line
accepted_line known bytes line b is test = ap (λ o. o >>= λ line. provided (accepts known line) line) is ∙ ap (λ b. provided b line) test

pub returns-in_err-line-clause-value : goal.returns-in_err-line-clause-value
returns-in_err-line-clause-value c =
    let is = told c.args.bytes.now _ _ _ c.line.ensures.value c.ok.ensures.value c.in_err-line.was in
    c.from_residual.ensures ∙ sym (no_line c.args.self.now c.args.bytes.now is)

pub returns-then-accepts-clause-value : goal.returns-then-accepts-clause-value
returns-then-accepts-clause-value c =
    let is = told c.args.bytes.now _ _ _ c.line.ensures.value c.ok.ensures.value c.in_ok-line.was in
    sym (accepted_line c.args.self.now c.args.bytes.now c.in_ok-line.line _ is (sym c.accepts.ensures ∙ c.if-accepts.true))

pub returns-else-accepts-clause-value : goal.returns-else-accepts-clause-value
returns-else-accepts-clause-value c =
    let is = told c.args.bytes.now _ _ _ c.line.ensures.value c.ok.ensures.value c.in_ok-line.was in
    sym (accepted_line c.args.self.now c.args.bytes.now c.in_ok-line.line _ is (sym c.accepts.ensures ∙ c.if-accepts.false))
