-- The text of report lines, one after another.
use Rattle.std.proofs.Common.{◌≡◌, List, [], ◌∷◌, ◌++◌, ℕ, sym, ap, ◌∙◌}
use Rattle.std.proofs.lemmas.List.{append_assoc, append-nil}
use Rattle.gv_text.specs.Report.{report_text, text_of}
use Rattle.gv_text.specs.declared.report_line.ReportLine.{ReportLine}
use Rattle.gv_text.proofs.ReportLines.{text_of-append, text_of-none, text_of-one}

-- what was said goes on with one more piece
pub said_more : (before after : List ℕ) (xs ys : List ReportLine) → after ≡ before ++ text_of xs → after ++ text_of ys ≡ before ++ text_of (xs ++ ys)
said_more before after xs ys said = ap (λ z. z ++ text_of ys) said ∙ append_assoc before (text_of xs) (text_of ys) ∙ ap (λ z. before ++ z) (sym (text_of-append xs ys))

pub said_none : (before : List ℕ) → before ≡ before ++ text_of []
said_none before = sym (ap (λ z. before ++ z) text_of-none ∙ append-nil before)

pub said_one : (before after : List ℕ) (line : ReportLine) → after ≡ before ++ report_text line → after ≡ before ++ text_of (line ∷ [])
said_one before after line said = said ∙ ap (λ z. before ++ z) (sym (text_of-one line))

-- two pieces, one after the other
pub said_twice : (before mid after : List ℕ) (xs ys : List ReportLine) → mid ≡ before ++ text_of xs → after ≡ mid ++ text_of ys → after ≡ before ++ text_of (xs ++ ys)
said_twice before mid after xs ys first second = second ∙ said_more before mid xs ys first
