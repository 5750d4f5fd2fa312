-- The summary of a report: how many lines and bytes it has, and a fold of its bytes.
use Rattle.std.specs.Prelude.{ℕ, ◌+◌, ◌*◌, ◌%◌, ◌^◌, List, [], ◌∷◌, if◌then◌else◌}
use Rattle.gv_outside.specs.Causes.{one_more}
use Rattle.gv_text.specs.Script.{is_line_feed}
use Rattle.gv_text.specs.declared.report_line.ReportLine.{ReportLine}
use Rattle.gv_text.specs.declared.report_line.ReportLine.TheVariants.{Lines, Bytes, Fold}
use Rattle.gv_lines.specs.declared.totals.Totals.{Totals}

abbrev pub no_totals : Totals
no_totals = record { lines = 0; bytes = 0; fold = 0 }

-- A line feed ends a line. The counts have 64 bits, and stay at their last value.
abbrev pub after_byte : Totals → ℕ → Totals
after_byte t b = record {
  lines = if is_line_feed b then one_more t.lines else t.lines;
  bytes = one_more t.bytes;
  fold = (t.fold * 31 + b) % 2 ^ 64;
}

abbrev pub totals_after : Totals → List ℕ → Totals
totals_after t [] = t
totals_after t (b ∷ bytes) = totals_after (after_byte t b) bytes

-- the three lines that sum a report up
abbrev pub summary_lines : Totals → List ReportLine
summary_lines t = Lines t.lines ∷ Bytes t.bytes ∷ Fold t.fold ∷ []
