use Rattle.gv_text.proofs.ReportLines.{lines_of-text_of, lines_of_guest-text_of}
use Rattle.gv_text.proofs.guest_lines.lines_name_their_guest.Goals as goal

pub returns-clause-texts : goal.returns-clause-texts
returns-clause-texts c = lines_of-text_of

pub returns-clause-guests : goal.returns-clause-guests
returns-clause-guests c = lines_of_guest-text_of
