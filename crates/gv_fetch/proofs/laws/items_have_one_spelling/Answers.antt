use Rattle.gv_fetch.proofs.OneSpelling.{one_spelling}
use Rattle.gv_fetch.proofs.laws.items_have_one_spelling.Goals as goal

pub returns : goal.returns
returns c = one_spelling
