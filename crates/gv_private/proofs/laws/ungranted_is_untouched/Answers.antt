use Rattle.gv_private.proofs.Untouched.{ungranted_is_untouched, loads_write_nothing}
use Rattle.gv_private.proofs.Unnamed.{unnamed_is_untouched}
use Rattle.gv_private.proofs.laws.ungranted_is_untouched.Goals as goal

pub returns-clause-frames : goal.returns-clause-frames
returns-clause-frames c = ungranted_is_untouched

pub returns-clause-unnamed : goal.returns-clause-unnamed
returns-clause-unnamed c = unnamed_is_untouched

pub returns-clause-loads : goal.returns-clause-loads
returns-clause-loads c = loads_write_nothing
