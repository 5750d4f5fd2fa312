use Rattle.gv_place.proofs.Loading.{loaded-stands}
use Rattle.gv_place.proofs.Contexts.{stopped-stands, submitted-stands}
use Rattle.gv_place.proofs.laws.contexts_stand_by_their_images.Goals as goal

pub returns-clause-loaded : goal.returns-clause-loaded
returns-clause-loaded c = loaded-stands

pub returns-clause-stopped : goal.returns-clause-stopped
returns-clause-stopped c = stopped-stands

pub returns-clause-submitted : goal.returns-clause-submitted
returns-clause-submitted c = submitted-stands
