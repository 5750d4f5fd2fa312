use Rattle.gv_sring.proofs.WindowReads.{shows-image}
use Rattle.gv_sring.proofs.Windows.{shows-same}
use Rattle.gv_sring.proofs.laws.shadows_have_images.Goals as goal

pub returns-clause-image : goal.returns-clause-image
returns-clause-image c = shows-image

pub returns-clause-stays : goal.returns-clause-stays
returns-clause-stays c = shows-same
