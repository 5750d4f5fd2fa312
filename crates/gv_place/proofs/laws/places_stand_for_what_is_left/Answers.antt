use Rattle.gv_place.proofs.Ends.{ended-done}
use Rattle.gv_place.proofs.Seeing.{left-seen}
use Rattle.gv_place.proofs.Kept.{stands-kept, part-keeps}
use Rattle.gv_place.proofs.Stores.{stores-keep}
use Rattle.gv_place.proofs.laws.places_stand_for_what_is_left.Goals as goal

pub returns-clause-ends : goal.returns-clause-ends
returns-clause-ends c = ended-done

pub returns-clause-seen : goal.returns-clause-seen
returns-clause-seen c = left-seen

pub returns-clause-stays : goal.returns-clause-stays
returns-clause-stays c = stands-kept

pub returns-clause-part : goal.returns-clause-part
returns-clause-part c = part-keeps

pub returns-clause-stores : goal.returns-clause-stores
returns-clause-stores c = stores-keep
