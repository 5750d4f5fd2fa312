use Rattle.gv_image.proofs.First.{first_is_accepted}
use Rattle.gv_image.proofs.laws.new_devices_are_accepted.Goals as goal

pub returns : goal.returns
returns c = first_is_accepted
