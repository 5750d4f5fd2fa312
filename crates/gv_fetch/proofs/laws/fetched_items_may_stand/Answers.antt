use Rattle.std.proofs.Common.{length, subst}
use Rattle.gv_cmd.specs.declared.stands.Stands.TheVariants.{Ring}
use Rattle.gv_fetch.specs.Fetch.{ring_dwords}
use Rattle.gv_fetch.specs.Items.{MayAllStand}
use Rattle.gv_fetch.proofs.Fetched.{fetched-ring}
use Rattle.gv_fetch.proofs.Forms.{ring-forms}
use Rattle.gv_fetch.proofs.laws.fetched_items_may_stand.Goals as goal

pub returns : goal.returns
returns c = λ space engine image items is.
    let f = fetched-ring space engine image items is in
    subst (MayAllStand Ring engine) f.same (ring-forms space engine (length (ring_dwords space image)) (ring_dwords space image) 262144 f.got f.is)
