use Rattle.std.proofs.Common.{length, subst}
use Rattle.gv_fetch.specs.Fetch.{ring_dwords}
use Rattle.gv_fetch.specs.Owned.{AllOwned}
use Rattle.gv_fetch.proofs.Fetched.{fetched-ring}
use Rattle.gv_fetch.proofs.Owned.{ring-owned}
use Rattle.gv_fetch.proofs.laws.fetched_items_are_owned.Goals as goal

pub returns-clause-items : goal.returns-clause-items
returns-clause-items c = λ space engine image items is.
    let f = fetched-ring space engine image items is in
    subst (AllOwned space) f.same (ring-owned space engine (length (ring_dwords space image)) (ring_dwords space image) 262144 f.got f.is)
