use Rattle.std.proofs.Common.{◌≡◌, max, ap, ◌∙◌, arith}
use Rattle.gv_rmap.specs.Chains.{ReverseMap}
use Rattle.gv_sggtt.proofs.Relinked.{linked-zero}
use Rattle.gv_sggtt.proofs.linked.LinkedEntries.new.Goals as goal

pub invariant_of-result : goal.invariant_of-result
invariant_of-result c =
    let chains = c.reserve.new.self in
    let none = ap (λ (s : ReverseMap). s.chains) c.in_ok-reserve.ensures.ok ∙ ap (λ (s : ReverseMap). s.chains) c.in_ok-chains.ensures in
    let spare : chains.spare ≡ max c.in_ok-chains.chains.spare c.args.count = ap (λ (s : ReverseMap). s.spare) c.in_ok-reserve.ensures.ok in
    rw c.in_ok-new.ensures (linked-zero c.args.frames c.args.count chains none (omega arith))
