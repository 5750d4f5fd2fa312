use Rattle.std.proofs.Common.{◌<◌, ◌^◌, slice_index, sym, ◌∙◌, subst}
use Rattle.gv_vgpu.proofs.Outcomes.{same-command}
use Rattle.gv_vgpu.proofs.turn.dwords_are_small.Goals as goal

pub returns-in-Ran : goal.returns-in-Ran
returns-in-Ran c = λ command raise at.
    subst (λ ws. slice_index ws 1 < 2 ^ 32) (same-command c.in-Ran.command command c.in-Ran.raise raise (sym c.in-Ran.is ∙ at))
    (subst (λ n. n < 2 ^ 32) c.second_dword.ensures c.second_dword.type_inv)
