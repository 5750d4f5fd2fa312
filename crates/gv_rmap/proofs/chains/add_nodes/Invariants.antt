use Rattle.std.proofs.Common.{◌≡◌, ◌+◌, vec_len, vec_capacity}
use Rattle.gv_rmap.proofs.chains.add_nodes.Given as goal

abbrev pub invariant-loop : goal.invariant-loop
invariant-loop l = (vec_len l.spare ≡ l.before + l.counter) × (vec_capacity l.spare ≡ vec_capacity l.initial.spare)
