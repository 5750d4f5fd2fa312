use Rattle.std.proofs.Common.{false, replicate, sym, ap, ◌∙◌}
use Rattle.gvtbox.proofs.layers.many_entries_of_many_frames.Goals as goal

pub guard_each-requires-clause-free : goal.guard_each-requires-clause-free
guard_each-requires-clause-free g c =
    c.write_all.ensures.guarded ∙ c.in_ok-gpu.ensures.guarded ∙ ap (λ n. replicate n false) (sym c.write_all.ensures.same)
