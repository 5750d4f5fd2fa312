use Rattle.std.proofs.Common.{length, arith, rules, ap, sym, ◌∙◌}
use Rattle.gv_outside.proofs.Pieces.{taken, empty_end}
use Rattle.gv_outside.proofs.memory_source.MemorySourceSource.read.Goals as goal

pub returns-clause-bytes : goal.returns-clause-bytes
returns-clause-bytes c =
    let s = c.self.inside in
    let n = c.min-count.result in
    (ap (λ v. v.left) (sym c.self.view_is) ∙ taken s.bytes.items c.copy_from_slice.new.self _ s.at n (search rules) (omega arith), λ none room. empty_end s.bytes.items s.at n (length c.args.into.now) s.most (search rules) (omega arith) (omega arith) none)
