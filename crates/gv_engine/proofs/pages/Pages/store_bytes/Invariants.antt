use Rattle.std.proofs.Common.{◌≡◌, ◌+◌, get_or}
use Rattle.gv_engine.specs.Held.{held}
use Rattle.gv_engine.specs.Pages.{with_words, bytes_put}
use Rattle.gv_engine.proofs.pages.Pages.store_bytes.Given as goal

abbrev pub invariant-loop-n : goal.invariant-loop-n
invariant-loop-n l = held l.self ≡ with_words (held l.fn.self) l.page (bytes_put ((held l.fn.self).words l.page) l.at (λ k. get_or l.row (l.from + k) 0) l.n)
