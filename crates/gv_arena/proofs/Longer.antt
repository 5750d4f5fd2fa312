-- Lists that begin with the pages.
use Rattle.std.proofs.Common.{◌≡◌, ℕ, ◌≤◌, List, ◌++◌, length, refl, ap, ◌∙◌, arith, length-take, take_all}
use Rattle.std.proofs.lemmas.List.{take-append-le}
use Rattle.gv_arena.specs.Store.{IsLonger}
use Rattle.gv_arena.specs.Zeros.{zero_pages}

pub length-zero_pages : length zero_pages ≡ 64
unfolding zero_pages
length-zero_pages = refl

pub longer_same : (pages : List (List ℕ)) → IsLonger pages pages
longer_same pages = take_all (length pages) pages (omega arith)

pub longer_le : (pages longer : List (List ℕ)) → IsLonger pages longer → length pages ≤ length longer
longer_le pages longer e = omega (arith, length-take (length pages) longer, ap length e)

pub longer_more : (pages longer more : List (List ℕ)) → IsLonger pages longer → IsLonger pages (longer ++ more)
longer_more pages longer more e = take-append-le (length pages) longer more (longer_le pages longer e) ∙ e
