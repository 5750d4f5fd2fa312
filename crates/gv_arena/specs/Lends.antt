-- What a block ends as, once a `&mut` to one of its pages has ended.
use Rattle.std.specs.Prelude.{ℕ, List, slice_set}
use Rattle.std.specs.Borrow.{Fml, MutBor, Lends}
use Rattle.gv_arena.specs.Ownership.{Page}
use Rattle.gv_arena.specs.contracts.block.Block.{the_row}
use Rattle.gv_arena.specs.declared.block.Block.{Block}

-- the block with these words in a page
abbrev pub with_page : Block → ℕ → List ℕ → Block
with_page b page words = record b { pages = slice_set b.pages page words }

abbrev pub lends_page : MutBor Block → ℕ → MutBor (List ℕ) → Fml
lends_page b page r = Lends the_row Page b r (with_page b.now page)
