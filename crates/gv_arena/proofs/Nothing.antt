-- An arena without pages has none, and none is live.
use Rattle.std.proofs.Common.{◌≡◌, ℕ, [], None, Option, List, refl}
use Rattle.std.specs.Prelude.{cond}
use Rattle.std.specs.Option.{is_some}
use Rattle.gv_arena.specs.Contents.{nothing, words_at, live}
use Rattle.gv_arena.proofs.Padding.{get_or-padded, sum_by-padded}

pub words_at-nothing : (page : ℕ) → words_at nothing page ≡ None
words_at-nothing page = get_or-padded None [] page

pub live-nothing : live nothing ≡ 0
live-nothing =
    let counted : Option (List ℕ) → ℕ = λ p. cond (is_some p) 1 0 in
    sum_by-padded None counted refl []
