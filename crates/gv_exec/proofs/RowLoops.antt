-- The rows of a blit, one at a time.
use Rattle.std.proofs.Common.{◌≡◌, suc, List, ◌∷◌, ap, sym, ◌∙◌, subst, arith}
use Rattle.std.specs.Prelude.{All}
use Rattle.gv_blit.specs.Short.{IsShort}
use Rattle.gv_cmd.specs.Effect.{Operations, rows_copied, rows_filled}
use Rattle.gv_cmd.specs.declared.blit.Blit.{Blit}
use Rattle.gv_cmd.specs.declared.blit.RowPair.{RowPair}

module _ (rest next : List RowPair) (r : RowPair) (is : rest ≡ r ∷ next) where
  shorter : All IsShort (r ∷ next) → All IsShort next
  shorter all = λ k d h. all (suc k) d (omega arith)

  pub short-next : All IsShort rest → All IsShort next
  short-next all = shorter (subst (All IsShort) is all)

  pub short-first : All IsShort rest → IsShort r
  short-first all = subst (All IsShort) is all 0 r (omega arith)

  module _ {S : Type 0} (ops : Operations S) (s t : S) where
    pub rows_copied-step : t ≡ ops.row_copied s r.to r.from r.bytes → rows_copied ops t next ≡ rows_copied ops s rest
    rows_copied-step done = ap (λ u. rows_copied ops u next) done ∙ sym (ap (rows_copied ops s) is)

    pub rows_filled-step : (blit : Blit) → t ≡ ops.row_filled s r.to r.bytes blit.colour blit.bytes → rows_filled ops t blit next ≡ rows_filled ops s blit rest
    rows_filled-step blit done = ap (λ u. rows_filled ops u blit next) done ∙ sym (ap (rows_filled ops s blit) is)
