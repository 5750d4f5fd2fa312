-- What adding numbers leaves, whether or not there was memory.
use Rattle.std.proofs.Common.{◌≡◌, ◌+◌, ◌≤◌, Bool, false, List, ◌++◌, length, replicate, ap, ◌∙◌, arith, length-append, ℕ, None}
use Rattle.std.specs.Prelude.{Result, Ok, Err, OnOk, OnErr}
use Rattle.std.proofs.lemmas.List.{length-replicate}
use Rattle.gv_arena.specs.ArenaHolds.{shown}
use Rattle.gv_arena.specs.Contents.{padded}
use Rattle.gv_arena.proofs.Padding.{limit_is, padded_more}
use Rattle.gv_arena.proofs.Shown.{length-shown, shown_added}

module _ (old new : List Bool) (more : ℕ) where
  longer : new ≡ old ++ replicate more false → length new ≡ length old + more
  longer e = ap length e ∙ length-append old (replicate more false) ∙ ap (λ (n : ℕ). length old + n) (length-replicate more false)

module _ {T E : Type 0} (old new : List Bool) (more : ℕ) where
  pub added_length : (r : Result T E) → OnOk r (new ≡ old ++ replicate more false) → OnOk r (length new ≡ length old + more)
  added_length (Ok x) ok = longer old new more ok
  added_length (Err e) ok = tt

  pub added_bounds : (r : Result T E) → OnOk r (new ≡ old ++ replicate more false) → OnErr r (new ≡ old) → (length old ≤ length new) × (length new ≤ length old + more)
  added_bounds (Ok x) ok err = (omega (arith, longer old new more ok), omega (arith, longer old new more ok))
  added_bounds (Err e) ok err = (omega (arith, ap length err), omega (arith, ap length err))

  pub added_shown : (r : Result T E) → OnOk r (new ≡ old ++ replicate more false) → OnErr r (new ≡ old) → (pages : List (List ℕ)) → length old + more ≤ length pages → length pages ≤ 131072
      → padded None (shown new pages) ≡ padded None (shown old pages)
  added_shown (Ok x) ok err pages le within =
      ap (λ (ms : List Bool). padded None (shown ms pages)) ok ∙ ap (padded None) (shown_added old pages more le)
      ∙ padded_more None (shown old pages) more (omega (arith, limit_is, length-shown old pages (omega arith)))
  added_shown (Err e) ok err pages le within = ap (λ (ms : List Bool). padded None (shown ms pages)) err
