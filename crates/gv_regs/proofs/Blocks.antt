-- An engine's registers stand in the 4 KiB from its base on, and no others do.
use Rattle.std.proofs.Common.{◌≡◌, ℕ, ◌+◌, ◌*◌, Bool, true, false, ◌&&◌, ◌||◌, cond, leb, ltb, List, [], ◌∷◌, ◌++◌, append_assoc, Option, Some, None, refl, ap, ◌∙◌, arith}
use Rattle.std.proofs.lemmas.Bool.{and_parts}
use Rattle.std.proofs.lemmas.Bool.Decides.{nat_tests}
use Rattle.std.proofs.lemmas.List.Folds.{find-append}
use Rattle.std.specs.List.{find, list_all, flat_map}
use Rattle.std.specs.Option.{option_or}
use Rattle.gv_regs.proofs.Finds.{find-none}
use Rattle.gv_regs.specs.Table.{Row, EngineBlock, engines, engine_rows, shared_rows, registers, covers}
use Rattle.gv_regs.specs.Decoded.{stands_in}

-- a row that is within an engine's 4 KiB, or outside them
abbrev is_within : EngineBlock → Row → Bool
is_within e row = leb e.base row.first && leb (row.first + 4 * row.dwords) (e.base + 0x1000)

abbrev is_outside : EngineBlock → Row → Bool
is_outside e row = leb (row.first + 4 * row.dwords) e.base || leb (e.base + 0x1000) row.first

within_misses : (low first behind offset : ℕ) → (leb low offset && ltb offset (low + 0x1000)) ≡ false → (leb low first && leb behind (low + 0x1000)) ≡ true → (leb first offset && ltb offset behind) ≡ false
within_misses low first behind offset apart within = grind (arith, nat_tests)

outside_misses : (low first behind offset : ℕ) → (leb low offset && ltb offset (low + 0x1000)) ≡ true → (leb behind low || leb (low + 0x1000) first) ≡ true → (leb first offset && ltb offset behind) ≡ false
outside_misses low first behind offset inside outside = grind (arith, nat_tests)

abbrev rows_from : List EngineBlock → List Row
rows_from es = flat_map engine_rows es ++ shared_rows

abbrev are_apart : List EngineBlock → Bool
are_apart [] = true
are_apart (e ∷ es) = list_all (is_within e) (engine_rows e) && (list_all (is_outside e) (rows_from es) && are_apart es)

abbrev pub rows_near : Option EngineBlock → List Row
rows_near None = shared_rows
rows_near (Some e) = engine_rows e

none_behind : (front back : Option Row) → back ≡ None → option_or front back ≡ front
none_behind None back is = is
none_behind (Some row) back is = refl

module _ (offset : ℕ) where
  abbrev hit : Row → Bool
  hit row = covers row offset

  one_engine : (e : EngineBlock) (rest : List Row) (here : Bool) → stands_in offset e ≡ here → list_all (is_within e) (engine_rows e) ≡ true → list_all (is_outside e) rest ≡ true
      → find hit (engine_rows e ++ rest) ≡ cond here (find hit (engine_rows e)) (find hit rest)
  one_engine e rest true inside within outside =
      find-append hit (engine_rows e) rest
      ∙ none_behind (find hit (engine_rows e)) (find hit rest) (find-none hit (is_outside e) rest (λ row out. outside_misses e.base row.first (row.first + 4 * row.dwords) offset inside out) outside)
  one_engine e rest false apart within outside =
      find-append hit (engine_rows e) rest
      ∙ ap (λ front. option_or front (find hit rest)) (find-none hit (is_within e) (engine_rows e) (λ row in_it. within_misses e.base row.first (row.first + 4 * row.dwords) offset apart in_it) within)

  near_by : (e : EngineBlock) (rest : Option EngineBlock) (here : Bool) → cond here (find hit (engine_rows e)) (find hit (rows_near rest)) ≡ find hit (rows_near (cond here (Some e) rest))
  near_by e rest true = refl
  near_by e rest false = refl

  near_among : (es : List EngineBlock) → are_apart es ≡ true → find hit (rows_from es) ≡ find hit (rows_near (find (stands_in offset) es))
  near_among [] apart = refl
  near_among (e ∷ es) apart =
      let parts = and_parts (list_all (is_within e) (engine_rows e)) _ apart in
      let more = and_parts (list_all (is_outside e) (rows_from es)) (are_apart es) parts.1 in
      ap (find hit) (append_assoc (engine_rows e) (flat_map engine_rows es) shared_rows)
      ∙ one_engine e (rows_from es) (stands_in offset e) refl parts.0 more.0
      ∙ ap (cond (stands_in offset e) (find hit (engine_rows e))) (near_among es more.1)
      ∙ near_by e (find (stands_in offset) es) (stands_in offset e)

  -- the row of an offset is one of its engine's, or where no engine has the offset one that no engine has
  pub near : find (λ row. covers row offset) registers ≡ find (λ row. covers row offset) (rows_near (find (stands_in offset) engines))
  near = near_among engines refl
