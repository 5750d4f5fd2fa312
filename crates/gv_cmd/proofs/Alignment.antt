-- Each dword that a listed command loads or stores is at a multiple of 4.
use Rattle.std.proofs.Common.{◌≡◌, ℕ, ◌+◌, ◌*◌, ◌/◌, ◌%◌, ◌^◌, ◌&&◌, not, Bool, true, false, List, [], ◌∷◌, get_or, Option, None, Some, cond, arith}
use Rattle.std.specs.Prelude.{IfSome}
use Rattle.gv_cmd.specs.Bits.{dword_address, quadword_address}
use Rattle.gv_cmd.specs.Table.{CommandRow, has_header, pipe_fields, colour_fields, copy_fields, table, kind_in, kind_of}
use Rattle.gv_cmd.specs.Simulation.{Access, IsAligned, AccessesAreAligned, dwords_at, post_accesses, accesses, EachAccess, MayDo}
use Rattle.gv_cmd.specs.Effect.{is_skipped}
use Rattle.gv_cmd.specs.declared.kind.PostWrite.{PostWrite}
use Rattle.gv_cmd.specs.declared.kind.Kind.{Kind}
use Rattle.gv_cmd.specs.declared.kind.Kind.TheVariants.{ColourBlit, CopyBlit}

abbrev AreAligned : Kind → Type 0
AreAligned kind = EachAccess IsAligned (accesses kind)

fours : (x y : ℕ) → (x % 2 ^ 16 * 2 ^ 32 + y / 4 * 4) % 4 ≡ 0
fours x y = omega arith

eights : (x y : ℕ) → (x % 2 ^ 16 * 2 ^ 32 + y / 8 * 8) % 4 ≡ 0
eights x y = omega arith

dword_aligned : (ws : List ℕ) (n : ℕ) → dword_address ws n % 4 ≡ 0
dword_aligned ws n = fours (get_or ws (n + 1) 0) (get_or ws n 0)

quadword_aligned : (ws : List ℕ) (n : ℕ) → quadword_address ws n % 4 ≡ 0
quadword_aligned ws n = eights (get_or ws (n + 1) 0) (get_or ws n 0)

two : (global : Bool) (at : ℕ) (high : Option ℕ) → at % 4 ≡ 0 → EachAccess IsAligned (dwords_at global at high)
two global at None h = (h, tt)
two global at (Some high) h = (h, (omega arith, tt))

post : (b : Bool) (w : PostWrite) → w.at % 4 ≡ 0 → EachAccess IsAligned (post_accesses (cond b (Some w) None))
post true w h = two w.global w.at w.high h
post false w h = tt

by_if : (b : Bool) (x y : Option Kind) → IfSome x AreAligned → IfSome y AreAligned → IfSome (cond b x y) AreAligned
by_if true x y p q = p
by_if false x y p q = q

where_fits : (b : Bool) (kind : Kind) → AreAligned kind → IfSome (cond b (Some kind) None) AreAligned
where_fits true kind h = h
where_fits false kind h = tt

-- Each row's fields are such: so are those of the first one that a header names.
abbrev RowsAligned : List ℕ → List CommandRow → Type 0
RowsAligned ws [] = Unit {0}
RowsAligned ws (row ∷ rows) = IfSome (row.fields ws) AreAligned × RowsAligned ws rows

first_aligned : (h : ℕ) (ws : List ℕ) (rows : List CommandRow) → RowsAligned ws rows → IfSome (kind_in rows h ws) AreAligned
first_aligned h ws [] all = tt
first_aligned h ws (row ∷ rows) all = by_if (has_header row h) (row.fields ws) _ all.0 (first_aligned h ws rows all.1)

table_aligned : (ws : List ℕ) → RowsAligned ws table
table_aligned ws = (
  where_fits _ (pipe_fields ws) (post _ _ (quadword_aligned ws 2)),
  (
    tt,
    (
      tt,
      (
        tt,
        (
          tt,
          (
            tt,
            (
              (dword_aligned ws 2, tt),
              (
                two _ _ _ (dword_aligned ws 1),
                (
                  tt,
                  (
                    (dword_aligned ws 2, tt),
                    (
                      post _ _ (quadword_aligned ws 1),
                      (
                        (dword_aligned ws 2, tt),
                        (
                          tt,
                          (
                            (dword_aligned ws 3, (dword_aligned ws 1, tt)),
                            (
                              tt,
                              (
                                where_fits _ (ColourBlit (colour_fields ws)) tt,
                                (
                                  where_fits _ (CopyBlit (copy_fields ws)) tt,
                                  tt,
                                ),
                              ),
                            ),
                          ),
                        ),
                      ),
                    ),
                  ),
                ),
              ),
            ),
          ),
        ),
      ),
    ),
  ),
)

pub accesses-aligned : (ws : List ℕ) → IfSome (kind_of ws) (λ kind. EachAccess IsAligned (accesses kind))
unfolding kind_of
accesses-aligned ws = first_aligned (get_or ws 0 0) ws table (table_aligned ws)

unless_skipped : (b : Bool) (xs : List Access) → EachAccess IsAligned xs → EachAccess IsAligned (cond b [] xs)
unless_skipped true xs h = tt
unless_skipped false xs h = h

by_kind : (engine : ℕ) (privileged : Bool) (kind : Option Kind) → IfSome kind AreAligned → MayDo IsAligned engine privileged kind
by_kind engine privileged None h = tt
by_kind engine privileged (Some kind) h = unless_skipped (not privileged && is_skipped engine kind) (accesses kind) h

pub accesses_are_aligned : AccessesAreAligned
accesses_are_aligned ws engine privileged = by_kind engine privileged (kind_of ws) (accesses-aligned ws)
