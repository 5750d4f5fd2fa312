-- The script that is still to come, by what a reader hands out next.
use Rattle.std.proofs.Common.{◌≡◌, ℕ, ◌+◌, ◌<◌, ◌≤◌, Bool, true, false, List, [], ◌∷◌, ◌++◌, Option, None, Some, length, get_or, refl, ap, sym, ◌∙◌, arith, subst, if◌then◌else◌, ⊎_elim}
use Rattle.std.specs.List.{slice_split, All}
use Rattle.std.proofs.lemmas.List.Folds.{list_any_at}
use Rattle.std.proofs.lemmas.Bool.{cases_lt, lt-ltb}
use Rattle.std.proofs.lemmas.List.Splits.{slice_split_at, length-slice_split}
use Rattle.gv_text.specs.Grammar.{line_of, line_of_words, line_words, says_nothing}
use Rattle.gv_text.specs.Number.{◌>>=◌, provided}
use Rattle.gv_text.specs.Script.{Script, script_of, script_limit, script_from, script_on, ends, nothing_known, accepted, accepts, is_line_feed, lines_of, lines_of_parts}
use Rattle.gv_text.specs.declared.ending.Ending.{Ending}
use Rattle.gv_text.specs.declared.ending.Ending.TheVariants.{BadScript, TooLong}
use Rattle.gv_text.specs.declared.known.Known.{Known}
use Rattle.gv_text.specs.declared.script_line.Line.{Line}
use Rattle.gv_text.specs.declared.script_line.Line.TheVariants.{Blank}
use Rattle.gv_text.proofs.LineParts.{lines_of_parts-more}
use Rattle.gv_lines.specs.Coming.{Coming, coming_in, onto_coming, script_coming}
use Rattle.gv_lines.specs.Reader.{ReaderState, Relates, TellsNext, BeginsLong, coming, has_line_feed, new_reader, room_of}
use Rattle.gv_lines.specs.declared.next.Next.{Next}
use Rattle.gv_lines.specs.declared.next.Next.TheVariants as nexts
use Rattle.gv_lines.proofs.ComingIn.{coming_in-whole, coming_in-cut}
use Rattle.gv_run.specs.Streamed.{ending_at}
use Rattle.gv_machine.proofs.Scripts.{script-whole, script-cut}

-- the script of the lines that are still to come, from line number n on
abbrev pub script_ahead : Known → ℕ → Coming → Script
script_ahead known n c = script_from c.whole known n c.lines

-- The lines that a reader hands out of a source make the script of its bytes.
pub lines_make_the_script : (bytes : List ℕ) → script_of bytes ≡ script_coming (coming_in script_limit bytes)
lines_make_the_script bytes = ⊎_elim
    (λ (past : script_limit < length bytes). script-cut bytes past ∙ ap script_coming (sym (coming_in-cut script_limit bytes past)))
    (λ (within : length bytes ≤ script_limit). script-whole bytes within ∙ ap script_coming (sym (coming_in-whole script_limit bytes within)))
    (cases_lt script_limit (length bytes))

-- before the first line all is still to come
pub all_ahead : (bytes : List ℕ) → script_of bytes ≡ script_ahead nothing_known 1 (coming (new_reader script_limit) bytes)
all_ahead bytes =
    let room : room_of (new_reader script_limit) ≡ script_limit = omega arith in
    lines_make_the_script bytes ∙ ap (λ r. script_ahead nothing_known 1 (coming_in r bytes)) (sym room)

-- where the source tells its bytes, it still does
pub relates-some : (P : Coming → Coming → Type 0) (s t : ReaderState) (a b : Option (List ℕ)) (x : List ℕ) → a ≡ Some x → Relates P s a t b → (y : List ℕ) × (b ≡ Some y) × P (coming s x) (coming t y)
relates-some P s t None b x is h = cc
relates-some P s t (Some z) None x is h = absurd h
relates-some P s t (Some z) (Some y) x is h = (y, refl, subst (λ z. P (coming s z) (coming t y)) (some_is z x is) h)
  where
    some_is : (z x : List ℕ) → Some z ≡ Some x → z ≡ x
    some_is z x is = cc

-- ---- no line of more than 256 bytes is accepted

line_of-long : (bytes : List ℕ) → 256 < length bytes → line_of bytes ≡ None
line_of-long bytes long = ap (λ b. if b then None else (if says_nothing bytes then Some Blank else line_of_words (line_words bytes))) (lt-ltb 256 (length bytes) long)

accepted-long : (known : Known) (bytes : List ℕ) → 256 < length bytes → accepted known bytes ≡ None
accepted-long known bytes long = ap (λ (o : Option Line). o >>= λ line. provided (accepts known line) line) (line_of-long bytes long)

long-refused : (whole : Bool) (known : Known) (n : ℕ) (lines : List (List ℕ)) → BeginsLong lines → script_from whole known n lines ≡ ends (BadScript n)
long-refused whole known n [] long = absurd long
long-refused whole known n (bytes ∷ lines) long = ap (λ o. script_on known n o (λ next. script_from whole next (n + 1) lines)) (accepted-long known bytes long)

-- ---- what comes next

module _ (known : Known) (n : ℕ) (line : List ℕ) where
  -- where no line does, the script ends
  pub ahead-ends : (next : Next) (before after : Coming) (ending : Ending) → ending_at next n ≡ Some ending → TellsNext next before line after → script_ahead known n before ≡ ends ending
  ahead-ends nexts.Line before after ending is told = cc
  ahead-ends nexts.LastLine before after ending is told = cc
  ahead-ends nexts.LongLine before after ending is told = long-refused before.whole known n before.lines told.0 ∙ ap ends (same is)
    where
      same : Some (BadScript n) ≡ Some ending → BadScript n ≡ ending
      same is = cc
  ahead-ends nexts.End before after ending is told = ap (script_ahead known n) told.0 ∙ ap ends (same is)
    where
      same : Some (BadScript n) ≡ Some ending → BadScript n ≡ ending
      same is = cc
  ahead-ends nexts.PastLimit before after ending is told = ap (script_ahead known n) told.0 ∙ ap ends (same is)
    where
      same : Some TooLong ≡ Some ending → TooLong ≡ ending
      same is = cc

  comes-first : (next : Next) (before after : Coming) → ending_at next n ≡ None → TellsNext next before line after → before ≡ onto_coming line after
  comes-first nexts.Line before after is told = told.0
  comes-first nexts.LastLine before after is told = told.0 ∙ ap (onto_coming line) (sym told.2)
  comes-first nexts.LongLine before after is told = cc
  comes-first nexts.End before after is told = cc
  comes-first nexts.PastLimit before after is told = cc

  pub ahead-line : (next : Next) (before after : Coming) → ending_at next n ≡ None → TellsNext next before line after → script_ahead known n before ≡ script_on known n (accepted known line) (λ known. script_ahead known (n + 1) after)
  ahead-line next before after is told = ap (script_ahead known n) (comes-first next before after is told)

-- behind the last line, which has no line feed, nothing comes
pub ahead-nothing : (known : Known) (n : ℕ) (line : List ℕ) (before after : Coming) → TellsNext nexts.LastLine before line after → script_ahead known n after ≡ ends (BadScript n)
ahead-nothing known n line before after told = ap (script_ahead known n) told.2

-- ---- lines, whatever comes behind them

fails-all : (line : List ℕ) → has_line_feed line ≡ false → All (λ b. is_line_feed b ≡ false) line
fails-all line plain k d inside = by_test (is_line_feed (get_or line k d)) refl
  where
    by_test : (b : Bool) → is_line_feed (get_or line k d) ≡ b → is_line_feed (get_or line k d) ≡ false
    by_test true is = let some = list_any_at is_line_feed line k d inside is in cc
    by_test false is = is

pub lines_of-line : (counts : List ℕ → Bool) (line more : List ℕ) → has_line_feed line ≡ false → lines_of counts (line ++ 10 ∷ more) ≡ line ∷ lines_of counts more
lines_of-line counts line more plain =
    ap (lines_of_parts counts) (slice_split_at is_line_feed line 10 more (fails-all line plain) refl)
    ∙ lines_of_parts-more counts line (slice_split is_line_feed more) (omega (arith, length-slice_split is_line_feed more))
