-- The first line of a text of which a front is known.
use Rattle.std.proofs.Common.{◌≡◌, ◌≢◌, ℕ, ◌+◌, ◌<◌, ◌≤◌, Bool, true, false, not, List, [], ◌∷◌, ◌++◌, length, take, drop, refl, ap, sym, ◌∙◌, arith, cond, eqb, if◌then◌else◌, subst, ⊎_elim}
use Rattle.std.specs.List.{position_or_len, prefix_len}
use Rattle.std.proofs.lemmas.Bool.{ne_eqb, cond_both, cases_lt}
use Rattle.std.proofs.lemmas.List.{length-take-le}
use Rattle.std.proofs.lemmas.List.Folds.{prefix_len-append}
use Rattle.std.proofs.lemmas.List.Sums.{prefix_len-le-length}
use Rattle.gv_text.specs.Script.{is_line_feed, lines_of}
use Rattle.gv_text.proofs.LineParts.{lines_of-first, lines_of-last}
use Rattle.gv_lines.specs.Reader.{BeginsLong}

-- the first line feed of a front is that of the text
pub position-front : (front more : List ℕ) → position_or_len is_line_feed front < length front → position_or_len is_line_feed (front ++ more) ≡ position_or_len is_line_feed front
position-front front more inside =
    let p = prefix_len (λ b. not (is_line_feed b)) front in
    let differ : p ≢ length front = λ e. omega arith in
    prefix_len-append (λ b. not (is_line_feed b)) front more
    ∙ ap (λ t. cond t (length front + prefix_len (λ b. not (is_line_feed b)) more) p) (ne_eqb p (length front) differ)

-- it stands no earlier in the text
pub position-past : (front more : List ℕ) → position_or_len is_line_feed front ≤ position_or_len is_line_feed (front ++ more)
position-past front more =
    let p = prefix_len (λ b. not (is_line_feed b)) front in
    let rest = prefix_len (λ b. not (is_line_feed b)) more in
    let at_most = prefix_len-le-length (λ b. not (is_line_feed b)) front in
    subst (λ n. p ≤ n) (sym (prefix_len-append (λ b. not (is_line_feed b)) front more))
    (cond_both (eqb p (length front)) (length front + rest) p (λ n. p ≤ n) (λ _. omega arith) (λ _. omega arith))

-- a text's first line, and those behind it
pub lines_of-at : (counts : List ℕ → Bool) (text : List ℕ) (p : ℕ) → position_or_len is_line_feed text ≡ p → p < length text → lines_of counts text ≡ take p text ∷ lines_of counts (drop (p + 1) text)
lines_of-at counts text p at inside =
    lines_of-first counts text (omega arith) ∙ ap (λ n. take n text ∷ lines_of counts (drop (n + 1) text)) at

-- without a line feed, a text is one line or none
pub lines_of-one : (counts : List ℕ → Bool) (text : List ℕ) → length text ≤ position_or_len is_line_feed text → counts text ≡ true → lines_of counts text ≡ text ∷ []
lines_of-one counts text past is = lines_of-last counts text past ∙ ap (λ b. if b then text ∷ [] else []) is

pub lines_of-none : (counts : List ℕ → Bool) (text : List ℕ) → length text ≤ position_or_len is_line_feed text → counts text ≡ false → lines_of counts text ≡ []
lines_of-none counts text past is = lines_of-last counts text past ∙ ap (λ b. if b then text ∷ [] else []) is

-- a first line of more than 256 bytes, where each such part counts
pub lines_of-long : (counts : List ℕ → Bool) (text : List ℕ) → 256 < position_or_len is_line_feed text → ((part : List ℕ) → 256 < length part → counts part ≡ true) → BeginsLong (lines_of counts text)
lines_of-long counts text past all =
    let p = position_or_len is_line_feed text in
    let at_most = prefix_len-le-length (λ b. not (is_line_feed b)) text in
    ⊎_elim
    (λ inside. subst BeginsLong (sym (lines_of-at counts text p refl inside)) (subst (λ n. 256 < n) (sym (length-take-le p text at_most)) past))
    (λ whole. subst BeginsLong (sym (lines_of-one counts text whole (all text (omega arith)))) (omega arith))
    (cases_lt p (length text))
