-- The words of the pages that are live, by the marks.
use Rattle.std.proofs.Common.{◌≡◌, ℕ, zero, suc, ◌+◌, ◌≤◌, Bool, true, false, List, [], ◌∷◌, ◌++◌, length, set, take, drop, get_or, replicate, refl, sym, ap, ◌∙◌, arith, Some, None, Option}
use Rattle.std.proofs.lemmas.List.{set-get_or}
use Rattle.std.proofs.lemmas.List.Sums.{sum_by-cons}
use Rattle.std.specs.Prelude.{count_by, cond}
use Rattle.std.specs.Option.{is_some}
use Rattle.gv_arena.specs.ArenaHolds.{shown, shown_page}

pub length-shown : (marks : List Bool) (pages : List (List ℕ)) → length marks ≤ length pages → length (shown marks pages) ≡ length marks
length-shown [] pages le = refl
length-shown (m ∷ marks) [] le = absurd (omega arith)
length-shown (m ∷ marks) (p ∷ pages) le = ap suc (length-shown marks pages (omega arith))

pub shown_at : (marks : List Bool) (pages : List (List ℕ)) (i : ℕ) → length marks ≤ length pages → get_or (shown marks pages) i None ≡ shown_page (get_or marks i false) (get_or pages i [])
shown_at [] pages i le = refl
shown_at (m ∷ marks) [] i le = absurd (omega arith)
shown_at (m ∷ marks) (p ∷ pages) zero le = refl
shown_at (m ∷ marks) (p ∷ pages) (suc i) le = shown_at marks pages i (omega arith)

pub shown_set : (marks : List Bool) (pages : List (List ℕ)) (i : ℕ) (mark : Bool) (words : List ℕ) → set (shown marks pages) i (shown_page mark words) ≡ shown (set marks i mark) (set pages i words)
shown_set [] pages i mark words = refl
shown_set (m ∷ marks) [] zero mark words = refl
shown_set (m ∷ marks) [] (suc i) mark words = refl
shown_set (m ∷ marks) (p ∷ pages) zero mark words = refl
shown_set (m ∷ marks) (p ∷ pages) (suc i) mark words = ap (λ (ps : List (Option (List ℕ))). shown_page m p ∷ ps) (shown_set marks pages i mark words)

-- the words of a live page are set
pub shown_written : (marks : List Bool) (pages : List (List ℕ)) (i : ℕ) (words : List ℕ) → get_or marks i false ≡ true → shown marks (set pages i words) ≡ set (shown marks pages) i (Some words)
shown_written marks pages i words e =
    sym (shown_set marks pages i true words ∙ ap (λ (b : Bool). shown (set marks i b) (set pages i words)) (sym e) ∙ ap (λ (ms : List Bool). shown ms (set pages i words)) (set-get_or marks i false))

-- a page is taken away
pub shown_taken : (marks : List Bool) (pages : List (List ℕ)) (i : ℕ) → shown (set marks i false) pages ≡ set (shown marks pages) i None
shown_taken marks pages i = sym (shown_set marks pages i false (get_or pages i []) ∙ ap (shown (set marks i false)) (set-get_or pages i []))

pub shown_longer : (marks : List Bool) (pages longer : List (List ℕ)) → length marks ≤ length pages → take (length pages) longer ≡ pages → shown marks longer ≡ shown marks pages
shown_longer [] pages longer le e = refl
shown_longer (m ∷ marks) [] longer le e = absurd (omega arith)
shown_longer (m ∷ marks) (p ∷ pages) [] le e = absurd (omega (arith, ap length e))
shown_longer (m ∷ marks) (p ∷ pages) (q ∷ longer) le e =
    let first : q ≡ p = ap (λ (ps : List (List ℕ)). get_or ps 0 q) e in let rest : take (length pages) longer ≡ pages = ap (drop 1) e in
    ap (λ (words : List ℕ). shown_page m words ∷ shown marks longer) first ∙ ap (λ (ps : List (Option (List ℕ))). shown_page m p ∷ ps) (shown_longer marks pages longer (omega arith) rest)

pub shown_added : (marks : List Bool) (pages : List (List ℕ)) (n : ℕ) → length marks + n ≤ length pages → shown (marks ++ replicate n false) pages ≡ shown marks pages ++ replicate n None
shown_added [] pages zero le = refl
shown_added [] [] (suc n) le = absurd (omega arith)
shown_added [] (p ∷ pages) (suc n) le = ap (λ (ps : List (Option (List ℕ))). None ∷ ps) (shown_added [] pages n (omega arith))
shown_added (m ∷ marks) [] n le = absurd (omega arith)
shown_added (m ∷ marks) (p ∷ pages) n le = ap (λ (ps : List (Option (List ℕ))). shown_page m p ∷ ps) (shown_added marks pages n (omega arith))

is_mark : (mark : Bool) (words : List ℕ) → is_some (shown_page mark words) ≡ mark
is_mark true words = refl
is_mark false words = refl

pub count-shown : (marks : List Bool) (pages : List (List ℕ)) → length marks ≤ length pages → count_by is_some (shown marks pages) ≡ count_by (λ mark. mark) marks
count-shown [] pages le = refl
count-shown (m ∷ marks) [] le = absurd (omega arith)
count-shown (m ∷ marks) (p ∷ pages) le =
    let one : Bool → ℕ = λ b. cond b 1 0 in
    omega (arith, count-shown marks pages (omega arith), sum_by-cons (λ (q : Option (List ℕ)). one (is_some q)) (shown_page m p) (shown marks pages), sum_by-cons one m marks, ap one (is_mark m p))
