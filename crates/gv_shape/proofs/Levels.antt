-- The levels of tables: which names which, and how far above the leaves each is.
use Rattle.std.proofs.Common.{ℕ, ◌+◌, ◌*◌, ◌≤◌, ◌<◌, ◌≡◌, Bool, true, false, ◌&&◌, eqb, ltb, refl, sym, ap, ◌∙◌, arith, ⊎_elim}
use Rattle.std.proofs.lemmas.Bool.{eq-eqb, ne_eqb, lt-ltb, cases_lt, cases_eq}
use Rattle.std.proofs.lemmas.Bool.Decides.{nat_tests}
use Rattle.gv_entry.specs.declared.process.Process.TheVariants.{Table, Large, Page}
use Rattle.gv_entry.specs.Tables.{level_entry}
use Rattle.gv_types.specs.Memory.{Memory}
use Rattle.gv_shape.specs.Shadow.{split_level, wanted}
use Rattle.gv_shape.specs.Counts.{above, names_node, naming, rank, one_if}

pub low_level : (level : ℕ) → level < 5 → ltb level 5 ≡ true
low_level level few = lt-ltb level 5 few

pub high_level : (level : ℕ) → 5 ≤ level → ltb level 5 ≡ false
high_level level many = grind (arith, nat_tests)

pub rank-low : (level : ℕ) → level < 5 → rank level ≡ level
rank-low level few = rw (low_level level few) refl

pub rank-high : (level : ℕ) → 5 ≤ level → rank level ≡ 1
rank-high level many = rw (high_level level many) refl

pub above-low : (level : ℕ) → level < 5 → above level ≡ level + 1
above-low level few = rw (low_level level few) refl

pub above-high : (level : ℕ) → 5 ≤ level → above level ≡ 2
above-high level many = rw (high_level level many) refl

pub naming-low : (level h : ℕ) → level < 5 → naming level h ≡ Table h
naming-low level h few = rw (low_level level few) refl

pub naming-high : (level h : ℕ) → 5 ≤ level → naming level h ≡ Large h (eqb level 5)
naming-high level h many = rw (high_level level many) refl

pub wanted-low : (m : Memory) (level f i : ℕ) → level < 5 → wanted m level f i ≡ level_entry m level f i
wanted-low m level f i few = rw (low_level level few) refl

pub wanted-high : (m : Memory) (level f i : ℕ) → 5 ≤ level → wanted m level f i ≡ Page (f + i) (eqb level 5)
wanted-high m level f i many = rw (high_level level many) refl

pub split-back : (level : ℕ) → 5 ≤ level → level ≤ 6 → split_level (eqb level 5) ≡ level
split-back level many few = grind (arith, nat_tests)

-- what a table of level 2 to 4 names stands nearer to the leaves
pub rank-below : (lower level : ℕ) → 1 ≤ lower → above lower ≡ level → 2 ≤ level → level ≤ 4 → rank lower < rank level
rank-below lower level one up two four = ⊎_elim
    (λ low. let a = above-low lower low in let b = rank-low lower low in let c = rank-low level (omega arith) in omega arith)
    (λ high. let b = rank-high lower high in let c = rank-low level (omega arith) in omega arith)
    (cases_lt lower 5)

-- the node that an entry names
pub names-it : (lower h : ℕ) → lower ≤ 6 → names_node lower h (naming lower h) ≡ true
names-it lower h six = ⊎_elim
    (λ low. rw (naming-low lower h low) (let a = low_level lower low in let b = eq-eqb h h refl in rw (a, b) refl))
    (λ high. rw (naming-high lower h high) (let a = eq-eqb (split_level (eqb lower 5)) lower (split-back lower high six) in let b = eq-eqb h h refl in rw (a, b) refl))
    (cases_lt lower 5)

-- and no other node
pub naming-at : (lower level h k f : ℕ) → 1 ≤ lower → lower ≤ 6 → above lower ≡ level → level ≤ 4 → 1 ≤ k → one_if (eqb k lower && eqb f h) ≡ one_if (eqb (above k) level) * one_if (names_node k f (naming lower h))
naming-at lower level h k f one six up four some = ⊎_elim
    (λ low. rw (naming-low lower h low) (⊎_elim
    (λ klow. let a = above-low k klow in let l = above-low lower low in let t = low_level k klow in rw (a, t) (table (let e = up in omega arith)))
    (λ khigh. let t = high_level k khigh in let n = ne_eqb k lower (λ e. let x = e in omega arith) in rw (t, n) (zero_times (eqb 2 level)))
    (cases_lt k 5)))
    (λ high. rw (naming-high lower h high) (⊎_elim
    (λ same. let t = above-high k (omega arith) in let l = above-high lower high in let n = eq-eqb k lower same in let two = eq-eqb 2 level (omega arith) in
    let at = eq-eqb (split_level (eqb lower 5)) k (split-back lower high six ∙ sym same) in rw (t, n, two, at) (turn (eqb f h) (eqb h f) (swapped f h)))
    (λ other. let n = ne_eqb k lower other in let at = ne_eqb (split_level (eqb lower 5)) k (λ e. other (sym e ∙ split-back lower high six)) in rw (n, at) (zero_times (eqb (above k) level)))
    (cases_eq k lower)))
    (cases_lt lower 5)
  where
    zero_times : (b : Bool) → 0 ≡ one_if b * 0
    zero_times true = refl
    zero_times false = refl

    swapped : (x y : ℕ) → eqb x y ≡ eqb y x
    swapped x y = grind (arith, nat_tests)

    turn : (x y : Bool) → x ≡ y → one_if x ≡ 1 * one_if y
    turn x y e = ap one_if e ∙ (let z = one_if y in omega arith)

    table : lower + 1 ≡ level → one_if (eqb k lower && eqb f h) ≡ one_if (eqb (k + 1) level) * one_if (eqb h f)
    table e = grind (arith, nat_tests)
