-- Live tables are read level by level from the roots, and each is guarded. So the words of guarded frames
-- decide them, and the walks from the roots.
use Rattle.std.proofs.Common.{◌≡◌, ℕ, zero, suc, ◌+◌, ◌-◌, ◌*◌, ◌/◌, ◌%◌, ◌<◌, ◌≤◌, Bool, true, false, not, ◌||◌, List, [], ◌∷◌, Option, cond, length, get_or, set, refl, sym, ap, ◌∙◌, subst, arith, eqb, ltb, ⊎_elim, inl, inr, ◌⊎◌}
use Rattle.std.specs.List.{list_any, filter, flat_map, range_with_len}
use Rattle.std.proofs.lemmas.Bool.{eqb-true, eq-eqb, ltb-true, or_cases, false≢true, cases_eq, or_right, or_left}
use Rattle.std.proofs.lemmas.List.{length-set, get_or-set_other}
use Rattle.std.proofs.lemmas.List.Elements.{filter_agree}
use Rattle.std.proofs.lemmas.Map.Views.{any-filter_same}
use Rattle.gv_types.specs.Memory.{Memory, word_of, with_half, with_value}
use Rattle.gv_types.specs.declared.event.Width.{Width}
use Rattle.gv_types.specs.declared.event.Width.TheVariants.{Four, Eight}
use Rattle.gv_types.specs.Bits.{has_bit}
use Rattle.gv_entry.specs.Entry.{is_bad, is_large, process_entry, process_frame_of, base_frame_of}
use Rattle.gv_entry.specs.declared.process.Process.{Process}
use Rattle.gv_entry.specs.declared.process.Process.TheVariants.{Absent, Table, Large, Page, Bad}
use Rattle.gv_entry.specs.Tables.{Mapped, frame_words, level_entry, index_at, mapped_page, through, through_or_large, walk, any_entry, names, names_large, SplitKey, keys_of, split_keys, is_bad_entry, tables_named, live_below, live, levels, has_bad_entry, is_guarded}
use Rattle.gv_entry.specs.Grants.{frame_of, if_writable, read_grant, write_grant, maps, is_mapped}
use Rattle.gv_entry.specs.SameTables.{has, SameTables, TablesDecide, SameTablesChain, UnguardedFrameKeepsTables, UnguardedWordKeepsTables, UnguardedWriteKeepsTables}

-- ---- lists

any_agree : (p q : ℕ → Bool) (xs : List ℕ) → ((x : ℕ) → has xs x ≡ true → p x ≡ q x) → list_any p xs ≡ list_any q xs
any_agree p q [] agree = refl
any_agree p q (x ∷ xs) agree =
    let first = agree x (or_left (eqb x x) (has xs x) (eq-eqb x x refl)) in
    let others = any_agree p q xs (λ y h. agree y (or_right (eqb x y) (has xs y) h)) in
    λ i. first i || others i

any_at : (p : ℕ → Bool) (xs : List ℕ) (i : ℕ) → p 0 ≡ false → p (get_or xs i 0) ≡ true → list_any p xs ≡ true
any_at p [] i none h = cc
any_at p (x ∷ xs) zero none h = or_left (p x) (list_any p xs) h
any_at p (x ∷ xs) (suc i) none h = or_right (p x) (list_any p xs) (any_at p xs i none h)

any_has : (p : ℕ → Bool) (xs : List ℕ) (x : ℕ) → has xs x ≡ true → p x ≡ true → list_any p xs ≡ true
any_has p [] x h is = cc
any_has p (y ∷ xs) x h is =
    ⊎_elim
    (λ same. or_left (p y) (list_any p xs) (ap p (eqb-true y x same) ∙ is))
    (λ more. or_right (p y) (list_any p xs) (any_has p xs x more is))
    (or_cases (eqb y x) (has xs x) h)

has_range : (a n x : ℕ) → a ≤ x → x < a + n → has (range_with_len a n) x ≡ true
has_range a zero x low high = absurd (omega arith)
has_range a (suc n) x low high =
    ⊎_elim
    (λ same. or_left (eqb a x) (has (range_with_len (a + 1) n) x) (eq-eqb a x same))
    (λ differ. or_right (eqb a x) (has (range_with_len (a + 1) n) x) (has_range (a + 1) n x (omega (arith, differ)) (omega arith)))
    (cases_eq a x)

has_filter : (p : ℕ → Bool) (xs : List ℕ) (x : ℕ) → p x ≡ true → has xs x ≡ true → has (filter p xs) x ≡ true
has_filter p xs x is h = any-filter_same (λ y. eqb y x) p true (λ y same. ap p (eqb-true y x same) ∙ is) xs ∙ h

-- ---- entries

table_in : (a l n b c : Bool) (base p frame h : ℕ) (w : Bool) → cond a Absent (cond l (cond n (Large base w) Bad) (cond b Bad (cond c (Page p w) (Table frame)))) ≡ Table h → (b ≡ false) × (frame ≡ h)
table_in true l n b c base p frame h w is = cc
table_in false true true b c base p frame h w is = cc
table_in false true false b c base p frame h w is = cc
table_in false false n true c base p frame h w is = cc
table_in false false n false true base p frame h w is = cc
table_in false false n false false base p frame h w is = (refl, cc)

good_frame : (a b c : Bool) → (not a || b || c) ≡ false → a ≡ true
good_frame true b c h = refl
good_frame false b c h = cc

-- a table that an entry names is in memory
pub table_below : (entry level frames h : ℕ) → process_entry entry level frames ≡ Table h → h < frames
table_below entry level frames h is =
    let both = table_in (not (has_bit entry 0)) (is_large entry level) (ltb (base_frame_of entry + 511) frames) (is_bad entry level frames) (eqb level 1) (base_frame_of entry) (process_frame_of entry) (process_frame_of entry) h (has_bit entry 1) is in
    subst (λ k. k < frames) both.1 (ltb-true (process_frame_of entry) frames (good_frame _ _ _ both.0))

names_it : (frame : ℕ) (e : Process) → e ≡ Table frame → names frame e ≡ true
names_it frame e is = ap (names frame) is ∙ eq-eqb frame frame refl

-- what a live table names is live a level below
pub named-live : (m : Memory) (level : ℕ) (tables : List ℕ) (table index h : ℕ) → has tables table ≡ true → level_entry m level table index ≡ Table h → has (tables_named m level tables) h ≡ true
named-live m level tables table index h among is =
    has_filter (λ frame. list_any (any_entry m level (names frame)) tables) (range_with_len 0 (length m)) h
    (any_has (any_entry m level (names h)) tables table among
    (any_at (λ word. names h (process_entry word level (length m))) (frame_words m table) index refl (names_it h (level_entry m level table index) is)))
    (let below = table_below (get_or (frame_words m table) index 0) level (length m) h is in has_range 0 (length m) h (omega arith) (omega arith))

first : (a b c d : Bool) → a ≡ true → (a || (b || (c || (d || false)))) ≡ true
first true b c d h = refl
first false b c d h = cc

second : (a b c d : Bool) → b ≡ true → (a || (b || (c || (d || false)))) ≡ true
second a b c d h = or_right a (b || (c || (d || false))) (or_left b (c || (d || false)) h)

third : (a b c d : Bool) → c ≡ true → (a || (b || (c || (d || false)))) ≡ true
third a b c d h = or_right a (b || (c || (d || false))) (second b c d false h)

fourth : (a b c d : Bool) → d ≡ true → (a || (b || (c || (d || false)))) ≡ true
fourth a b c d h = or_right a (b || (c || (d || false))) (third b c d false h)

-- a live table of one of the four levels is guarded
pub live-guarded : (m : Memory) (roots : List ℕ) (depth table : ℕ) → depth < 4 → has (live_below m roots depth) table ≡ true → is_guarded m roots table ≡ true
live-guarded m roots zero table below h = first (has (live m roots 4) table) (has (live m roots 3) table) (has (live m roots 2) table) (has (live m roots 1) table) h
live-guarded m roots (suc zero) table below h = second (has (live m roots 4) table) (has (live m roots 3) table) (has (live m roots 2) table) (has (live m roots 1) table) h
live-guarded m roots (suc (suc zero)) table below h = third (has (live m roots 4) table) (has (live m roots 3) table) (has (live m roots 2) table) (has (live m roots 1) table) h
live-guarded m roots (suc (suc (suc zero))) table below h = fourth (has (live m roots 4) table) (has (live m roots 3) table) (has (live m roots 2) table) (has (live m roots 1) table) h
live-guarded m roots (suc (suc (suc (suc n)))) table below h = absurd (omega arith)

through_same : (e : Process) (f g : ℕ → Option Mapped) → ((h : ℕ) → e ≡ Table h → f h ≡ g h) → through e f ≡ through e g
through_same Absent f g same = refl
through_same (Table h) f g same = same h refl
through_same (Large base w) f g same = refl
through_same (Page frame w) f g same = refl
through_same Bad f g same = refl

through_or_large_same : (e : Process) (index : ℕ) (f g : ℕ → Option Mapped) → ((h : ℕ) → e ≡ Table h → f h ≡ g h) → through_or_large e index f ≡ through_or_large e index g
through_or_large_same Absent index f g same = refl
through_or_large_same (Table h) index f g same = same h refl
through_or_large_same (Large base w) index f g same = refl
through_or_large_same (Page frame w) index f g same = refl
through_or_large_same Bad index f g same = refl

-- ---- two memories

module _ (m n : Memory) (roots : List ℕ) (same : SameTables m n roots) where
  pub entry-same : (level table index : ℕ) → is_guarded m roots table ≡ true → level_entry n level table index ≡ level_entry m level table index
  entry-same level table index guarded = λ i. process_entry (get_or (same.words table guarded i) index 0) level (same.frames i)

  any_entry_same : (level table : ℕ) (test : Process → Bool) → is_guarded m roots table ≡ true → any_entry n level test table ≡ any_entry m level test table
  any_entry_same level table test guarded = λ i. list_any (λ word. test (process_entry word level (same.frames i))) (same.words table guarded i)

  named_same : (level : ℕ) (tables : List ℕ) → ((table : ℕ) → has tables table ≡ true → is_guarded m roots table ≡ true) → tables_named n level tables ≡ tables_named m level tables
  named_same level tables guarded =
      filter_agree (λ frame. list_any (any_entry n level (names frame)) tables) (λ frame. list_any (any_entry m level (names frame)) tables)
      (λ frame. any_agree (any_entry n level (names frame)) (any_entry m level (names frame)) tables (λ table h. any_entry_same level table (names frame) (guarded table h)))
      (range_with_len 0 (length n))
      ∙ ap (λ k. filter (λ frame. list_any (any_entry m level (names frame)) tables) (range_with_len 0 k)) same.frames

  below_same : (depth : ℕ) → depth ≤ 4 → live_below n roots depth ≡ live_below m roots depth
  below_same zero few = refl
  below_same (suc depth) few =
      ap (tables_named n (4 - depth)) (below_same depth (omega arith))
      ∙ named_same (4 - depth) (live_below m roots depth) (λ table h. live-guarded m roots depth table (omega arith) h)

  pub live-same : (level : ℕ) → live n roots level ≡ live m roots level
  live-same level = below_same (4 - level) (omega arith)

  pub guarded-same : (frame : ℕ) → is_guarded n roots frame ≡ is_guarded m roots frame
  guarded-same frame = λ i. list_any (λ level. has (live-same level i) frame) levels

  -- what entries of the live tables of a level pass a test
  test_same : (depth : ℕ) (test : Process → Bool) → depth < 4 → list_any (any_entry n (4 - depth) test) (live_below n roots depth) ≡ list_any (any_entry m (4 - depth) test) (live_below m roots depth)
  test_same depth test few =
      ap (list_any (any_entry n (4 - depth) test)) (below_same depth (omega arith))
      ∙ any_agree (any_entry n (4 - depth) test) (any_entry m (4 - depth) test) (live_below m roots depth)
      (λ table h. any_entry_same (4 - depth) table test (live-guarded m roots depth table few h))

  pub bad-same : has_bad_entry n roots ≡ has_bad_entry m roots
  bad-same = λ i. test_same 0 is_bad_entry (omega arith) i || (test_same 1 is_bad_entry (omega arith) i || (test_same 2 is_bad_entry (omega arith) i || (test_same 3 is_bad_entry (omega arith) i || false)))

  -- through a table at so many levels below a root
  through_live : (depth table index : ℕ) (f g : ℕ → Option Mapped) → depth < 4 → has (live_below m roots depth) table ≡ true
      → ((h : ℕ) → has (live_below m roots (suc depth)) h ≡ true → f h ≡ g h)
      → through (level_entry n (4 - depth) table index) f ≡ through (level_entry m (4 - depth) table index) g
  through_live depth table index f g few live next =
      ap (λ e. through e f) (entry-same (4 - depth) table index (live-guarded m roots depth table few live))
      ∙ through_same (level_entry m (4 - depth) table index) f g (λ h is. next h (named-live m (4 - depth) (live_below m roots depth) table index h live is))

  -- the same at level 2
  through_second : (table index page : ℕ) (f g : ℕ → Option Mapped) → has (live_below m roots 2) table ≡ true
      → ((h : ℕ) → has (live_below m roots 3) h ≡ true → f h ≡ g h)
      → through_or_large (level_entry n 2 table index) page f ≡ through_or_large (level_entry m 2 table index) page g
  through_second table index page f g live next =
      ap (λ e. through_or_large e page f) (entry-same 2 table index (live-guarded m roots 2 table (omega arith) live))
      ∙ through_or_large_same (level_entry m 2 table index) page f g (λ h is. next h (named-live m 2 (live_below m roots 2) table index h live is))

  pub split-same : split_keys n roots ≡ split_keys m roots
  split-same =
      filter_agree (λ key. list_any (any_entry n 2 (names_large key.base key.writable)) (live n roots 2)) (λ key. list_any (any_entry m 2 (names_large key.base key.writable)) (live m roots 2))
      (λ key. test_same 2 (names_large key.base key.writable) (omega arith)) (flat_map keys_of (range_with_len 0 (length n)))
      ∙ ap (λ k. filter (λ (key : SplitKey). list_any (any_entry m 2 (names_large key.base key.writable)) (live m roots 2)) (flat_map keys_of (range_with_len 0 k))) same.frames

  pub mapped-same : (frame : ℕ) → is_mapped n roots frame ≡ is_mapped m roots frame
  mapped-same frame = λ i. test_same 3 (maps frame) (omega arith) i || test_same 2 (maps frame) (omega arith) i

  pub walk-same : (root address : ℕ) → has roots root ≡ true → walk n root address ≡ walk m root address
  walk-same root address live =
      through_live 0 root (index_at 4 address) _ _ (omega arith) live (λ third live3.
      through_live 1 third (index_at 3 address) _ _ (omega arith) live3 (λ second live2.
      through_second second (index_at 2 address) (index_at 1 address) _ _ live2 (λ first live1.
      ap mapped_page (entry-same 1 first (index_at 1 address) (live-guarded m roots 3 first (omega arith) live1)))))

  pub read-same : (root address : ℕ) → has roots root ≡ true → read_grant n root address ≡ read_grant m root address
  read-same root address live = ap frame_of (walk-same root address live)

  pub write-same : (root address : ℕ) → has roots root ≡ true → write_grant n roots root address ≡ write_grant m roots root address
  write-same root address live = λ i. if_writable (λ frame. guarded-same frame i) (walk-same root address live i)

pub tables_decide : TablesDecide
tables_decide m n roots same = record {
  live = live-same m n roots same;
  guarded = λ i frame. guarded-same m n roots same frame i;
  split = split-same m n roots same;
  mapped = λ i frame. mapped-same m n roots same frame i;
  bad = bad-same m n roots same;
  walks = walk-same m n roots same;
  read = read-same m n roots same;
  write = write-same m n roots same;
}

pub unguarded_frame_keeps_tables : UnguardedFrameKeepsTables
unguarded_frame_keeps_tables m roots frame words free = record {
  frames = length-set m frame words;
  words = λ other guarded. get_or-set_other m frame other words [] (λ is. false≢true (sym free ∙ ap (is_guarded m roots) (sym is) ∙ guarded));
}

-- one change of memory after another
pub same_tables_chain : SameTablesChain
same_tables_chain m n k roots first second = record {
  frames = second.frames ∙ first.frames;
  words = λ frame guarded. second.words frame (guarded-same m n roots first frame ∙ guarded) ∙ first.words frame guarded;
}

-- and the other way round: a guarded frame is live at one of the four levels
one_of : (a b c d : Bool) → (a || (b || (c || (d || false)))) ≡ true → (a ≡ true) ⊎ ((b ≡ true) ⊎ ((c ≡ true) ⊎ (d ≡ true)))
one_of true b c d h = inl refl
one_of false true c d h = inr (inl refl)
one_of false false true d h = inr (inr (inl refl))
one_of false false false true h = inr (inr (inr refl))
one_of false false false false h = cc

pub guarded-live : (m : Memory) (roots : List ℕ) (frame : ℕ) → is_guarded m roots frame ≡ true → (level : ℕ) × (1 ≤ level) × (level ≤ 4) × (has (live m roots level) frame ≡ true)
guarded-live m roots frame h =
    ⊎_elim (λ is. (4, omega arith, omega arith, is)) (⊎_elim (λ is. (3, omega arith, omega arith, is)) (⊎_elim (λ is. (2, omega arith, omega arith, is)) (λ is. (1, omega arith, omega arith, is))))
    (one_of (has (live m roots 4) frame) (has (live m roots 3) frame) (has (live m roots 2) frame) (has (live m roots 1) frame) h)

-- a guest's write to a frame that isn't guarded
pub unguarded_word_keeps_tables : UnguardedWordKeepsTables
unguarded_word_keeps_tables m roots number value free = unguarded_frame_keeps_tables m roots (number / 512) (set (get_or m (number / 512) []) (number % 512) value) free

unwritten : (m : Memory) (roots : List ℕ) → SameTables m m roots
unwritten m roots = record { frames = refl; words = λ frame guarded. refl }

pub unguarded_write_keeps_tables : UnguardedWriteKeepsTables
unguarded_write_keeps_tables m roots width at value free = by_test (ltb at (length m * 4096)) width
  where
    same_frame : at / 8 / 512 ≡ at / 4096
    same_frame = omega arith

    free_word : is_guarded m roots (at / 8 / 512) ≡ false
    free_word = ap (is_guarded m roots) same_frame ∙ free

    by_test : (b : Bool) (w : Width) → SameTables m (cond b (with_value m w at value) m) roots
    by_test true Four = unguarded_word_keeps_tables m roots (at / 8) (with_half (word_of m (at / 8)) at value) free_word
    by_test true Eight = unguarded_word_keeps_tables m roots (at / 8) value free_word
    by_test false w = unwritten m roots
