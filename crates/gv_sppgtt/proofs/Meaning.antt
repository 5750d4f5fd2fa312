-- What serving tables mean: they are the live tables, tell which frames are guarded, and shadow the guest's own.
use Rattle.std.proofs.Common.{ℕ, ◌≤◌, ◌≡◌, Bool, true, false, ◌||◌, Some, is_some, length, refl, sym, ap, ◌∙◌, subst, arith, ⊎_elim}
use Rattle.std.proofs.lemmas.Bool.{cases_eq, false≢true}
use Rattle.std.proofs.lemmas.List.{length-map}
use Rattle.gv_entry.specs.Tables.{is_guarded}
use Rattle.gv_guest.specs.Placed.{memory_in}
use Rattle.gv_shape.specs.Shadow.{Local, wanted, is_live}
use Rattle.gv_shape.proofs.Shadows.{nodes_are_the_live_tables}
use Rattle.gv_sppgtt.specs.Sound.{flag}
use Rattle.gv_sppgtt.specs.State.{pages_of, parents_of, readings_of, is_table}
use Rattle.gv_sppgtt.specs.Serving.{roots_of}
use Rattle.gv_sppgtt.specs.Laws.{ServingTablesShadow, ServingTablesAreLive, ServingTablesTell}
use Rattle.gv_sppgtt.specs.declared.tables.Tables.{Tables}
use Rattle.gv_sppgtt.proofs.BadEntries.{frame-words}
use Rattle.gv_sppgtt.proofs.Resting.{settled}
use Rattle.gv_sppgtt.proofs.Finished.{guest-local}

pub serving_tables_are_live : ServingTablesAreLive
serving_tables_are_live d placed pins t s =
    nodes_are_the_live_tables (length placed.pages) (memory_in d placed) (roots_of t) (pages_of t) (parents_of t) (readings_of d t) (length-map placed.pages d.words) (λ q low. frame-words d placed q s.holds.stands low)
    (settled d placed t pins (roots_of t) 0 0 0 s.holds s.rests)

pub serving_tables_tell : ServingTablesTell
serving_tables_tell d placed pins t s frame =
    let live = serving_tables_are_live d placed pins t s in
    s.told frame ∙ (λ i. live.tables 4 frame (omega arith) (omega arith) i || (live.tables 3 frame (omega arith) (omega arith) i || (live.tables 2 frame (omega arith) (omega arith) i || live.tables 1 frame (omega arith) (omega arith) i)))
    ∙ end (is_live (memory_in d placed) (roots_of t) 4 frame) (is_live (memory_in d placed) (roots_of t) 3 frame) (is_live (memory_in d placed) (roots_of t) 2 frame) (is_live (memory_in d placed) (roots_of t) 1 frame)
  where
    last : (e : Bool) → e ≡ (e || false)
    last true = refl
    last false = refl

    end : (a b c e : Bool) → (a || (b || (c || e))) ≡ (a || (b || (c || (e || false))))
    end a b c e = ap (λ x. a || (b || (c || x))) (last e)

-- a frame with a node of one of the levels 1 to 4 is a table
node_table : (a b c e : Bool) → (a || (b || (c || e))) ≡ false → ((a ≡ false) × (b ≡ false)) × ((c ≡ false) × (e ≡ false))
node_table true b c e h = cc
node_table false true c e h = cc
node_table false false true e h = cc
node_table false false false e h = ((refl, refl), (refl, h))

is-table : (t : Tables) (level frame p : ℕ) → 1 ≤ level → level ≤ 4 → pages_of t level frame ≡ Some p → is_table (pages_of t) frame ≡ true
is-table t level frame p low few is = by (is_table (pages_of t) frame) refl
  where
    not_four : (b : Bool) → b ≡ true → b ≡ false → ⊥
    not_four b x y = false≢true (sym y ∙ x)

    none : is_table (pages_of t) frame ≡ false → is_some (pages_of t level frame) ≡ false
    none h =
        let all = node_table (is_some (pages_of t 4 frame)) (is_some (pages_of t 3 frame)) (is_some (pages_of t 2 frame)) (is_some (pages_of t 1 frame)) h in
        ⊎_elim (λ e. ap (λ k. is_some (pages_of t k frame)) e ∙ all.0.0)
        (λ n4. ⊎_elim (λ e. ap (λ k. is_some (pages_of t k frame)) e ∙ all.0.1)
        (λ n3. ⊎_elim (λ e. ap (λ k. is_some (pages_of t k frame)) e ∙ all.1.0)
        (λ n2. ap (λ k. is_some (pages_of t k frame)) (let one : level ≡ 1 = omega arith in one) ∙ all.1.1)
        (cases_eq level 2)) (cases_eq level 3)) (cases_eq level 4)

    by : (b : Bool) → is_table (pages_of t) frame ≡ b → is_table (pages_of t) frame ≡ true
    by true e = e
    by false e = absurd (not_four (is_some (pages_of t level frame)) (ap is_some is) (none e))

pub serving_tables_shadow : ServingTablesShadow
serving_tables_shadow d placed pins t s =
    let tell : flag t.told.items ≡ is_guarded (memory_in d placed) (roots_of t) = λ i f. serving_tables_tell d placed pins t s f i in
    record {
      tables = λ level frame p few is.
          let low = (s.holds.sound.boarded.low level frame p is).1.0 in
          sym (serving_tables_tell d placed pins t s frame) ∙ s.told frame ∙ is-table t level frame p low few is;
      local = subst (λ (g : ℕ → Bool). Local d placed (pages_of t) g (wanted (memory_in d placed))) tell (guest-local d placed t pins (roots_of t) 0 0 s.holds s.rests);
    }
