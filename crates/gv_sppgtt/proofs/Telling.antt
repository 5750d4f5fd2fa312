-- Telling of one frame more, with or without a change, and of frames that are passed over.
use Rattle.std.proofs.Common.{ℕ, zero, suc, ◌+◌, ◌*◌, ◌-◌, ◌/◌, min, ◌≤◌, ◌<◌, ◌≡◌, ◌≢◌, Bool, true, false, not, ◌&&◌, eqb, ltb, cond, List, [], ◌∷◌, ◌++◌, length, set, get_or-set_same, get_or-set_other, refl, sym, ap, ◌∙◌, subst, arith, add-one, add-zero, ⊎_elim}
use Rattle.std.specs.List.{range_with_len, filter}
use Rattle.std.proofs.lemmas.List.{append-nil}
use Rattle.std.proofs.lemmas.List.Elements.{filter-append}
use Rattle.std.proofs.lemmas.Bool.{cases_eq, eq-eqb, ne_eqb, lt-ltb, cases_lt}
use Rattle.std.proofs.lemmas.Bool.Decides.{nat_tests}
use Rattle.gv_gpu.specs.Device.{Device}
use Rattle.gv_gpu.specs.Part.{outside}
use Rattle.gv_guest.specs.Placed.{Placed, memory_in}
use Rattle.gv_sppgtt.specs.Sound.{flag}
use Rattle.gv_sppgtt.specs.State.{pages_of, readings_of, own_part, is_table}
use Rattle.gv_sppgtt.specs.Telling.{Telling}
use Rattle.gv_sppgtt.specs.declared.tables.Tables.{Tables}

range-more : (a n : ℕ) → range_with_len a (suc n) ≡ range_with_len a n ++ (a + n) ∷ []
range-more a zero = ap (λ x. x ∷ []) (sym (add-zero a))
range-more a (suc n) = ap (λ l. a ∷ l) (range-more (a + 1) n ∙ ap (λ x. range_with_len (a + 1) n ++ x ∷ []) same)
  where
    same : (a + 1) + n ≡ a + suc n
    same = omega arith

-- the numbers below n + 1 that pass a test
pub filter-more : (p : ℕ → Bool) (n : ℕ) → filter p (range_with_len 0 (n + 1)) ≡ filter p (range_with_len 0 n) ++ cond (p n) (n ∷ []) []
filter-more p n =
    ap (λ k. filter p (range_with_len 0 k)) (add-one n) ∙ ap (filter p) (range-more 0 n ∙ ap (λ x. range_with_len 0 n ++ x ∷ []) zero_first)
    ∙ filter-append p (range_with_len 0 n) (n ∷ [])
  where
    zero_first : 0 + n ≡ n
    zero_first = omega arith

below_no : (a n : ℕ) → n ≤ a → ltb a n ≡ false
below_no a n h = grind (arith, nat_tests)

module _ (placed : Placed) (d : Device) (t : Tables) (done : ℕ) where
  module _ (e f : Device) (u v : Tables) (came went came' went' : List ℕ) (g : Telling placed d t done e u came went)
      (told : (x : ℕ) → flag v.told.items x ≡ cond (eqb x done) (is_table (pages_of t) done) (flag u.told.items x))
      (guarded : came' ≡ came ++ cond (not (flag t.told.items done) && is_table (pages_of t) done) (done ∷ []) [])
      (unguarded : went' ≡ went ++ cond (flag t.told.items done && not (is_table (pages_of t) done)) (done ∷ []) [])
      (nodes : v.nodes ≡ u.nodes) (readings : (k x i : ℕ) → readings_of f v k x i ≡ readings_of e u k x i) (memory : memory_in f placed ≡ memory_in e placed)
      (others : outside (own_part placed.guest v) f ≡ outside (own_part placed.guest u) e) (guest : v.guest ≡ u.guest) (touched : v.touched ≡ u.touched) where
    told_next : (x : ℕ) → flag v.told.items x ≡ cond (ltb x (done + 1)) (is_table (pages_of t) x) (flag t.told.items x)
    told_next x = told x ∙ ⊎_elim
        (λ same. ap (λ b. cond b (is_table (pages_of t) done) (flag u.told.items x)) (eq-eqb x done same) ∙ ap (is_table (pages_of t)) (sym same)
        ∙ sym (ap (λ b. cond b (is_table (pages_of t) x) (flag t.told.items x)) (lt-ltb x (done + 1) (omega arith))))
        (λ other. ap (λ b. cond b (is_table (pages_of t) done) (flag u.told.items x)) (ne_eqb x done other) ∙ g.told x
        ∙ ap (λ b. cond b (is_table (pages_of t) x) (flag t.told.items x)) (same_side other))
        (cases_eq x done)
      where
        same_side : x ≢ done → ltb x done ≡ ltb x (done + 1)
        same_side other = ⊎_elim (λ low. lt-ltb x done low ∙ sym (lt-ltb x (done + 1) (omega arith))) (λ high. below_no x done high ∙ sym (below_no x (done + 1) (omega arith))) (cases_lt x done)

    pub telling-next : Telling placed d t (done + 1) f v came' went'
    telling-next = record {
      told = told_next;
      guarded = guarded ∙ ap (λ l. l ++ cond (not (flag t.told.items done) && is_table (pages_of t) done) (done ∷ []) []) g.guarded ∙ sym (filter-more (λ x. not (flag t.told.items x) && is_table (pages_of t) x) done);
      unguarded = unguarded ∙ ap (λ l. l ++ cond (flag t.told.items done && not (is_table (pages_of t) done)) (done ∷ []) []) g.unguarded ∙ sym (filter-more (λ x. flag t.told.items x && not (is_table (pages_of t) x)) done);
      nodes = nodes ∙ g.nodes;
      readings = λ k x i. readings k x i ∙ g.readings k x i;
      memory = memory ∙ g.memory;
      others = others ∙ g.others;
      guest = guest ∙ g.guest;
      touched = touched ∙ g.touched;
    }

  -- what the caller knows of the frame now
  pub told-now : (e : Device) (u : Tables) (came went : List ℕ) → Telling placed d t done e u came went → flag u.told.items done ≡ flag t.told.items done
  told-now e u came went g = g.told done ∙ ap (λ b. cond b (is_table (pages_of t) done) (flag t.told.items done)) (below_no done done (omega arith))

neither : (a b : Bool) → a ≡ b → (not a && b) ≡ false
neither true b e = refl
neither false b e = sym e

neither' : (a b : Bool) → a ≡ b → (a && not b) ≡ false
neither' true b e = ap not (sym e)
neither' false b e = refl

-- a frame that is as the caller knows it
pub telling-same : (placed : Placed) (d : Device) (t : Tables) (done : ℕ) (e : Device) (u : Tables) (came went : List ℕ) → flag t.told.items done ≡ is_table (pages_of t) done → Telling placed d t done e u came went → Telling placed d t (done + 1) e u came went
telling-same placed d t done e u came went is g =
    telling-next placed d t done e e u u came went came went g
    (λ x. ⊎_elim
    (λ same. ap (flag u.told.items) same ∙ told-now placed d t done e u came went g ∙ is ∙ sym (ap (λ b. cond b (is_table (pages_of t) done) (flag u.told.items x)) (eq-eqb x done same)))
    (λ other. sym (ap (λ b. cond b (is_table (pages_of t) done) (flag u.told.items x)) (ne_eqb x done other)))
    (cases_eq x done))
    (sym (ap (λ b. came ++ cond b (done ∷ []) []) (neither (flag t.told.items done) (is_table (pages_of t) done) is) ∙ append-nil came))
    (sym (ap (λ b. went ++ cond b (done ∷ []) []) (neither' (flag t.told.items done) (is_table (pages_of t) done) is) ∙ append-nil went))
    refl (λ k x i. refl) refl refl refl refl

-- frames that are as the caller knows them are passed over
pub telling-skip : (placed : Placed) (d : Device) (t : Tables) (done n : ℕ) (e : Device) (u : Tables) (came went : List ℕ) → ((f : ℕ) → done ≤ f → f < done + n → flag t.told.items f ≡ is_table (pages_of t) f) → Telling placed d t done e u came went → Telling placed d t (done + n) e u came went
telling-skip placed d t done zero e u came went same g = subst (λ x. Telling placed d t x e u came went) (sym (add-zero done)) g
telling-skip placed d t done (suc n) e u came went same g =
    subst (λ x. Telling placed d t x e u came went) more
    (telling-same placed d t (done + n) e u came went (same (done + n) (omega arith) (omega arith))
    (telling-skip placed d t done n e u came went (λ f low high. same f low (omega arith)) g))
  where
    more : done + n + 1 ≡ done + suc n
    more = omega arith

-- a frame whose guard is turned
module _ (placed : Placed) (d : Device) (t : Tables) (done : ℕ) (e f : Device) (u v : Tables) (came went came' went' : List ℕ) (g : Telling placed d t done e u came went) (b : Bool)
    (is : b ≡ is_table (pages_of t) done) (differ : b ≡ flag u.told.items done → ⊥) (low : done < length u.told.items) (told : v.told.items ≡ set u.told.items done b)
    (guarded : came' ≡ cond b (came ++ done ∷ []) came) (unguarded : went' ≡ cond b went (went ++ done ∷ []))
    (nodes : v.nodes ≡ u.nodes) (readings : (k x i : ℕ) → readings_of f v k x i ≡ readings_of e u k x i) (memory : memory_in f placed ≡ memory_in e placed)
    (others : outside (own_part placed.guest v) f ≡ outside (own_part placed.guest u) e) (guest : v.guest ≡ u.guest) (touched : v.touched ≡ u.touched) where
  came_list : (b was now : Bool) → b ≡ now → (b ≡ was → ⊥) → cond b (came ++ done ∷ []) came ≡ came ++ cond (not was && now) (done ∷ []) []
  came_list true true now e n = absurd (n refl)
  came_list true false now e n = ap (λ x. came ++ cond x (done ∷ []) []) e
  came_list false true now e n = sym (append-nil came)
  came_list false false now e n = absurd (n refl)

  went_list : (b was now : Bool) → b ≡ now → (b ≡ was → ⊥) → cond b went (went ++ done ∷ []) ≡ went ++ cond (was && not now) (done ∷ []) []
  went_list true true now e n = absurd (n refl)
  went_list true false now e n = sym (append-nil went)
  went_list false true now e n = ap (λ x. went ++ cond (not x) (done ∷ []) []) e
  went_list false false now e n = absurd (n refl)

  pub telling-turned : Telling placed d t (done + 1) f v came' went'
  telling-turned =
      let was = told-now placed d t done e u came went g in
      let differ' : b ≡ flag t.told.items done → ⊥ = λ x. differ (x ∙ sym was) in
      telling-next placed d t done e f u v came went came' went' g
      (λ x. ap (λ (l : List Bool). flag l x) told ∙ ⊎_elim
      (λ same. ap (flag (set u.told.items done b)) same ∙ get_or-set_same u.told.items done b false low ∙ is ∙ sym (ap (λ c. cond c (is_table (pages_of t) done) (flag u.told.items x)) (eq-eqb x done same)))
      (λ other. get_or-set_other u.told.items done x b false other ∙ sym (ap (λ c. cond c (is_table (pages_of t) done) (flag u.told.items x)) (ne_eqb x done other)))
      (cases_eq x done))
      (guarded ∙ came_list b (flag t.told.items done) (is_table (pages_of t) done) is differ')
      (unguarded ∙ went_list b (flag t.told.items done) (is_table (pages_of t) done) is differ')
      nodes readings memory others guest touched

-- a block that isn't touched is passed over
pub telling-block : (placed : Placed) (d : Device) (t : Tables) (block n : ℕ) (e : Device) (u : Tables) (came went : List ℕ) → ((f : ℕ) → flag t.touched (f / 128) ≡ false → flag t.told.items f ≡ is_table (pages_of t) f) → flag u.touched block ≡ false
    → Telling placed d t (min (block * 128) n) e u came went → Telling placed d t (min ((block + 1) * 128) n) e u came went
telling-block placed d t block n e u came went others clean g =
    let a = min (block * 128) n in
    let b = min ((block + 1) * 128) n in
    let up : a + (b - a) ≡ b = omega arith in
    subst (λ x. Telling placed d t x e u came went) up
    (telling-skip placed d t a (b - a) e u came went (λ f low high.
    let here : f / 128 ≡ block = omega arith in
    others f (ap (flag t.touched) here ∙ ap (λ (l : List Bool). flag l block) (sym g.touched) ∙ clean)) g)
