-- The global table is told of frames, one after another.
use Rattle.std.proofs.Common.{◌≡◌, ℕ, ◌+◌, ◌<◌, Bool, true, false, not, ◌&&◌, ◌||◌, cond, eqb, List, [], ◌∷◌, length, get_or, set, take, refl, sym, ap, ◌∙◌, subst, ⊎_elim, arith}
use Rattle.std.specs.List.{filter, range_with_len}
use Rattle.std.proofs.lemmas.Bool.{cases_eq, cases_lt, eq-eqb, ne_eqb}
use Rattle.std.proofs.lemmas.List.{take_more, get_or_past, get_or-set_same, get_or-set_other}
use Rattle.std.proofs.lemmas.List.Folds.{list_any-append}
use Rattle.gv_gpu.specs.Device.{Device}
use Rattle.gv_sggtt.specs.Table.{Table, guards, table_guarding}
use Rattle.gv_shape.specs.Counts.{is_among}
use Rattle.gv_sppgtt.specs.Serving.{guarded_of, Tells}
use Rattle.gv_sppgtt.proofs.Serving.{any-filter-range}
use Rattle.gv_gtt.specs.Changes.{ChangesTable}
use Rattle.gv_gtt.specs.Standing.{Serving, Translates}
use Rattle.gv_gtt.specs.Turning.{MayTurn, Turned}
use Rattle.gv_gtt.specs.declared.gtt.Gtt.{Gtt}
use Rattle.gv_gtt.proofs.Lists.{fresh-at, once-chosen, at-chosen}
use Rattle.gv_gtt.proofs.Steps.{table-changes-none, table-changes-then}

pub turned-none : (d : Device) (g : Gtt) (xs : List ℕ) (flag : Bool) → Serving d g → Turned d d g g (take 0 xs) flag
turned-none d g xs flag s = record { serving = s; guards = λ frame. refl; entries = refl; changes = table-changes-none d g }

-- the flags after a write
guards-set : (flags : List Bool) (x frame : ℕ) (flag : Bool) → x < length flags → guards (set flags x flag) frame ≡ cond (eqb x frame) flag (guards flags frame)
guards-set flags x frame flag low = ⊎_elim
    (λ same. subst (λ f. guards (set flags x flag) f ≡ cond (eqb x f) flag (guards flags f)) same (get_or-set_same flags x flag false low ∙ ap (λ b. cond b flag (guards flags x)) (sym (eq-eqb x x refl))))
    (λ other. get_or-set_other flags x frame flag false (λ same. other (sym same)) ∙ ap (λ b. cond b flag (guards flags frame)) (sym (ne_eqb x frame other)))
    (cases_eq x frame)

cond-or : (a b : Bool) (x y : Bool) → cond b x (cond a x y) ≡ cond (a || b) x y
cond-or true true x y = refl
cond-or true false x y = refl
cond-or false b x y = refl

among-more : (xs : List ℕ) (k frame : ℕ) → k < length xs → is_among (take (k + 1) xs) frame ≡ (is_among (take k xs) frame || eqb (get_or xs k 0) frame)
among-more xs k frame low = ap (λ (ys : List ℕ). is_among ys frame) (take_more xs k 0 low) ∙ list_any-append (λ t. eqb t frame) (take k xs) (get_or xs k 0 ∷ []) ∙ ap (λ b. is_among (take k xs) frame || b) (last (eqb (get_or xs k 0) frame))
  where
    last : (b : Bool) → (b || false) ≡ b
    last true = refl
    last false = refl

module _ (d e f : Device) (old new next : Gtt) (xs : List ℕ) (k : ℕ) (flag : Bool) (t : Turned d e old new (take k xs) flag) (inside : k < length xs) where
  -- what the call for the next frame requires
  pub may-turn : MayTurn old xs flag → guards new.table.guarded (get_or xs k 0) ≡ not flag
  may-turn may = t.guards (get_or xs k 0) ∙ ap (λ b. cond b flag (guards old.table.guarded (get_or xs k 0))) (fresh-at xs k may.once inside) ∙ may.turns k inside

  pub turned-more : MayTurn old xs flag → Serving f next → next.table ≡ table_guarding new.table (get_or xs k 0) flag → ChangesTable e f new next → Turned d f old next (take (k + 1) xs) flag
  turned-more may s is changes = record {
    serving = s;
    guards = λ frame.
        ap (λ (t : Table). guards t.guarded frame) is
        ∙ guards-set new.table.guarded (get_or xs k 0) frame flag low
        ∙ ap (cond (eqb (get_or xs k 0) frame) flag) (t.guards frame)
        ∙ cond-or (is_among (take k xs) frame) (eqb (get_or xs k 0) frame) flag (guards old.table.guarded frame)
        ∙ ap (λ b. cond b flag (guards old.table.guarded frame)) (sym (among-more xs k frame inside));
    entries = ap (λ (t : Table). t.entries) is ∙ t.entries;
    changes = table-changes-then d e f old new next t.changes changes;
  }
    where
      low : get_or xs k 0 < length new.table.guarded
      low = let w = may.within k inside in let c = t.changes.count in let l = t.serving.stands.table.flags in omega arith

-- ---- both lists

true-low : (xs : List Bool) (k : ℕ) → get_or xs k false ≡ true → k < length xs
true-low xs k is = ⊎_elim (λ low. low) (λ high. let none = get_or_past xs k false high in absurd (no (sym is ∙ none))) (cases_lt k (length xs))
  where
    no : true ≡ false → ⊥
    no e = cc

and-left : (a b : Bool) → (a && b) ≡ true → a ≡ true
and-left true b h = refl
and-left false b h = cc

and-right : (a b : Bool) → (a && b) ≡ true → b ≡ true
and-right true b h = h
and-right false b h = cc

module _ (d : Device) (g : Gtt) (s : Serving d g) (came went : List ℕ) (tells : Tells (guards g.table.guarded) (guarded_of g.tables) (length g.memory.frames.pages) came went) where
  abbrev before : ℕ → Bool
  before = guards g.table.guarded

  abbrev now : ℕ → Bool
  now = guarded_of g.tables

  abbrev frames : ℕ
  frames = length g.memory.frames.pages

  before-low : (frame : ℕ) → before frame ≡ true → frame < frames
  before-low frame is = let low = true-low g.table.guarded frame is in let l = s.stands.table.flags in let c = s.stands.frames in omega arith

  now-low : (frame : ℕ) → now frame ≡ true → frame < frames
  now-low frame is = let low = true-low g.tables.told.items frame is in let l = s.stands.holds.sound.told_long in omega arith

  not-true : (b : Bool) → not b ≡ true → b ≡ false
  not-true true h = cc
  not-true false h = refl

  pub may-come : MayTurn g came true
  may-come = subst (λ xs. MayTurn g xs true) (sym tells.guarded) (record {
    once = once-chosen (λ f. not (before f) && now f) 0 frames;
    within = λ k low. let at = at-chosen (λ f. not (before f) && now f) frames k low in let b = at.0 in let c = s.stands.frames in omega arith;
    turns = λ k low. let at = at-chosen (λ f. not (before f) && now f) frames k low in not-true (before (get_or (filter (λ f. not (before f) && now f) (range_with_len 0 frames)) k 0)) (and-left _ _ at.1);
  })

  among-came : (frame : ℕ) → is_among came frame ≡ (not (before frame) && now frame)
  among-came frame = ap (λ (xs : List ℕ). is_among xs frame) tells.guarded ∙ any-filter-range (λ f. not (before f) && now f) frames frame (λ is. now-low frame (and-right _ _ is))

  among-went : (frame : ℕ) → is_among went frame ≡ (before frame && not (now frame))
  among-went frame = ap (λ (xs : List ℕ). is_among xs frame) tells.unguarded ∙ any-filter-range (λ f. before f && not (now f)) frames frame (λ is. before-low frame (and-left _ _ is))

  module _ (e : Device) (mid : Gtt) (t : Turned d e g mid came true) where
    came-kept : (b a : Bool) → b ≡ true → cond (not b && a) true b ≡ true
    came-kept true a h = refl
    came-kept false a h = cc

    pub may-go : MayTurn mid went false
    may-go = subst (λ xs. MayTurn mid xs false) (sym tells.unguarded) (record {
      once = once-chosen (λ f. before f && not (now f)) 0 frames;
      within = λ k low. let at = at-chosen (λ f. before f && not (now f)) frames k low in let b = at.0 in let c = s.stands.frames in let n = t.changes.count in omega arith;
      turns = λ k low.
          let x = get_or (filter (λ f. before f && not (now f)) (range_with_len 0 frames)) k 0 in
          let at = at-chosen (λ f. before f && not (now f)) frames k low in
          t.guards x ∙ ap (λ b. cond b true (before x)) (among-came x) ∙ came-kept (before x) (now x) (and-left _ _ at.1);
    })

    all-told : (b a : Bool) → cond (b && not a) false (cond (not b && a) true b) ≡ a
    all-told true true = refl
    all-told true false = refl
    all-told false true = refl
    all-told false false = refl

    pub told-translates : (f : Device) (new : Gtt) → Turned e f mid new went false → Translates f new
    told-translates f new u = record {
      serving = u.serving;
      guarded = λ frame.
          u.guards frame
          ∙ (λ i. cond (among-went frame i) false ((t.guards frame ∙ ap (λ b. cond b true (before frame)) (among-came frame)) i))
          ∙ all-told (before frame) (now frame)
          ∙ ap (λ tables. guarded_of tables frame) (sym (u.changes.tables ∙ t.changes.tables));
    }
