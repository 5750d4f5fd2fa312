-- Nodes go, and none comes: no word names one at the top.
use Rattle.std.proofs.Common.{ℕ, ◌≤◌, ◌≡◌, List, Option, None, Some, length, get_or, refl, sym, ap, ◌∙◌, subst, arith, ⊎_elim}
use Rattle.std.proofs.lemmas.Bool.{cases_eq}
use Rattle.gv_gpu.specs.Device.{Device}
use Rattle.gv_guest.specs.Placed.{Placed}
use Rattle.gv_nodes.specs.NodeMap.{AreNodes}
use Rattle.gv_shape.specs.Shadow.{Pages}
use Rattle.gv_shape.specs.Counts.{above, names_node, namings, one_if}
use Rattle.gv_sppgtt.specs.Sound.{reading_at}
use Rattle.gv_sppgtt.specs.State.{pages_of, parents_of, readings_of}
use Rattle.gv_sppgtt.specs.Holding.{Holds, Keeps}
use Rattle.gv_sppgtt.specs.Clearing.{IsWithin, IsTop, AreNone}
use Rattle.gv_sppgtt.specs.declared.tables.Tables.{Tables}
use Rattle.gv_sppgtt.proofs.Decoded.{decode-leaf}
use Rattle.gv_sppgtt.proofs.Fresh.{total-none}
use Rattle.gv_sppgtt.proofs.Less.{holds-fewer, keeps-fewer, readings-fewer}
use Rattle.gv_sppgtt.proofs.Words.{leaf-names}

pub none-kept : (after before : Option ℕ) → ((p : ℕ) → after ≡ Some p → before ≡ Some p) → before ≡ None → after ≡ None
none-kept None before kept none = refl
none-kept (Some p) before kept none = let clash : None ≡ Some p = sym none ∙ kept p refl in cc

pub none-within : (after before : Pages) → IsWithin after before → (level frame : ℕ) → before level frame ≡ None → after level frame ≡ None
none-within after before within level frame none = none-kept (after level frame) (before level frame) (within level frame) none

pub top-within : (after before : Pages) (level : ℕ) → IsWithin after before → IsTop before level → IsTop after level
top-within after before level within top frame other = none-within after before within (above level) frame (top frame other)

-- all levels are without nodes
pub are-none : (frames : ℕ) (pages : Pages) → ((k f p : ℕ) → pages k f ≡ Some p → (1 ≤ k) × (k ≤ 6)) → ((f : ℕ) → pages 1 f ≡ None) → ((f : ℕ) → pages 2 f ≡ None) → ((f : ℕ) → pages 3 f ≡ None)
    → ((f : ℕ) → pages 4 f ≡ None) → ((f : ℕ) → pages 5 f ≡ None) → ((f : ℕ) → pages 6 f ≡ None) → AreNone pages
are-none frames pages low one two three four five six k f = none-kept (pages k f) None (λ p is. absurd (clash p is)) refl
  where
    clash : (p : ℕ) → pages k f ≡ Some p → ⊥
    clash p is =
        let by : (j : ℕ) → k ≡ j → pages j f ≡ None → ⊥ = λ j same none. let e : None ≡ Some p = sym none ∙ ap (λ z. pages z f) (sym same) ∙ is in cc in
        let bounds = low k f p is in
        ⊎_elim (λ e. by 1 e (one f))
        (λ n1. ⊎_elim (λ e. by 2 e (two f))
        (λ n2. ⊎_elim (λ e. by 3 e (three f))
        (λ n3. ⊎_elim (λ e. by 4 e (four f))
        (λ n4. ⊎_elim (λ e. by 5 e (five f))
        (λ n5. by 6 (omega (arith, bounds.0, bounds.1, n1, n2, n3, n4, n5)) (six f))
        (cases_eq k 5)) (cases_eq k 4)) (cases_eq k 3)) (cases_eq k 2)) (cases_eq k 1)

-- a word of a split table names no node
split-names : (words : ℕ → List ℕ) (owners : List ℕ) (o : Option ℕ) (i k f : ℕ) → one_if (names_node k f (reading_at words owners 5 o i)) ≡ 0
split-names words owners None i k f = refl
split-names words owners (Some p) i k f =
    let word = get_or (words p) i 0 in
    ap (λ e. one_if (names_node k f e)) (decode-leaf owners 5 word refl) ∙ leaf-names owners word k f

pub top-unnamed : (d : Device) (frames : ℕ) (t : Tables) (level frame : ℕ) → IsTop (pages_of t) level → namings frames (readings_of d t) level frame ≡ 0
top-unnamed d frames t level frame top = ⊎_elim
    (λ four. subst (λ l. namings frames (readings_of d t) l frame ≡ 0) (sym four) (total-none frames _ (λ g. total-none 512 _ (λ i. split-names d.words t.owners.items (pages_of t 5 g) i 4 frame))))
    (λ other. total-none frames _ (λ g. total-none 512 _ (λ i. ap (λ o. one_if (names_node level frame (reading_at d.words t.owners.items (above level) o i))) (top g other))))
    (cases_eq level 4)

-- a node at the top lost all of its parents
module _ (d : Device) (placed : Placed) (t u : Tables) (pins : List ℕ) (level frame : ℕ) (h : Holds d placed t pins) (top : IsTop (pages_of t) level)
    (pages : (k f : ℕ) → pages_of u k f ≡ pages_of t k f)
    (others : (k f : ℕ) → (k ≡ level → f ≡ frame → ⊥) → parents_of u k f ≡ parents_of t k f)
    (nodes : AreNodes u.nodes) (frames : u.nodes.frames ≡ t.nodes.frames) (owners : u.owners ≡ t.owners) (chains : u.chains ≡ t.chains) (told : u.told ≡ t.told) (guest : u.guest ≡ t.guest) where
  enough : (k f : ℕ) → 1 ≤ k → namings (length placed.pages) (readings_of d t) k f ≤ parents_of u k f
  enough k f one =
      let c = h.sound.counted k f one in
      ⊎_elim (λ a. ⊎_elim
      (λ b.
      let x : namings (length placed.pages) (readings_of d t) k f ≡ namings (length placed.pages) (readings_of d t) level frame = ap (λ z. namings (length placed.pages) (readings_of d t) z f) a ∙ ap (λ z. namings (length placed.pages) (readings_of d t) level z) b in
      let z = top-unnamed d (length placed.pages) t level frame top in
      omega arith)
      (λ b. let o = others k f (λ _ e. b e) in omega arith) (cases_eq f frame))
      (λ a. let o = others k f (λ e _. a e) in omega arith) (cases_eq k level)

  pub readings-orphaned : (k f i : ℕ) → readings_of d u k f i ≡ readings_of d t k f i
  readings-orphaned = readings-fewer d placed t u pins h pages enough nodes frames owners chains told guest

  pub holds-orphaned : Holds d placed u pins
  holds-orphaned = holds-fewer d placed t u pins h pages enough nodes frames owners chains told guest

  pub keeps-orphaned : u.touched ≡ t.touched → Keeps placed d d t u pins pins
  keeps-orphaned = keeps-fewer d placed t u pins h pages enough nodes frames owners chains told guest
