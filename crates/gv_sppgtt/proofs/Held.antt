-- A node gets one parent more, and nothing else changes.
use Rattle.std.proofs.Common.{ℕ, ◌+◌, ◌≡◌, Bool, true, false, ◌&&◌, eqb, List, None, Some, length, refl, sym, ap, ◌∙◌, arith, ⊎_elim}
use Rattle.std.proofs.lemmas.Bool.{cases_eq, ne_eqb}
use Rattle.std.proofs.lemmas.Bool.Decides.{nat_tests}
use Rattle.gv_types.specs.Memory.{Memory}
use Rattle.gv_gpu.specs.Device.{Device}
use Rattle.gv_guest.specs.Placed.{Placed}
use Rattle.gv_nodes.specs.NodeMap.{AreNodes}
use Rattle.gv_shape.specs.Counts.{one_if, namings}
use Rattle.gv_sppgtt.specs.Sound.{pages_in, readings_in}
use Rattle.gv_sppgtt.specs.Grown.{one_at, Growing}
use Rattle.gv_sppgtt.specs.State.{pages_of, parents_of, sketch_of}
use Rattle.gv_sppgtt.specs.Holding.{Holds, Keeps}
use Rattle.gv_sppgtt.specs.declared.tables.Tables.{Tables}
use Rattle.gv_sppgtt.proofs.Kept.{keeps-nodes}
use Rattle.gv_sppgtt.proofs.SameNodes.{sound-same, pinned-same, room-same}

at_pair : (level frame k f : ℕ) → k ≡ level → f ≡ frame → one_at level frame k f ≡ 1
at_pair level frame k f a b = grind (arith, nat_tests)

off_pair : (level frame k f : ℕ) → (k ≡ level → f ≡ frame → ⊥) → one_at level frame k f ≡ 0
off_pair level frame k f apart = ⊎_elim (λ a. ⊎_elim (λ b. absurd (apart a b)) (λ b. let x = ne_eqb f frame b in rw x (both (eqb k level))) (cases_eq f frame)) (λ a. let x = ne_eqb k level a in rw x refl) (cases_eq k level)
  where
    both : (b : Bool) → one_if (b && false) ≡ 0
    both true = refl
    both false = refl

module _ (d : Device) (placed : Placed) (t u : Tables) (pins : List ℕ) (level frame page : ℕ) (h : Holds d placed t pins)
    (there : pages_of t level frame ≡ Some page)
    (pages : (k f : ℕ) → pages_of u k f ≡ pages_of t k f)
    (here : parents_of u level frame ≡ parents_of t level frame + 1)
    (others : (k f : ℕ) → (k ≡ level → f ≡ frame → ⊥) → parents_of u k f ≡ parents_of t k f)
    (nodes : AreNodes u.nodes) (frames : u.nodes.frames ≡ t.nodes.frames) (owners : u.owners ≡ t.owners) (chains : u.chains ≡ t.chains) (told : u.told ≡ t.told) (guest : u.guest ≡ t.guest) where
  same_pages : pages_in u.nodes ≡ pages_in t.nodes
  same_pages = λ i k f. pages k f i

  count : (k f : ℕ) → parents_of u k f ≡ parents_of t k f + one_at level frame k f
  count k f =
      ⊎_elim (λ a. ⊎_elim
      (λ b. let x = at_pair level frame k f a b in let y : parents_of u k f ≡ parents_of t k f + 1 = ap (λ z. parents_of u z f) a ∙ ap (parents_of u level) b ∙ here ∙ ap (λ n. n + 1) (sym (ap (λ z. parents_of t z f) a ∙ ap (parents_of t level) b)) in omega arith)
      (λ b. let x = off_pair level frame k f (λ _ e. b e) in let y = others k f (λ _ e. b e) in omega arith) (cases_eq f frame))
      (λ a. let x = off_pair level frame k f (λ e _. a e) in let y = others k f (λ e _. a e) in omega arith) (cases_eq k level)

  readings : readings_in d.words u.owners.items (pages_in u.nodes) ≡ readings_in d.words t.owners.items (pages_in t.nodes)
  readings = λ i. readings_in d.words (owners i).items (same_pages i)

  pub holds-held : Holds d placed u pins
  holds-held = record {
    stands = h.stands;
    sound = rw (owners, chains, told) (sound-same d placed t.nodes u.nodes t.chains t.owners.items t.told.items frames same_pages (λ k f. let c = count k f in omega arith) h.sound);
    pinned = (h.pinned.0, rw owners (pinned-same d placed t.nodes u.nodes t.chains t.owners.items t.told.items frames same_pages pins h.pinned.1));
    guest = ap (λ g. g.0) guest ∙ h.guest;
    few = h.few;
    nodes = nodes;
    room = room-same d placed t.nodes u.nodes t.chains t.owners.items t.told.items frames same_pages h.room;
  }

  pub keeps-held : u.touched ≡ t.touched → Keeps placed d d t u pins pins
  keeps-held touched = keeps-nodes placed d t u pins h.nodes nodes pages owners guest told touched

  pub growing-held : (m : Memory) → Growing (length placed.pages) m level frame 512 (sketch_of d t) (sketch_of d u)
  growing-held m = record {
    kept = record { pages = λ k f p is. pages k f ∙ is; parents = λ k f. let c = count k f in omega arith };
    there = (page, pages level frame ∙ there);
    same = λ k f p i is small. ap (λ r. r k f i) readings;
    fresh = λ k f p i none some small before. absurd (clash k f p none some);
    later = λ i none past small. absurd (omega arith);
    upto = λ k f p none some. absurd (clash k f p none some);
    alive = λ k f p none some. absurd (clash k f p none some);
    balanced = λ k f some.
        let c = count k f in
        let u = ap (λ r. namings (length placed.pages) r k f) readings in
        omega arith;
  }
    where
      clash : (k f p : ℕ) → pages_of t k f ≡ None → pages_of u k f ≡ Some p → ⊥
      clash k f p none some = let e : None ≡ Some p = sym none ∙ sym (pages k f) ∙ some in cc
