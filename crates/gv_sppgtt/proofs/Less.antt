-- A node lost parents that no word names, and nothing else changed.
use Rattle.std.proofs.Common.{ℕ, ◌+◌, ◌≤◌, ◌≡◌, List, length, sym, ap, ◌∙◌, subst, arith, ⊎_elim}
use Rattle.std.proofs.lemmas.Bool.{cases_eq}
use Rattle.gv_gpu.specs.Device.{Device}
use Rattle.gv_guest.specs.Placed.{Placed}
use Rattle.gv_nodes.specs.NodeMap.{AreNodes}
use Rattle.gv_shape.specs.Shadow.{Local}
use Rattle.gv_shape.specs.Counts.{namings}
use Rattle.gv_sppgtt.specs.Sound.{Boarded, Chained, pages_in, readings_in, flag}
use Rattle.gv_sppgtt.specs.State.{pages_of, parents_of, readings_of}
use Rattle.gv_sppgtt.specs.Holding.{Holds, Keeps}
use Rattle.gv_sppgtt.specs.declared.tables.Tables.{Tables}
use Rattle.gv_sppgtt.proofs.Kept.{keeps-nodes}
use Rattle.gv_sppgtt.proofs.SameNodes.{pinned-same, room-same}

module _ (d : Device) (placed : Placed) (t u : Tables) (pins : List ℕ) (h : Holds d placed t pins)
    (pages : (k f : ℕ) → pages_of u k f ≡ pages_of t k f)
    (enough : (k f : ℕ) → 1 ≤ k → namings (length placed.pages) (readings_of d t) k f ≤ parents_of u k f)
    (nodes : AreNodes u.nodes) (frames : u.nodes.frames ≡ t.nodes.frames) (owners : u.owners ≡ t.owners) (chains : u.chains ≡ t.chains) (told : u.told ≡ t.told) (guest : u.guest ≡ t.guest) where
  same_pages : pages_in u.nodes ≡ pages_in t.nodes
  same_pages = λ i k f. pages k f i

  pub readings-fewer : (k f i : ℕ) → readings_of d u k f i ≡ readings_of d t k f i
  readings-fewer k f i = λ j. readings_in d.words (owners j).items (same_pages j) k f i

  pub holds-fewer : Holds d placed u pins
  holds-fewer = record {
    stands = h.stands;
    sound = rw (owners, chains, told) (record {
      frames = frames ∙ h.sound.frames;
      chains_long = h.sound.chains_long;
      told_long = h.sound.told_long;
      owners_long = h.sound.owners_long;
      boarded = subst (λ P. Boarded d (length placed.pages) P t.owners.items) (sym same_pages) h.sound.boarded;
      local = subst (λ P. Local d placed P (flag t.told.items) (readings_in d.words t.owners.items P)) (sym same_pages) h.sound.local;
      chained = subst (λ P. Chained P (readings_in d.words t.owners.items P) t.chains) (sym same_pages) h.sound.chained;
      counted = λ k f one. subst (λ P. namings (length placed.pages) (readings_in d.words t.owners.items P) k f ≤ parents_of u k f) (sym same_pages) (enough k f one);
    });
    pinned = (h.pinned.0, rw owners (pinned-same d placed t.nodes u.nodes t.chains t.owners.items t.told.items frames same_pages pins h.pinned.1));
    guest = ap (λ g. g.0) guest ∙ h.guest;
    few = h.few;
    nodes = nodes;
    room = room-same d placed t.nodes u.nodes t.chains t.owners.items t.told.items frames same_pages h.room;
  }

  pub keeps-fewer : u.touched ≡ t.touched → Keeps placed d d t u pins pins
  keeps-fewer touched = keeps-nodes placed d t u pins h.nodes nodes pages owners guest told touched

-- it lost one of them
module _ (d : Device) (placed : Placed) (t u : Tables) (pins : List ℕ) (level frame : ℕ) (h : Holds d placed t pins)
    (held : namings (length placed.pages) (readings_of d t) level frame + 1 ≤ parents_of t level frame)
    (pages : (k f : ℕ) → pages_of u k f ≡ pages_of t k f) (here : parents_of u level frame + 1 ≡ parents_of t level frame)
    (others : (k f : ℕ) → (k ≡ level → f ≡ frame → ⊥) → parents_of u k f ≡ parents_of t k f)
    (nodes : AreNodes u.nodes) (frames : u.nodes.frames ≡ t.nodes.frames) (owners : u.owners ≡ t.owners) (chains : u.chains ≡ t.chains) (told : u.told ≡ t.told) (guest : u.guest ≡ t.guest) where
  still_enough : (k f : ℕ) → 1 ≤ k → namings (length placed.pages) (readings_of d t) k f ≤ parents_of u k f
  still_enough k f one =
      let c = h.sound.counted k f one in
      ⊎_elim (λ a. ⊎_elim
      (λ b.
      let x : namings (length placed.pages) (readings_of d t) k f ≡ namings (length placed.pages) (readings_of d t) level frame = ap (λ z. namings (length placed.pages) (readings_of d t) z f) a ∙ ap (λ z. namings (length placed.pages) (readings_of d t) level z) b in
      let y : parents_of u k f ≡ parents_of u level frame = ap (λ z. parents_of u z f) a ∙ ap (parents_of u level) b in
      omega arith)
      (λ b. let o = others k f (λ _ e. b e) in omega arith) (cases_eq f frame))
      (λ a. let o = others k f (λ e _. a e) in omega arith) (cases_eq k level)

  pub readings-less : (k f i : ℕ) → readings_of d u k f i ≡ readings_of d t k f i
  readings-less = readings-fewer d placed t u pins h pages still_enough nodes frames owners chains told guest

  pub holds-less : Holds d placed u pins
  holds-less = holds-fewer d placed t u pins h pages still_enough nodes frames owners chains told guest

  pub keeps-less : u.touched ≡ t.touched → Keeps placed d d t u pins pins
  keeps-less = keeps-fewer d placed t u pins h pages still_enough nodes frames owners chains told guest
