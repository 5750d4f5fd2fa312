-- A node is made, seen by all that is known of the tables.
use Rattle.std.proofs.Common.{List, ℕ, ◌+◌, ◌*◌, ◌^◌, ◌≡◌, ◌/◌, ◌≤◌, ◌<◌, true, false, Some, None, [], length, get_or, set, refl, sym, ap, ◌∙◌, subst, arith, ⊎_elim}
use Rattle.std.proofs.lemmas.Bool.{cases_eq, false≢true}
use Rattle.gv_gpu.specs.Device.{Device, added}
use Rattle.gv_gpu.specs.Part.{outside, shadow_label}
use Rattle.gv_guest.specs.Placed.{Placed}
use Rattle.gv_nodes.specs.NodeMap.{NodeMap, AreNodes, reserved}
use Rattle.gv_rmap.specs.declared.leaf.Leaf.{Leaf}
use Rattle.gv_rmap.specs.Leaves.{leaf_at, IsInOrder}
use Rattle.gv_rmap.specs.Chains.{ReverseMap}
use Rattle.gv_shape.specs.Shadow.{Pages}
use Rattle.gv_shape.specs.Counts.{leaves, maps}
use Rattle.gv_sppgtt.specs.Sound.{pages_in, parents_in, page_of_node, parents_of_node, readings_in, IsWhole}
use Rattle.gv_sppgtt.specs.State.{Touches, own_in, pages_of, parents_of, readings_of, sketch_of, shadow_part}
use Rattle.gv_sppgtt.specs.Grown.{Made}
use Rattle.gv_sppgtt.specs.Holding.{Holds, Keeps}
use Rattle.gv_sppgtt.specs.declared.tables.Tables.{Tables}
use Rattle.gv_sppgtt.proofs.NodePairs.{are_reserved, node_of-reserved}
use Rattle.gv_sppgtt.proofs.SameNodes.{sound-same, pinned-same, room-same}
use Rattle.gv_sppgtt.proofs.Room.{count-made}
use Rattle.gv_sppgtt.proofs.Outside.{stands-shadow, memory-shadow, shadow-added}
use Rattle.gv_sppgtt.proofs.Kept.{is_table-same}
use Rattle.gv_sppgtt.proofs.LiveCounts.{live-more}
use Rattle.gv_sppgtt.proofs.OwnPages.{own-here, own-others, own-added}
use Rattle.gv_sppgtt.proofs.MakeNode.{made-sketch, sound-made, made-uses}

pub same-pages : (s r : NodeMap) → r ≡ reserved s 1 → pages_in r ≡ pages_in s
same-pages s r is = ap pages_in is ∙ (λ i k f. page_of_node (node_of-reserved s 1 i k f))

pub same-parents : (s r : NodeMap) → r ≡ reserved s 1 → parents_in r ≡ parents_in s
same-parents s r is = ap parents_in is ∙ (λ i k f. parents_of_node (node_of-reserved s 1 i k f))

-- memory for more leaves changes nothing that is known
holds-leaves : (d : Device) (placed : Placed) (t : Tables) (pins : List ℕ) (c : ReverseMap) → c.chains ≡ t.chains.chains → Holds d placed t pins → Holds d placed (record t { chains = c }) pins
holds-leaves d placed t pins c same h = record {
  stands = h.stands;
  sound = record {
    frames = h.sound.frames;
    chains_long = ap length same ∙ h.sound.chains_long;
    told_long = h.sound.told_long;
    owners_long = h.sound.owners_long;
    boarded = h.sound.boarded;
    local = h.sound.local;
    chained = record {
      ordered = λ q. subst (λ (l : List (List Leaf)). IsInOrder (get_or l q [])) (sym same) (h.sound.chained.ordered q);
      linked = λ k f p i q w leafy is small reads. ap (λ (l : List (List Leaf)). leaf_at (get_or l q []) (p * 2 ^ 16 + i)) same ∙ h.sound.chained.linked k f p i q w leafy is small reads;
      leaves = λ q place leaf is. h.sound.chained.leaves q place leaf (ap (λ (l : List (List Leaf)). leaf_at (get_or l q []) place) (sym same) ∙ is);
    };
    counted = h.sound.counted;
  };
  pinned = h.pinned;
  guest = h.guest;
  few = h.few;
  nodes = h.nodes;
  room = h.room;
}

keeps-leaves : (placed : Placed) (d e : Device) (t u : Tables) (x y : List ℕ) (c : ReverseMap) → Keeps placed d e (record t { chains = c }) u x y → Keeps placed d e t u x y
keeps-leaves placed d e t u x y c k = record {
  memory = k.memory;
  outside = k.outside;
  live = k.live;
  guest = k.guest;
  told = k.told;
  pins = k.pins;
  blocks = k.blocks;
  tables = k.tables;
}

-- the same of tables that are known to be those
module _ (d e : Device) (placed : Placed) (t r u : Tables) (x y : List ℕ) (others : r ≡ record t { chains = r.chains }) where
  pub holds-more : r.chains.chains ≡ t.chains.chains → Holds d placed t x → Holds d placed r x
  holds-more same h = subst (λ (z : Tables). Holds d placed z x) (sym others) (holds-leaves d placed t x r.chains same h)

  pub keeps-more : Keeps placed d e r u x y → Keeps placed d e t u x y
  keeps-more k = keeps-leaves placed d e t u x y r.chains (subst (λ (z : Tables). Keeps placed d e z u x y) others k)

  pub made-more : (level frame page : ℕ) → Made level frame page (sketch_of d r) (sketch_of e u) → Made level frame page (sketch_of d t) (sketch_of e u)
  made-more level frame page = subst (λ (z : Tables). Made level frame page (sketch_of d z) (sketch_of e u)) others

-- nor does memory for more nodes
pub holds-reserved : (d : Device) (placed : Placed) (t : Tables) (pins : List ℕ) (r : NodeMap) → r ≡ reserved t.nodes 1 → Holds d placed t pins → Holds d placed (record t { nodes = r }) pins
holds-reserved d placed t pins r is h =
    let frames = ap (λ (n : NodeMap). n.frames) is in
    let pages = same-pages t.nodes r is in
    record {
      stands = h.stands;
      sound = sound-same d placed t.nodes r t.chains t.owners.items t.told.items frames pages (λ k f. let e : parents_in r k f ≡ parents_in t.nodes k f = ap (λ q. q k f) (same-parents t.nodes r is) in omega arith) h.sound;
      pinned = (h.pinned.0, pinned-same d placed t.nodes r t.chains t.owners.items t.told.items frames pages pins h.pinned.1);
      guest = h.guest;
      few = h.few;
      nodes = rw is (are_reserved t.nodes 1 h.nodes);
      room = room-same d placed t.nodes r t.chains t.owners.items t.told.items frames pages h.room;
    }

module _ (d : Device) (placed : Placed) (t u : Tables) (pins : List ℕ) (r : NodeMap) (level frame page : ℕ)
    (h : Holds d placed t pins) (is : r ≡ reserved t.nodes 1)
    (low : frame < length placed.pages) (one : 1 ≤ level) (four : level ≤ 6) (whole : IsWhole (length placed.pages) level frame) (absent : pages_of t level frame ≡ None)
    (below : page < 131072) (free : d.label page ≡ None) (empty : d.words page ≡ [])
    (here : pages_of u level frame ≡ Some page) (parent : parents_of u level frame ≡ 1)
    (others : (k f : ℕ) → (k ≡ level → f ≡ frame → ⊥) → pages_of u k f ≡ pages_in r k f)
    (parents : (k f : ℕ) → (k ≡ level → f ≡ frame → ⊥) → parents_of u k f ≡ parents_in r k f)
    (nodes : AreNodes u.nodes) (frames : u.nodes.frames ≡ r.frames) (owners : u.owners.items ≡ set t.owners.items page frame)
    (chains : u.chains ≡ t.chains) (told : u.told ≡ t.told) (guest : u.guest ≡ t.guest) where
  abbrev after : Device
  after = added d page (shadow_label placed.guest)

  with_r : Holds d placed (record t { nodes = r }) pins
  with_r = holds-reserved d placed t pins r is h

  none : pages_in r level frame ≡ None
  none = ap (λ (p : Pages). p level frame) (same-pages t.nodes r is) ∙ absent

  others' : (k f : ℕ) → (k ≡ level → f ≡ frame → ⊥) → pages_of u k f ≡ pages_of t k f
  others' k f apart = others k f apart ∙ ap (λ (p : Pages). p k f) (same-pages t.nodes r is)

  outside_same : outside (shadow_part placed.guest) after ≡ outside (shadow_part placed.guest) d
  outside_same = shadow-added d placed.guest page free empty

  pub all-made : Made level frame page (sketch_of d t) (sketch_of after u)
  all-made =
      let made = made-sketch d placed r u.nodes t.chains t.owners.items t.told.items h.stands with_r.sound level frame page low one four whole none below free frames here parent others parents in
      subst (λ (own : List ℕ). Made level frame page (sketch_of d t) (record { pages = pages_of u; parents = parents_of u; readings = readings_in after.words own (pages_of u) })) (sym owners)
      (subst (λ (P : Pages). Made level frame page (record { pages = P; parents = parents_of t; readings = readings_in d.words t.owners.items P }) (record { pages = pages_of u; parents = parents_of u; readings = readings_in after.words (set t.owners.items page frame) (pages_of u) })) (same-pages t.nodes r is)
      (subst (λ (Q : ℕ → ℕ → ℕ). Made level frame page (record { pages = pages_in r; parents = Q; readings = readings_in d.words t.owners.items (pages_in r) }) (record { pages = pages_of u; parents = parents_of u; readings = readings_in after.words (set t.owners.items page frame) (pages_of u) })) (same-parents t.nodes r is) made))

  pub holds-made : Holds after placed u pins
  holds-made = record {
    stands = stands-shadow d after placed outside_same h.stands;
    sound = rw (chains, owners, told) (sound-made d placed r u.nodes t.chains t.owners.items t.told.items h.stands with_r.sound level frame page low one four whole none below free frames here parent others parents);
    pinned = (
      h.pinned.0,
      rw owners (λ q b.
          let used = made-uses d placed r u.nodes t.chains t.owners.items t.told.items h.stands with_r.sound level frame page low one four whole none below free frames here parent others parents in
          rw (used 1 (maps q), used 5 (maps q), used 6 (maps q)) (with_r.pinned.1 q b)),
    );
    guest = ap (λ g. g.0) guest ∙ h.guest;
    few = h.few;
    nodes = nodes;
    room =
        let count = count-made (pages_of t) level frame absent one four (length placed.pages) h.few low whole (pages_of u) page here others' in
        let room = h.room in
        omega arith;
  }

  pub keeps-made : Touches frame t.touched u.touched → Keeps placed d after t u pins pins
  keeps-made touches = record {
    memory = memory-shadow d after placed outside_same h.stands;
    outside = own-added placed.guest (own_in t.nodes) (own_in u.nodes) d page free empty (own-here t.nodes u.nodes h.nodes nodes level frame page here absent others')
        (own-others t.nodes u.nodes h.nodes nodes level frame page here absent others');
    live = live-more (length placed.pages) d after (pages_of t) (pages_of u) refl (count-made (pages_of t) level frame absent one four (length placed.pages) h.few low whole (pages_of u) page here others');
    guest = guest;
    told = told;
    pins = λ q.
        let used = made-uses d placed r u.nodes t.chains t.owners.items t.told.items h.stands with_r.sound level frame page low one four whole none below free frames here parent others parents in
        let old : leaves (length placed.pages) (readings_in d.words t.owners.items (pages_in r)) q ≡ leaves (length placed.pages) (readings_of d t) q = ap (λ (P : Pages). leaves (length placed.pages) (readings_in d.words t.owners.items P) q) (same-pages t.nodes r is) in
        let a = used 1 (maps q) in
        let b = used 5 (maps q) in
        let c = used 6 (maps q) in
        let new : leaves (length placed.pages) (readings_of after u) q ≡ leaves (length placed.pages) (readings_in after.words (set t.owners.items page frame) (pages_of u)) q = ap (λ (own : List ℕ). leaves (length placed.pages) (readings_in after.words own (pages_of u)) q) owners in
        omega arith;
    blocks = touches.kept;
    tables = λ f is. ⊎_elim
        (λ same. let clash : true ≡ false = sym touches.here ∙ ap (λ x. get_or u.touched (x / 128) false) (sym same) ∙ is in absurd (false≢true (sym clash)))
        (λ other. is_table-same (pages_of u) (pages_of t) f (λ k. others' k f (λ _ e. other e)))
        (cases_eq f frame);
  }
