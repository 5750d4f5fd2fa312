-- A node and its page are taken out: what is known of the tables.
use Rattle.std.proofs.Common.{ℕ, ◌/◌, ◌≤◌, ◌<◌, ◌≡◌, true, false, List, None, Some, length, get_or, refl, sym, ap, ◌∙◌, arith, ⊎_elim}
use Rattle.std.proofs.lemmas.Bool.{cases_eq, false≢true}
use Rattle.gv_entry.specs.declared.process.Process.TheVariants.{Absent}
use Rattle.gv_gpu.specs.Device.{Device, released}
use Rattle.gv_gpu.specs.Part.{outside}
use Rattle.gv_guest.specs.Placed.{Placed}
use Rattle.gv_nodes.specs.NodeMap.{AreNodes}
use Rattle.gv_shape.specs.Counts.{leaves, maps, namings}
use Rattle.gv_sppgtt.specs.Sound.{Sound, readings_in}
use Rattle.gv_sppgtt.specs.State.{Touches, own_in, pages_of, parents_of, readings_of, shadow_part}
use Rattle.gv_sppgtt.specs.Holding.{Holds, Keeps}
use Rattle.gv_sppgtt.specs.declared.tables.Tables.{Tables}
use Rattle.gv_sppgtt.proofs.DropNode.{sound-gone, all-same, gone-uses, outside-gone}
use Rattle.gv_sppgtt.proofs.Kept.{is_table-same}
use Rattle.gv_sppgtt.proofs.LiveCounts.{live-less}
use Rattle.gv_sppgtt.proofs.OwnPages.{own-others, own-released, page-own}
use Rattle.gv_sppgtt.proofs.Outside.{stands-shadow, memory-shadow}
use Rattle.gv_sppgtt.proofs.Room.{count-made}

module _ (d : Device) (placed : Placed) (t u : Tables) (pins : List ℕ) (level frame page : ℕ) (h : Holds d placed t pins) (low : frame < length placed.pages) (one : 1 ≤ level) (four : level ≤ 6)
    (node : pages_of t level frame ≡ Some page) (none : parents_of t level frame ≡ 0) (empty : (i : ℕ) → i < 512 → readings_of d t level frame i ≡ Absent)
    (here : pages_of u level frame ≡ None) (others : (k f : ℕ) → (k ≡ level → f ≡ frame → ⊥) → pages_of u k f ≡ pages_of t k f) (parents : (k f : ℕ) → parents_of u k f ≡ parents_of t k f)
    (nodes : AreNodes u.nodes) (frames : u.nodes.frames ≡ t.nodes.frames) (owners : u.owners ≡ t.owners) (chains : u.chains ≡ t.chains) (told : u.told ≡ t.told) (guest : u.guest ≡ t.guest) where
  abbrev after : Device
  after = released d page

  unnamed : namings (length placed.pages) (readings_of d t) level frame ≡ 0
  unnamed = let c = h.sound.counted level frame one in omega arith

  sound' : Sound after placed u.nodes t.chains t.owners.items t.told.items
  sound' = sound-gone d placed t.nodes u.nodes t.chains t.owners.items t.told.items h.sound level frame page node empty unnamed frames here others (λ k f _. parents k f)

  pub gone-words : (k f i : ℕ) → i < 512 → readings_of after u k f i ≡ readings_of d t k f i
  gone-words k f i small = ap (λ (o : List ℕ). readings_in after.words o (pages_of u) k f i) (ap (λ v. v.items) owners) ∙ all-same d placed t.nodes u.nodes t.chains t.owners.items t.told.items h.sound level frame page node empty unnamed frames here others (λ k f _. parents k f) k f i small

  outside_same : outside (shadow_part placed.guest) after ≡ outside (shadow_part placed.guest) d
  outside_same = outside-gone d placed t.nodes u.nodes t.chains t.owners.items t.told.items h.sound level frame page node empty unnamed frames here others (λ k f _. parents k f)

  pub holds-gone : Holds after placed u pins
  holds-gone = record {
    stands = stands-shadow d after placed outside_same h.stands;
    sound = rw (chains, owners, told) sound';
    pinned = (
      h.pinned.0,
      rw owners (λ q b.
          let used = gone-uses d placed t.nodes u.nodes t.chains t.owners.items t.told.items h.sound level frame page node empty unnamed frames here others (λ k f _. parents k f) in
          rw (used 1 (maps q), used 5 (maps q), used 6 (maps q)) (h.pinned.1 q b)),
    );
    guest = ap (λ g. g.0) guest ∙ h.guest;
    few = h.few;
    nodes = nodes;
    room =
        let count = count-made (pages_of u) level frame here one four (length placed.pages) h.few low (h.sound.boarded.whole level frame page node) (pages_of t) page node (λ k f apart. sym (others k f apart)) in
        let room = h.room in
        let few = h.few in
        omega arith;
  }

  pub keeps-gone : Touches frame t.touched u.touched → Keeps placed d after t u pins pins
  keeps-gone touches = record {
    memory = memory-shadow d after placed outside_same h.stands;
    outside = own-released placed.guest (own_in t.nodes) (own_in u.nodes) d page (h.sound.local.labelled level frame page node) (page-own t.nodes level frame page node)
        (λ q other. sym (own-others u.nodes t.nodes nodes h.nodes level frame page node here (λ k f apart. sym (others k f apart)) q other));
    live = live-less (length placed.pages) d after (pages_of t) (pages_of u) refl
        (count-made (pages_of u) level frame here one four (length placed.pages) h.few low (h.sound.boarded.whole level frame page node) (pages_of t) page node (λ k f apart. sym (others k f apart)));
    guest = guest;
    told = told;
    pins = λ q.
        let used = gone-uses d placed t.nodes u.nodes t.chains t.owners.items t.told.items h.sound level frame page node empty unnamed frames here others (λ k f _. parents k f) in
        let a = used 1 (maps q) in
        let b = used 5 (maps q) in
        let c = used 6 (maps q) in
        let new : leaves (length placed.pages) (readings_of after u) q ≡ leaves (length placed.pages) (readings_in after.words t.owners.items (pages_of u)) q = ap (λ (own : List ℕ). leaves (length placed.pages) (readings_in after.words own (pages_of u)) q) (ap (λ v. v.items) owners) in
        omega arith;
    blocks = touches.kept;
    tables = λ f is. ⊎_elim
        (λ same. let clash : true ≡ false = sym touches.here ∙ ap (λ x. get_or u.touched (x / 128) false) (sym same) ∙ is in absurd (false≢true (sym clash)))
        (λ other. is_table-same (pages_of u) (pages_of t) f (λ k. others k f (λ _ e. other e)))
        (cases_eq f frame);
  }
