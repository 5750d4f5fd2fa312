-- One word of a node's page is written: what is known of the tables.
use Rattle.std.proofs.Common.{ℕ, ◌+◌, ◌*◌, ◌/◌, ◌%◌, ◌≤◌, ◌<◌, ◌≡◌, Bool, true, false, List, Some, length, get_or, refl, sym, ap, ◌∙◌, subst, arith, ltb}
use Rattle.std.proofs.lemmas.Bool.{lt-ltb}
use Rattle.gv_types.specs.Memory.{Memory, memory_read}
use Rattle.gv_types.specs.declared.event.Width.TheVariants.{Eight}
use Rattle.gv_entry.specs.Tables.{frame_words}
use Rattle.gv_entry.specs.declared.process.Process.{Process}
use Rattle.gv_gpu.specs.Device.{Device, poked}
use Rattle.gv_gpu.specs.Part.{outside, tables_part}
use Rattle.gv_sppgtt.proofs.OwnPages.{own-poked, page-own}
use Rattle.gv_guest.specs.Placed.{Placed}
use Rattle.gv_nodes.specs.NodeMap.{NodeMap, AreNodes}
use Rattle.gv_shape.specs.Counts.{leaves, maps}
use Rattle.gv_sppgtt.specs.Sound.{Enters, pages_in}
use Rattle.gv_sppgtt.specs.Grown.{count_of}
use Rattle.gv_sppgtt.specs.State.{own_in, own_part, is_table, pages_of, readings_of, IsSound, IsPinned, shadow_part}
use Rattle.gv_sppgtt.specs.Holding.{Holds, Keeps}
use Rattle.gv_sppgtt.specs.declared.tables.Tables.{Tables}
use Rattle.gv_sppgtt.proofs.Entered.{uses-other}
use Rattle.gv_sppgtt.proofs.LiveCounts.{live-nodes}
use Rattle.gv_sppgtt.proofs.Outside.{stands-shadow, memory-shadow, shadow-poked}

module _ (d e : Device) (placed : Placed) (t u : Tables) (pins : List ℕ) (level frame page index value : ℕ) (h : Holds d placed t pins)
    (node : pages_of t level frame ≡ Some page) (step : e ≡ poked d page index value) (nodes : u.nodes ≡ t.nodes) (guest : u.guest ≡ t.guest) (told : u.told ≡ t.told) where
  outside_same : outside (shadow_part placed.guest) e ≡ outside (shadow_part placed.guest) d
  outside_same = ap (outside (shadow_part placed.guest)) step ∙ shadow-poked d placed.guest page index value (h.sound.local.labelled level frame page node)

  pub holds-poked : (pins' : List ℕ) → IsSound e placed u → IsPinned e placed u pins' → Holds e placed u pins'
  holds-poked pins' sound pinned = record {
    stands = stands-shadow d e placed outside_same h.stands;
    sound = sound;
    pinned = pinned;
    guest = ap (λ g. g.0) guest ∙ h.guest;
    few = h.few;
    nodes = subst AreNodes (sym nodes) h.nodes;
    room =
        let live : e.live ≡ d.live = ap (λ (x : Device). x.live) step in
        let r = h.room in
        subst (λ (n : NodeMap). e.live + (4 * length placed.pages + 64) ≤ 131072 + count_of (length placed.pages) (pages_in n)) (sym nodes) (omega arith);
  }

  pub keeps-poked : (moved : List ℕ) → ((q : ℕ) → get_or moved q 0 + leaves (length placed.pages) (readings_of d t) q ≡ get_or pins q 0 + leaves (length placed.pages) (readings_of e u) q) → u.touched ≡ t.touched → Keeps placed d e t u pins moved
  keeps-poked moved exact touched = record {
    memory = memory-shadow d e placed outside_same h.stands;
    outside = ap (λ (n : NodeMap). outside (tables_part placed.guest (own_in n)) e) nodes ∙ ap (outside (own_part placed.guest t)) step
        ∙ own-poked placed.guest (own_in t.nodes) d page index value (h.sound.local.labelled level frame page node) (page-own t.nodes level frame page node);
    live = live-nodes (length placed.pages) d e t.nodes u.nodes (ap (λ (x : Device). x.live) step) nodes;
    guest = guest;
    told = told;
    pins = exact;
    blocks = λ b is. ap (λ (l : List Bool). get_or l b false) (sym touched) ∙ is;
    tables = λ f is. ap (λ (n : NodeMap). is_table (pages_in n) f) nodes;
  }

-- a word of a table above maps no frame, so no pin moves
pub leaves-above : (d e : Device) (placed : Placed) (t u : Tables) (pins : List ℕ) (level frame index : ℕ) (p : Process) → 2 ≤ level → level ≤ 4 → frame < length placed.pages → index < 512 → Enters (readings_of d t) (readings_of e u) level frame index p
    → (h : ℕ) → get_or pins h 0 + leaves (length placed.pages) (readings_of d t) h ≡ get_or pins h 0 + leaves (length placed.pages) (readings_of e u) h
leaves-above d e placed t u pins level frame index p high few low within entered h =
    let one = uses-other (length placed.pages) (readings_of d t) (readings_of e u) level frame index p entered low within (maps h) 1 (λ is. let x = is in omega arith) in
    let five = uses-other (length placed.pages) (readings_of d t) (readings_of e u) level frame index p entered low within (maps h) 5 (λ is. let x = is in omega arith) in
    let six = uses-other (length placed.pages) (readings_of d t) (readings_of e u) level frame index p entered low within (maps h) 6 (λ is. let x = is in omega arith) in
    omega arith

-- a word of a table above maps no frame
pub pinned-above : (d e : Device) (placed : Placed) (t u : Tables) (pins : List ℕ) (level frame index : ℕ) (p : Process) → IsPinned d placed t pins → 2 ≤ level → level ≤ 4 → frame < length placed.pages → index < 512 → Enters (readings_of d t) (readings_of e u) level frame index p → IsPinned e placed u pins
pinned-above d e placed t u pins level frame index p pinned high few low within entered = (
  pinned.0,
  λ h b.
      let one = uses-other (length placed.pages) (readings_of d t) (readings_of e u) level frame index p entered low within (maps h) 1 (λ is. let x = is in omega arith) in
      let five = uses-other (length placed.pages) (readings_of d t) (readings_of e u) level frame index p entered low within (maps h) 5 (λ is. let x = is in omega arith) in
      let six = uses-other (length placed.pages) (readings_of d t) (readings_of e u) level frame index p entered low within (maps h) 6 (λ is. let x = is in omega arith) in
      rw (one, five, six) (pinned.1 h b),
)

pub read-entry : (m : Memory) (frame index : ℕ) → frame < length m → index < 512 → memory_read m Eight (frame * 4096 + index * 8) ≡ get_or (frame_words m frame) index 0
read-entry m frame index low within =
    let inside : ltb (frame * 4096 + index * 8) (length m * 4096) ≡ true = lt-ltb _ _ (omega arith) in
    let number : (frame * 4096 + index * 8) / 8 ≡ frame * 512 + index = omega arith in
    let table : (frame * 512 + index) / 512 ≡ frame = omega arith in
    let word : (frame * 512 + index) % 512 ≡ index = omega arith in
    rw inside (rw number (rw (table, word) refl))
