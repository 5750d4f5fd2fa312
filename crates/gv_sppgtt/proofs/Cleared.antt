-- Tables whose nodes have all gone, and which tell of no frame, are as new ones.
use Rattle.std.proofs.Common.{ℕ, ◌+◌, ◌≡◌, false, ◌&&◌, cond, List, [], None, Some, is_some, length, get_or, refl, sym, ap, ◌∙◌, subst, arith}
use Rattle.std.specs.List.{range_with_len}
use Rattle.gv_types.specs.Memory.{Memory}
use Rattle.gv_gpu.specs.Device.{Device}
use Rattle.std.proofs.lemmas.Bool.{eq-eqb, false_from_ne_true}
use Rattle.gv_gpu.specs.Part.{outside, is_named, is_shadow_of, tables_part, shadow_label}
use Rattle.gv_guest.specs.Placed.{Placed, memory_in}
use Rattle.gv_nodes.specs.NodeMap.{NodeMap, AreNodes}
use Rattle.gv_rmap.specs.declared.leaf.Leaf.{Leaf}
use Rattle.gv_rmap.specs.Leaves.{leaf_at}
use Rattle.gv_rmap.specs.Chains.{ReverseMap, chain_of}
use Rattle.gv_shape.specs.Counts.{leaves}
use Rattle.gv_sppgtt.specs.Sound.{AreInOrder, flag, pages_in, readings_in}
use Rattle.gv_sppgtt.specs.State.{own_in, pages_of, readings_of, LiveFollows}
use Rattle.gv_sppgtt.specs.Holding.{Holds, Keeps}
use Rattle.gv_sppgtt.specs.Serving.{roots_of, Serves, ChangesTables, IsReady}
use Rattle.gv_sppgtt.specs.Clearing.{AreNone}
use Rattle.gv_sppgtt.specs.declared.tables.Tables.{Tables}
use Rattle.gv_sppgtt.proofs.OwnPages.{own-page, page-own}
use Rattle.gv_sppgtt.proofs.Fresh.{empty-serves, no_count, no_leaf}
use Rattle.gv_sppgtt.proofs.Serving.{filter-none, filter-same}

pub roots-none : (t : Tables) → AreNone (pages_of t) → roots_of t ≡ []
unfolding roots_of
roots-none t none = filter-same (λ frame. is_some (pages_of t 4 frame)) (λ _. false) (range_with_len 0 t.nodes.frames) (λ frame. ap is_some (none 4 frame)) ∙ filter-none (range_with_len 0 t.nodes.frames)

module _ (d e : Device) (placed : Placed) (t u v : Tables) (pins mid : List ℕ) (h : Holds e placed u mid) (keeps : Keeps placed d e t u pins mid) (gone : AreNone (pages_of u))
    (told : (f : ℕ) → flag v.told.items f ≡ false) (long : length v.told.items ≡ length u.told.items) (clean : (block : ℕ) → flag v.touched block ≡ false)
    (nodes : v.nodes ≡ u.nodes) (owners : v.owners ≡ u.owners) (chains : v.chains ≡ u.chains) (guest : v.guest ≡ u.guest) where
  pub cleared-none : AreNone (pages_of v)
  cleared-none k f = ap (λ (s : NodeMap). pages_in s k f) nodes ∙ gone k f

  pub cleared-roots : roots_of v ≡ []
  cleared-roots = roots-none v cleared-none

  frames : v.nodes.frames ≡ length placed.pages
  frames = ap (λ (s : NodeMap). s.frames) nodes ∙ h.sound.frames

  chains_long : length v.chains.chains ≡ length placed.pages
  chains_long = ap (λ (s : ReverseMap). length s.chains) chains ∙ h.sound.chains_long

  owners_long : length v.owners.items ≡ 131072
  owners_long = ap (λ o. length o.items) owners ∙ h.sound.owners_long

  told_long : length v.told.items ≡ length placed.pages
  told_long = long ∙ h.sound.told_long

  are : AreNodes v.nodes
  are = subst AreNodes (sym nodes) h.nodes

  owner : v.guest.0 ≡ placed.guest
  owner = ap (λ g. g.0) guest ∙ h.guest

  no_chain : (q key : ℕ) (leaf : Leaf) → leaf_at (chain_of v.chains q) key ≡ Some leaf → ⊥
  no_chain q key leaf is =
      let at = h.sound.chained.leaves q key leaf (ap (λ (s : ReverseMap). leaf_at (chain_of s q) key) (sym chains) ∙ is) in
      let clash : None ≡ Some leaf.page = sym (gone at.0 at.1) ∙ at.2.1.0 in
      cc

  ordered : AreInOrder v.chains
  ordered = subst AreInOrder (sym chains) h.sound.chained.ordered

  pub cleared-serves : (m : Memory) → Serves e placed mid v m
  cleared-serves m = empty-serves v cleared-none e placed mid m h.stands frames chains_long told_long owners_long ordered no_chain told clean h.pinned.0
      (λ q low. let z = no_leaf u gone e placed q in let p = (h.pinned.1 q low).1 in omega arith)
      owner h.few are (let z = no_count u gone e placed in let room = h.room in omega arith)

  pub cleared-ready : (d' : Device) (placed' : Placed) (pins' : List ℕ) → IsReady placed.guest (length placed.pages) d' placed' pins' → Serves d' placed' pins' v (memory_in d' placed')
  cleared-ready d' placed' pins' r =
      let room = r.room in
      let size = r.long in
      let few = h.few in
      empty-serves v cleared-none d' placed' pins' (memory_in d' placed') r.stands (frames ∙ sym r.long) (chains_long ∙ sym r.long) (told_long ∙ sym r.long) owners_long ordered no_chain told clean r.counted r.few
      (owner ∙ sym r.owner) (omega arith) are (omega arith)

  same_readings : readings_of e v ≡ readings_of e u
  same_readings = λ i. readings_in e.words (owners i).items (pages_in (nodes i))

  pub cleared-changes : ChangesTables placed d e t v pins mid
  cleared-changes = record {
    memory = keeps.memory;
    others = ap (λ (s : NodeMap). outside (tables_part placed.guest (own_in s)) e) nodes ∙ keeps.outside;
    live = subst (λ (s : NodeMap). LiveFollows (length placed.pages) d e (pages_of t) (pages_in s)) (sym nodes) keeps.live;
    guest = guest ∙ keeps.guest;
    pins = λ q. keeps.pins q ∙ ap (λ r. get_or pins q 0 + leaves (length placed.pages) r q) (sym same_readings);
  }

  -- the pins of their leaves have gone
  pub cleared-pins : (q : ℕ) → get_or mid q 0 + leaves (length placed.pages) (readings_of d t) q ≡ get_or pins q 0
  cleared-pins q = let p = keeps.pins q in let z = no_leaf u gone e placed q in omega arith

  -- and so have the pages of their nodes
  pub cleared-label : Holds d placed t pins → (k f p : ℕ) → pages_of t k f ≡ Some p → e.label p ≡ None
  cleared-label was k f p is =
      let gone_now : is_named (own_in u.nodes) p ≡ false = false_from_ne_true _ (λ named.
      let at = own-page u.nodes p h.nodes named in
      let clash : None ≡ Some p = sym (gone at.0 at.1) ∙ at.2 in
      cc) in
      let own = page-own t.nodes k f p is in
      let labelled = was.sound.local.labelled k f p is in
      sym (ap (λ b. cond (b && is_shadow_of placed.guest (e.label p)) None (e.label p)) gone_now)
      ∙ ap (λ x. x.label p) keeps.outside
      ∙ ap (λ b. cond (b && is_shadow_of placed.guest (d.label p)) None (d.label p)) own
      ∙ ap (λ l. cond (is_shadow_of placed.guest l) None l) labelled
      ∙ shadow placed.guest
    where
      shadow : (g : ℕ) → cond (is_shadow_of g (Some (shadow_label g))) None (Some (shadow_label g)) ≡ None
      shadow g = rw (eq-eqb g g refl) refl
