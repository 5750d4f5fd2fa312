-- Tables serve on while a word of guest memory is written, and each shadow page is still that of a node.
use Rattle.std.proofs.Common.{ℕ, ◌≡◌, ◌+◌, ◌*◌, ◌/◌, ◌%◌, ◌<◌, ◌≤◌, Bool, true, false, not, ◌&&◌, cond, nat_lt, List, [], length, get_or, set, replicate, Option, None, Some, refl, sym, ap, ◌∙◌, subst, arith, ⊎_elim}
use Rattle.std.proofs.lemmas.Bool.{eq-eqb, cases_eq, lt-ltb}
use Rattle.std.proofs.lemmas.List.{length-map, length-set, get_or-set_same, get_or-set_other, length-replicate}
use Rattle.std.proofs.lemmas.Grind.{common_steps}
use Rattle.gv_types.specs.Memory.{Memory as Words, with_word, memory_write}
use Rattle.gv_types.specs.declared.ids.Label.{Label}
use Rattle.gv_types.specs.declared.event.Width.TheVariants.{Eight}
use Rattle.gv_gpu.specs.Change.{ChangesOnly, Leaves}
use Rattle.gv_gpu.specs.Device.{Device, IsEmpty}
use Rattle.gv_gpu.specs.Part.{Apart, outside, is_named, is_frame_of, is_shadow_of, frames_part, shadow_label}
use Rattle.gv_gpu.proofs.Changes.{leaves}
use Rattle.gv_gpu.proofs.Seen.{label-same, words-same}
use Rattle.gv_guest.specs.Placed.{Placed, Hosts, memory_in}
use Rattle.gv_guest.specs.declared.memory.Memory.{Memory}
use Rattle.gv_shape.specs.Shadows.{KeepsPages}
use Rattle.gv_sppgtt.specs.Grown.{count_of}
use Rattle.gv_sppgtt.specs.State.{shadow_part, own_in, pages_of}
use Rattle.gv_sppgtt.specs.Holding.{Holds}
use Rattle.gv_sppgtt.specs.Clearing.{AreNone}
use Rattle.gv_sppgtt.specs.Serving.{Serves, ChangesTables, ChangedAt, IsReady}
use Rattle.gv_sppgtt.specs.declared.tables.Tables.{Tables}
use Rattle.gv_nodes.specs.NodeMap.{AreNodes}
use Rattle.gv_sppgtt.proofs.OwnPages.{own-page}
use Rattle.gv_sppgtt.proofs.Standing.{serving_tables_stay}
use Rattle.gv_trees.specs.Served.{OwnsShadows, IsServed, IsHeld, HasNoShadows}

-- ---- frames and shadow pages are apart

not_both : (a b : Bool) → (a && not b) ≡ true → (a && b) ≡ false
not_both true true h = cc
not_both true false h = refl
not_both false b h = refl

no_shadow : (g : ℕ) (l : Option Label) → is_frame_of g l ≡ true → is_shadow_of g l ≡ false
no_shadow g None h = refl
no_shadow g (Some l) h = not_both _ l.shadow h

apart-frames-shadow : (g : ℕ) → Apart (frames_part g) (shadow_part g)
apart-frames-shadow g = record { dead = λ n. refl; page = λ n l h. no_shadow g l h; entry = λ i h. refl; engine = λ e h. refl; spare = λ h. refl }

own_label : (g : ℕ) → is_shadow_of g (Some (shadow_label g)) ≡ true
own_label g = ap (λ b. b && true) (eq-eqb g g refl)

-- ---- each shadow page is that of a node

module _ (g : ℕ) (d e : Device) (t : Tables) (left : Leaves (shadow_part g) d e) (own : OwnsShadows d g t) where
  pub owns-left : OwnsShadows e g t
  owns-left = record { each = λ n h. at n (e.label n) refl h }
    where
      at : (n : ℕ) (l : Option Label) → e.label n ≡ l → is_shadow_of g l ≡ true → is_named (own_in t.nodes) n ≡ true
      at n None is h = cc
      at n (Some l) is h = own.each n (ap (is_shadow_of g) (label-same (shadow_part g) e d (sym left.same) n l h is) ∙ h)

kept : (g : ℕ) (a b : Bool) (x y : Option Label) → cond (b && is_shadow_of g y) None y ≡ cond (a && is_shadow_of g x) None x → (is_shadow_of g x ≡ true → a ≡ true) → is_shadow_of g y ≡ true → b ≡ true
kept g a true x y e own h = refl
kept g true false x y e own h = at (is_shadow_of g x) refl e
  where
    at : (s : Bool) → is_shadow_of g x ≡ s → y ≡ cond s None x → false ≡ true
    at true is e = sym (ap (is_shadow_of g) e) ∙ h
    at false is e = sym is ∙ sym (ap (is_shadow_of g) e) ∙ h
kept g false false x y e own h = own (sym (ap (is_shadow_of g) e) ∙ h)

pub owns-after : (placed : Placed) (d e : Device) (t u : Tables) (held moved : List ℕ) → ChangesTables placed d e t u held moved → OwnsShadows d placed.guest t → OwnsShadows e placed.guest u
owns-after placed d e t u held moved changes own = record {
  each = λ n h. kept placed.guest (is_named (own_in t.nodes) n) (is_named (own_in u.nodes) n) (d.label n) (e.label n) (ap (λ (x : Device). x.label n) changes.others) (own.each n) h;
}

-- ---- a written word

module _ (m : Words) (number value : ℕ) (within : number / 512 < length m) where
  abbrev words : List ℕ
  words = get_or m (number / 512) []

  elsewhere : (f i : ℕ) → (f ≡ number / 512 → i ≡ number % 512 → ⊥) → get_or (get_or (with_word m number value) f []) i 0 ≡ get_or (get_or m f []) i 0
  elsewhere f i apart = ⊎_elim
      (λ same.
      ap (λ (ws : List ℕ). get_or ws i 0) (ap (λ x. get_or (with_word m number value) x []) same ∙ get_or-set_same m (number / 512) (set words (number % 512) value) [] within)
      ∙ get_or-set_other words (number % 512) i value 0 (apart same)
      ∙ ap (λ x. get_or (get_or m x []) i 0) (sym same))
      (λ other. ap (λ (ws : List ℕ). get_or ws i 0) (get_or-set_other m (number / 512) f (set words (number % 512) value) [] other))
      (cases_eq f (number / 512))

  changed-word : ChangedAt m (with_word m number value) (number / 512) (number % 512)
  changed-word = record { frames = length-set m (number / 512) (set words (number % 512) value); others = λ f i apart. elsewhere f i apart }

changed-at : (m : Words) (at value : ℕ) → at / 4096 < length m → ChangedAt m (memory_write m Eight at value) (at / 4096) (at % 4096 / 8)
changed-at m at value within =
    let inside : nat_lt at (length m * 4096) ≡ true = lt-ltb at (length m * 4096) (omega arith) in
    let is : memory_write m Eight at value ≡ with_word m (at / 8) value = ap (λ b. cond b (with_word m (at / 8) value) m) inside in
    let frame : at / 8 / 512 ≡ at / 4096 = omega arith in
    let index : at / 8 % 512 ≡ at % 4096 / 8 = omega arith in
    subst (λ (n : Words). ChangedAt m n (at / 4096) (at % 4096 / 8)) (sym is)
    (subst (ChangedAt m (with_word m (at / 8) value) (at / 4096)) index
    (subst (λ f. ChangedAt m (with_word m (at / 8) value) f (at / 8 % 512)) frame
    (changed-word m (at / 8) value (omega arith))))

module _ (d e : Device) (placed : Placed) (pins : List ℕ) (t : Tables) (at value : ℕ) (s : Serves d placed pins t (memory_in d placed)) (within : at / 4096 < length placed.pages)
    (stands : Hosts e placed) (memory : memory_in e placed ≡ memory_write (memory_in d placed) Eight at value) (changes : ChangesOnly (frames_part placed.guest) 1 d e) where
  left : Leaves (shadow_part placed.guest) d e
  left = leaves (apart-frames-shadow placed.guest) changes

  keeps : KeepsPages (pages_of t) d e
  keeps = record {
    label = λ k f p is. let l = s.holds.sound.local.labelled k f p is in label-same (shadow_part placed.guest) d e left.same p (shadow_label placed.guest) (own_label placed.guest) l ∙ sym l;
    words = λ k f p is. words-same (shadow_part placed.guest) d e left.same p (shadow_label placed.guest) (own_label placed.guest) (s.holds.sound.local.labelled k f p is);
  }

  pub write-serves : (m : Words) × (Serves e placed pins t m × ChangedAt m (memory_in e placed) (at / 4096) (at % 4096 / 8))
  write-serves =
      let room = s.holds.room in
      let live = changes.live in
      let long : length (memory_in d placed) ≡ length placed.pages = length-map placed.pages d.words in (
        memory_in d placed,
        (
          serving_tables_stay d e placed pins pins t (memory_in d placed) s stands keeps s.holds.pinned (subst (λ n. n + (4 * length placed.pages + 64) ≤ 131072 + count_of (length placed.pages) (pages_of t)) (sym live) room),
          subst (λ (n : Words). ChangedAt (memory_in d placed) n (at / 4096) (at % 4096 / 8)) (sym memory) (changed-at (memory_in d placed) at value (subst (λ n. at / 4096 < n) (sym long) within)),
        ),
      )

  pub write-owns : OwnsShadows d placed.guest t → OwnsShadows e placed.guest t
  write-owns own = owns-left placed.guest d e t left own

-- ---- after a call

module _ (d e : Device) (before after : Memory) (t u : Tables) (frames : after.frames ≡ before.frames) (changes : ChangesTables before.frames d e t u before.pins after.pins) (own : OwnsShadows d before.frames.guest t) where
  own_now : OwnsShadows e after.frames.guest u
  own_now = subst (λ (p : Placed). OwnsShadows e p.guest u) (sym frames) (owns-after before.frames d e t u before.pins after.pins changes own)

  pub served-after : Serves e after.frames after.pins u (memory_in e after.frames) → IsServed e after u
  served-after serves = record { serves = serves; own = own_now }

  pub held-after : Holds e after.frames u after.pins → IsHeld e after u
  held-after holds = record { holds = holds; own = own_now }

-- ---- a new guest

module _ (d e : Device) (memory : Memory) (t : Tables) (guest frames : ℕ) (empty : IsEmpty d) (few : frames ≤ 16384)
    (owner : memory.frames.guest ≡ guest) (stands : Hosts e memory.frames) (long : length memory.frames.pages ≡ frames) (none : memory.pins ≡ replicate frames 0) (live : e.live ≡ d.live + frames)
    (same : outside (frames_part guest) e ≡ outside (frames_part guest) d) where
  no_pin : (n h z : ℕ) → get_or (replicate n z) h z ≡ z
  no_pin n h z = grind (arith, common_steps)

  ready : IsReady guest frames e memory.frames memory.pins
  ready =
      let zero_pins : ℕ = 0 in
      let no_page : d.live ≡ 0 = ap (λ (x : Device). x.live) empty in
      let counted : length memory.pins ≡ frames = ap (λ (l : List ℕ). length l) none ∙ length-replicate frames zero_pins in
      record {
        stands = stands;
        owner = owner;
        long = long;
        counted = counted ∙ sym long;
        few = λ h small. let z : get_or memory.pins h 0 ≡ 0 = ap (λ (l : List ℕ). get_or l h 0) none ∙ no_pin frames h 0 in omega arith;
        room = omega arith;
      }

  hidden : (b : Bool) (l : Option Label) → cond b None l ≡ None → is_shadow_of guest l ≡ true → b ≡ true
  hidden true l e h = refl
  hidden false l e h = sym (ap (is_shadow_of guest) e) ∙ h

  blank : (b : Bool) (l : Option Label) → l ≡ None → cond b None l ≡ None
  blank true l e = refl
  blank false l e = e

  none_at : (n : ℕ) → cond (is_frame_of guest (e.label n)) None (e.label n) ≡ None
  none_at n = ap (λ (x : Device). x.label n) same ∙ blank (is_frame_of guest (d.label n)) (d.label n) (ap (λ (x : Device). x.label n) empty)

  clash : (n : ℕ) → is_shadow_of guest (e.label n) ≡ true → ⊥
  clash n h =
      let frame = hidden (is_frame_of guest (e.label n)) (e.label n) (none_at n) h in
      let no = no_shadow guest (e.label n) frame in
      cc

  pub new-served : ((d : Device) (placed : Placed) (pins : List ℕ) → IsReady guest frames d placed pins → Serves d placed pins t (memory_in d placed)) → IsServed e memory t
  new-served serves = record {
    serves = serves e memory.frames memory.pins ready;
    own = record { each = λ n h. absurd (clash n (ap (λ g. is_shadow_of g (e.label n)) (sym owner) ∙ h)) };
  }

-- ---- no nodes

module _ (d : Device) (t : Tables) (guest : ℕ) (nodes : AreNodes t.nodes) (none : AreNone (pages_of t)) (own : OwnsShadows d guest t) where
  pub no-shadows : HasNoShadows d guest
  no-shadows n = at (is_shadow_of guest (d.label n)) refl
    where
      at : (b : Bool) → is_shadow_of guest (d.label n) ≡ b → is_shadow_of guest (d.label n) ≡ false
      at false is = is
      at true is =
          let page = own-page t.nodes n nodes (own.each n is) in
          let clash : None ≡ Some n = sym (none page.0 page.1) ∙ page.2 in
          cc
