-- Calls that make, take away or clear roots, seen by memory and tables together.
use Rattle.std.proofs.Common.{◌≡◌, ℕ, ◌+◌, ◌*◌, ◌%◌, ◌<◌, ◌≤◌, Bool, true, false, ◌||◌, ◌&&◌, cond, eqb, List, [], Option, None, Some, is_some, length, get_or, replicate, refl, sym, ap, ◌∙◌, subst, arith, Ok, Err}
use Rattle.std.specs.List.{range_with_len}
use Rattle.std.proofs.lemmas.Bool.{false≢true, eq-eqb}
use Rattle.std.proofs.lemmas.Grind.{common_steps}
use Rattle.std.proofs.lemmas.List.{length-map, length-replicate}
use Rattle.gv_types.specs.Memory.{Memory as Words, zero_memory}
use Rattle.gv_types.specs.declared.ids.Label.{Label}
use Rattle.gv_types.specs.declared.ranges.Ranges.{Ranges}
use Rattle.gv_types.specs.declared.reply.Reason.TheVariants.{Entry}
use Rattle.gv_entry.specs.Global.{zero_entries, pages_of as entries_in}
use Rattle.gv_entry.specs.Ranges.{InParts}
use Rattle.gv_gpu.specs.Change.{ChangesOnly}
use Rattle.gv_gpu.specs.Device.{Device}
use Rattle.gv_gpu.specs.Part.{outside, frames_part, entries_part, is_shadow_of, shadow_label}
use Rattle.gv_guest.specs.Placed.{Placed, Hosts, KeepsMemory, memory_in, frame_label}
use Rattle.gv_guest.specs.declared.memory.Memory.{Memory}
use Rattle.gv_private.specs.Device.{PrivateDevice}
use Rattle.gv_private.specs.Roots.{announced, with_root}
use Rattle.gv_sggtt.specs.Mirror.{AreAbsent, Mirrors}
use Rattle.gv_sggtt.specs.Pins.{table_pins, ChangesOwnPins}
use Rattle.gv_sggtt.specs.Table.{Table, IsTable, guards, zero_table}
use Rattle.gv_sggtt.proofs.Kept.{mirrors-zero}
use Rattle.gv_sggtt.proofs.OwnPins.{zero-pins}
use Rattle.gv_sppgtt.specs.Clearing.{AreNone}
use Rattle.gv_sppgtt.specs.Serving.{Serves, ChangesTables, IsReady, roots_of, guarded_of, is_refused, with_root as with_root_in}
use Rattle.gv_sppgtt.specs.State.{pages_of}
use Rattle.gv_sppgtt.specs.declared.tables.Tables.{Tables}
use Rattle.gv_sppgtt.proofs.Serving.{filter-same, filter-none}
use Rattle.gv_gtt.specs.Changes.{Changes}
use Rattle.gv_gtt.specs.Gtt.{memory_of, roots_in, over}
use Rattle.gv_gtt.specs.Standing.{Stands, Serving, Translates}
use Rattle.gv_gtt.specs.declared.gtt.Gtt.{Gtt}
use Rattle.gv_gtt.proofs.Announced.{with-same, announced-ok, announced-err, roots-are}
use Rattle.gv_gtt.proofs.Following.{over-path, tables-memory}
use Rattle.gv_gtt.proofs.Steps.{serving-tables, serving-table}

-- Where only roots changed, the private device has other roots.
pub over-changed : (p : PrivateDevice) (d f : Device) (g new : Gtt) (roots : List ℕ) → Changes d f g new → memory_of f new ≡ memory_of d g → new.table.entries ≡ g.table.entries → roots_in new ≡ roots → over p f new ≡ record (over p d g) { roots = roots }
over-changed p d f g new roots changes memory entries is =
    over-path p f new g.memory.frames.guest g.table.ranges (memory_of d g) g.table.entries roots (ap (λ (placed : Placed). placed.guest) changes.frames) changes.ranges memory entries is

-- ---- a root more

module _ (d : Device) (g : Gtt) (s : Translates d g) (root : ℕ) (p : PrivateDevice) where
  long : length (memory_of d g) ≡ length g.memory.frames.pages
  long = length-map g.memory.frames.pages d.words

  same : root < length (memory_of d g) → with_root (roots_in g) root ≡ with_root_in (length (memory_of d g)) (roots_in g) root
  same low = with-same d g.memory.frames g.tables g.memory.pins s.serving.stands.holds root (subst (λ n. root < n) long low) ∙ ap (λ n. with_root_in n (roots_in g) root) (sym long)

  pub created-err : is_refused (memory_of d g) (roots_in g) root ≡ true → announced (over p d g) root ≡ Err Entry
  created-err bad = announced-err (over p d g) root same bad

  pub created-ok : (f : Device) (new : Gtt) → is_refused (memory_of d g) (roots_in g) root ≡ false → roots_in new ≡ with_root_in (length g.memory.frames.pages) (roots_in g) root
      → memory_of f new ≡ memory_of d g → new.table.entries ≡ g.table.entries → Changes d f g new → announced (over p d g) root ≡ Ok (over p f new)
  created-ok f new good roots memory entries changes =
      announced-ok (over p d g) root same good
      ∙ ap (λ (q : PrivateDevice). Ok q) (sym (over-changed p d f g new (with_root_in (length (memory_of d g)) (roots_in g) root) changes memory entries
      (roots ∙ ap (λ n. with_root_in n (roots_in g) root) (sym long))))

-- ---- a table whose entries are 0

none-guarded : (n frame : ℕ) → guards (replicate n false) frame ≡ false
none-guarded n frame = grind (arith, common_steps)

pub table-zero : (ranges : Ranges) (frames : ℕ) → InParts ranges → 1 ≤ frames → frames ≤ 16384 → IsTable (zero_table ranges frames)
table-zero ranges frames parts some few = record { parts = parts; some = some; few = few; whole = length-replicate (entries_in ranges) 0; flags = length-replicate frames false }

-- ---- cleared

module _ (d e f : Device) (g : Gtt) (memory : Memory) (tables : Tables) (after : Memory) (table : Table) (s : Stands d g) (frames : memory.frames ≡ g.memory.frames) (c : ChangesTables g.memory.frames d e g.tables tables g.memory.pins memory.pins)
    (serves : (m : Words) → Serves e memory.frames memory.pins tables m) (unguarded : (frame : ℕ) → guarded_of tables frame ≡ false) where
  abbrev mid : Gtt
  mid = record g { memory = memory; tables = tables }

  pub mid-serving : Serving e mid
  mid-serving = serving-tables d e g memory tables s frames (serves (memory_in e memory.frames)) c

  module _ (same : after.frames ≡ memory.frames) (is : table ≡ zero_table g.table.ranges g.table.frames) (mirrors : Mirrors f table memory.frames) (pins : ChangesOwnPins g.table table memory.pins after.pins)
      (changes : ChangesOnly (entries_part g.table.ranges) 0 e f) where
    pub cleared-translates : Translates f (record mid { memory = after; table = table })
    cleared-translates = record {
      serving = serving-table e f mid after table mid-serving same
          (subst IsTable (sym is) (table-zero g.table.ranges g.table.frames s.table.parts s.table.some s.table.few))
          (ap (λ (t : Table). t.ranges) is) (ap (λ (t : Table). t.frames) is) mirrors pins changes;
      guarded = λ frame. ap (λ (t : Table). guards t.guarded frame) is ∙ none-guarded g.table.frames frame ∙ sym (unguarded frame);
    }

    pub cleared-device : (p : PrivateDevice) → roots_of tables ≡ [] → KeepsMemory memory.frames e f → over p f (record mid { memory = after; table = table }) ≡ record (over p d g) { entries = zero_entries g.table.ranges; roots = [] }
    cleared-device p none kept =
        over-path p f (record mid { memory = after; table = table }) g.memory.frames.guest g.table.ranges (memory_of d g) (zero_entries g.table.ranges) []
        (ap (λ (placed : Placed). placed.guest) (same ∙ frames)) (ap (λ (t : Table). t.ranges) is)
        (ap (memory_in f) same ∙ kept.memory ∙ tables-memory d e g memory tables frames c)
        (ap (λ (t : Table). t.entries) is) none

-- ---- new

-- Tables that serve every memory that is ready have no nodes: those would serve a device without shadow pages.
module _ (guest frames : ℕ) (t : Tables) (all : (d : Device) (placed : Placed) (pins : List ℕ) → IsReady guest frames d placed pins → Serves d placed pins t (memory_in d placed))
    (e : Device) (placed : Placed) (pins : List ℕ) (ready : IsReady guest frames e placed pins) where
  abbrev hidden : Device
  hidden = record e { label = λ n. cond (is_shadow_of guest (e.label n)) None (e.label n) }

  frame-shown : (k n : ℕ) → e.label n ≡ Some (frame_label k) → cond (is_shadow_of guest (e.label n)) None (e.label n) ≡ Some (frame_label k)
  frame-shown k n is = ap (λ l. cond (is_shadow_of guest l) None l) is ∙ ap (λ b. cond b None (Some (frame_label k))) (and-false (eqb k guest))
    where
      and-false : (b : Bool) → (b && false) ≡ false
      and-false true = refl
      and-false false = refl

  shown-frame : (b : Bool) (o : Option Label) (l : Label) → cond b None o ≡ Some l → o ≡ Some l
  shown-frame true o l is = cc
  shown-frame false o l is = is

  ready-hidden : IsReady guest frames hidden placed pins
  ready-hidden = record {
    stands = record {
      labelled = λ k low. frame-shown placed.guest (get_or placed.pages k 0) (ready.stands.labelled k low);
      long = ready.stands.long;
      below = ready.stands.below;
      apart = ready.stands.apart;
      all = λ n is. ready.stands.all n (shown-frame (is_shadow_of guest (e.label n)) (e.label n) (frame_label placed.guest) is);
    };
    owner = ready.owner;
    long = ready.long;
    counted = ready.counted;
    few = ready.few;
    room = ready.room;
  }

  no-shadow : (b : Bool) (o : Option Label) → is_shadow_of guest o ≡ b → cond b None o ≡ Some (shadow_label placed.guest) → ⊥
  no-shadow true o is shown = cc
  no-shadow false o is shown = false≢true (sym is ∙ ap (is_shadow_of guest) shown ∙ ap (λ b. b && true) (eq-eqb placed.guest guest ready.owner))

  pub none-at-first : AreNone (pages_of t)
  none-at-first level frame = by (pages_of t level frame) refl
    where
      by : (o : Option ℕ) → pages_of t level frame ≡ o → pages_of t level frame ≡ None
      by None is = is
      by (Some p) is = absurd (no-shadow (is_shadow_of guest (e.label p)) (e.label p) refl ((all hidden placed pins ready-hidden).holds.sound.local.labelled level frame p is))

  pub no-roots : roots_of t ≡ []
  no-roots = roots-are t ∙ filter-same (λ f. is_some (pages_of t 4 f)) (λ _. false) (range_with_len 0 t.nodes.frames) (λ f. ap is_some (none-at-first 4 f)) ∙ filter-none (range_with_len 0 t.nodes.frames)

  pub none-told : (frame : ℕ) → guarded_of t frame ≡ false
  none-told frame = (all e placed pins ready).told frame
      ∙ (λ i. is_some (none-at-first 4 frame i) || (is_some (none-at-first 3 frame i) || (is_some (none-at-first 2 frame i) || is_some (none-at-first 1 frame i))))

module _ (d e : Device) (guest frames : ℕ) (ranges : Ranges) (memory : Memory) (table : Table) (t : Tables) (parts : InParts ranges) (some : 1 ≤ frames) (few : frames ≤ 16384) (room : d.live + (5 * frames + 64) ≤ 131072)
    (absent : AreAbsent d ranges) (same : outside (frames_part guest) e ≡ outside (frames_part guest) d) (live : e.live ≡ d.live + frames)
    (is : table ≡ zero_table ranges frames) (all : (d : Device) (placed : Placed) (pins : List ℕ) → IsReady guest frames d placed pins → Serves d placed pins t (memory_in d placed))
    (owner : memory.frames.guest ≡ guest) (stands : Hosts e memory.frames) (count : length memory.frames.pages ≡ frames) (pins : memory.pins ≡ replicate frames 0) where
  zero_pin : (k : ℕ) → ◌≡◌ {A = ℕ} (get_or memory.pins k 0) 0
  zero_pin k = ap (λ (xs : List ℕ). get_or xs k 0) pins ∙ zero k
    where
      zero : (k : ℕ) → ◌≡◌ {A = ℕ} (get_or (replicate frames 0) k 0) 0
      zero k = grind (arith, common_steps)

  ready : IsReady guest frames e memory.frames memory.pins
  ready = record {
    stands = stands;
    owner = owner;
    long = count;
    counted = ap length pins ∙ length-replicate frames 0 ∙ sym count;
    few = λ h low. let z = zero_pin h in omega arith;
    room = omega arith;
  }

  abbrev made : Gtt
  made = record { memory = memory; ranges = ranges; table = table; tables = t }

  serves : Serves e memory.frames memory.pins t (memory_in e memory.frames)
  serves = all e memory.frames memory.pins ready

  absent_after : AreAbsent e ranges
  absent_after = record { each = λ page own. subst (λ n. n % 2 ≡ 0) (sym (ap (λ (x : Device). x.global page) same)) (absent.each page own) }

  pub new-none : AreNone (pages_of t)
  new-none = none-at-first guest frames t all e memory.frames memory.pins ready

  pub new-translates : Translates e made
  new-translates = record {
    serving = record {
      stands = record {
        table = subst IsTable (sym is) (table-zero ranges frames parts some few);
        ranges = sym (ap (λ (t : Table). t.ranges) is);
        frames = count ∙ sym (ap (λ (t : Table). t.frames) is);
        mirrors = subst (λ (t : Table). Mirrors e t memory.frames) (sym is) (mirrors-zero e ranges frames memory.frames absent_after);
        pins = λ frame low.
            let z = zero_pin frame in
            let none : table_pins table frame ≡ 0 = zero-pins table (entries_in ranges) (ap (λ (t : Table). t.entries) is) frame in
            let most = (serves.holds.pinned.1 frame (let c = ap (λ (t : Table). t.frames) is in omega arith)).0 in
            omega arith;
        holds = serves.holds;
      };
      serves = serves;
    };
    guarded = λ frame. ap (λ (t : Table). guards t.guarded frame) is ∙ none-guarded frames frame ∙ sym (none-told guest frames t all e memory.frames memory.pins ready frame);
  }

  pub new-device : (p : PrivateDevice) → memory_in e memory.frames ≡ zero_memory frames → over p e made ≡ record p { number = guest; ranges = ranges; memory = zero_memory frames; entries = zero_entries ranges; roots = [] }
  new-device p zero =
      over-path p e made guest ranges (zero_memory frames) (zero_entries ranges) [] owner (ap (λ (t : Table). t.ranges) is) zero (ap (λ (t : Table). t.entries) is)
      (no-roots guest frames t all e memory.frames memory.pins ready)
