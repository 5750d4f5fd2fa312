-- A frame goes into another host page: it is kept exactly where something maps or grants it, and else no word names it.
use Rattle.std.proofs.Common.{◌≡◌, ◌≢◌, ℕ, ◌+◌, ◌*◌, ◌<◌, ◌≤◌, Bool, true, false, not, ◌&&◌, ◌||◌, cond, ltb, List, [], ◌∷◌, Option, None, Some, length, get_or, count_by, refl, sym, ap, ◌∙◌, subst, ⊎_elim, arith, Result, Ok, Err, ◌↔◌, ◌⊎◌, inl, inr}
use Rattle.std.specs.List.{list_any}
use Rattle.std.proofs.lemmas.Bool.{cases_eq, cases_lt, eq-eqb, lt-ltb}
use Rattle.std.proofs.lemmas.Bool.Decides.{nat_tests}
use Rattle.std.proofs.lemmas.List.{length-map}
use Rattle.std.proofs.lemmas.List.Sums.{sum_by-cons}
use Rattle.gv_types.specs.Memory.{Memory as Words}
use Rattle.gv_types.specs.declared.memory.OutOfMemory.{OutOfMemory}
use Rattle.gv_types.specs.declared.reply.Answer.{Answer}
use Rattle.gv_types.specs.declared.reply.Answer.TheVariants.{Kept, Moved}
use Rattle.gv_entry.specs.Entry.{global_frame}
use Rattle.gv_entry.specs.Grants.{is_mapped}
use Rattle.gv_entry.specs.declared.process.Process.{Process}
use Rattle.gv_entry.specs.declared.process.Process.TheVariants.{Absent, Table, Large, Page, Bad}
use Rattle.gv_gpu.specs.Change.{ChangesOnly}
use Rattle.gv_gpu.specs.Device.{Device}
use Rattle.gv_gpu.specs.Part.{frames_part, shadow_label}
use Rattle.gv_guest.specs.Placed.{Placed, Hosts, memory_in}
use Rattle.gv_guest.specs.Move.{MovesFrame, IfMoved, UnlessMoved}
use Rattle.gv_guest.specs.declared.memory.Memory.{Memory}
use Rattle.gv_guest.specs.declared.page_move.PageMove.{PageMove}
use Rattle.gv_guest.specs.declared.page_move.PageMove.TheVariants as page
use Rattle.gv_private.specs.Device.{PrivateDevice}
use Rattle.gv_private.specs.Grants.{names_frame, is_granted, move_answer}
use Rattle.gv_shape.specs.Counts.{total, uses, leaves, maps, one_if}
use Rattle.gv_shape.specs.Shadow.{Names, Pages, Readings, has_leaves, leaf_word}
use Rattle.gv_shape.specs.Shadows.{KeepsPages}
use Rattle.gv_shape.proofs.Totals.{total-at}
use Rattle.gv_sggtt.specs.Linked.{is_frame, names}
use Rattle.gv_sggtt.specs.Pins.{table_pins}
use Rattle.gv_sggtt.specs.Table.{guards}
use Rattle.gv_sggtt.proofs.Granted.{mirrors-moved}
use Rattle.gv_sggtt.proofs.OwnPins.{own-counted}
use Rattle.gv_sppgtt.specs.Grown.{Rests, count_of}
use Rattle.gv_sppgtt.specs.Holding.{Holds}
use Rattle.gv_sppgtt.specs.Serving.{Serves, roots_of}
use Rattle.gv_sppgtt.specs.Sound.{Boarded, Chained, Counted, Pinned, flag}
use Rattle.gv_sppgtt.specs.State.{IsSound, IsPinned, pages_of, parents_of, readings_of, sketch_of}
use Rattle.gv_sppgtt.specs.declared.tables.Tables.{Tables}
use Rattle.gv_sppgtt.proofs.AtRest.{serving_tables_pin}
use Rattle.gv_gtt.specs.Gtt.{memory_of, roots_in, nodes_in, leaves_of, over}
use Rattle.gv_gtt.specs.Standing.{Translates}
use Rattle.gv_gtt.specs.declared.gtt.Gtt.{Gtt}
use Rattle.gv_gtt.proofs.Parts.{pages-frames, entries-frames}
use Rattle.gv_gtt.proofs.Standing.{readings-kept, guards-live}
use Rattle.gv_gtt.proofs.Unguarded.{room-same}

-- ---- when it is kept

any-counted : (test : ℕ → Bool) (xs : List ℕ) → ltb 0 (count_by test xs) ≡ list_any test xs
any-counted test [] = refl
any-counted test (x ∷ xs) = ap (ltb 0) (sum_by-cons (λ y. cond (test y) 1 0) x xs) ∙ by (test x) (count_by test xs) (list_any test xs) (any-counted test xs)
  where
    by : (b : Bool) (n : ℕ) (rest : Bool) → ltb 0 n ≡ rest → ltb 0 (cond b 1 0 + n) ≡ (b || rest)
    by true n rest is = lt-ltb 0 (1 + n) (omega arith)
    by false n rest is = (let none : 0 + n ≡ n = omega arith in ap (ltb 0) none) ∙ is

never-any : (xs : List ℕ) → list_any (λ (_ : ℕ). false) xs ≡ false
never-any [] = refl
never-any (x ∷ xs) = never-any xs

same-name : (frame : ℕ) (o : Option ℕ) → is_frame frame o ≡ names_frame frame o
same-name frame None = refl
same-name frame (Some k) = refl

module _ (d : Device) (g : Gtt) (s : Translates d g) (p : PrivateDevice) (frame : ℕ) (low : frame < length g.memory.frames.pages) where
  frames-same : g.table.frames ≡ length (memory_of d g)
  frames-same = sym s.serving.stands.frames ∙ sym (length-map g.memory.frames.pages d.words)

  named : Bool
  named = list_any (names g.table.frames frame) g.table.entries

  granted-by : (b : Bool) → guards g.table.guarded frame ≡ b → ltb 0 (table_pins g.table frame) ≡ (not b && named)
  unfolding named
  granted-by true is = ap (ltb 0) (own-counted g.table frame true is) ∙ any-counted (λ _. false) g.table.entries ∙ never-any g.table.entries
  granted-by false is = ap (ltb 0) (own-counted g.table frame false is) ∙ any-counted (names g.table.frames frame) g.table.entries

  granted-pins : ltb 0 (table_pins g.table frame) ≡ is_granted (over p d g) frame
  unfolding named
  granted-pins =
      granted-by (guards g.table.guarded frame) refl
      ∙ (λ i. not (guards-live d g s frame i) && list_any (λ entry. same-name frame (global_frame entry (frames-same i)) i) g.table.entries)

  pin-is : get_or g.memory.pins frame 0 ≡ table_pins g.table frame + leaves_of d g frame
  pin-is = s.serving.stands.pins frame (subst (λ n. frame < n) s.serving.stands.frames low)

  mapped-pins : ltb 0 (leaves_of d g frame) ≡ is_mapped (memory_of d g) (roots_in g) frame
  mapped-pins = (serving_tables_pin d g.memory.frames g.memory.pins g.tables s.serving.serves frame).0

  answer-by : (a b : Bool) (n x l : ℕ) → n ≡ x + l → ltb 0 x ≡ a → ltb 0 l ≡ b → (1 ≤ n) ↔ (◌≡◌ {A = Answer} (cond (b || a) Kept Moved) Kept)
  answer-by true true n x l is at bt = (λ _. refl, λ _. grind (arith, nat_tests))
  answer-by true false n x l is at bt = (λ _. refl, λ _. grind (arith, nat_tests))
  answer-by false true n x l is at bt = (λ _. refl, λ _. grind (arith, nat_tests))
  answer-by false false n x l is at bt = (λ some. absurd (grind (arith, nat_tests)), λ e. cc)

  pub pinned-kept : (1 ≤ get_or g.memory.pins frame 0) ↔ (move_answer (over p d g) frame ≡ Kept)
  pinned-kept = answer-by (is_granted (over p d g) frame) (is_mapped (memory_of d g) (roots_in g) frame) (get_or g.memory.pins frame 0) (table_pins g.table frame) (leaves_of d g frame) pin-is granted-pins mapped-pins

-- ---- a frame that no word names goes elsewhere

no-level : (level : ℕ) → has_leaves level ≡ true → level ≤ 6 → level ≢ 1 → level ≢ 5 → level ≢ 6 → ⊥
no-level level leafy six a b c = grind (arith, nat_tests)

module _ (frames : ℕ) (r : Readings) (frame : ℕ) (none : leaves frames r frame ≡ 0) where
  unused : (level : ℕ) → has_leaves level ≡ true → level ≤ 6 → 1 ≤ uses frames r level (maps frame) → ⊥
  unused level leafy six some = ⊎_elim
      (λ first. let here : 1 ≤ uses frames r 1 (maps frame) = subst (λ k. 1 ≤ uses frames r k (maps frame)) first some in less (uses frames r 1 (maps frame)) (uses frames r 5 (maps frame)) (uses frames r 6 (maps frame)) none (λ a b c. omega arith))
      (λ not_first. ⊎_elim
      (λ fifth. let here : 1 ≤ uses frames r 5 (maps frame) = subst (λ k. 1 ≤ uses frames r k (maps frame)) fifth some in less (uses frames r 1 (maps frame)) (uses frames r 5 (maps frame)) (uses frames r 6 (maps frame)) none (λ a b c. omega arith))
      (λ not_fifth. ⊎_elim
      (λ sixth. let here : 1 ≤ uses frames r 6 (maps frame) = subst (λ k. 1 ≤ uses frames r k (maps frame)) sixth some in less (uses frames r 1 (maps frame)) (uses frames r 5 (maps frame)) (uses frames r 6 (maps frame)) none (λ a b c. omega arith))
      (λ not_sixth. no-level level leafy six not_first not_fifth not_sixth)
      (cases_eq level 6))
      (cases_eq level 5))
      (cases_eq level 1)
    where
      less : (a b c : ℕ) → a + b + c ≡ 0 → (a ≡ 0 → b ≡ 0 → c ≡ 0 → ⊥) → ⊥
      less a b c is f = f (omega arith) (omega arith) (omega arith)

  -- no word of a node maps the frame
  unmapped : (level table i : ℕ) (w : Bool) → table < frames → i < 512 → has_leaves level ≡ true → level ≤ 6 → r level table i ≡ Page frame w → ⊥
  unmapped level table i w inside small leafy six is =
      let one : one_if (maps frame (r level table i)) ≡ 1 = ap (λ (x : Process). one_if (maps frame x)) is ∙ ap one_if (eq-eqb frame frame refl) in
      let words : one_if (maps frame (r level table i)) ≤ total 512 (λ j. one_if (maps frame (r level table j))) = total-at 512 i (λ j. one_if (maps frame (r level table j))) small in
      let tables : total 512 (λ j. one_if (maps frame (r level table j))) ≤ uses frames r level (maps frame) = total-at frames table (λ k. total 512 (λ j. one_if (maps frame (r level k j)))) inside in
      unused level leafy six (chain (one_if (maps frame (r level table i))) (total 512 (λ j. one_if (maps frame (r level table j)))) (uses frames r level (maps frame)) one words tables)
    where
      chain : (a b c : ℕ) → a ≡ 1 → a ≤ b → b ≤ c → 1 ≤ c
      chain a b c x y z = omega arith

-- the local form of a word that doesn't name the frame
names-moved : (old new : Placed) (pages : Pages) (guarded : ℕ → Bool) (level frame : ℕ) (x : Process) (word : ℕ) → length new.pages ≡ length old.pages → ((k : ℕ) → k ≢ frame → get_or new.pages k 0 ≡ get_or old.pages k 0)
    → ((w : Bool) → has_leaves level ≡ true → x ≡ Page frame w → ⊥) → Names old pages guarded level x word → Names new pages guarded level x word
names-moved old new pages guarded level frame Absent word count others free names = names
names-moved old new pages guarded level frame (Table h) word count others free names = names
names-moved old new pages guarded level frame (Large b w) word count others free names = names
names-moved old new pages guarded level frame Bad word count others free names = names
names-moved old new pages guarded level frame (Page h w) word count others free names =
    (names.0, subst (λ n. h < n) (sym count) names.1, names.2 ∙ ap (λ page. leaf_word page w (guarded h)) (sym (others h (λ same. free w names.0 (ap (λ k. Page k w) same)))))

module _ (d e : Device) (g : Gtt) (new : Placed) (frame n : ℕ) (s : Translates d g) (free : get_or g.memory.pins frame 0 ≡ 0) (low : frame < length g.memory.frames.pages)
    (moves : MovesFrame g.memory.frames new frame e) (memory : memory_in e new ≡ memory_in d g.memory.frames) (hosts : Hosts e new) (changes : ChangesOnly (frames_part g.memory.frames.guest) n d e) where
  abbrev t : Tables
  t = g.tables

  abbrev frames : ℕ
  frames = length g.memory.frames.pages

  keeps : KeepsPages (nodes_in g) d e
  keeps = pages-frames (nodes_in g) g.memory.frames.guest d e s.serving.stands.holds.sound.local.labelled n changes

  same : readings_of e t ≡ readings_of d t
  same = readings-kept d e t keeps

  pin_is : get_or g.memory.pins frame 0 ≡ table_pins g.table frame + leaves_of d g frame
  pin_is = s.serving.stands.pins frame (subst (λ n. frame < n) s.serving.stands.frames low)

  none_both : (p x l : ℕ) → p ≡ x + l → p ≡ 0 → (x ≡ 0) × (l ≡ 0)
  none_both p x l is zero_pins = (omega arith, omega arith)

  none_table : table_pins g.table frame ≡ 0
  none_table = (none_both (get_or g.memory.pins frame 0) (table_pins g.table frame) (leaves_of d g frame) pin_is free).0

  none_leaf : leaves_of d g frame ≡ 0
  none_leaf = (none_both (get_or g.memory.pins frame 0) (table_pins g.table frame) (leaves_of d g frame) pin_is free).1

  sound : IsSound e new t
  sound =
      let was = s.serving.stands.holds.sound in
      record {
        frames = was.frames ∙ sym moves.frames;
        chains_long = was.chains_long ∙ sym moves.frames;
        told_long = was.told_long ∙ sym moves.frames;
        owners_long = was.owners_long;
        boarded = subst (λ n. Boarded e n (pages_of t) t.owners.items) (sym moves.frames) (record {
          low = was.boarded.low;
          whole = was.boarded.whole;
          long = λ k f p is. ap length (keeps.words k f p is) ∙ was.boarded.long k f p is;
          below = was.boarded.below;
          apart = was.boarded.apart;
          owner = was.boarded.owner;
        });
        local = record {
          labelled = λ k f p is. keeps.label k f p is ∙ was.local.labelled k f p is ∙ ap (λ k. Some (shadow_label k)) (sym moves.guest);
          names = λ k f p i is small.
              subst (λ (r : Readings). Names new (pages_of t) (flag t.told.items) k (r k f i) (get_or (e.words p) i 0)) (sym same)
              (subst (λ (ws : List ℕ). Names new (pages_of t) (flag t.told.items) k (readings_of d t k f i) (get_or ws i 0)) (sym (keeps.words k f p is))
              (names-moved g.memory.frames new (pages_of t) (flag t.told.items) k frame (readings_of d t k f i) (get_or (d.words p) i 0) moves.frames moves.others
              (λ w leafy maps_it. unmapped frames (readings_of d t) frame none_leaf k f i w (was.boarded.low k f p is).0 small leafy (was.boarded.low k f p is).1.1 maps_it)
              (was.local.names k f p i is small)));
        };
        chained = subst (λ (r : Readings). Chained (pages_of t) r t.chains) (sym same) was.chained;
        counted = subst (λ n. Counted n (parents_of t) (readings_of e t)) (sym moves.frames) (subst (λ (r : Readings). Counted frames (parents_of t) r) (sym same) was.counted);
      }

  pinned : IsPinned e new t g.memory.pins
  pinned =
      let was = s.serving.stands.holds.pinned in
      (was.0 ∙ sym moves.frames, subst (λ n. Pinned n g.memory.pins (readings_of e t)) (sym moves.frames) (subst (λ (r : Readings). Pinned frames g.memory.pins r) (sym same) was.1))

  holds : Holds e new t g.memory.pins
  holds =
      let was = s.serving.stands.holds in
      record {
        stands = hosts;
        sound = sound;
        pinned = pinned;
        guest = was.guest ∙ sym moves.guest;
        few = subst (λ n. n ≤ 16384) (sym moves.frames) was.few;
        nodes = was.nodes;
        room = subst (λ n. e.live + (4 * n + 64) ≤ 131072 + count_of n (pages_of t)) (sym moves.frames) (room-same d e g changes.live was.room);
      }

  rests : Rests (length new.pages) (memory_in e new) (roots_of t) 0 0 0 (sketch_of e t)
  rests =
      subst (λ n. Rests n (memory_in e new) (roots_of t) 0 0 0 (sketch_of e t)) (sym moves.frames)
      (subst (λ (m : Words). Rests frames m (roots_of t) 0 0 0 (sketch_of e t)) (sym memory)
      (subst (λ (r : Readings). Rests frames (memory_of d g) (roots_of t) 0 0 0 (record { pages = pages_of t; parents = parents_of t; readings = r })) (sym same) s.serving.serves.rests))

  serves : Serves e new g.memory.pins t (memory_in e new)
  serves = record { holds = holds; rests = rests; told = s.serving.serves.told; untouched = s.serving.serves.untouched }

  pins_are : (k : ℕ) → k < g.table.frames → get_or g.memory.pins k 0 ≡ table_pins g.table k + leaves (length new.pages) (readings_of e t) k
  pins_are k inside = s.serving.stands.pins k inside ∙ (λ i. table_pins g.table k + leaves (sym moves.frames i) (sym same i) k)

  pub moved-translates : Translates e (record g { memory = record { frames = new; pins = g.memory.pins } })
  moved-translates = record {
    serving = record {
      stands = record {
        table = s.serving.stands.table;
        ranges = s.serving.stands.ranges;
        frames = moves.frames ∙ s.serving.stands.frames;
        mirrors = mirrors-moved g.table s.serving.stands.table d e g.memory.frames new frame none_table moves.others (λ page own. entries-frames g.memory.frames.guest n d e changes page) s.serving.stands.mirrors;
        pins = pins_are;
        holds = holds;
      };
      serves = serves;
    };
    guarded = s.guarded;
  }

-- ---- what the call leaves

module _ (d e : Device) (g : Gtt) (memory : Memory) (frame : ℕ) (s : Translates d g) (low : frame < length g.memory.frames.pages) (pins : memory.pins ≡ g.memory.pins) (same : memory_in e memory.frames ≡ memory_of d g)
    (hosts : Hosts e memory.frames) (changes : ChangesOnly (frames_part g.memory.frames.guest) 512 d e) where
  abbrev after : Gtt
  after = record g { memory = memory }

  went : (free : get_or g.memory.pins frame 0 ≡ 0) → MovesFrame g.memory.frames memory.frames frame e → Translates e after
  went free moves = subst (λ (ps : List ℕ). Translates e (record g { memory = record { frames = memory.frames; pins = ps } })) (sym pins) (moved-translates d e g memory.frames frame 512 s free low moves same hosts changes)

  stayed : memory.frames ≡ g.memory.frames → e ≡ d → Translates e after
  stayed frames device = subst (λ (x : Device). Translates x after) (sym device) (both (sym frames) (sym pins))
    where
      both : g.memory.frames ≡ memory.frames → g.memory.pins ≡ memory.pins → Translates d after
      both f ps = subst (λ (m : Memory). Translates d (record g { memory = m })) (λ i. record { frames = f i; pins = ps i }) s

  -- whatever it answers
  pub move-translates : (r : Result PageMove OutOfMemory) → ((r ≡ Ok page.Kept) ↔ (1 ≤ get_or g.memory.pins frame 0)) → IfMoved r (MovesFrame g.memory.frames memory.frames frame e) → UnlessMoved r (memory.frames ≡ g.memory.frames) → UnlessMoved r (e ≡ d)
      → Translates e after
  move-translates (Ok page.Moved) kept moved unmoved device = went (⊎_elim (λ none. none) (λ some. absurd (not_kept (kept.1 some))) (zero_or (get_or g.memory.pins frame 0))) moved
    where
      not_kept : ◌≡◌ {A = Result PageMove OutOfMemory} (Ok page.Moved) (Ok page.Kept) → ⊥
      not_kept e = cc

      zero_or : (n : ℕ) → (n ≡ 0) ⊎ (1 ≤ n)
      zero_or n = ⊎_elim (λ small. inl (omega arith)) (λ large. inr large) (cases_lt n 1)
  move-translates (Ok page.Kept) kept moved unmoved device = stayed unmoved device
  move-translates (Err err) kept moved unmoved device = stayed unmoved device

-- the guest is the same
pub move-number : (old new : Placed) (frame : ℕ) (e : Device) (r : Result PageMove OutOfMemory) → IfMoved r (MovesFrame old new frame e) → UnlessMoved r (new ≡ old) → new.guest ≡ old.guest
move-number old new frame e (Ok page.Moved) moved unmoved = moved.guest
move-number old new frame e (Ok page.Kept) moved unmoved = ap (λ (p : Placed). p.guest) unmoved
move-number old new frame e (Err err) moved unmoved = ap (λ (p : Placed). p.guest) unmoved
