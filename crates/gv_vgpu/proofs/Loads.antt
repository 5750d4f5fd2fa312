-- An element that comes to work on an engine, beside the guest's memory, tables and other elements.
use Rattle.std.proofs.Common.{◌≡◌, ◌≢◌, ℕ, zero, suc, ◌+◌, ◌%◌, ◌<◌, ◌≤◌, ◌==◌, ◌&&◌, ◌||◌, not, Bool, true, false, Option, None, Some, Result, Ok, List, [], length, slice_index_or, if◌then◌else◌, refl, sym, ◌∙◌, subst, arith}
use Rattle.std.proofs.lemmas.Bool.{false≢true}
use Rattle.std.proofs.lemmas.Bool.Decides.{nat_tests}
use Rattle.std.proofs.lemmas.Option.{none-some}
use Rattle.gv_types.specs.declared.ids.Label.{Label}
use Rattle.gv_types.specs.declared.reply.Reason.{Reason}
use Rattle.gv_types.specs.declared.reply.Stop.{Stop}
use Rattle.gv_types.specs.declared.reply.Stop.TheVariants.{DeviceFault, OutOfMemory}
use Rattle.gv_types.specs.declared.ranges.Ranges.{Ranges}
use Rattle.gv_ctx.specs.Image.{IsImage}
use Rattle.gv_ctx.specs.declared.image.Image.{Image}
use Rattle.gv_element.specs.Works.{AreApart, Begins, HasNoPage, Held, IsWindow, WorksBeside, WorksWith, element_part, left_of}
use Rattle.gv_element.proofs.Beside.{load-beside, load-keeps, load-new}
use Rattle.gv_element.proofs.Guests.{load-within}
use Rattle.gv_element.proofs.Scans.{scanned-loads}
use Rattle.gv_entry.specs.Ranges.{InParts}
use Rattle.gv_entry.specs.SameTables.{has}
use Rattle.gv_fetch.specs.Fetch.{fetched, then as after}
use Rattle.gv_fetch.specs.Items.{Items}
use Rattle.gv_fetch.specs.Left.{begun}
use Rattle.gv_gpu.specs.Change.{Leaves}
use Rattle.gv_gpu.specs.Device.{Device, counted, with_faults}
use Rattle.gv_gpu.specs.Part.{Apart, Part, Within, access_part, first_of_window, guest_part, is_frame_of, is_in_window, is_named, is_shadow_of, outside, shadow_label}
use Rattle.gv_gpu.proofs.Parts.{inside-kept, outside-widen}
use Rattle.gv_gpu.proofs.Seen.{global-same}
use Rattle.gv_gtt.specs.Gtt.{HasRoomFor, frames_of, gtt_part, memory_of, nodes_in, number_of, ranges_of, roots_in}
use Rattle.gv_gtt.specs.Standing.{Stands, Translates}
use Rattle.gv_gtt.proofs.Standing.{translation_keeps}
use Rattle.gv_guest.proofs.Kept.{memory-kept, stands-kept}
use Rattle.gv_guest.proofs.Written.{own_frame}
use Rattle.gv_mmio.specs.Mmio.{ports_at}
use Rattle.gv_private.specs.Device.{PrivateDevice, with_element}
use Rattle.gv_private.specs.Load.{fetched_into, global_space, work_of}
use Rattle.gv_scan.specs.Scan.{Scanned}
use Rattle.gv_sppgtt.specs.State.{own_in}
use Rattle.gv_sppgtt.proofs.OwnPages.{own-page}
use Rattle.gv_sring.specs.Window.{Shows, page_at}
use Rattle.gv_sring.proofs.Named.{named-at}
use Rattle.gv_sring.proofs.Slots.{in-window}
use Rattle.gv_turn.specs.Owned.{OwnsLeft}
use Rattle.gv_turn.proofs.Owned.{begins_owned}
use Rattle.gv_vgpu.specs.Changes.{LiveMoves, MayLoad, Stops, held_on, own_live, window_pages}
use Rattle.gv_vgpu.specs.Vgpu.{element_in, engine_at, general_in, no_engine, private_of}
use Rattle.gv_vgpu.specs.Standing.{AreBeside, HasRoomToLoad, Holds, IsAway, StandsAtWork, StandsIdle, StandsOn}
use Rattle.gv_vgpu.specs.declared.engine.Engine.{Engine}
use Rattle.gv_vgpu.specs.declared.vgpu.Vgpu.{Vgpu}
use Rattle.gv_vgpu.specs.Copies.{CopiesStay, KeepsCopies}
use Rattle.gv_vgpu.proofs.Copies.{copies-kept}
use Rattle.gv_vgpu.proofs.Engines.{each-engine}
use Rattle.gv_vgpu.proofs.General.{not-equal, other-number, put-by, same-number}
use Rattle.gv_vgpu.proofs.Kept.{past-ranges}

-- ---- what a load left

-- The element begins its items in its window, over the shadow table of its root. Nothing else changed, but for live
-- pages.
pub record Loads (guest engine shadow_root : ℕ) (image : Image) (ring batches : List ℕ) (d e : Device) (x : Held) : Type 0 where
  pub begins : Begins e guest engine shadow_root ring batches x
  pub root : x.root ≡ image.root
  pub tail : x.tail ≡ image.tail
  pub few : length x.window.pages ≤ 274
  pub live : e.live ≡ d.live + length x.window.pages
  pub outside : outside (element_part guest engine x.window.pages) e ≡ outside (element_part guest engine []) d
  pub general : e.general ≡ d.general

-- ---- parts

-- all that a load can change
abbrev loading_part : ℕ → ℕ → Part
loading_part guest engine = record { page = λ _ l. is_shadow_of guest l; entry = λ i. is_in_window guest engine i; engine = λ e. e == engine; spare = true }

both-right : (a b : Bool) → (a && b) ≡ true → b ≡ true
both-right true b is = is
both-right false b is = cc

within-loading : (guest engine : ℕ) (own : List ℕ) → Within (element_part guest engine own) (loading_part guest engine)
within-loading guest engine own = record {
  page = λ n l is. both-right (is_named own n) (is_shadow_of guest l) is;
  entry = λ i is. is;
  engine = λ e is. is;
  spare = λ is. is;
}

-- a shadow page is no frame
no-frame : (guest : ℕ) (l : Option Label) → is_shadow_of guest l ≡ true → is_frame_of guest l ≡ false
no-frame guest None is = refl
no-frame guest (Some l) is = (λ i. (l.guest.0 == guest) && not (both-right (l.guest.0 == guest) l.shadow is i)) ∙ and-none (l.guest.0 == guest)
  where
    and-none : (b : Bool) → (b && false) ≡ false
    and-none true = refl
    and-none false = refl

-- it has no frame, and no entry of the guest's ranges
beside-access : (guest engine : ℕ) (ranges : Ranges) → InParts ranges → Apart (loading_part guest engine) (access_part guest ranges)
beside-access guest engine ranges parts = record {
  dead = λ n. refl;
  page = λ n l is. no-frame guest l is;
  entry = λ i is. past-ranges ranges guest engine i parts is;
  engine = λ e is. refl;
  spare = λ is. refl;
}

-- ---- one engine of four has more pages

sum-more : (f g : ℕ → ℕ) (engine n : ℕ) → engine < 4 → g engine ≡ n → f engine ≡ 0 → ((k : ℕ) → k ≢ engine → g k ≡ f k) → g 0 + g 1 + g 2 + g 3 ≡ f 0 + f 1 + f 2 + f 3 + n
sum-more f g zero n four own none other =
    let a : g 1 ≡ f 1 = other 1 (λ is. absurd (omega arith)) in
    let b : g 2 ≡ f 2 = other 2 (λ is. absurd (omega arith)) in
    let c : g 3 ≡ f 3 = other 3 (λ is. absurd (omega arith)) in
    omega arith
sum-more f g (suc zero) n four own none other =
    let a : g 0 ≡ f 0 = other 0 (λ is. absurd (omega arith)) in
    let b : g 2 ≡ f 2 = other 2 (λ is. absurd (omega arith)) in
    let c : g 3 ≡ f 3 = other 3 (λ is. absurd (omega arith)) in
    omega arith
sum-more f g (suc (suc zero)) n four own none other =
    let a : g 0 ≡ f 0 = other 0 (λ is. absurd (omega arith)) in
    let b : g 1 ≡ f 1 = other 1 (λ is. absurd (omega arith)) in
    let c : g 3 ≡ f 3 = other 3 (λ is. absurd (omega arith)) in
    omega arith
sum-more f g (suc (suc (suc zero))) n four own none other =
    let a : g 0 ≡ f 0 = other 0 (λ is. absurd (omega arith)) in
    let b : g 1 ≡ f 1 = other 1 (λ is. absurd (omega arith)) in
    let c : g 2 ≡ f 2 = other 2 (λ is. absurd (omega arith)) in
    omega arith
sum-more f g (suc (suc (suc (suc engine)))) n four own none other = absurd (omega arith)

-- ---- a guest's device with the element

module _ (d e : Device) (old : Vgpu) (engines : List Engine) (count : length engines ≡ 4) (here : ℕ → Bool) (engine shadow_root : ℕ) (image : Image) (ring batches : List ℕ) (x : Held)
    (holds : Holds d old here) (room : HasRoomToLoad d old) (four : engine < 4) (own : here engine ≡ true) (none : (engine_at old engine).element ≡ None)
    (running : 0 < length (ports_at old.mmio engine).slots.running) (awake : old.failsafe ≡ false) (form : IsImage image)
    (root : has (roots_in old.gtt) image.root ≡ true) (shadow : nodes_in old.gtt 4 image.root ≡ Some shadow_root)
    (scanned : Scanned (fetched (global_space (private_of d old here)) engine image) ring batches) (loads : Loads (number_of old.gtt) engine shadow_root image ring batches d e x)
    (own-new : slice_index_or engines engine no_engine ≡ record (engine_at old engine) { element = Some x })
    (others : (k : ℕ) → k ≢ engine → slice_index_or engines k no_engine ≡ engine_at old k) where
  abbrev new : Vgpu
  new = record old { engines = engines; four = count }

  abbrev guest : ℕ
  guest = number_of old.gtt

  works : WorksWith e guest engine true shadow_root x (begun scanned.items)
  works = loads.begins scanned.items (scanned-loads (global_space (private_of d old here)) engine image ring batches form scanned)

  stands : Stands d old.gtt
  stands = holds.translates.serving.stands

  -- ---- other engines

  other-works : (k : ℕ) (y : Held) → k ≢ engine → (at-work : StandsAtWork d old k (here k) y) → WorksBeside e guest k (here k) at-work.root_page y (left_of d guest k (here k)) x.window
  other-works k y differ at-work = load-beside d e d.faults guest engine k (here k) at-work.root_page y x.window (λ is. differ (sym is)) at-work.works loads.outside

  loaded-kept : (k : ℕ) → k ≢ engine → e.loaded k ≡ d.loaded k
  loaded-kept k differ =
      let P : Bool → Type 0 = λ b. (if b then None else e.loaded k) ≡ (if b then None else d.loaded k) in
      subst P (not-equal k engine differ) (λ i. (loads.outside i).loaded k)

  entry-kept : (i : ℕ) → is_in_window guest engine i ≡ false → e.global i ≡ d.global i
  entry-kept i out =
      let P : Bool → Type 0 = λ b. (if b then 0 else e.global i) ≡ (if b then 0 else d.global i) in
      subst P out (λ j. (loads.outside j).global i)

  other-window : (k i : ℕ) → k ≢ engine → is_in_window guest k i ≡ true → is_in_window guest engine i ≡ false
  other-window k i differ is = grind (arith, nat_tests)

  idle-beside : (k : ℕ) → k ≢ engine → StandsIdle d old k (here k) → StandsIdle e new k (here k)
  idle-beside k differ idle = record {
    window = λ i within. subst (λ entry. entry % 2 ≡ 0) (sym (entry-kept (first_of_window guest k + i) (other-window k (first_of_window guest k + i) differ (in-window guest k i within)))) (idle.window i within);
    idle = λ mine. loaded-kept k differ ∙ idle.idle mine;
  }

  work-beside : (k : ℕ) (y : Held) → k ≢ engine → StandsAtWork d old k (here k) y → StandsAtWork e new k (here k) y
  work-beside k y differ at-work = record {
    root_page = at-work.root_page;
    root = at-work.root;
    shadow_root = at-work.shadow_root;
    works = (other-works k y differ at-work).with_left.works;
    owned = subst (λ left. OwnsLeft (ranges_of old.gtt) left) (sym (other-works k y differ at-work).with_left.remains) at-work.owned;
    apart = at-work.apart;
    running = at-work.running;
    awake = at-work.awake;
  }

  stands-beside : (k : ℕ) (element : Option Held) → k ≢ engine → StandsOn d old k (here k) element → StandsOn e new k (here k) element
  stands-beside k None differ idle = idle-beside k differ idle
  stands-beside k (Some y) differ at-work = work-beside k y differ at-work

  -- ---- the engine itself

  own-element : (engine_at new engine).element ≡ Some x
  own-element = λ i. (own-new i).element

  -- a page of the window is no shadow table's
  unnamed : (k : ℕ) → k < length x.window.pages → is_named (own_in old.gtt.tables.nodes) (page_at x.window k) ≡ false
  unnamed k within = choose (is_named (own_in old.gtt.tables.nodes) (page_at x.window k)) refl
    where
      choose : (b : Bool) → is_named (own_in old.gtt.tables.nodes) (page_at x.window k) ≡ b → b ≡ false
      choose false is = refl
      choose true is =
          let node = own-page old.gtt.tables.nodes (page_at x.window k) stands.holds.nodes is in
          let free : is_named x.window.pages (page_at x.window k) ≡ false =
          load-new d e d.faults guest engine x.window.pages (page_at x.window k) (stands.holds.sound.local.labelled node.0 node.1 (page_at x.window k) node.2) loads.outside in
          absurd (false≢true (sym free ∙ named-at x.window.pages k within))

  no-page : HasNoPage (gtt_part old.gtt) x.window
  no-page k within =
      λ i. (unnamed k within i && is_shadow_of guest (Some (shadow_label x.window.guest))) || no-frame-shadow i
    where
      no-frame-shadow : is_frame_of guest (Some (shadow_label x.window.guest)) ≡ false
      no-frame-shadow = choose (x.window.guest == guest)
        where
          choose : (b : Bool) → (b && not true) ≡ false
          choose true = refl
          choose false = refl

  own-stands : StandsAtWork e new engine true x
  own-stands = record {
    root_page = shadow_root;
    root = subst (λ r. has (roots_in old.gtt) r ≡ true) (sym loads.root) root;
    shadow_root = (λ i. nodes_in old.gtt 4 (loads.root i)) ∙ shadow;
    works = works.works;
    owned = subst (λ left. OwnsLeft (ranges_of old.gtt) left) (sym works.remains)
        (subst (λ (ranges : Ranges). OwnsLeft ranges (begun scanned.items)) holds.ranges (begins_owned (private_of d old here) engine image scanned.items scanned.is));
    apart = no-page;
    running = running;
    awake = awake;
  }

  -- ---- all four

  stands-now : (k : ℕ) → k < 4 → StandsOn e new k (here k) (engine_at new k).element
  stands-now k below = choose (k == engine) refl
    where
      choose : (b : Bool) → (k == engine) ≡ b → StandsOn e new k (here k) (engine_at new k).element
      choose true is =
          subst (λ n. StandsOn e new n (here n) (engine_at new n).element) (sym (same-number k engine is))
          (subst (λ element. StandsOn e new engine (here engine) element) (sym own-element) (subst (λ h. StandsAtWork e new engine h x) (sym own) own-stands))
      choose false is =
          let differ = other-number k engine is in
          subst (λ (y : Engine). StandsOn e new k (here k) y.element) (sym (others k differ)) (stands-beside k (engine_at old k).element differ (holds.engines k below))

  -- another element's window is apart from this one's
  other-apart : (k : ℕ) → k ≢ engine → (y : Held) → (engine_at old k).element ≡ Some y → AreApart x.window y.window
  other-apart =
      each-engine old (λ k element. k ≢ engine → (y : Held) → element ≡ Some y → AreApart x.window y.window)
      (λ k below differ y is. (other-works k y differ (subst (λ element. StandsOn d old k (here k) element) is (holds.engines k below))).apart)
      (λ k differ y is. absurd (none-some y is))

  apart-now : (j k : ℕ) (a b : Bool) → (j == engine) ≡ a → (k == engine) ≡ b → (y z : Held) → j ≢ k → (engine_at new j).element ≡ Some y → (engine_at new k).element ≡ Some z → AreApart y.window z.window
  apart-now j k true true first second y z differ one two = absurd (differ (same-number j engine first ∙ sym (same-number k engine second)))
  apart-now j k true false first second y z differ one two =
      let same : Some x ≡ Some y = sym own-element ∙ (λ i. (engine_at new (sym (same-number j engine first) i)).element) ∙ one in
      let held : x ≡ y = cc in
      let other = other-number k engine second in
      subst (λ (h : Held). AreApart h.window z.window) held (other-apart k other z ((λ i. (sym (others k other) i).element) ∙ two))
  apart-now j k false true first second y z differ one two =
      let same : Some x ≡ Some z = sym own-element ∙ (λ i. (engine_at new (sym (same-number k engine second) i)).element) ∙ two in
      let held : x ≡ z = cc in
      let other = other-number j engine first in
      let beside : AreApart x.window y.window = other-apart j other y ((λ i. (sym (others j other) i).element) ∙ one) in
      subst (λ (h : Held). AreApart y.window h.window) held (λ m n low high is. beside n m high low (sym is))
  apart-now j k false false first second y z differ one two =
      holds.beside j k y z differ ((λ i. (sym (others j (other-number j engine first)) i).element) ∙ one) ((λ i. (sym (others k (other-number k engine second)) i).element) ∙ two)

  beside-now : AreBeside new
  beside-now j k y z differ one two = apart-now j k (j == engine) (k == engine) refl refl y z differ one two

  away-now : IsAway e guest here
  away-now k below other l is =
      holds.away k below other l (sym (loaded-kept k (λ same. absurd (false≢true (sym other ∙ (λ i. here (same i)) ∙ own)))) ∙ is)

  kept-same : (k : ℕ) → (engine_at new k).kept ≡ (engine_at old k).kept
  kept-same k = choose (k == engine) refl
    where
      choose : (b : Bool) → (k == engine) ≡ b → (engine_at new k).kept ≡ (engine_at old k).kept
      choose true is = subst (λ n. (engine_at new n).kept ≡ (engine_at old n).kept) (sym (same-number k engine is)) (λ i. (own-new i).kept)
      choose false is = λ i. (others k (other-number k engine is) i).kept

  -- ---- memory and tables

  leaves-access : Leaves (access_part guest (ranges_of old.gtt)) d e
  leaves-access = record {
    same = inside-kept (loading_part guest engine) (access_part guest (ranges_of old.gtt)) d e (beside-access guest engine (ranges_of old.gtt) holds.parts)
        (outside-widen (element_part guest engine []) (element_part guest engine x.window.pages) (loading_part guest engine) d e (within-loading guest engine []) (within-loading guest engine x.window.pages) loads.outside);
  }

  memory-same : memory_of e old.gtt ≡ memory_of d old.gtt
  memory-same = memory-kept (access_part guest (ranges_of old.gtt)) d e (frames_of old.gtt) (λ page. own_frame guest) leaves-access stands.holds.stands

  room-now : HasRoomFor e old.gtt
  room-now =
      let live = loads.live in
      let few = loads.few in
      omega arith

  translates-now : Translates e old.gtt
  translates-now =
      translation_keeps d e old.gtt holds.translates
      (stands-kept (access_part guest (ranges_of old.gtt)) d e (frames_of old.gtt) (λ page. own_frame guest) leaves-access stands.holds.stands)
      (record { frames = λ i. length (memory-same i); words = λ frame is i. slice_index_or (memory-same i) frame [] })
      (record {
        label = λ level frame p is. let label = stands.holds.sound.local.labelled level frame p is in (load-keeps d e guest engine x.window.pages p (shadow_label guest) label d.faults loads.outside).label_is ∙ sym label;
        words = λ level frame p is. (load-keeps d e guest engine x.window.pages p (shadow_label guest) (stands.holds.sound.local.labelled level frame p is) d.faults loads.outside).words;
      })
      (λ page mine. global-same (access_part guest (ranges_of old.gtt)) d e leaves-access.same page mine)
      room-now

  -- ---- it stands, and is this private device

  holds-now : Holds e new here
  holds-now = record {
    translates = translates-now;
    parts = holds.parts;
    number = holds.number;
    ranges = holds.ranges;
    below = holds.below;
    engines = stands-now;
    beside = beside-now;
    away = away-now;
    none_above = holds.none_above;
    sixteen = λ k n mine above. (λ i. loads.general i k n) ∙ holds.sixteen k n mine above;
    kept = λ k below. (λ i. length (kept-same k i)) ∙ holds.kept k below;
  }

  general-same : (k : ℕ) → general_in e k (here k) (engine_at new k).kept ≡ general_in d k (here k) (engine_at old k).kept
  general-same k = λ i. if here k then loads.general i k else (λ n. slice_index_or (kept-same k i) n 0)

  element-now : element_in e guest engine (here engine) (engine_at new engine).element ≡ Some (work_of image scanned.items)
  element-now =
      (λ i. element_in e guest engine (own i) (own-element i))
      ∙ (λ i. Some (record { root = loads.root i; tail = loads.tail i; left = works.remains i }))

  other-element : (k : ℕ) (element : Option Held) → k ≢ engine → StandsOn d old k (here k) element → element_in e guest k (here k) element ≡ element_in d guest k (here k) element
  other-element k None differ idle = refl
  other-element k (Some y) differ at-work = λ i. Some (record { root = y.root; tail = y.tail; left = (other-works k y differ at-work).with_left.remains i })

  element-beside : (k : ℕ) → k ≢ engine → element_in e guest k (here k) (engine_at new k).element ≡ element_in d guest k (here k) (engine_at old k).element
  element-beside k differ =
      (λ i. element_in e guest k (here k) (others k differ i).element)
      ∙ each-engine old (λ k element. k ≢ engine → element_in e guest k (here k) element ≡ element_in d guest k (here k) element)
      (λ k below differ. other-element k (engine_at old k).element differ (holds.engines k below)) (λ k differ. refl) k differ

  private-now : private_of e new here ≡ with_element (private_of d old here) engine (Some (work_of image scanned.items))
  private-now =
      let p : PrivateDevice = private_of d old here in
      let q : PrivateDevice = private_of e new here in
      λ i. record p {
        memory = memory-same i;
        engines = λ k. put-by p.engines q.engines engine (record (p.engines engine) { element = Some (work_of image scanned.items) })
            (λ j. record (p.engines engine) { general = general-same engine j; element = element-now j })
            (λ n differ j. record (p.engines n) { general = general-same n j; element = element-beside n differ j }) k i;
      }

  abbrev behind : Result Items Reason → Result PrivateDevice Reason
  behind r = after r (λ items. Ok (with_element (private_of d old here) engine (Some (work_of image items))))

  pub load-is : fetched_into (private_of d old here) engine image ≡ Ok (private_of e new here)
  load-is =
      (λ i. behind (scanned.is i))
      ∙ (λ i. Ok (sym private-now i))

  live-now : LiveMoves d e (own_live old) (own_live new)
  live-now enough =
      let sum : held_on new 0 + held_on new 1 + held_on new 2 + held_on new 3 ≡ held_on old 0 + held_on old 1 + held_on old 2 + held_on old 3 + length x.window.pages =
      sum-more (held_on old) (held_on new) engine (length x.window.pages) four (λ i. window_pages (own-element i)) (λ i. window_pages (none i)) (λ k differ i. window_pages (others k differ i).element) in
      let live = loads.live in
      omega arith

  -- ---- the copies of the others

  copies-beside : (k : ℕ) → k ≢ engine → (y : Held) → (engine_at old k).element ≡ Some y → KeepsCopies y.window d e
  copies-beside k differ y at =
      each-engine old (λ k element. (y : Held) → element ≡ Some y → KeepsCopies y.window d e)
      (λ k below y is.
      let other : StandsAtWork d old k (here k) y = subst (λ o. StandsOn d old k (here k) o) is (holds.engines k below) in
      copies-kept d e (element_part guest engine []) (element_part guest engine x.window.pages) y.window other.works.runs.shows (λ j less. refl) loads.outside)
      (λ k y is. absurd (none-some y is)) k y at

  copies-stay : CopiesStay d e old new
  copies-stay k y z was is =
      let differ : k ≢ engine = (λ same. none-some y (sym none ∙ (λ i. (engine_at old (sym same i)).element) ∙ was)) in
      let both : Some z ≡ Some y = sym is ∙ (λ i. (others k differ i).element) ∙ was in
      let held : z ≡ y = cc in
      (held, copies-beside k differ y was)

  pub load-keeps-all : MayLoad here d e old new
  load-keeps-all = record {
    holds = holds-now;
    changes = record {
      number = refl;
      frames = refl;
      ranges = refl;
      outside =
          outside-widen (element_part guest engine []) (element_part guest engine x.window.pages) (guest_part guest (ranges_of old.gtt) here) d e
          (load-within guest engine [] (ranges_of old.gtt) here four own) (load-within guest engine x.window.pages (ranges_of old.gtt) here four own) loads.outside;
      live = live-now;
    };
    copies = copies-stay;
  }

-- ---- one that failed

pub load-stops :
    (here : ℕ → Bool) (d e : Device) (old : Vgpu) (guest engine : ℕ) (stop : Stop) → guest ≡ number_of old.gtt → engine < 4 → here engine ≡ true
    → outside (element_part guest engine []) e ≡ outside (element_part guest engine []) (with_faults d e.faults) → (stop ≡ DeviceFault → counted d.faults ≤ e.faults) → (stop ≡ OutOfMemory → e.faults ≡ d.faults)
    → Stops here d e old stop
load-stops here d e old guest engine stop same four own unchanged cause memory = record {
  outside =
      subst (λ number. outside (guest_part number (ranges_of old.gtt) here) e ≡ outside (guest_part number (ranges_of old.gtt) here) (with_faults d e.faults)) same
      (outside-widen (element_part guest engine []) (element_part guest engine []) (guest_part guest (ranges_of old.gtt) here) (with_faults d e.faults) e
      (load-within guest engine [] (ranges_of old.gtt) here four own) (load-within guest engine [] (ranges_of old.gtt) here four own) unchanged);
  cause = cause;
  memory = memory;
}

-- ---- behind the calls

-- what the load of an element ensures
pub loads-of :
    (d e : Device) (guest engine shadow_root : ℕ) (image : Image) (ring batches : List ℕ) (x : Held) {number : ℕ} → guest ≡ number → Begins e guest engine shadow_root ring batches x → Shows e x.window → IsWindow guest engine x.window
    → x.root ≡ image.root → x.tail ≡ image.tail → e.live ≡ d.live + length x.window.pages → outside (element_part guest engine x.window.pages) e ≡ outside (element_part guest engine []) d → e.general ≡ d.general
    → Loads number engine shadow_root image ring batches d e x
loads-of d e guest engine shadow_root image ring batches x same begins shows window root tail live outside general =
    subst (λ n. Loads n engine shadow_root image ring batches d e x) same
    (record { begins = begins; root = root; tail = tail; few = few; live = live; outside = outside; general = general })
  where
    few : length x.window.pages ≤ 274
    few = let most = shows.few in let tail = window.tail_below in omega arith

module _ (d e : Device) (old new : Vgpu) (here : ℕ → Bool) (engine shadow_root : ℕ) (image : Image) (ring batches : List ℕ) (x : Held)
    (holds : Holds d old here) (room : HasRoomToLoad d old) (four : engine < 4) (own : here engine ≡ true) (none : (engine_at old engine).element ≡ None)
    (running : 0 < length (ports_at old.mmio engine).slots.running) (awake : old.failsafe ≡ false) (form : IsImage image)
    (root : has (roots_in old.gtt) image.root ≡ true) (shadow : nodes_in old.gtt 4 image.root ≡ Some shadow_root)
    (scanned : Scanned (fetched (global_space (private_of d old here)) engine image) ring batches) (loads : Loads (number_of old.gtt) engine shadow_root image ring batches d e x)
    (own-new : engine_at new engine ≡ record (engine_at old engine) { element = Some x })
    (others : (k : ℕ) → k ≢ engine → engine_at new k ≡ engine_at old k) (gtt : new.gtt ≡ old.gtt) (mmio : new.mmio ≡ old.mmio) (failsafe : new.failsafe ≡ old.failsafe) where
  -- the engines alone are new
  put : record old { engines = new.engines; four = new.four } ≡ new
  put = λ i. record { gtt = sym gtt i; mmio = sym mmio i; failsafe = sym failsafe i; engines = new.engines; four = new.four }

  pub put-is : fetched_into (private_of d old here) engine image ≡ Ok (private_of e new here)
  put-is =
      load-is d e old new.engines new.four here engine shadow_root image ring batches x holds room four own none running awake form root shadow scanned loads own-new others
      ∙ (λ i. Ok (private_of e (put i) here))

  pub put-keeps : MayLoad here d e old new
  put-keeps =
      subst (λ v. MayLoad here d e old v) put
      (load-keeps-all d e old new.engines new.four here engine shadow_root image ring batches x holds room four own none running awake form root shadow scanned loads own-new others)
