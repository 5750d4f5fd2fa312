-- What a change of a guest's memory and tables leaves of its engines.
use Rattle.std.proofs.Common.{◌≡◌, ◌≢◌, ℕ, ◌+◌, ◌%◌, ◌<◌, Bool, true, false, Option, None, Some, List, length, slice_index_or, if◌then◌else◌, refl, sym, ◌∙◌, subst, arith}
use Rattle.std.proofs.lemmas.Bool.Decides.{nat_tests}
use Rattle.gv_types.specs.declared.ranges.Ranges.{Ranges}
use Rattle.gv_element.specs.Works.{Held, HasNoPage, Misses, Works, WorksWith, left_of}
use Rattle.gv_element.proofs.Beside.{others-leave-work, stay-apart}
use Rattle.gv_entry.specs.Ranges.{InParts, owns_page}
use Rattle.gv_entry.specs.SameTables.{has}
use Rattle.gv_gpu.specs.Device.{Device}
use Rattle.gv_gpu.specs.Part.{is_in_window, first_of_window}
use Rattle.gv_gtt.specs.Changes.{Changes}
use Rattle.gv_gtt.specs.Gtt.{gtt_part, number_of, ranges_of, nodes_in, roots_in}
use Rattle.gv_gtt.specs.declared.gtt.Gtt.{Gtt}
use Rattle.gv_gtt.specs.Gtt.{over}
use Rattle.gv_gtt.specs.Standing.{Translates}
use Rattle.gv_mmio.specs.Mmio.{ports_at, guest_of, ranges_of as mmio_ranges}
use Rattle.gv_mmio.specs.Port.{writes_of}
use Rattle.gv_regs.specs.Registers.{map_of}
use Rattle.gv_sring.specs.Window.{Window, WindowIsAbsent}
use Rattle.gv_sring.proofs.Slots.{in-window}
use Rattle.gv_turn.specs.Owned.{OwnsLeft}
use Rattle.gv_private.specs.Device.{reset_engine}
use Rattle.gv_vgpu.specs.Vgpu.{engine_at, engine_in, element_in, general_in, no_engine, private_of}
use Rattle.gv_vgpu.specs.Standing.{Holds, StandsAtWork, StandsIdle, StandsOn}
use Rattle.gv_vgpu.specs.declared.vgpu.Vgpu.{Vgpu}
use Rattle.gv_vgpu.proofs.Engines.{each-engine}
use Rattle.gv_vgpu.proofs.Same.{beside-same}

-- the entries of a window are above those of all ranges
pub past-ranges : (ranges : Ranges) (guest engine i : ℕ) → InParts ranges → is_in_window guest engine i ≡ true → owns_page ranges i ≡ false
past-ranges ranges guest engine i parts is = let low = parts.low in let high = parts.high in grind (arith, nat_tests)

-- memory and tables, before and after, miss a window that has none of their pages
misses :
    (d e : Device) (old new : Gtt) (here : Bool) (w : Window) → InParts (ranges_of old) → Changes d e old new → HasNoPage (gtt_part old) w → Misses (gtt_part old) (gtt_part new) here w
misses d e old new here w parts changes apart = record {
  entry_before = λ i is. past-ranges (ranges_of old) w.guest w.engine i parts is;
  entry_after = λ i is. past-ranges (ranges_of new) w.guest w.engine i (subst InParts (sym changes.ranges) parts) is;
  engine_before = λ own. refl;
  engine_after = λ own. refl;
  page = apart;
}

-- The element works on, with as much left.
pub works-on :
    (d e : Device) (old new : Gtt) (engine : ℕ) (here : Bool) (root_page : ℕ) (x : Held) → InParts (ranges_of old) → Changes d e old new → HasNoPage (gtt_part old) x.window
    → Works d (number_of old) engine here root_page x → WorksWith e (number_of new) engine here root_page x (left_of d (number_of old) engine here)
works-on d e old new engine here root_page x parts changes apart works =
    subst (λ guest. WorksWith e guest engine here root_page x (left_of d (number_of old) engine here)) (sym (λ i. (changes.frames i).guest))
    (others-leave-work d e (number_of old) engine here root_page x (gtt_part old) (gtt_part new) works (misses d e old new here x.window parts changes apart) changes.outside)

-- An element stands as it did, where its root has the same shadow table, and its list is still running.
pub stands-on :
    (d e : Device) (old new : Vgpu) (engine : ℕ) (here : Bool) (x : Held) → InParts (ranges_of old.gtt) → Changes d e old.gtt new.gtt
    → has (roots_in new.gtt) x.root ≡ true → nodes_in new.gtt 4 x.root ≡ nodes_in old.gtt 4 x.root
    → 0 < length (ports_at new.mmio engine).slots.running → new.failsafe ≡ false
    → StandsAtWork d old engine here x → StandsAtWork e new engine here x
stands-on d e old new engine here x parts changes root node running awake stands =
    let on : WorksWith e (number_of new.gtt) engine here stands.root_page x (left_of d (number_of old.gtt) engine here) =
    works-on d e old.gtt new.gtt engine here stands.root_page x parts changes stands.apart stands.works in
    record {
      root_page = stands.root_page;
      root = root;
      shadow_root = node ∙ stands.shadow_root;
      works = on.works;
      owned = subst (λ left. OwnsLeft (ranges_of new.gtt) left) (sym on.remains) (subst (λ ranges. OwnsLeft ranges (left_of d (number_of old.gtt) engine here)) (sym changes.ranges) stands.owned);
      apart = stay-apart d e x.window (gtt_part old.gtt) (gtt_part new.gtt) stands.works.runs.shows stands.apart changes.outside;
      running = running;
      awake = awake;
    }

-- an entry of a window is as it was
entry-beside : (d e : Device) (old new : Gtt) (i : ℕ) → InParts (ranges_of old) → Changes d e old new → (guest engine : ℕ) → is_in_window guest engine i ≡ true → e.global i ≡ d.global i
entry-beside d e old new i parts changes guest engine is =
    let P : Bool → Bool → Type 0 = λ a b. (if a then 0 else e.global i) ≡ (if b then 0 else d.global i) in
    subst (λ a. P a false) (past-ranges (ranges_of new) guest engine i (subst InParts (sym changes.ranges) parts) is)
    (subst (P (owns_page (ranges_of new) i)) (past-ranges (ranges_of old) guest engine i parts is) (λ j. (changes.outside j).global i))

-- An engine without an element stays so.
pub idle-on :
    (d e : Device) (old new : Vgpu) (engine : ℕ) (here : Bool) → InParts (ranges_of old.gtt) → Changes d e old.gtt new.gtt → StandsIdle d old engine here → StandsIdle e new engine here
idle-on d e old new engine here parts changes stands = record {
  window = subst (λ guest. WindowIsAbsent e guest engine) (sym (λ i. (changes.frames i).guest))
      (λ i within. subst (λ entry. entry % 2 ≡ 0) (sym (entry-beside d e old.gtt new.gtt (first_of_window (number_of old.gtt) engine + i) parts changes (number_of old.gtt) engine (in-window (number_of old.gtt) engine i within))) (stands.window i within));
  idle = λ own. (λ i. (changes.outside i).loaded engine) ∙ stands.idle own;
}

-- ---- a change of memory and tables alone

-- each root stays a root, with the same shadow table
abbrev pub KeepsRoots : Gtt → Gtt → Type 0
KeepsRoots old new = (root : ℕ) → has (roots_in old) root ≡ true → (has (roots_in new) root ≡ true) × (nodes_in new 4 root ≡ nodes_in old 4 root)

module _ (d e : Device) (old new : Vgpu) (here : ℕ → Bool) (holds : Holds d old here) (changes : Changes d e old.gtt new.gtt) (registers : new.mmio ≡ old.mmio) (engines : new.engines ≡ old.engines) (failsafe : new.failsafe ≡ old.failsafe) where
  number-same : number_of new.gtt ≡ number_of old.gtt
  number-same = λ i. (changes.frames i).guest

  pub engine-same : (k : ℕ) → engine_at new k ≡ engine_at old k
  engine-same k = λ i. slice_index_or (engines i) k no_engine

  general-same : (k : ℕ) → e.general k ≡ d.general k
  general-same k = λ i. (changes.outside i).general k

  general-stays : (k : ℕ) (kept : List ℕ) → general_in e k (here k) kept ≡ general_in d k (here k) kept
  general-stays k kept = λ i. if here k then general-same k i else (λ n. slice_index_or kept n 0)

  element-stays : (k : ℕ) (element : Option Held) → StandsOn d old k (here k) element → element_in e (number_of new.gtt) k (here k) element ≡ element_in d (number_of old.gtt) k (here k) element
  element-stays k None stands = refl
  element-stays k (Some x) stands = λ i. Some (record {
    root = x.root;
    tail = x.tail;
    left = (works-on d e old.gtt new.gtt k (here k) stands.root_page x holds.parts changes stands.apart stands.works).remains i;
  })

  element-at : (k : ℕ) → element_in e (number_of new.gtt) k (here k) (engine_at old k).element ≡ element_in d (number_of old.gtt) k (here k) (engine_at old k).element
  element-at k = each-engine old (λ k element. element_in e (number_of new.gtt) k (here k) element ≡ element_in d (number_of old.gtt) k (here k) element)
      (λ k four. element-stays k (engine_at old k).element (holds.engines k four)) (λ k. refl) k

  -- the same of the private device's engine
  engine-stays : (k : ℕ) → engine_in e (number_of new.gtt) k (here k) (engine_at new k) ≡ engine_in d (number_of old.gtt) k (here k) (engine_at old k)
  engine-stays k =
      (λ i. engine_in e (number_of new.gtt) k (here k) (engine-same k i))
      ∙ (λ i. record reset_engine { general = general-stays k (engine_at old k).kept i; element = element-at k i })

  -- The private device has the new memory and tables, and all else as it was.
  pub private-after : over (private_of d old here) e new.gtt ≡ private_of e new here
  private-after = λ i. record (over (private_of d old here) e new.gtt) {
    number = number-after i;
    ranges = ranges-after i;
    registers = map_of (registers-back i).registers;
    interrupts = (registers-back i).interrupts;
    failsafe = sym failsafe i;
    engines = λ k. record (sym (engine-stays k) i) { writes = writes_of (ports_at (registers-back i) k).port; slots = (ports_at (registers-back i) k).slots };
  }
    where
      registers-back : old.mmio ≡ new.mmio
      registers-back = sym registers

      number-after : number_of new.gtt ≡ guest_of new.mmio
      number-after = number-same ∙ sym holds.number ∙ (λ i. guest_of (registers-back i))

      ranges-after : ranges_of new.gtt ≡ mmio_ranges new.mmio
      ranges-after = changes.ranges ∙ sym holds.ranges ∙ (λ i. mmio_ranges (registers-back i))

  -- and it stands again, where its tables translate
  pub holds-after : Translates e new.gtt → KeepsRoots old.gtt new.gtt → Holds e new here
  holds-after translates roots = record {
    translates = translates;
    parts = subst InParts (sym changes.ranges) holds.parts;
    number = (λ i. guest_of (registers i)) ∙ holds.number ∙ sym number-same;
    ranges = (λ i. mmio_ranges (registers i)) ∙ holds.ranges ∙ sym changes.ranges;
    below = subst (λ g. g < 8) (sym number-same) holds.below;
    engines = λ k four. subst (λ x. StandsOn e new k (here k) x.element) (sym (engine-same k)) (stands-after k (engine_at old k).element (holds.engines k four));
    beside = beside-same old new (λ k i. (engine-same k i).element) holds.beside;
    away = λ k below other l is. subst (λ g. l.owner ≢ g) (sym number-same) (holds.away k below other l ((λ i. (sym changes.outside i).loaded k) ∙ is));
    none_above = holds.none_above;
    sixteen = λ k n own above. (λ i. general-same k i n) ∙ holds.sixteen k n own above;
    kept = λ k four. subst (λ x. length x.kept ≡ 16) (sym (engine-same k)) (holds.kept k four);
  }
    where
      stands-after : (k : ℕ) (element : Option Held) → StandsOn d old k (here k) element → StandsOn e new k (here k) element
      stands-after k None stands = idle-on d e old new k (here k) holds.parts changes stands
      stands-after k (Some x) stands =
          stands-on d e old new k (here k) x holds.parts changes (roots x.root stands.root).0 (roots x.root stands.root).1
          (subst (λ m. 0 < length (ports_at m k).slots.running) (sym registers) stands.running) (failsafe ∙ stands.awake) stands
