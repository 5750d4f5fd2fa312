-- What calls of other guests leave of a guest's device.
use Rattle.std.proofs.Common.{◌≡◌, ℕ, ◌+◌, ◌%◌, ◌<◌, Bool, true, false, Option, None, Some, List, refl, sym, ◌∙◌, subst}
use Rattle.std.proofs.lemmas.Bool.{or_right}
use Rattle.gv_element.specs.Works.{Held, WorksWith, left_of}
use Rattle.gv_element.proofs.Guests.{standing-covers}
use Rattle.gv_element.proofs.Staying.{part-keeps-work}
use Rattle.gv_entry.specs.Ranges.{owns_page}
use Rattle.gv_gpu.specs.Change.{Leaves}
use Rattle.gv_gpu.specs.Device.{Device}
use Rattle.gv_gpu.specs.Part.{Part, first_of_window, inside, is_in_windows, shadow_label, standing_part}
use Rattle.gv_gpu.proofs.Seen.{general-same, global-same, loaded-same, words-same}
use Rattle.gv_gtt.specs.Gtt.{HasRoomFor, number_of, over, ranges_of}
use Rattle.gv_gtt.proofs.Others.{standing-covers as tables-covered}
use Rattle.gv_gtt.proofs.Standing.{translated_stays, translation_stays}
use Rattle.gv_mmio.specs.Mmio.{behind}
use Rattle.gv_private.specs.Device.{reset_engine}
use Rattle.gv_sring.proofs.Slots.{in-windows}
use Rattle.gv_turn.specs.Owned.{OwnsLeft}
use Rattle.gv_sring.specs.Window.{page_at}
use Rattle.gv_vgpu.specs.Laws.{CopiesStand, DeviceStands, DeviceStays}
use Rattle.gv_vgpu.specs.Vgpu.{element_in, engine_at, engines_of, general_in, private_of}
use Rattle.gv_vgpu.specs.Standing.{Holds, IsAway, StandsAtWork, StandsIdle, StandsOn}
use Rattle.gv_vgpu.specs.declared.vgpu.Vgpu.{Vgpu}
use Rattle.gv_vgpu.proofs.Copies.{comes-each}
use Rattle.gv_vgpu.proofs.Engines.{each-engine}

module _ (d e : Device) (v : Vgpu) (here : ℕ → Bool) (holds : Holds d v here) (same : inside (standing_part (number_of v.gtt) (ranges_of v.gtt) here) e ≡ inside (standing_part (number_of v.gtt) (ranges_of v.gtt) here) d) where
  abbrev part : Part
  part = standing_part (number_of v.gtt) (ranges_of v.gtt) here

  left : Leaves part d e
  left = record { same = same }

  -- ---- the private device

  works-still : (k : ℕ) (x : Held) → (stands : StandsAtWork d v k (here k) x) → WorksWith e (number_of v.gtt) k (here k) stands.root_page x (left_of d (number_of v.gtt) k (here k))
  works-still k x stands =
      part-keeps-work d e (number_of v.gtt) k (here k) stands.root_page x part stands.works (standing-covers (number_of v.gtt) k (ranges_of v.gtt) here x.window stands.works.window) left

  element-still : (k : ℕ) (element : Option Held) → StandsOn d v k (here k) element → element_in e (number_of v.gtt) k (here k) element ≡ element_in d (number_of v.gtt) k (here k) element
  element-still k None stands = refl
  element-still k (Some x) stands = λ i. Some (record { root = x.root; tail = x.tail; left = (works-still k x stands).remains i })

  element-at : (k : ℕ) → element_in e (number_of v.gtt) k (here k) (engine_at v k).element ≡ element_in d (number_of v.gtt) k (here k) (engine_at v k).element
  element-at = each-engine v (λ k element. element_in e (number_of v.gtt) k (here k) element ≡ element_in d (number_of v.gtt) k (here k) element)
      (λ k four. element-still k (engine_at v k).element (holds.engines k four)) (λ k. refl)

  general-at : (k : ℕ) (kept : List ℕ) → general_in e k (here k) kept ≡ general_in d k (here k) kept
  general-at k kept = choose (here k) refl
    where
      choose : (own : Bool) → here k ≡ own → general_in e k own kept ≡ general_in d k own kept
      choose true own = general-same part d e same k own
      choose false own = refl

  engines-still : engines_of e v here ≡ engines_of d v here
  engines-still = λ i. record (engines_of d v here) { engines = λ k. record reset_engine { general = general-at k (engine_at v k).kept i; element = element-at k i } }

  pub private-still : private_of e v here ≡ private_of d v here
  private-still =
      (λ i. behind (over (engines-still i) e v.gtt) v.mmio)
      ∙ (λ i. behind (translated_stays part d e v.gtt (engines_of d v here) (tables-covered v.gtt here) left holds.translates i) v.mmio)

  -- ---- how it stands

  idle-still : (k : ℕ) → k < 4 → StandsIdle d v k (here k) → StandsIdle e v k (here k)
  idle-still k four stands = record {
    window = λ i within.
        let at : ℕ = first_of_window (number_of v.gtt) k + i in
        subst (λ entry. entry % 2 ≡ 0)
        (sym (global-same part d e same at (or_right (owns_page (ranges_of v.gtt) at) (is_in_windows (number_of v.gtt) at) (in-windows (number_of v.gtt) k i four within))))
        (stands.window i within);
    idle = λ own. loaded-same part d e same k own ∙ stands.idle own;
  }

  stands-still : (k : ℕ) → k < 4 → (element : Option Held) → StandsOn d v k (here k) element → StandsOn e v k (here k) element
  stands-still k four None stands = idle-still k four stands
  stands-still k four (Some x) stands = record {
    root_page = stands.root_page;
    root = stands.root;
    shadow_root = stands.shadow_root;
    works = (works-still k x stands).works;
    owned = subst (λ left. OwnsLeft (ranges_of v.gtt) left) (sym (works-still k x stands).remains) stands.owned;
    apart = stands.apart;
    running = stands.running;
    awake = stands.awake;
  }

  pub holds-still : IsAway e (number_of v.gtt) here → HasRoomFor e v.gtt → Holds e v here
  holds-still away room = record {
    translates = translation_stays part d e v.gtt (tables-covered v.gtt here) left room holds.translates;
    parts = holds.parts;
    number = holds.number;
    ranges = holds.ranges;
    below = holds.below;
    engines = λ k four. stands-still k four (engine_at v k).element (holds.engines k four);
    beside = holds.beside;
    away = away;
    none_above = holds.none_above;
    sixteen = λ k n own above. (λ i. general-same part d e same k own i n) ∙ holds.sixteen k n own above;
    kept = holds.kept;
  }

pub copies_stand : CopiesStand
copies_stand d e v here holds same =
    comes-each d e v v here holds (λ k. refl)
    (λ k x four at stands j two within.
    let covered = standing-covers (number_of v.gtt) k (ranges_of v.gtt) here x.window stands.works.window in
    words-same (standing_part (number_of v.gtt) (ranges_of v.gtt) here) d e same (page_at x.window j) (shadow_label x.window.guest) (covered.page j within) (stands.works.runs.shows.label j within))

pub device_stands : DeviceStands
device_stands d e v here holds same away room = holds-still d e v here holds same away room

pub device_stays : DeviceStays
device_stays d e v here holds same = private-still d e v here holds same
