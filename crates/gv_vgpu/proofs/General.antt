-- What writes of general registers leave.
use Rattle.std.proofs.Common.{◌≡◌, ◌≢◌, ℕ, ◌*◌, ◌/◌, ◌<◌, ◌≤◌, ◌==◌, Bool, true, false, None, Some, Option, List, slice_index_or, slice_set, if◌then◌else◌, length, refl, sym, ◌∙◌, subst, arith}
use Rattle.std.proofs.lemmas.Bool.{eq-eqb, false≢true}
use Rattle.std.proofs.lemmas.Bool.Decides.{nat_tests}
use Rattle.std.proofs.lemmas.List.{get_or-set_same, get_or-set_other, length-set}
use Rattle.gv_types.specs.Maps.{put}
use Rattle.gv_types.specs.Memory.{with_half}
use Rattle.gv_element.specs.Works.{Held, HasNoPage, Works, WorksWith, left_of}
use Rattle.gv_element.proofs.Staying.{work-stays}
use Rattle.gv_gpu.specs.Device.{Device}
use Rattle.gv_gpu.specs.Part.{outside, guest_part}
use Rattle.gv_entry.specs.Ranges.{InParts}
use Rattle.gv_entry.specs.SameTables.{has}
use Rattle.gv_gtt.specs.Gtt.{frames_of, gtt_part, nodes_in, number_of, over, ranges_of, roots_in}
use Rattle.gv_gtt.specs.Standing.{Translates}
use Rattle.gv_gtt.proofs.Others.{part-covers}
use Rattle.gv_gtt.proofs.Standing.{translation_stays}
use Rattle.gv_mmio.specs.Mmio.{behind, guest_of, ports_at, ranges_of as mmio_ranges}
use Rattle.gv_mmio.specs.Port.{writes_of}
use Rattle.gv_private.specs.Device.{Engine as PrivateEngine, new_device}
use Rattle.gv_private.specs.Registers.{general_written, with_general}
use Rattle.gv_sring.specs.Window.{WindowIsAbsent}
use Rattle.gv_turn.specs.Owned.{OwnsLeft}
use Rattle.gv_vgpu.specs.Changes.{Keeps, own_live}
use Rattle.gv_vgpu.specs.General.{kept_written, with_dword}
use Rattle.gv_vgpu.specs.Vgpu.{engine_at, engine_in, element_in, general_in, private_of}
use Rattle.gv_vgpu.specs.Standing.{Holds, IsAway, StandsAtWork, StandsOn}
use Rattle.gv_vgpu.specs.declared.engine.Engine.{Engine}
use Rattle.gv_vgpu.specs.declared.vgpu.Vgpu.{Vgpu}
use Rattle.gv_vgpu.proofs.Copies.{comes-none}
use Rattle.gv_vgpu.proofs.Engines.{each-engine}
use Rattle.gv_vgpu.proofs.Same.{beside-same, moves-none, own-same}

pub same-number : (k engine : ℕ) → (k == engine) ≡ true → k ≡ engine
same-number k engine is = grind (arith, nat_tests)

pub other-number : (k engine : ℕ) → (k == engine) ≡ false → k ≢ engine
other-number k engine is = grind (arith, nat_tests)

pub not-equal : (k engine : ℕ) → k ≢ engine → (k == engine) ≡ false
not-equal k engine differ = grind (arith, nat_tests)

-- a function that differs from another at one place
pub put-by : {A : Type 0} (f g : ℕ → A) (engine : ℕ) (x : A) → g engine ≡ x → ((k : ℕ) → k ≢ engine → g k ≡ f k) → (k : ℕ) → g k ≡ put f engine x k
put-by {A} f g engine x own other k = choose (k == engine) refl
  where
    choose : (b : Bool) → (k == engine) ≡ b → g k ≡ (if b then x else f k)
    choose true is = subst (λ j. g j ≡ x) (sym (same-number k engine is)) own
    choose false is = other k (other-number k engine is)

pub put-own : {A : Type 0} (f : ℕ → A) (k : ℕ) (x : A) → put f k x k ≡ x
put-own f k x = λ i. if eq-eqb k k refl i then x else f k

pub put-other : {A : Type 0} (f : ℕ → A) (k n : ℕ) (x : A) → n ≢ k → put f k x n ≡ f n
put-other f k n x differ = λ i. if not-equal n k differ i then x else f n

-- ---- the device's registers

module _ (d : Device) (v : Vgpu) (here : ℕ → Bool) (holds : Holds d v here) (engine n value : ℕ) (own : here engine ≡ true) (few : n < 32) where
  abbrev pub after : Device
  after = with_dword d engine n value

  -- the engine's registers then
  abbrev pub written : ℕ → ℕ
  written = put (d.general engine) (n / 2) (with_half (d.general engine (n / 2)) (4 * n) value)

  works-after : (k : ℕ) (x : Held) → (stands : StandsAtWork d v k (here k) x) → WorksWith after (number_of v.gtt) k (here k) stands.root_page x (left_of d (number_of v.gtt) k (here k))
  works-after k x stands =
      work-stays d after (number_of v.gtt) k (here k) stands.root_page x stands.works (record { entry = λ i h. refl; label = λ j h. refl; words = λ j h. refl }) (λ h. refl)

  element-after : (k : ℕ) (element : Option Held) → StandsOn d v k (here k) element → element_in after (number_of v.gtt) k (here k) element ≡ element_in d (number_of v.gtt) k (here k) element
  element-after k None stands = refl
  element-after k (Some x) stands = λ i. Some (record { root = x.root; tail = x.tail; left = (works-after k x stands).remains i })

  element-at : (k : ℕ) → element_in after (number_of v.gtt) k (here k) (engine_at v k).element ≡ element_in d (number_of v.gtt) k (here k) (engine_at v k).element
  element-at = each-engine v (λ k element. element_in after (number_of v.gtt) k (here k) element ≡ element_in d (number_of v.gtt) k (here k) element) (λ k four. element-after k (engine_at v k).element (holds.engines k four)) (λ k. refl)

  abbrev pub private-engine : Device → ℕ → PrivateEngine
  private-engine e k = record (engine_in e (number_of v.gtt) k (here k) (engine_at v k)) { writes = writes_of (ports_at v.mmio k).port; slots = (ports_at v.mmio k).slots }

  own-general : general_in after engine (here engine) (engine_at v engine).kept
      ≡ put (general_in d engine (here engine) (engine_at v engine).kept) (n / 2) (with_half (general_in d engine (here engine) (engine_at v engine).kept (n / 2)) (4 * n) value)
  own-general =
      subst (λ h. general_in after engine h (engine_at v engine).kept
      ≡ put (general_in d engine h (engine_at v engine).kept) (n / 2) (with_half (general_in d engine h (engine_at v engine).kept (n / 2)) (4 * n) value)) (sym own)
      (put-own d.general engine written)

  other-general : (k : ℕ) → k ≢ engine → general_in after k (here k) (engine_at v k).kept ≡ general_in d k (here k) (engine_at v k).kept
  other-general k differ = λ i. if here k then put-other d.general engine k written differ i else (λ r. slice_index_or (engine_at v k).kept r 0)

  own-engine : private-engine after engine ≡ record (private-engine d engine) { general = with_general (private-engine d engine).general n value }
  own-engine = λ i. record (private-engine d engine) { general = own-general i; element = element-at engine i }

  other-engine : (k : ℕ) → k ≢ engine → private-engine after k ≡ private-engine d k
  other-engine k differ = λ i. record (private-engine d k) { general = other-general k differ i; element = element-at k i }

  pub loaded-written : private_of after v here ≡ general_written (private_of d v here) engine n value
  loaded-written = λ i. record (private_of d v here) {
    engines = λ k. put-by (private-engine d) (private-engine after) engine (record (private-engine d engine) { general = with_general (private-engine d engine).general n value }) own-engine other-engine k i;
  }

  stands-after : (k : ℕ) (element : Option Held) → StandsOn d v k (here k) element → StandsOn after v k (here k) element
  stands-after k None stands = record { window = stands.window; idle = stands.idle }
  stands-after k (Some x) stands = record {
    root_page = stands.root_page;
    root = stands.root;
    shadow_root = stands.shadow_root;
    works = (works-after k x stands).works;
    owned = subst (λ left. OwnsLeft (ranges_of v.gtt) left) (sym (works-after k x stands).remains) stands.owned;
    apart = stands.apart;
    running = stands.running;
    awake = stands.awake;
  }

  no-seventeenth : (k r : ℕ) → here k ≡ true → 16 ≤ r → after.general k r ≡ 0
  no-seventeenth k r mine above = choose (k == engine) refl
    where
      differ : r ≢ n / 2
      differ is = absurd (omega arith)

      choose : (b : Bool) → (k == engine) ≡ b → (if b then written else d.general k) r ≡ 0
      choose true is = put-other (d.general engine) (n / 2) r (with_half (d.general engine (n / 2)) (4 * n) value) differ ∙ holds.sixteen engine r own above
      choose false is = holds.sixteen k r mine above

  outside-after : (k : ℕ) → (if here k then (λ _. 0) else after.general k) ≡ (if here k then (λ _. 0) else d.general k)
  outside-after k = choose (here k) refl
    where
      choose : (h : Bool) → here k ≡ h → (if h then (λ _. 0) else after.general k) ≡ (if h then (λ _. 0) else d.general k)
      choose true mine = refl
      choose false mine = put-other d.general engine k written (λ is. absurd (false≢true (sym mine ∙ (λ i. here (is i)) ∙ own)))

  pub loaded-keeps : Keeps here d after v v
  loaded-keeps = record {
    holds = record {
      translates = translation_stays (gtt_part v.gtt) d after v.gtt (part-covers v.gtt) (record { same = refl }) holds.translates.serving.stands.holds.room holds.translates;
      parts = holds.parts;
      number = holds.number;
      ranges = holds.ranges;
      below = holds.below;
      engines = λ k four. stands-after k (engine_at v k).element (holds.engines k four);
      beside = holds.beside;
      away = holds.away;
      none_above = holds.none_above;
      sixteen = no-seventeenth;
      kept = holds.kept;
    };
    changes = record {
      number = refl;
      frames = refl;
      ranges = refl;
      outside = λ i. record (outside (guest_part (number_of v.gtt) (ranges_of v.gtt) here) d) { general = λ k. outside-after k i };
      live = λ enough. refl;
    };
    copies = λ k x is. (is, λ j two within. refl);
  }

-- ---- the registers that are kept

module _ (d : Device) (old new : Vgpu) (here : ℕ → Bool) (holds : Holds d old here) (engine n value : ℕ) (away : here engine ≡ false) (four : engine < 4) (few : n < 32)
    (gtt : new.gtt ≡ old.gtt) (registers : new.mmio ≡ old.mmio) (failsafe : new.failsafe ≡ old.failsafe)
    (mine : engine_at new engine ≡ kept_written (engine_at old engine) n value) (others : (k : ℕ) → k ≢ engine → engine_at new k ≡ engine_at old k) where
  abbrev pub kept-engine : Engine → ℕ → PrivateEngine
  kept-engine e k = record (engine_in d (number_of old.gtt) k (here k) e) { writes = writes_of (ports_at old.mmio k).port; slots = (ports_at old.mmio k).slots }

  within : n / 2 < length (engine_at old engine).kept
  within = subst (λ length. n / 2 < length) (sym (holds.kept engine four)) (omega arith)

  kept-general : general_in d engine (here engine) (kept_written (engine_at old engine) n value).kept ≡ with_general (general_in d engine (here engine) (engine_at old engine).kept) n value
  kept-general =
      let kept : List ℕ = (engine_at old engine).kept in
      let word : ℕ = with_half (slice_index_or kept (n / 2) 0) (4 * n) value in
      subst (λ h. general_in d engine h (kept_written (engine_at old engine) n value).kept ≡ with_general (general_in d engine h kept) n value) (sym away)
      (λ i r. put-by (λ r. slice_index_or kept r 0) (λ r. slice_index_or (slice_set kept (n / 2) word) r 0) (n / 2) word (get_or-set_same kept (n / 2) word 0 within) (λ r differ. get_or-set_other kept (n / 2) r word 0 differ) r i)

  kept-own : kept-engine (engine_at new engine) engine ≡ record (kept-engine (engine_at old engine) engine) { general = with_general (kept-engine (engine_at old engine) engine).general n value }
  kept-own = (λ i. kept-engine (mine i) engine) ∙ (λ i. record (kept-engine (engine_at old engine) engine) { general = kept-general i })

  pub kept-written : private_of d new here ≡ general_written (private_of d old here) engine n value
  kept-written =
      (λ i. behind (over (record (new_device 0 0 (ranges_of (gtt i))) { failsafe = failsafe i; engines = λ k. engine_in d (number_of (gtt i)) k (here k) (engine_at new k) }) d (gtt i)) (registers i))
      ∙ (λ i. record (private_of d old here) {
        engines = λ k. put-by (λ k. kept-engine (engine_at old k) k) (λ k. kept-engine (engine_at new k) k) engine
            (record (kept-engine (engine_at old engine) engine) { general = with_general (kept-engine (engine_at old engine) engine).general n value })
            kept-own (λ k differ j. kept-engine (others k differ j) k) k i;
      })

  same-element : (k : ℕ) → (engine_at new k).element ≡ (engine_at old k).element
  same-element k = choose (k == engine) refl
    where
      choose : (b : Bool) → (k == engine) ≡ b → (engine_at new k).element ≡ (engine_at old k).element
      choose true is = subst (λ k. (engine_at new k).element ≡ (engine_at old k).element) (sym (same-number k engine is)) (λ i. (mine i).element)
      choose false is = λ i. (others k (other-number k engine is) i).element

  still-sixteen : (k : ℕ) → k < 4 → length (engine_at new k).kept ≡ 16
  still-sixteen k below = choose (k == engine) refl
    where
      choose : (b : Bool) → (k == engine) ≡ b → length (engine_at new k).kept ≡ 16
      choose true is =
          subst (λ k. length (engine_at new k).kept ≡ 16) (sym (same-number k engine is))
          ((λ i. length (mine i).kept) ∙ length-set (engine_at old engine).kept (n / 2) (with_half (slice_index_or (engine_at old engine).kept (n / 2) 0) (4 * n) value) ∙ holds.kept engine four)
      choose false is = (λ i. length (others k (other-number k engine is) i).kept) ∙ holds.kept k below

  stands-still : (k : ℕ) (element : Option Held) → StandsOn d old k (here k) element → StandsOn d new k (here k) element
  stands-still k None stands = record { window = subst (λ g. WindowIsAbsent d (number_of g) k) (sym gtt) stands.window; idle = stands.idle }
  stands-still k (Some x) stands = record {
    root_page = stands.root_page;
    root = subst (λ g. has (roots_in g) x.root ≡ true) (sym gtt) stands.root;
    shadow_root = subst (λ g. nodes_in g 4 x.root ≡ Some stands.root_page) (sym gtt) stands.shadow_root;
    works = subst (λ g. Works d (number_of g) k (here k) stands.root_page x) (sym gtt) stands.works;
    owned = subst (λ g. OwnsLeft (ranges_of g) (left_of d (number_of g) k (here k))) (sym gtt) stands.owned;
    apart = subst (λ g. HasNoPage (gtt_part g) x.window) (sym gtt) stands.apart;
    running = subst (λ m. 0 < length (ports_at m k).slots.running) (sym registers) stands.running;
    awake = failsafe ∙ stands.awake;
  }

  pub kept-keeps : Keeps here d d old new
  kept-keeps = record {
    holds = record {
      translates = subst (λ g. Translates d g) (sym gtt) holds.translates;
      parts = subst (λ g. InParts (ranges_of g)) (sym gtt) holds.parts;
      number = (λ i. guest_of (registers i)) ∙ holds.number ∙ (λ i. number_of (sym gtt i));
      ranges = (λ i. mmio_ranges (registers i)) ∙ holds.ranges ∙ (λ i. ranges_of (sym gtt i));
      below = subst (λ g. number_of g < 8) (sym gtt) holds.below;
      engines = λ k below. subst (λ element. StandsOn d new k (here k) element) (sym (same-element k)) (stands-still k (engine_at old k).element (holds.engines k below));
      beside = beside-same old new same-element holds.beside;
      away = subst (λ g. IsAway d (number_of g) here) (sym gtt) holds.away;
      none_above = holds.none_above;
      sixteen = holds.sixteen;
      kept = still-sixteen;
    };
    changes = record {
      number = λ i. number_of (gtt i);
      frames = λ i. length (frames_of (gtt i)).pages;
      ranges = λ i. ranges_of (gtt i);
      outside = refl;
      live = moves-none d (own_live old) (own_live new) (own-same old new same-element gtt);
    };
    copies = comes-none d old new same-element;
  }
