-- An engine goes from one owner to another: what is left of a guest's device, for any change of that engine alone.
use Rattle.std.proofs.Common.{◌≡◌, ◌≢◌, ℕ, ◌+◌, ◌%◌, ◌*◌, ◌<◌, ◌≤◌, ◌==◌, ◌||◌, ◌&&◌, Bool, true, false, Option, None, Some, List, ltb, length, slice_index_or, if◌then◌else◌, refl, sym, ap, ◌∙◌, subst, arith}
use Rattle.std.proofs.Math.Bool.{and-false}
use Rattle.std.proofs.lemmas.Bool.{eq-eqb, false≢true}
use Rattle.std.proofs.lemmas.Bool.Decides.{nat_tests}
use Rattle.gv_types.specs.declared.ids.Label.{Label}
use Rattle.gv_element.specs.Works.{Held, HasNoPage, IsWindow, Misses, Works, WorksWith, left_of}
use Rattle.gv_element.proofs.Beside.{others-leave-work}
use Rattle.gv_entry.specs.Ranges.{InParts}
use Rattle.gv_entry.specs.SameTables.{has}
use Rattle.gv_gpu.specs.Change.{Leaves}
use Rattle.gv_gpu.specs.Device.{Device, Loaded}
use Rattle.gv_gpu.specs.Part.{Apart, Part, Within, context_part, engine_part, first_of_window, guest_part, is_named, is_page_of, is_shadow_of, outside, shadow_label}
use Rattle.gv_gpu.proofs.Changes.{leaves-outside}
use Rattle.gv_gpu.proofs.Parts.{outside-widen}
use Rattle.gv_gpu.proofs.Seen.{general-others, global-others, loaded-others}
use Rattle.gv_gtt.specs.Gtt.{HasRoomFor, frames_of, gtt_part, nodes_in, number_of, over, own_pages, ranges_of, roots_in}
use Rattle.gv_gtt.specs.Standing.{Translates}
use Rattle.gv_gtt.proofs.Others.{part-covers}
use Rattle.gv_gtt.proofs.Standing.{translated_stays, translation_stays}
use Rattle.gv_mmio.specs.Mmio.{behind, guest_of, ports_at, ranges_of as mmio_ranges}
use Rattle.gv_private.specs.Device.{PrivateDevice, new_device, reset_engine}
use Rattle.gv_sppgtt.specs.State.{own_in}
use Rattle.gv_sring.specs.Window.{WindowIsAbsent, page_at}
use Rattle.gv_turn.specs.Owned.{OwnsLeft}
use Rattle.gv_vgpu.specs.Changes.{own_live}
use Rattle.gv_vgpu.specs.Copies.{KeepsCopies, NoneComes}
use Rattle.gv_vgpu.specs.Exchange.{Exchanges}
use Rattle.gv_vgpu.specs.Vgpu.{element_in, engine_at, engine_in, engines_of, general_in, private_of}
use Rattle.gv_vgpu.specs.Standing.{Holds, IsAway, StandsAtWork, StandsOn}
use Rattle.gv_vgpu.specs.declared.vgpu.Vgpu.{Vgpu}
use Rattle.gv_vgpu.proofs.Copies.{comes-each, words-kept}
use Rattle.gv_vgpu.proofs.Engines.{none-past}
use Rattle.gv_vgpu.proofs.General.{not-equal, other-number, same-number}
use Rattle.gv_vgpu.proofs.Same.{beside-same, own-same}

-- ---- what an exchange changes of the device: the engine, and the image of the guest's element there

abbrev pub part_of : ℕ → ℕ → Option Held → Part
part_of guest engine None = engine_part engine
part_of guest engine (Some x) = context_part guest engine (page_at x.window 1)

part-entry : (guest engine : ℕ) (o : Option Held) (i : ℕ) → (part_of guest engine o).entry i ≡ false
part-entry guest engine None i = refl
part-entry guest engine (Some x) i = refl

part-engine : (guest engine : ℕ) (o : Option Held) (k : ℕ) → (part_of guest engine o).engine k ≡ (k == engine)
part-engine guest engine None k = refl
part-engine guest engine (Some x) k = refl

part-spare : (guest engine : ℕ) (o : Option Held) → (part_of guest engine o).spare ≡ false
part-spare guest engine None = refl
part-spare guest engine (Some x) = refl

both-true : (a b : Bool) → (a && b) ≡ true → (a ≡ true) × (b ≡ true)
both-true true true is = (refl, refl)
both-true true false is = cc
both-true false b is = cc

shadow-is : (guest : ℕ) (l : Option Label) → is_shadow_of guest l ≡ true → l ≡ Some (shadow_label guest)
shadow-is guest None is = absurd (false≢true is)
shadow-is guest (Some l) is =
    let two = both-true (l.guest.0 == guest) l.shadow is in
    let own : l.guest.0 ≡ guest = same-number l.guest.0 guest two.0 in
    λ i. Some (record { guest = record { 0 = own i }; shadow = two.1 i })

-- its pages are that image alone
pub record IsImage (guest : ℕ) (o : Option Held) (n : ℕ) (l : Option Label) : Type 0 where
  pub element : Held
  pub is : o ≡ Some element
  pub page : n ≡ page_at element.window 1
  pub label : l ≡ Some (shadow_label guest)

part-page : (guest engine : ℕ) (o : Option Held) (n : ℕ) (l : Option Label) → (part_of guest engine o).page n l ≡ true → IsImage guest o n l
part-page guest engine None n l is = absurd (false≢true is)
part-page guest engine (Some x) n l is =
    let two = both-true (n == page_at x.window 1) (is_shadow_of guest l) is in
    record { element = x; is = refl; page = same-number n (page_at x.window 1) two.0; label = shadow-is guest l two.1 }

-- ---- what the exchange says of the engine

-- The general registers are the same, as the guest sees them; an element works on, with the same left; and no context of
-- the guest is loaded where it doesn't own the engine.
pub record GoesOn (d e : Device) (guest engine : ℕ) (before after : Bool) (old_kept new_kept : List ℕ) (element : Option Held) : Type 0 where
  pub general : general_in e engine after new_kept ≡ general_in d engine before old_kept
  pub work : (x : Held) (root_page : ℕ) → element ≡ Some x → Works d guest engine before root_page x → WorksWith e guest engine after root_page x (left_of d guest engine before)
  pub idle : element ≡ None → after ≡ true → e.loaded engine ≡ None
  pub away : after ≡ false → (l : Loaded) → e.loaded engine ≡ Some l → l.owner ≢ guest
  pub sixteen : after ≡ true → (n : ℕ) → 16 ≤ n → e.general engine n ≡ 0
  pub long : length new_kept ≡ 16
  pub live : e.live ≡ d.live
  pub outside : outside (part_of guest engine element) e ≡ outside (part_of guest engine element) d

-- ---- one guest's device

module _ (d e : Device) (old new : Vgpu) (before after : ℕ → Bool) (engine : ℕ) (four : engine < 4) (holds : Holds d old before)
    (gtt : new.gtt ≡ old.gtt) (registers : new.mmio ≡ old.mmio) (failsafe : new.failsafe ≡ old.failsafe)
    (elements : (k : ℕ) → (engine_at new k).element ≡ (engine_at old k).element) (kept : (k : ℕ) → k ≢ engine → (engine_at new k).kept ≡ (engine_at old k).kept)
    (owners : (k : ℕ) → k ≢ engine → after k ≡ before k)
    (goes : GoesOn d e (number_of old.gtt) engine (before engine) (after engine) (engine_at old engine).kept (engine_at new engine).kept (engine_at old engine).element) where
  abbrev guest : ℕ
  guest = number_of old.gtt

  abbrev element : Option Held
  element = (engine_at old engine).element

  abbrev part : Part
  part = part_of guest engine element

  others-too : (k : ℕ) → k ≢ engine → part.engine k ≡ false
  others-too k differ = part-engine guest engine element k ∙ not-equal k engine differ

  stands-own : (x : Held) → element ≡ Some x → StandsAtWork d old engine (before engine) x
  stands-own x is = subst (StandsOn d old engine (before engine)) is (holds.engines engine four)

  -- ---- the parts that it leaves

  misses : (k : ℕ) (y : Held) → k ≢ engine → (engine_at old k).element ≡ Some y → IsWindow guest k y.window → Misses part part (before k) y.window
  misses k y differ is window = record {
    entry_before = λ i h. part-entry guest engine element i;
    entry_after = λ i h. part-entry guest engine element i;
    engine_before = λ own. ap part.engine window.engine_is ∙ others-too k differ;
    engine_after = λ own. ap part.engine window.engine_is ∙ others-too k differ;
    page = λ j less. apart j less (part.page (page_at y.window j) (Some (shadow_label y.window.guest))) refl;
  }
    where
      apart : (j : ℕ) → j < length y.window.pages → (b : Bool) → part.page (page_at y.window j) (Some (shadow_label y.window.guest)) ≡ b → b ≡ false
      apart j less false hit = refl
      apart j less true hit =
          let image = part-page guest engine element (page_at y.window j) (Some (shadow_label y.window.guest)) hit in
          let two : 2 ≤ length image.element.window.pages = (stands-own image.element image.is).works.window.two in
          absurd (holds.beside engine k image.element y (λ same. differ (sym same)) image.is is 1 j (omega arith) less (sym image.page))

  works-on : (k : ℕ) (y : Held) → k ≢ engine → (engine_at old k).element ≡ Some y → (stands : StandsAtWork d old k (before k) y) → WorksWith e guest k (before k) stands.root_page y (left_of d guest k (before k))
  works-on k y differ is stands = others-leave-work d e guest k (before k) stands.root_page y part part stands.works (misses k y differ is stands.works.window) goes.outside

  dead : (n : ℕ) → (gtt_part old.gtt).page n None ≡ false
  dead n = ap (λ b. b || false) (and-false (is_named (own_in old.gtt.tables.nodes) n))

  apart-gtt : Apart part (gtt_part old.gtt)
  apart-gtt = record {
    dead = dead;
    page = λ n l hit.
        let image = part-page guest engine element n l hit in
        let stands = stands-own image.element image.is in
        let two : 2 ≤ length image.element.window.pages = stands.works.window.two in
        ap (λ n. (gtt_part old.gtt).page n l) image.page
        ∙ ap ((gtt_part old.gtt).page (page_at image.element.window 1)) (image.label ∙ (λ i. Some (shadow_label (sym stands.works.window.guest_is i))))
        ∙ stands.apart 1 (omega arith);
    entry = λ i hit. absurd (false≢true (sym (part-entry guest engine element i) ∙ hit));
    engine = λ k hit. refl;
    spare = λ hit. absurd (false≢true (sym (part-spare guest engine element) ∙ hit));
  }

  left : Leaves (gtt_part old.gtt) d e
  left = leaves-outside apart-gtt goes.outside

  room : HasRoomFor e old.gtt
  room = subst (λ live. live + (4 * length old.gtt.memory.frames.pages + 64) ≤ 131072 + own_pages old.gtt) (sym goes.live) holds.translates.serving.stands.holds.room

  translates : Translates e old.gtt
  translates = translation_stays (gtt_part old.gtt) d e old.gtt (part-covers old.gtt) left room holds.translates

  over-same : (p : PrivateDevice) → over p e old.gtt ≡ over p d old.gtt
  over-same p = translated_stays (gtt_part old.gtt) d e old.gtt p (part-covers old.gtt) left holds.translates

  general-same : (k : ℕ) → k ≢ engine → e.general k ≡ d.general k
  general-same k differ = general-others part d e k (others-too k differ) goes.outside

  loaded-same : (k : ℕ) → k ≢ engine → e.loaded k ≡ d.loaded k
  loaded-same k differ = loaded-others part d e k (others-too k differ) goes.outside

  window-same : (k : ℕ) → WindowIsAbsent d guest k → WindowIsAbsent e guest k
  window-same k absent i within = subst (λ entry. entry % 2 ≡ 0) (sym (global-others part d e (first_of_window guest k + i) (part-entry guest engine element (first_of_window guest k + i)) goes.outside)) (absent i within)

  -- ---- the private device

  element-at : (k : ℕ) → element_in e guest k (after k) (engine_at old k).element ≡ element_in d guest k (before k) (engine_at old k).element
  element-at k = choose (k == engine) refl
    where
      own-by : (o : Option Held) → element ≡ o → StandsOn d old engine (before engine) o → element_in e guest engine (after engine) o ≡ element_in d guest engine (before engine) o
      own-by None is stands = refl
      own-by (Some x) is stands = λ i. Some (record { root = x.root; tail = x.tail; left = (goes.work x stands.root_page is stands.works).remains i })

      other-by : k ≢ engine → (o : Option Held) → (engine_at old k).element ≡ o → StandsOn d old k (before k) o → element_in e guest k (before k) o ≡ element_in d guest k (before k) o
      other-by differ None is stands = refl
      other-by differ (Some x) is stands = λ i. Some (record { root = x.root; tail = x.tail; left = (works-on k x differ is stands).remains i })

      past-by : (o : Option Held) → o ≡ None → element_in e guest k (after k) o ≡ element_in d guest k (before k) o
      past-by None is = refl
      past-by (Some x) is = cc

      small : (b : Bool) → ltb k 4 ≡ b → k ≢ engine → element_in e guest k (after k) (engine_at old k).element ≡ element_in d guest k (before k) (engine_at old k).element
      small true is differ =
          let below : k < 4 = grind (arith, nat_tests) in
          (λ i. element_in e guest k (owners k differ i) (engine_at old k).element) ∙ other-by differ (engine_at old k).element refl (holds.engines k below)
      small false is differ = let above : 4 ≤ k = grind (arith, nat_tests) in past-by (engine_at old k).element (λ i. (none-past old k above i).element)

      choose : (b : Bool) → (k == engine) ≡ b → element_in e guest k (after k) (engine_at old k).element ≡ element_in d guest k (before k) (engine_at old k).element
      choose true is =
          subst (λ k. element_in e guest k (after k) (engine_at old k).element ≡ element_in d guest k (before k) (engine_at old k).element) (sym (same-number k engine is))
          (own-by element refl (holds.engines engine four))
      choose false is = small (ltb k 4) refl (other-number k engine is)

  general-at : (k : ℕ) → general_in e k (after k) (engine_at new k).kept ≡ general_in d k (before k) (engine_at old k).kept
  general-at k = choose (k == engine) refl
    where
      choose : (b : Bool) → (k == engine) ≡ b → general_in e k (after k) (engine_at new k).kept ≡ general_in d k (before k) (engine_at old k).kept
      choose true is =
          subst (λ k. general_in e k (after k) (engine_at new k).kept ≡ general_in d k (before k) (engine_at old k).kept) (sym (same-number k engine is)) goes.general
      choose false is =
          let differ : k ≢ engine = other-number k engine is in
          (λ i. general_in e k (owners k differ i) (kept k differ i)) ∙ (λ i. if before k then general-same k differ i else (λ n. slice_index_or (engine_at old k).kept n 0))

  engine-same : (k : ℕ) → engine_in e guest k (after k) (engine_at new k) ≡ engine_in d guest k (before k) (engine_at old k)
  engine-same k =
      (λ i. record reset_engine { general = general-at k i; element = element_in e guest k (after k) (elements k i) })
      ∙ (λ i. record reset_engine { general = general_in d k (before k) (engine_at old k).kept; element = element-at k i })

  pub private-same : private_of e new after ≡ private_of d old before
  private-same =
      (λ i. behind (over (record (new_device 0 0 (ranges_of (gtt i))) { failsafe = failsafe i; engines = λ k. engine_in e (number_of (gtt i)) k (after k) (engine_at new k) }) e (gtt i)) (registers i))
      ∙ (λ i. behind (over (record (new_device 0 0 (ranges_of old.gtt)) { failsafe = old.failsafe; engines = λ k. engine-same k i }) e old.gtt) old.mmio)
      ∙ (λ i. behind (over-same (engines_of d old before) i) old.mmio)

  -- ---- how it stands

  -- with the same memory, tables and registers
  moved : (k : ℕ) (mine : Bool) (o : Option Held) → StandsOn e old k mine o → StandsOn e new k mine o
  moved k mine None stands = record { window = subst (λ g. WindowIsAbsent e (number_of g) k) (sym gtt) stands.window; idle = stands.idle }
  moved k mine (Some x) stands = record {
    root_page = stands.root_page;
    root = subst (λ g. has (roots_in g) x.root ≡ true) (sym gtt) stands.root;
    shadow_root = subst (λ g. nodes_in g 4 x.root ≡ Some stands.root_page) (sym gtt) stands.shadow_root;
    works = subst (λ g. Works e (number_of g) k mine stands.root_page x) (sym gtt) stands.works;
    owned = subst (λ g. OwnsLeft (ranges_of g) (left_of e (number_of g) k mine)) (sym gtt) stands.owned;
    apart = subst (λ g. HasNoPage (gtt_part g) x.window) (sym gtt) stands.apart;
    running = subst (λ m. 0 < length (ports_at m k).slots.running) (sym registers) stands.running;
    awake = failsafe ∙ stands.awake;
  }

  works-stand : (k : ℕ) (mine now : Bool) (x : Held) → (stands : StandsAtWork d old k mine x) → WorksWith e guest k now stands.root_page x (left_of d guest k mine) → StandsAtWork e old k now x
  works-stand k mine now x stands on = record {
    root_page = stands.root_page;
    root = stands.root;
    shadow_root = stands.shadow_root;
    works = on.works;
    owned = subst (OwnsLeft (ranges_of old.gtt)) (sym on.remains) stands.owned;
    apart = stands.apart;
    running = stands.running;
    awake = stands.awake;
  }

  own-stands : (o : Option Held) → element ≡ o → StandsOn d old engine (before engine) o → StandsOn e old engine (after engine) o
  own-stands None is stands = record { window = window-same engine stands.window; idle = goes.idle is }
  own-stands (Some x) is stands = works-stand engine (before engine) (after engine) x stands (goes.work x stands.root_page is stands.works)

  other-stands : (k : ℕ) → k ≢ engine → (o : Option Held) → (engine_at old k).element ≡ o → StandsOn d old k (before k) o → StandsOn e old k (before k) o
  other-stands k differ None is stands = record { window = window-same k stands.window; idle = λ own. loaded-same k differ ∙ stands.idle own }
  other-stands k differ (Some x) is stands = works-stand k (before k) (before k) x stands (works-on k x differ is stands)

  stands-at : (k : ℕ) → k < 4 → StandsOn e old k (after k) (engine_at old k).element
  stands-at k below = choose (k == engine) refl
    where
      choose : (b : Bool) → (k == engine) ≡ b → StandsOn e old k (after k) (engine_at old k).element
      choose true is = subst (λ k. StandsOn e old k (after k) (engine_at old k).element) (sym (same-number k engine is)) (own-stands element refl (holds.engines engine four))
      choose false is =
          let differ : k ≢ engine = other-number k engine is in
          subst (λ mine. StandsOn e old k mine (engine_at old k).element) (sym (owners k differ)) (other-stands k differ (engine_at old k).element refl (holds.engines k below))

  away-at : (k : ℕ) → k < 4 → after k ≡ false → (l : Loaded) → e.loaded k ≡ Some l → l.owner ≢ guest
  away-at k below = choose (k == engine) refl
    where
      choose : (b : Bool) → (k == engine) ≡ b → after k ≡ false → (l : Loaded) → e.loaded k ≡ Some l → l.owner ≢ guest
      choose true is = subst (λ k. after k ≡ false → (l : Loaded) → e.loaded k ≡ Some l → l.owner ≢ guest) (sym (same-number k engine is)) goes.away
      choose false is = λ other l there. (let differ : k ≢ engine = other-number k engine is in holds.away k below (sym (owners k differ) ∙ other) l (sym (loaded-same k differ) ∙ there))

  sixteen-at : (k n : ℕ) → after k ≡ true → 16 ≤ n → e.general k n ≡ 0
  sixteen-at k n own above = choose (k == engine) refl
    where
      choose : (b : Bool) → (k == engine) ≡ b → e.general k n ≡ 0
      choose true is =
          let same : k ≡ engine = same-number k engine is in
          subst (λ k. e.general k n ≡ 0) (sym same) (goes.sixteen (ap after (sym same) ∙ own) n above)
      choose false is =
          let differ : k ≢ engine = other-number k engine is in
          (λ i. general-same k differ i n) ∙ holds.sixteen k n (sym (owners k differ) ∙ own) above

  long-at : (k : ℕ) → k < 4 → length (engine_at new k).kept ≡ 16
  long-at k below = choose (k == engine) refl
    where
      choose : (b : Bool) → (k == engine) ≡ b → length (engine_at new k).kept ≡ 16
      choose true is = subst (λ k. length (engine_at new k).kept ≡ 16) (sym (same-number k engine is)) goes.long
      choose false is = ap length (kept k (other-number k engine is)) ∙ holds.kept k below

  pub holds-then : Holds e new after
  holds-then = record {
    translates = subst (Translates e) (sym gtt) translates;
    parts = subst (λ g. InParts (ranges_of g)) (sym gtt) holds.parts;
    number = (λ i. guest_of (registers i)) ∙ holds.number ∙ (λ i. number_of (sym gtt i));
    ranges = (λ i. mmio_ranges (registers i)) ∙ holds.ranges ∙ (λ i. ranges_of (sym gtt i));
    below = subst (λ g. number_of g < 8) (sym gtt) holds.below;
    engines = λ k below. moved k (after k) (engine_at new k).element (subst (StandsOn e old k (after k)) (sym (elements k)) (stands-at k below));
    beside = beside-same old new elements holds.beside;
    away = subst (λ g. IsAway e (number_of g) after) (sym gtt) away-at;
    none_above = λ k above. (let differ : k ≢ engine = omega arith in owners k differ ∙ holds.none_above k above);
    sixteen = sixteen-at;
    kept = long-at;
  }

  within : (with : ℕ → Bool) → with engine ≡ true → Within part (guest_part guest (ranges_of old.gtt) with)
  within with own = record {
    page = λ n l hit. (let image = part-page guest engine element n l hit in ap (is_page_of guest) image.label ∙ eq-eqb guest guest refl);
    entry = λ i hit. absurd (false≢true (sym (part-entry guest engine element i) ∙ hit));
    engine = λ k hit. ap with (same-number k engine (sym (part-engine guest engine element k) ∙ hit)) ∙ own;
    spare = λ hit. refl;
  }

  -- The image changes, and no copy: a page behind the image's two is no image of the exchange.
  no-image : (k : ℕ) (y : Held) (j : ℕ) → (engine_at old k).element ≡ Some y → StandsAtWork d old k (before k) y → 2 ≤ j → j < length y.window.pages
      → IsImage guest element (page_at y.window j) (Some (shadow_label y.window.guest)) → (b : Bool) → (k == engine) ≡ b → ⊥
  no-image k y j at stands two less image true same =
      let both : Some y ≡ Some image.element = sym at ∙ (λ i. (engine_at old (same-number k engine same i)).element) ∙ image.is in
      let held : image.element ≡ y = cc in
      let first : 1 ≡ j = stands.works.runs.shows.apart 1 j (omega arith) less (sym (image.page ∙ (λ i. page_at (held i).window 1))) in
      absurd (omega arith)
  no-image k y j at stands two less image false other =
      let most : 2 ≤ length image.element.window.pages = (stands-own image.element image.is).works.window.two in
      holds.beside engine k image.element y (λ same. other-number k engine other (sym same)) image.is at 1 j (omega arith) less (sym image.page)

  copies-of : (k : ℕ) (y : Held) → (engine_at old k).element ≡ Some y → StandsAtWork d old k (before k) y → KeepsCopies y.window d e
  copies-of k y at stands j two less =
      words-kept d e part part (page_at y.window j) (shadow_label y.window.guest) (stands.works.runs.shows.label j less) (missed (part.page (page_at y.window j) (Some (shadow_label y.window.guest))) refl) goes.outside
    where
      missed : (b : Bool) → part.page (page_at y.window j) (Some (shadow_label y.window.guest)) ≡ b → b ≡ false
      missed false hit = refl
      missed true hit = absurd (no-image k y j at stands two less (part-page guest engine element (page_at y.window j) (Some (shadow_label y.window.guest)) hit) (k == engine) refl)

  comes : NoneComes d e old new
  comes = comes-each d e old new before holds elements (λ k y below at stands. copies-of k y at stands)

  pub exchanges : (with : ℕ → Bool) → with engine ≡ true → Exchanges with before after d e old new
  exchanges with own = record {
    holds = holds-then;
    device = private-same;
    changes = record {
      number = λ i. number_of (gtt i);
      frames = λ i. length (frames_of (gtt i)).pages;
      ranges = λ i. ranges_of (gtt i);
      outside = outside-widen part part (guest_part guest (ranges_of old.gtt) with) d e (within with own) (within with own) goes.outside;
      live = λ enough. (λ i. goes.live i + own_live old) ∙ (λ i. d.live + sym (own-same old new elements gtt) i);
    };
    copies = comes;
  }
