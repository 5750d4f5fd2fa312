-- The reset of one engine, from its steps: what the device has is taken off, and the element goes.
use Rattle.std.proofs.Common.{◌≡◌, ◌≢◌, ℕ, ◌+◌, ◌-◌, ◌<◌, ◌≤◌, ◌%◌, ◌&&◌, Bool, true, false, cond, eqb, ltb, Option, None, Some, List, [], length, get_or, refl, sym, ap, ◌∙◌, subst, arith}
use Rattle.std.proofs.lemmas.Bool.{eq-eqb, false≢true}
use Rattle.std.proofs.lemmas.Bool.Decides.{nat_tests}
use Rattle.std.proofs.lemmas.List.Elements.{All-from_get_or}
use Rattle.std.proofs.lemmas.List.Folds.{list_any_none}
use Rattle.gv_types.specs.Maps.{put}
use Rattle.gv_ctx.specs.Saved.{fields_of}
use Rattle.gv_element.specs.Works.{Held, Rests, Works, context_now}
use Rattle.gv_element.proofs.Away.{is-put-away, stopped-rests, stopped-unloads}
use Rattle.gv_element.proofs.Going.{away-rests}
use Rattle.gv_gpu.specs.Context.{stopped}
use Rattle.gv_gpu.specs.Device.{Device, Loaded, with_loaded}
use Rattle.gv_gpu.specs.Part.{Part, outside, first_of_window, is_named, is_shadow_of, window_part, shadow_label}
use Rattle.gv_gtt.specs.Gtt.{gtt_part, number_of}
use Rattle.gv_sctx.proofs.Dwords.{fields_in}
use Rattle.gv_sctx.proofs.Saving.{with_words}
use Rattle.gv_sring.specs.Window.{WindowIsAbsent, page_at}
use Rattle.gv_sring.proofs.Named.{named-at, shadow-own}
use Rattle.gv_vgpu.specs.Changes.{window_pages}
use Rattle.gv_vgpu.specs.Vgpu.{engine_at}
use Rattle.gv_vgpu.specs.Reset.{IsGoneIf, IsReset, RestsIf, general_zeroed, reset_part, taken_off, zero_engine}
use Rattle.gv_vgpu.specs.Standing.{Occupies, OccupiesOn}
use Rattle.gv_vgpu.specs.declared.vgpu.Vgpu.{Vgpu}
use Rattle.gv_vgpu.proofs.General.{not-equal, same-number}

-- ---- pages that are named

none-named : (own : List ℕ) (n : ℕ) → ((j : ℕ) → j < length own → get_or own j 0 ≡ n → ⊥) → is_named own n ≡ false
none-named own n none = list_any_none (λ page. eqb page n) own (All-from_get_or (λ page. eqb page n ≡ false) own 0 (λ j h. let differ : get_or own j 0 ≢ n = none j h in not-equal (get_or own j 0) n differ))

-- the pages of an element's window
abbrev pub pages_of : Option Held → List ℕ
pages_of None = []
pages_of (Some x) = x.window.pages

-- ---- what is taken off

-- The device before the element goes: nothing but the engine and the window's pages changed.
pub record IsReady (d m : Device) (guest engine : ℕ) (mine : Bool) (pages : List ℕ) : Type 0 where
  pub global : m.global ≡ d.global
  pub live : m.live ≡ d.live
  pub loaded : mine ≡ true → m.loaded engine ≡ None
  pub general : mine ≡ true → (n : ℕ) → m.general engine n ≡ 0
  pub outside : outside (reset_part guest engine mine pages) m ≡ outside (reset_part guest engine mine pages) d

put-own : {A : Type 0} (f : ℕ → A) (k : ℕ) (x : A) → put f k x k ≡ x
put-own f k x = λ i. cond (eq-eqb k k refl i) x (f k)

few-zero : (f : ℕ → ℕ) (n : ℕ) → (16 ≤ n → f n ≡ 0) → (b : Bool) → ltb n 16 ≡ b → cond b 0 (f n) ≡ 0
few-zero f n none true is = refl
few-zero f n none false is = none (grind (arith, nat_tests))

zeroed-at : (c : Device) (engine n : ℕ) → (16 ≤ n → c.general engine n ≡ 0) → (general_zeroed c engine).general engine n ≡ 0
zeroed-at c engine n none = (λ i. put-own c.general engine (λ r. cond (ltb r 16) 0 (c.general engine r)) i n) ∙ few-zero (c.general engine) n none (ltb n 16) refl

hidden-engine : {A : Type 0} (f : ℕ → A) (engine k : ℕ) (x none : A) → cond (eqb k engine && true) none (put f engine x k) ≡ cond (eqb k engine && true) none (f k)
hidden-engine f engine k x none = by (eqb k engine) refl
  where
    by : (b : Bool) → eqb k engine ≡ b → cond (b && true) none (cond b x (f k)) ≡ cond (b && true) none (f k)
    by true is = refl
    by false is = refl

-- with no element
ready-none : (d : Device) (guest engine : ℕ) → d.loaded engine ≡ None → ((n : ℕ) → 16 ≤ n → d.general engine n ≡ 0) → IsReady d (general_zeroed d engine) guest engine true []
ready-none d guest engine idle sixteen = record {
  global = refl;
  live = refl;
  loaded = λ own. idle;
  general = λ own n. zeroed-at d engine n (sixteen n);
  outside = λ i. record (outside (reset_part guest engine true []) d) { general = λ k. hidden-engine d.general engine k (λ r. cond (ltb r 16) 0 (d.general engine r)) (λ _. 0) i };
}

-- the context of an element is put away
module _ (d : Device) (guest engine root_page : ℕ) (x : Held) (works : Works d guest engine true root_page x) (sixteen : (n : ℕ) → 16 ≤ n → d.general engine n ≡ 0) where
  abbrev l : Loaded
  l = context_now d guest engine true

  abbrev image : ℕ
  image = page_at x.window 1

  abbrev words : List ℕ
  words = fields_in (d.words image) (fields_of l.place) 7

  abbrev put_away : Device
  put_away = with_loaded (with_words d image words) engine None

  stopped-so : stopped d engine ≡ put_away
  stopped-so = is-put-away d guest engine root_page x works

  -- the image is a page of the window
  image-own : (is_named x.window.pages image && is_shadow_of guest (d.label image)) ≡ true
  image-own =
      let two = works.window.two in
      ap (λ b. b && is_shadow_of guest (d.label image)) (named-at x.window.pages 1 (omega arith))
      ∙ ap (is_shadow_of guest) (works.runs.shows.label 1 (omega arith))
      ∙ ap (λ g. is_shadow_of g (Some (shadow_label x.window.guest))) (sym works.window.guest_is)
      ∙ shadow-own x.window.guest

  words-by : (n : ℕ) (b : Bool) → eqb n image ≡ b
      → cond (is_named x.window.pages n && is_shadow_of guest (d.label n)) [] (cond b words (d.words n)) ≡ cond (is_named x.window.pages n && is_shadow_of guest (d.label n)) [] (d.words n)
  words-by n true same =
      let own : (is_named x.window.pages n && is_shadow_of guest (d.label n)) ≡ true = ap (λ n. is_named x.window.pages n && is_shadow_of guest (d.label n)) (same-number n image same) ∙ image-own in
      ap (λ b. cond b [] words) own ∙ sym (ap (λ b. cond b [] (d.words n)) own)
  words-by n false same = refl

  away-outside : outside (reset_part guest engine true x.window.pages) (general_zeroed put_away engine) ≡ outside (reset_part guest engine true x.window.pages) d
  away-outside = λ i. record (outside (reset_part guest engine true x.window.pages) d) {
    words = λ n. words-by n (eqb n image) refl i;
    general = λ k. hidden-engine d.general engine k (λ r. cond (ltb r 16) 0 (d.general engine r)) (λ _. 0) i;
    loaded = λ k. hidden-engine d.loaded engine k None None i;
  }

  ready-some : IsReady d (general_zeroed (stopped d engine) engine) guest engine true x.window.pages
  ready-some = record {
    global = λ i. (stopped-so i).global;
    live = λ i. (stopped-so i).live;
    loaded = λ own. stopped-unloads d engine;
    general = λ own n. zeroed-at (stopped d engine) engine n (λ above. (λ i. (stopped-so i).general engine n) ∙ sixteen n above);
    outside = (λ i. outside (reset_part guest engine true x.window.pages) (general_zeroed (stopped-so i) engine)) ∙ away-outside;
  }

  rests-some : Rests (general_zeroed (stopped d engine) engine) x.window
  rests-some =
      let rests = stopped-rests d guest engine root_page x works in
      record {
        shows = record {
          entry = rests.shows.entry;
          label = rests.shows.label;
          long = rests.shows.long;
          below = rests.shows.below;
          apart = rests.shows.apart;
          others = rests.shows.others;
          few = rests.shows.few;
        };
        unloaded = rests.unloaded;
      }

-- ---- both cases

-- what the device is once the engine is taken off, where the guest owns it
abbrev pub ready : Device → ℕ → Option Held → Bool → Device
ready d engine element mine = cond mine (taken_off d engine element) d

module _ (d : Device) (v : Vgpu) (here : ℕ → Bool) (engine : ℕ) (four : engine < 4) (occupies : Occupies d v here) where
  rests-by : (element : Option Held) (mine : Bool) → here engine ≡ mine → OccupiesOn d v engine mine element → RestsIf (ready d engine element mine) element
  rests-by None mine own stands = tt
  rests-by (Some x) true own stands = rests-some d (number_of v.gtt) engine stands.root_page x stands.works (λ n above. occupies.sixteen engine n own above)
  rests-by (Some x) false own stands = away-rests d (number_of v.gtt) engine false stands.root_page x stands.works (occupies.away engine four own)

  ready-by : (element : Option Held) (mine : Bool) → here engine ≡ mine → OccupiesOn d v engine mine element → IsReady d (ready d engine element mine) (number_of v.gtt) engine mine (pages_of element)
  ready-by None true own stands = ready-none d (number_of v.gtt) engine (stands.idle refl) (λ n above. occupies.sixteen engine n own above)
  ready-by (Some x) true own stands = ready-some d (number_of v.gtt) engine stands.root_page x stands.works (λ n above. occupies.sixteen engine n own above)
  ready-by element false own stands = record { global = refl; live = refl; loaded = λ is. absurd (false≢true is); general = λ is. absurd (false≢true is); outside = refl }

  pub rests-then : (m : Device) → m ≡ ready d engine (engine_at v engine).element (here engine) → RestsIf m (engine_at v engine).element
  rests-then m is = subst (λ m. RestsIf m (engine_at v engine).element) (sym is) (rests-by (engine_at v engine).element (here engine) refl (occupies.engines engine four))

  is-ready : (m : Device) → m ≡ ready d engine (engine_at v engine).element (here engine) → IsReady d m (number_of v.gtt) engine (here engine) (pages_of (engine_at v engine).element)
  is-ready m is = subst (λ m. IsReady d m (number_of v.gtt) engine (here engine) (pages_of (engine_at v engine).element)) (sym is) (ready-by (engine_at v engine).element (here engine) refl (occupies.engines engine four))

-- ---- the element goes

-- a reset's part but for the window's
engine_alone : ℕ → Bool → Part
engine_alone engine mine = record { page = λ _ _. false; entry = λ _. false; engine = λ k. eqb k engine && mine; spare = false }

reset-widens : (guest engine : ℕ) (mine : Bool) (before after : List ℕ) (m e : Device) → outside (window_part guest engine after) e ≡ outside (window_part guest engine before) m
    → outside (reset_part guest engine mine after) e ≡ outside (reset_part guest engine mine before) m
unfolding engine_alone
reset-widens guest engine mine before after m e same = ap (outside (engine_alone engine mine)) same

-- what is left once it is gone
pub record IsCleared (m e : Device) (guest engine : ℕ) (pages : List ℕ) : Type 0 where
  pub absent : WindowIsAbsent e guest engine
  pub live : e.live ≡ m.live - length pages
  pub outside : outside (window_part guest engine []) e ≡ outside (window_part guest engine pages) m

module _ (d m e : Device) (v : Vgpu) (here : ℕ → Bool) (engine : ℕ) (four : engine < 4) (occupies : Occupies d v here) (global : m.global ≡ d.global) where
  cleared-by : (element : Option Held) → OccupiesOn d v engine (here engine) element → IsGoneIf m e element → IsCleared m e (number_of v.gtt) engine (pages_of element)
  cleared-by None stands gone = record {
    absent = subst (λ global. (i : ℕ) → i < 0x200 → global (first_of_window (number_of v.gtt) engine + i) % 2 ≡ 0) (sym global ∙ (λ i. (sym gone i).global)) stands.window;
    live = ap (λ (x : Device). x.live) gone ∙ less-none m.live;
    outside = ap (outside (window_part (number_of v.gtt) engine [])) gone;
  }
    where
      less-none : (n : ℕ) → n ≡ n - 0
      less-none n = omega arith
  cleared-by (Some x) stands gone = record {
    absent = subst (λ g. WindowIsAbsent e g engine) stands.works.window.guest_is (subst (WindowIsAbsent e x.window.guest) stands.works.window.engine_is gone.absent);
    live = gone.live;
    outside =
        subst (λ g. outside (window_part g engine []) e ≡ outside (window_part g engine x.window.pages) m) stands.works.window.guest_is
        (subst (λ n. outside (window_part x.window.guest n []) e ≡ outside (window_part x.window.guest n x.window.pages) m) stands.works.window.engine_is gone.outside);
  }

  -- Its pages are neither another window's nor the tables'.
  apart-by : (element : Option Held) → (engine_at v engine).element ≡ element → (k : ℕ) (y : Held) → k ≢ engine → (engine_at v k).element ≡ Some y → (j : ℕ) → j < length y.window.pages → is_named (pages_of element) (page_at y.window j) ≡ false
  apart-by None own k y differ is j less = refl
  apart-by (Some x) own k y differ is j less =
      none-named x.window.pages (page_at y.window j) (λ i within hit. occupies.beside engine k x y (λ same. differ (sym same)) own is i j within less hit)

  beside-by : (element : Option Held) → OccupiesOn d v engine (here engine) element → (n : ℕ) → is_named (pages_of element) n ≡ true → (gtt_part v.gtt).page n (Some (shadow_label (number_of v.gtt))) ≡ false
  beside-by None stands n named = absurd (false≢true named)
  beside-by (Some x) stands n named = by ((gtt_part v.gtt).page n (Some (shadow_label (number_of v.gtt)))) refl
    where
      by : (b : Bool) → (gtt_part v.gtt).page n (Some (shadow_label (number_of v.gtt))) ≡ b → b ≡ false
      by true is = absurd (false≢true (sym (none-named x.window.pages n (λ j less hit.
          false≢true (sym (stands.apart j less) ∙ ap (λ n. (gtt_part v.gtt).page n (Some (shadow_label x.window.guest))) hit ∙ ap (λ g. (gtt_part v.gtt).page n (Some (shadow_label g))) stands.works.window.guest_is ∙ is))) ∙ named))
      by false is = refl

  held-pages : (element : Option Held) → length (pages_of element) ≡ window_pages element
  held-pages None = refl
  held-pages (Some x) = refl

pub is-reset :
    (d m e : Device) (old new : Vgpu) (here : ℕ → Bool) (engine : ℕ) → engine < 4 → Occupies d old here → m ≡ ready d engine (engine_at old engine).element (here engine) → IsGoneIf m e (engine_at old engine).element
    → new.gtt ≡ old.gtt → new.mmio ≡ old.mmio → new.failsafe ≡ old.failsafe → engine_at new engine ≡ zero_engine → ((k : ℕ) → k ≢ engine → engine_at new k ≡ engine_at old k) → IsReset here engine d e old new
is-reset d m e old new here engine four occupies is gone gtt mmio failsafe own others =
    let element : Option Held = (engine_at old engine).element in
    let stands : OccupiesOn d old engine (here engine) element = occupies.engines engine four in
    let now : IsReady d m (number_of old.gtt) engine (here engine) (pages_of element) = is-ready d old here engine four occupies m is in
    let clear : IsCleared m e (number_of old.gtt) engine (pages_of element) = cleared-by d m e old here engine four occupies now.global element stands gone in
    record {
      gtt = gtt;
      mmio = mmio;
      failsafe = failsafe;
      own = own;
      others = others;
      window = clear.absent;
      idle = λ mine. (λ i. (clear.outside i).loaded engine) ∙ now.loaded mine;
      general = λ mine n. (λ i. (clear.outside i).general engine n) ∙ now.general mine n;
      pages = pages_of element;
      outside = reset-widens (number_of old.gtt) engine (here engine) (pages_of element) [] m e clear.outside ∙ now.outside;
      apart = λ k y differ at j less. apart-by d m e old here engine four occupies now.global element refl k y differ at j less;
      beside = λ n named. beside-by d m e old here engine four occupies now.global element stands n named;
      live = clear.live ∙ (λ i. now.live i - held-pages d m e old here engine four occupies now.global element i);
    }
