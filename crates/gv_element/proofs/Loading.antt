-- A window that was built, whose image is filled in and whose context is loaded, begins with all items.
use Rattle.std.proofs.Common.{◌≡◌, ◌≢◌, ℕ, suc, zero, ◌+◌, ◌*◌, ◌^◌, ◌<◌, ◌≤◌, Bool, true, false, eqb, List, [], ◌∷◌, length, Some, refl, ap, sym, subst, ◌∙◌, arith, lit<}
use Rattle.std.proofs.lemmas.Bool.{eqb-true}
use Rattle.std.proofs.lemmas.Bool.Decides.{nat_tests}
use Rattle.gv_fetch.specs.Items.{Items}
use Rattle.gv_fetch.specs.Left.{begun}
use Rattle.gv_gpu.specs.Context.{context_of}
use Rattle.gv_gpu.specs.Device.{Device, Loaded, with_spare}
use Rattle.gv_place.specs.Laws.{front_place}
use Rattle.gv_place.specs.Place.{KeepsShadow}
use Rattle.gv_place.proofs.Kept.{copied-kept}
use Rattle.gv_place.proofs.Loading.{loaded-stands}
use Rattle.gv_scan.specs.Layout.{placed_layout}
use Rattle.gv_scan.proofs.Placing.{length-all}
use Rattle.gv_sctx.specs.Context.{HasImage, HoldsContext, FitsDwords}
use Rattle.gv_sctx.specs.Image.{image_fields, AreDwords, dword_poked, dwords_poked, with_dword}
use Rattle.gv_sctx.proofs.Filling.{context-filled, poked-words, length-filled}
use Rattle.gv_sctx.proofs.Saving.{put-other}
use Rattle.gv_sring.specs.Copy.{IsCopied}
use Rattle.gv_sring.specs.Window.{Window, first_of, page_at, Shows, ring_address, batches_address, descriptor_at}
use Rattle.gv_sring.proofs.Windows.{shows-same, put-same}
use Rattle.gv_sring.proofs.WindowReads.{shows-image}
use Rattle.gv_element.specs.Works.{Held, loaded_or, IsWindow, WorksAs, WorksWith, IsProgramOf, Begins, KeepsWindow, image_filled, started}
use Rattle.gv_element.proofs.Staying.{works-with, runs-kept, context-kept}

-- ---- a page whose dwords were poked

pub poked-is : (d : Device) (page : ℕ) (pairs : List (ℕ × ℕ)) → dwords_poked d page pairs ≡ record d { words = (dwords_poked d page pairs).words; pokes = (dwords_poked d page pairs).pokes }
unfolding dwords_poked
poked-is d page [] = refl
poked-is d page (x ∷ more) = poked-is (dword_poked d page x.0 x.1) page more

pub poked-others : (d : Device) (page : ℕ) (pairs : List (ℕ × ℕ)) (q : ℕ) → q ≢ page → (dwords_poked d page pairs).words q ≡ d.words q
unfolding dwords_poked
poked-others d page [] q differ = refl
poked-others d page (x ∷ more) q differ = poked-others (dword_poked d page x.0 x.1) page more q differ ∙ put-other d.words page (with_dword (d.words page) x.0 x.1) q differ

-- ---- a window that was built

pub record Built (d : Device) (guest engine : ℕ) (w : Window) (ring batches : List ℕ) : Type 0 where
  pub window : IsWindow guest engine w
  pub shows : Shows d w
  pub copied : IsCopied d w ring batches
  pub tail : w.tail ≡ 4 * length ring
  pub few : length batches ≤ 262144

module _ (d : Device) (guest engine : ℕ) (w : Window) (ring batches : List ℕ) (built : Built d guest engine w ring batches) (root_page : ℕ) (low : root_page < 131072) where
  abbrev pub image : ℕ
  image = page_at w 1

  abbrev descriptor : ℕ
  descriptor = descriptor_at w.guest w.engine

  abbrev pub fields : List (ℕ × ℕ)
  fields = image_fields (ring_address w.guest w.engine) front_place w.tail root_page

  abbrev pub filled : Device
  filled = image_filled d w root_page

  abbrev front : Loaded
  front = record { descriptor = descriptor; owner = w.guest; place = front_place; tail = w.tail; ring_start = ring_address w.guest w.engine; root = root_page }

  small-guest : w.guest < 8
  small-guest = let a = built.window.guest_is in let b = built.window.guest_below in omega arith

  small-engine : w.engine < 4
  small-engine = let a = built.window.engine_is in let b = built.window.engine_below in omega arith

  one-there : 1 < length w.pages
  one-there = let t = built.window.two in omega arith

  start-below : ring_address w.guest w.engine < 2 ^ 32
  start-below = let a = small-guest in let b = small-engine in omega arith

  tail-below : w.tail < 2 ^ 32
  tail-below = let t = built.window.tail_below in omega arith

  root-below : root_page * 0x1000 < 2 ^ 32
  root-below = omega arith

  dwords : AreDwords fields
  dwords = (
    lit< tt,
    lit< tt,
    (
      lit< tt,
      lit< tt,
      (
        lit< tt,
        lit< tt,
        (
          lit< tt,
          lit< tt,
          (
            lit< tt,
            lit< tt,
            (
              lit< tt,
              lit< tt,
              (
                lit< tt,
                lit< tt,
                (lit< tt, tail-below, (lit< tt, start-below, (lit< tt, lit< tt, (lit< tt, lit< tt, (lit< tt, root-below, tt))))),
              ),
            ),
          ),
        ),
      ),
    ),
  )

  same-global : filled.global ≡ d.global
  same-global = ap (λ (x : Device). x.global) (poked-is d image fields)

  same-label : filled.label ≡ d.label
  same-label = ap (λ (x : Device). x.label) (poked-is d image fields)

  lengths : (q : ℕ) (b : Bool) → eqb q image ≡ b → length (filled.words q) ≡ length (d.words q)
  lengths q true is =
      let same = eqb-true q image is in
      ap (λ n. length (filled.words n)) same ∙ ap length (poked-words d image fields) ∙ length-filled (d.words image) fields ∙ sym (ap (λ n. length (d.words n)) same)
  lengths q false is = let differ : q ≢ image = grind (arith, nat_tests) in ap length (poked-others d image fields q differ)

  pub shows-filled : Shows filled w
  shows-filled = shows-same d filled w built.window.tail_below (λ i h. ap (λ f. f (first_of w + i)) same-global) (λ k h. ap (λ f. f (page_at w k)) same-label) (λ k h. lengths (page_at w k) (eqb (page_at w k) image) refl) built.shows

  has-filled : HasImage filled w.guest descriptor image
  has-filled = shows-image filled w small-guest small-engine built.window.two shows-filled

  context-is : context_of filled w.guest descriptor ≡ front
  context-is = context-filled filled w.guest descriptor image w.guest (ring_address w.guest w.engine) front_place w.tail root_page (d.words image) has-filled (poked-words d image fields) (built.shows.long 1 one-there) dwords

  own-holds : HoldsContext filled (context_of filled w.guest descriptor)
  unfolding context_of
  own-holds = record { tail = refl; ring_start = refl; root = refl }

  keeps-shadow : KeepsShadow w.guest image d filled
  keeps-shadow = record {
    entry = λ i window. ap (λ f. f i) same-global;
    label = λ q own. ap (λ f. f q) same-label;
    words = λ q own differ. poked-others d image fields q differ;
  }

  front-small : FitsDwords front_place
  front-small zero = lit< tt
  front-small (suc zero) = lit< tt
  front-small (suc (suc zero)) = lit< tt
  front-small (suc (suc (suc zero))) = lit< tt
  front-small (suc (suc (suc (suc zero)))) = lit< tt
  front-small (suc (suc (suc (suc (suc zero))))) = lit< tt
  front-small (suc (suc (suc (suc (suc (suc zero)))))) = lit< tt
  front-small (suc (suc (suc (suc (suc (suc (suc k))))))) = lit< tt

  module _ (items : Items) (is : IsProgramOf engine ring batches items) where
    may-run : IsProgramOf w.engine ring batches items
    may-run = subst (λ e. IsProgramOf e ring batches items) (sym built.window.engine_is) is

    runs-filled : WorksAs filled w root_page front (begun items)
    runs-filled = record {
      shows = shows-filled;
      context = record { descriptor = refl; owner = refl; start = refl; tail = refl; root = refl };
      image = subst (HoldsContext filled) context-is own-holds;
      small = front-small;
      layout = placed_layout (batches_address w.guest w.engine) is.program.layout;
      base = refl;
      few = let l = length-all (batches_address w.guest w.engine) is.program.layout.batches is.program.is.batch_copies in let m = ap length is.program.is.batches_are in let f = built.few in omega arith;
      stands = loaded-stands filled image front w.engine (batches_address w.guest w.engine) ring batches items is.program may-run.stand
          (copied-kept w.guest image d filled keeps-shadow (placed_layout (batches_address w.guest w.engine) is.program.layout) (ring_address w.guest w.engine) (built.copied is.program.layout is.program.is))
          refl built.tail;
      form = record { ring = may-run.stand; first = tt; second = tt };
      short = record { ring = is.short; first = tt; second = tt };
    }

    -- and the context is loaded
    loaded-begins : (g : Device) (spare root tail : ℕ) → g ≡ started filled spare engine guest descriptor → WorksWith g guest engine true root_page (record { root = root; tail = tail; window = w }) (begun items)
    loaded-begins g spare root tail start =
        let e = started filled spare engine guest descriptor in
        let x : Held = record { root = root; tail = tail; window = w } in
        let s = with_spare filled spare in
        let keeps_spare : KeepsWindow w filled s = record { entry = λ i h. refl; label = λ k h. refl; words = λ k h. refl } in
        let keeps : KeepsWindow w filled e = record { entry = λ i h. refl; label = λ k h. refl; words = λ k h. refl } in
        let shows_spare : Shows s w = shows-same filled s w built.window.tail_below (λ i h. refl) (λ k h. refl) (λ k h. refl) shows-filled in
        let has_spare = shows-image s w small-guest small-engine built.window.two shows_spare in
        let c : context_of s guest descriptor ≡ front = context-kept filled s w.guest descriptor image has-filled has_spare refl guest ∙ ap (λ o. context_of filled o descriptor) (sym built.window.guest_is) ∙ context-is in
        let there : e.loaded engine ≡ Some front = put-same filled.loaded engine (Some (context_of s guest descriptor)) ∙ ap (λ l. Some l) c in
        let P : Device → Type 0 = λ y. WorksWith y guest engine true root_page x (begun items) in
        subst P (sym start)
        (works-with e guest engine true root_page x front (begun items) built.window
        (runs-kept guest engine root_page filled e w built.window shows-filled keeps front (begun items) runs-filled)
        (λ h. there)
        (ap (λ o. loaded_or o (context_of e guest (descriptor_at guest engine))) there))

pub begins : (d : Device) (guest engine : ℕ) (w : Window) (ring batches : List ℕ) → Built d guest engine w ring batches → (root_page : ℕ) → root_page < 131072
    → (f g : Device) (spare root tail : ℕ) → f ≡ image_filled d w root_page → g ≡ started f spare engine guest (descriptor_at w.guest w.engine) → Begins g guest engine root_page ring batches (record { root = root; tail = tail; window = w })
begins d guest engine w ring batches built root_page low f g spare root tail fill start = λ items is.
    loaded-begins d guest engine w ring batches built root_page low items is g spare root tail (start ∙ ap (λ x. started x spare engine guest (descriptor_at w.guest w.engine)) fill)
