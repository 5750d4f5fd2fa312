-- A window that was built, whose image is filled in with a place, holds an element at rest.
use Rattle.std.proofs.Common.{◌≡◌, ◌≢◌, ℕ, suc, zero, ◌+◌, ◌*◌, ◌^◌, ◌<◌, Bool, true, false, cond, eqb, ◌&&◌, List, [], length, Option, None, Some, refl, ap, sym, subst, ◌∙◌, arith, lit<}
use Rattle.std.specs.Prelude.{IfSome}
use Rattle.std.proofs.lemmas.Bool.{eqb-true, false≢true}
use Rattle.std.proofs.lemmas.Bool.Decides.{nat_tests}
use Rattle.gv_ctx.specs.Saved.{high_of, low_of, state_of}
use Rattle.gv_ctx.specs.declared.saved.Batch.{Batch}
use Rattle.gv_ctx.specs.declared.saved.Saved.{Saved}
use Rattle.gv_fetch.specs.Left.{Left}
use Rattle.gv_gpu.specs.Context.{context_of}
use Rattle.gv_gpu.specs.Device.{Device, Loaded}
use Rattle.gv_place.specs.Place.{KeepsShadow, StandsFor}
use Rattle.gv_place.proofs.Kept.{copied-kept}
use Rattle.gv_scan.specs.Layout.{placed_layout}
use Rattle.gv_scan.proofs.Placing.{length-all}
use Rattle.gv_sctx.specs.Context.{HasImage, HoldsContext, FitsDwords}
use Rattle.gv_sctx.specs.Image.{image_fields, AreDwords}
use Rattle.gv_sctx.proofs.Filling.{context-filled, poked-words, length-filled}
use Rattle.gv_sring.specs.Window.{Window, first_of, page_at, Shows, ring_address, batches_address, descriptor_at}
use Rattle.gv_sring.proofs.Windows.{shows-same}
use Rattle.gv_sring.proofs.WindowReads.{shows-image}
use Rattle.gv_place.specs.Placed.{placed_place}
use Rattle.gv_place.proofs.Putting.{follows-placed}
use Rattle.gv_element.specs.Place.{IsSmallPlace, image_put, IsProgramAt, RestsWith}
use Rattle.gv_element.specs.Works.{WorksAs, WorksWith}
use Rattle.gv_element.proofs.Loading.{Built, poked-is, poked-others}
use Rattle.gv_gpu.specs.Part.{outside, window_part, is_named, is_shadow_of, shadow_label}
use Rattle.gv_sctx.proofs.Filling.{poked-outside}
use Rattle.gv_sring.proofs.Named.{in-part}
use Rattle.gv_element.proofs.Loads.{Builds}
use Rattle.gv_element.proofs.Staying.{works-with}

-- ---- the fields of a place

state-small : (b : Option Batch) → state_of b < 2 ^ 32
state-small None = lit< tt
state-small (Some b) = by b.live
  where
    by : (v : Bool) → cond v 3 1 < 2 ^ 32
    by true = lit< tt
    by false = lit< tt

low-small : (b : Option Batch) → low_of b < 2 ^ 32
low-small None = lit< tt
low-small (Some b) = omega arith

high-small : (b : Option Batch) → IfSome b (λ (x : Batch). x.at < 2 ^ 48) → high_of b < 2 ^ 32
high-small None h = lit< tt
high-small (Some b) h = omega arith

pub place-small : (place : Saved) → IsSmallPlace place → FitsDwords place
place-small place small zero = small.ring
place-small place small (suc zero) = high-small place.first small.first
place-small place small (suc (suc zero)) = low-small place.first
place-small place small (suc (suc (suc zero))) = state-small place.first
place-small place small (suc (suc (suc (suc zero)))) = high-small place.second small.second
place-small place small (suc (suc (suc (suc (suc zero))))) = low-small place.second
place-small place small (suc (suc (suc (suc (suc (suc zero)))))) = state-small place.second
place-small place small (suc (suc (suc (suc (suc (suc (suc k))))))) = lit< tt

-- ---- the window

module _ (d : Device) (guest engine : ℕ) (w : Window) (ring batches : List ℕ) (built : Built d guest engine w ring batches) (place : Saved) (small : IsSmallPlace (placed_place (batches_address w.guest w.engine) place)) (root_page : ℕ) (low : root_page < 131072) where
  abbrev pub image : ℕ
  image = page_at w 1

  abbrev descriptor : ℕ
  descriptor = descriptor_at w.guest w.engine

  abbrev base : ℕ
  base = batches_address w.guest w.engine

  abbrev there : Saved
  there = placed_place base place

  abbrev pub fields : List (ℕ × ℕ)
  fields = image_fields (ring_address w.guest w.engine) there w.tail root_page

  abbrev pub filled : Device
  filled = image_put d w there root_page

  abbrev resting : Loaded
  resting = record { descriptor = descriptor; owner = w.guest; place = there; tail = w.tail; ring_start = ring_address w.guest w.engine; root = root_page }

  small-guest : w.guest < 8
  small-guest = let a = built.window.guest_is in let b = built.window.guest_below in omega arith

  small-engine : w.engine < 4
  small-engine = let a = built.window.engine_is in let b = built.window.engine_below in omega arith

  pub one-there : 1 < length w.pages
  one-there = let t = built.window.two in omega arith

  start-below : ring_address w.guest w.engine < 2 ^ 32
  start-below = let a = small-guest in let b = small-engine in omega arith

  base-below : base < 2 ^ 32
  base-below = let a = small-guest in let b = small-engine in omega arith

  tail-below : w.tail < 2 ^ 32
  tail-below = let t = built.window.tail_below in omega arith

  root-below : root_page * 0x1000 < 2 ^ 32
  root-below = omega arith

  fits : FitsDwords there
  fits = place-small there small

  dwords : AreDwords fields
  dwords = (
    lit< tt,
    fits 0,
    (
      lit< tt,
      fits 1,
      (
        lit< tt,
        fits 2,
        (
          lit< tt,
          fits 3,
          (
            lit< tt,
            fits 4,
            (
              lit< tt,
              fits 5,
              (
                lit< tt,
                fits 6,
                (lit< tt, tail-below, (lit< tt, start-below, (lit< tt, lit< tt, (lit< tt, lit< tt, (lit< tt, root-below, tt))))),
              ),
            ),
          ),
        ),
      ),
    ),
  )

  same-global : filled.global ≡ d.global
  same-global = ap (λ (x : Device). x.global) (poked-is d image fields)

  same-label : filled.label ≡ d.label
  same-label = ap (λ (x : Device). x.label) (poked-is d image fields)

  lengths : (q : ℕ) (b : Bool) → eqb q image ≡ b → length (filled.words q) ≡ length (d.words q)
  lengths q true is =
      let same = eqb-true q image is in
      ap (λ n. length (filled.words n)) same ∙ ap length (poked-words d image fields) ∙ length-filled (d.words image) fields ∙ sym (ap (λ n. length (d.words n)) same)
  lengths q false is = let differ : q ≢ image = grind (arith, nat_tests) in ap length (poked-others d image fields q differ)

  pub shows-filled : Shows filled w
  shows-filled = shows-same d filled w built.window.tail_below (λ i h. ap (λ f. f (first_of w + i)) same-global) (λ k h. ap (λ f. f (page_at w k)) same-label) (λ k h. lengths (page_at w k) (eqb (page_at w k) image) refl) built.shows

  has-filled : HasImage filled w.guest descriptor image
  has-filled = shows-image filled w small-guest small-engine built.window.two shows-filled

  context-is : context_of filled w.guest descriptor ≡ resting
  context-is = context-filled filled w.guest descriptor image w.guest (ring_address w.guest w.engine) there w.tail root_page (d.words image) has-filled (poked-words d image fields) (built.shows.long 1 one-there) dwords

  own-holds : HoldsContext filled (context_of filled w.guest descriptor)
  unfolding context_of
  own-holds = record { tail = refl; ring_start = refl; root = refl }

  keeps-shadow : KeepsShadow w.guest image d filled
  keeps-shadow = record {
    entry = λ i window. ap (λ f. f i) same-global;
    label = λ q own. ap (λ f. f q) same-label;
    words = λ q own differ. poked-others d image fields q differ;
  }

  module _ (left : Left) (is : IsProgramAt engine ring batches place left) where
    may-run : IsProgramAt w.engine ring batches place left
    may-run = subst (λ e. IsProgramAt e ring batches place left) (sym built.window.engine_is) is

    stands : StandsFor filled image (placed_layout base is.layout) resting left
    stands = record {
      copied = copied-kept w.guest image d filled keeps-shadow (placed_layout base is.layout) (ring_address w.guest w.engine) (built.copied is.layout is.is);
      tail = built.tail ∙ ap (λ n. 4 * n) (sym (length-all base is.layout.ring is.is.ring_copies ∙ ap length is.is.ring_is));
      place = follows-placed base is.layout is.is.offsets is.is.batch_copies engine place left is.is.ring_copies is.form is.follows;
    }

    runs-filled : WorksAs filled w root_page resting left
    runs-filled = record {
      shows = shows-filled;
      context = record { descriptor = refl; owner = refl; start = refl; tail = refl; root = refl };
      image = subst (HoldsContext filled) context-is own-holds;
      small = fits;
      layout = placed_layout base is.layout;
      base = refl;
      few = let l = length-all base is.layout.batches is.is.batch_copies in let m = ap length is.is.batches_are in let f = built.few in omega arith;
      stands = stands;
      form = may-run.form;
      short = is.short;
    }

    context-now : context_of filled guest (descriptor_at guest engine) ≡ resting
    context-now =
        ap (λ e. context_of filled guest (descriptor_at guest e)) (sym built.window.engine_is)
        ∙ ap (λ o. context_of filled o (descriptor_at o w.engine)) (sym built.window.guest_is)
        ∙ context-is

    rests-with : (root tail : ℕ) → WorksWith filled guest engine false root_page (record { root = root; tail = tail; window = w }) left
    rests-with root tail = works-with filled guest engine false root_page (record { root = root; tail = tail; window = w }) resting left built.window runs-filled (λ h. absurd (false≢true h)) context-now

pub put-rests : (d : Device) (guest engine : ℕ) (w : Window) (ring batches : List ℕ) → Built d guest engine w ring batches → (place : Saved) → IsSmallPlace (placed_place (batches_address w.guest w.engine) place) → (root_page : ℕ) → root_page < 131072
    → (f : Device) (root tail : ℕ) → f ≡ image_put d w (placed_place (batches_address w.guest w.engine) place) root_page → RestsWith f guest engine root_page ring batches place (record { root = root; tail = tail; window = w })
put-rests d guest engine w ring batches built place small root_page low f root tail fill = λ left is.
    subst (λ y. WorksWith y guest engine false root_page (record { root = root; tail = tail; window = w }) left) (sym fill) (rests-with d guest engine w ring batches built place small root_page low left is root tail)

-- ---- as the rest of the device sees it

module _ (before d f : Device) (guest engine : ℕ) (w : Window) (ring batches : List ℕ) (builds : Builds before d guest engine w ring batches) (place : Saved) (small : IsSmallPlace (placed_place (batches_address w.guest w.engine) place)) (root_page : ℕ) (low : root_page < 131072)
    (fill : f ≡ image_put d w (placed_place (batches_address w.guest w.engine) place) root_page) where
  abbrev pairs : List (ℕ × ℕ)
  pairs = fields d guest engine w ring batches builds.built place small root_page low

  there-is : f ≡ record d { words = f.words; pokes = f.pokes }
  there-is = fill ∙ poked-is d (page_at w 1) pairs ∙ sym (ap (λ (x : Device). record d { words = x.words; pokes = x.pokes }) fill)

  second-there : 1 < length w.pages
  second-there = one-there d guest engine w ring batches builds.built place small root_page low

  own-image : (is_named w.pages (page_at w 1) && is_shadow_of guest (d.label (page_at w 1))) ≡ true
  own-image = in-part guest engine w.pages 1 d second-there (builds.built.shows.label 1 second-there ∙ ap (λ n. Some (shadow_label n)) builds.built.window.guest_is)

  pub put-outside : outside (window_part guest engine w.pages) f ≡ outside (window_part guest engine []) before
  put-outside = ap (outside (window_part guest engine w.pages)) fill ∙ poked-outside (window_part guest engine w.pages) d (page_at w 1) pairs own-image ∙ builds.outside

  pub put-live : f.live ≡ before.live + length w.pages
  put-live = ap (λ (x : Device). x.live) there-is ∙ builds.live

  pub put-shows : Shows f w
  put-shows = subst (λ y. Shows y w) (sym fill) (shows-filled d guest engine w ring batches builds.built place small root_page low)

pub place-there : (w : Window) (guest engine : ℕ) (place : Saved) → (w.guest ≡ guest) × (w.engine ≡ engine) → IsSmallPlace (placed_place (batches_address guest engine) place) → IsSmallPlace (placed_place (batches_address w.guest w.engine) place)
place-there w guest engine place owner small =
    let P : ℕ → Type 0 = λ g. IsSmallPlace (placed_place (batches_address g engine) place) in
    let Q : ℕ → Type 0 = λ e. IsSmallPlace (placed_place (batches_address w.guest e) place) in
    subst Q (sym owner.1) (subst P (sym owner.0) small)
