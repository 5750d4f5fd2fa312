-- A context that is put away, and one that is brought back.
use Rattle.std.proofs.Common.{◌≡◌, ◌≢◌, ℕ, ◌+◌, ◌<◌, Bool, true, false, eqb, List, length, Option, None, Some, refl, ap, sym, subst, ◌∙◌, arith}
use Rattle.std.proofs.lemmas.Bool.{eqb-true}
use Rattle.std.proofs.lemmas.Bool.Decides.{nat_tests}
use Rattle.gv_ctx.specs.Saved.{fields_of}
use Rattle.gv_gpu.specs.Context.{context_of, context_saved, stopped, stopped_with, context_submitted}
use Rattle.gv_gpu.specs.Device.{Device, Loaded, with_loaded}
use Rattle.gv_place.specs.Place.{StandsFor}
use Rattle.gv_place.proofs.Contexts.{stopped-stands}
use Rattle.gv_sctx.specs.Context.{HasImage}
use Rattle.gv_sctx.proofs.Dwords.{fields_in}
use Rattle.gv_sctx.proofs.Saving.{with_words, put-other, stopped-is, stopped-context, stopped-image, stopped-holds, submitted-context}
use Rattle.gv_sring.specs.Window.{Window, first_of, page_at, Shows, descriptor_at}
use Rattle.gv_sring.proofs.Windows.{shows-same, put-same}
use Rattle.gv_sring.proofs.WindowReads.{shows-image}
use Rattle.gv_element.specs.Works.{Held, loaded_or, context_now, left_of, Works, WorksWith, WorksAs, Rests, KeepsWindow, StopsWork, ResumesWork}
use Rattle.gv_element.proofs.Staying.{works-with, runs-kept}
use Rattle.gv_element.proofs.Going.{ended-rests}

module _ (d : Device) (guest engine root_page : ℕ) (x : Held) (works : Works d guest engine true root_page x) where
  abbrev w : Window
  w = x.window

  abbrev l : Loaded
  l = context_now d guest engine true

  abbrev image : ℕ
  image = page_at w 1

  abbrev e : Device
  e = stopped d engine

  abbrev words : List ℕ
  words = fields_in (d.words image) (fields_of l.place) 7

  abbrev put_away : Device
  put_away = with_loaded (with_words d image words) engine None

  has : HasImage d l.owner l.descriptor image
  has =
      let small_guest : w.guest < 8 = (let a = works.window.guest_is in let b = works.window.guest_below in omega arith) in
      let small_engine : w.engine < 4 = (let a = works.window.engine_is in let b = works.window.engine_below in omega arith) in
      let P : ℕ → ℕ → Type 0 = λ g n. HasImage d g n image in
      subst (λ g. P g l.descriptor) (sym works.runs.context.owner) (subst (P w.guest) (sym works.runs.context.descriptor) (shows-image d w small_guest small_engine works.window.two works.runs.shows))

  there : d.loaded engine ≡ Some l
  there = works.loaded refl

  -- the place goes into the image, and no context is loaded
  pub is-put-away : e ≡ put_away
  is-put-away = stopped-is d image engine l there has works.runs.small

  lengths : (q : ℕ) (b : Bool) → eqb q image ≡ b → length (e.words q) ≡ length (d.words q)
  lengths q true hit =
      let same = eqb-true q image hit in
      ap (λ n. length (e.words n)) same ∙ (stopped-image d image engine l there has works.runs.small).long ∙ sym has.long ∙ sym (ap (λ n. length (d.words n)) same)
  lengths q false miss = let differ : q ≢ image = grind (arith, nat_tests) in ap (λ (y : Device). length (y.words q)) is-put-away ∙ ap length (put-other d.words image words q differ)

  shows : Shows e w
  shows = shows-same d e w works.window.tail_below (λ i h. ap (λ (y : Device). y.global (first_of w + i)) is-put-away) (λ k h. ap (λ (y : Device). y.label (page_at w k)) is-put-away) (λ k h. lengths (page_at w k) (eqb (page_at w k) image) refl) works.runs.shows

  back : context_of e l.owner l.descriptor ≡ l
  back = stopped-context d image engine l there has works.runs.small works.runs.image

  runs : WorksAs e w root_page l (left_of d guest engine true)
  runs = record {
    shows = shows;
    context = works.runs.context;
    image = stopped-holds d image engine l there has works.runs.small works.runs.image;
    small = works.runs.small;
    layout = works.runs.layout;
    base = works.runs.base;
    few = works.runs.few;
    stands = (let P : Loaded → Type 0 = λ c. StandsFor e image works.runs.layout c (left_of d guest engine true) in
        subst P back (stopped-stands d engine image works.runs.layout l (left_of d guest engine true) there has works.runs.image works.runs.small works.runs.stands));
    form = works.runs.form;
    short = works.runs.short;
  }

  -- the one that the engine would load again
  resting : context_of e guest (descriptor_at guest engine) ≡ l
  resting =
      ap (λ g. context_of e g (descriptor_at guest engine)) (sym (works.runs.context.owner ∙ works.window.guest_is))
      ∙ ap (context_of e l.owner) (sym (works.runs.context.descriptor ∙ ap (λ g. descriptor_at g w.engine) works.window.guest_is ∙ ap (descriptor_at guest) works.window.engine_is))
      ∙ back

  pub stopped-works : WorksWith (stopped d engine) guest engine false root_page x (left_of d guest engine true)
  stopped-works = works-with e guest engine false root_page x l (left_of d guest engine true) works.window runs (λ no. cc) resting

pub submitted-works : (d : Device) (guest engine root_page : ℕ) (x : Held) → Works d guest engine false root_page x → d.loaded engine ≡ None
    → WorksWith (context_submitted d engine guest (descriptor_at guest engine)) guest engine true root_page x (left_of d guest engine false)
submitted-works d guest engine root_page x works none =
    let l = context_of d guest (descriptor_at guest engine) in
    let e = with_loaded d engine (Some l) in
    let there : e.loaded engine ≡ Some l = put-same d.loaded engine (Some l) in
    let keeps : KeepsWindow x.window d e = record { entry = λ i h. refl; label = λ k h. refl; words = λ k h. refl } in
    let P : Device → Type 0 = λ y. WorksWith y guest engine true root_page x (left_of d guest engine false) in
    subst P (sym (submitted-context d engine guest (descriptor_at guest engine) none))
    (works-with e guest engine true root_page x l (left_of d guest engine false) works.window
    (runs-kept guest engine root_page d e x.window works.window works.runs.shows keeps l (left_of d guest engine false) works.runs)
    (λ h. there)
    (ap (λ o. loaded_or o (context_of e guest (descriptor_at guest engine))) there))

-- with a context or without
pub stopped-unloads : (d : Device) (engine : ℕ) → (stopped d engine).loaded engine ≡ None
unfolding stopped
stopped-unloads d engine = by (d.loaded engine) refl
  where
    by : (o : Option Loaded) → d.loaded engine ≡ o → (stopped_with d engine o).loaded engine ≡ None
    by None empty = empty
    by (Some l) full = put-same (context_saved d (Some l)).loaded engine None

pub stopped-rests : (d : Device) (guest engine root_page : ℕ) (x : Held) → Works d guest engine true root_page x → Rests (stopped d engine) x.window
stopped-rests d guest engine root_page x works =
    ended-rests (stopped d engine) (stopped d engine) guest engine false root_page x (stopped-works d guest engine root_page x works).works
    (record { entry = λ i h. refl; label = λ k h. refl; words = λ k h. refl }) (stopped-unloads d engine)

-- ---- in code

pub stops-work : (d e : Device) (engine : ℕ) (x : Held) → x.window.engine ≡ engine → e ≡ stopped d engine → StopsWork d e x
stops-work d e engine x is ran root_page works =
    let P : Device → Type 0 = λ y. WorksWith y x.window.guest x.window.engine false root_page x (left_of d x.window.guest x.window.engine true) in
    subst P (ap (stopped d) is ∙ sym ran) (stopped-works d x.window.guest x.window.engine root_page x works)

pub resumes-work : (d e : Device) (guest engine descriptor : ℕ) (x : Held) → x.window.guest ≡ guest → x.window.engine ≡ engine → descriptor ≡ descriptor_at x.window.guest x.window.engine → d.loaded engine ≡ None
    → e ≡ context_submitted d engine guest descriptor → ResumesWork d e x
resumes-work d e guest engine descriptor x guest_is engine_is named idle ran root_page works =
    let P : Device → Type 0 = λ y. WorksWith y x.window.guest x.window.engine true root_page x (left_of d x.window.guest x.window.engine false) in
    let same = ap (context_submitted d engine guest) named ∙ ap (λ g. context_submitted d engine g (descriptor_at x.window.guest x.window.engine)) (sym guest_is) ∙ ap (λ n. context_submitted d n x.window.guest (descriptor_at x.window.guest x.window.engine)) (sym engine_is) in
    subst P (sym (ran ∙ same)) (submitted-works d x.window.guest x.window.engine root_page x works (ap d.loaded engine_is ∙ idle))
