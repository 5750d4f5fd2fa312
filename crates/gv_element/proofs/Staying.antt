-- An element stays at work where its window stays.
use Rattle.std.proofs.Common.{◌≡◌, ℕ, ◌+◌, ◌*◌, ◌/◌, ◌^◌, ◌<◌, Bool, true, false, [], ◌∷◌, length, Some, refl, ap, sym, subst, ◌∙◌, arith, lit<}
use Rattle.gv_ctx.specs.Saved.{saved_of}
use Rattle.gv_fetch.specs.Left.{Left}
use Rattle.gv_gpu.specs.Change.{Leaves}
use Rattle.gv_gpu.specs.Context.{context_of, state_dword}
use Rattle.gv_gpu.specs.Device.{Device, Loaded}
use Rattle.gv_gpu.specs.Part.{Part, shadow_label}
use Rattle.gv_gpu.proofs.Seen.{label-same, words-same, global-same, loaded-same}
use Rattle.gv_place.specs.Seen.{left_seen}
use Rattle.gv_place.proofs.Seeing.{left-seen}
use Rattle.gv_sctx.specs.Image.{page_dword}
use Rattle.gv_sctx.specs.Context.{HasImage, HoldsContext}
use Rattle.gv_sctx.proofs.Saving.{state-dword}
use Rattle.gv_sring.specs.Copy.{Copied}
use Rattle.gv_sring.specs.Window.{Window, first_of, page_at, Shows, descriptor_at}
use Rattle.gv_sring.proofs.Slots.{in-window}
use Rattle.gv_sring.proofs.Windows.{shows-same}
use Rattle.gv_sring.proofs.WindowReads.{shows-image}
use Rattle.gv_element.specs.Works.{Held, loaded_or, context_now, left_of, IsContextOf, WorksAs, IsWindow, Works, WorksWith, KeepsWindow, Covers}
use Rattle.gv_element.proofs.Windowed.{copied-kept}

-- ---- from the context and what is left, to the element

pub works-with : (d : Device) (guest engine : ℕ) (here : Bool) (root_page : ℕ) (x : Held) (l : Loaded) (left : Left) → IsWindow guest engine x.window → WorksAs d x.window root_page l left
    → (here ≡ true → d.loaded engine ≡ Some l) → context_now d guest engine here ≡ l → WorksWith d guest engine here root_page x left
works-with d guest engine here root_page x l left window runs loaded is =
    let seen : left_of d guest engine here ≡ left = ap (left_seen d) is ∙ left-seen d (page_at x.window 1) runs.layout l x.window.engine left runs.stands runs.form runs.short in
    let P : Loaded → Type 0 = λ c. WorksAs d x.window root_page c left in
    let Q : Left → Type 0 = λ y. WorksAs d x.window root_page (context_now d guest engine here) y in
    record {
      works = record {
        window = window;
        loaded = λ h. loaded h ∙ ap (λ c. Some c) (sym is);
        runs = subst Q (sym seen) (subst P (sym is) runs);
      };
      remains = seen;
    }

-- ---- what is read of the image

module _ (d e : Device) (guest descriptor image : ℕ) (before : HasImage d guest descriptor image) (after : HasImage e guest descriptor image) (same : e.words image ≡ d.words image) where
  pub state-kept : (n : ℕ) → n < 1024 → state_dword e descriptor n ≡ state_dword d descriptor n
  state-kept n h = state-dword e guest descriptor image after n h ∙ ap (λ ws. page_dword ws n) same ∙ sym (state-dword d guest descriptor image before n h)

  pub context-kept : (owner : ℕ) → context_of e owner descriptor ≡ context_of d owner descriptor
  unfolding context_of
  context-kept owner = λ i. record {
    descriptor = descriptor;
    owner = owner;
    place = saved_of (state-kept 0x05 (lit< tt) i ∷ state-kept 0x0D (lit< tt) i ∷ state-kept 0x0F (lit< tt) i ∷ state-kept 0x11 (lit< tt) i ∷ state-kept 0x13 (lit< tt) i ∷ state-kept 0x15 (lit< tt) i ∷ state-kept 0x17 (lit< tt) i ∷ []);
    tail = state-kept 0x07 (lit< tt) i;
    ring_start = state-kept 0x09 (lit< tt) i;
    root = (state-kept 0x31 (lit< tt) i * 2 ^ 32 + state-kept 0x33 (lit< tt) i) / 4096;
  }

  pub holds-kept : (l : Loaded) → l.descriptor ≡ descriptor → HoldsContext d l → HoldsContext e l
  holds-kept l is h =
      let at : (n : ℕ) → n < 1024 → state_dword e l.descriptor n ≡ state_dword d l.descriptor n = (λ n b. ap (λ x. state_dword e x n) is ∙ state-kept n b ∙ sym (ap (λ x. state_dword d x n) is)) in
      record {
        tail = at 0x07 (lit< tt) ∙ h.tail;
        ring_start = at 0x09 (lit< tt) ∙ h.ring_start;
        root = ap (λ x. (x * 2 ^ 32 + state_dword e l.descriptor 0x33) / 4096) (at 0x31 (lit< tt)) ∙ ap (λ x. (state_dword d l.descriptor 0x31 * 2 ^ 32 + x) / 4096) (at 0x33 (lit< tt)) ∙ h.root;
      }

-- ---- the window stays

module _ (guest engine root_page : ℕ) (d e : Device) (w : Window) (window : IsWindow guest engine w) (shows : Shows d w) (keeps : KeepsWindow w d e) where
  small-guest : w.guest < 8
  small-guest = let a = window.guest_is in let b = window.guest_below in omega arith

  small-engine : w.engine < 4
  small-engine = let a = window.engine_is in let b = window.engine_below in omega arith

  one-there : 1 < length w.pages
  one-there = let t = window.two in omega arith

  pub shows-kept : Shows e w
  shows-kept = shows-same d e w window.tail_below keeps.entry keeps.label (λ k h. ap length (keeps.words k h)) shows

  image-before : HasImage d w.guest (descriptor_at w.guest w.engine) (page_at w 1)
  image-before = shows-image d w small-guest small-engine window.two shows

  image-after : HasImage e w.guest (descriptor_at w.guest w.engine) (page_at w 1)
  image-after = shows-image e w small-guest small-engine window.two shows-kept

  image-words : e.words (page_at w 1) ≡ d.words (page_at w 1)
  image-words = keeps.words 1 one-there

  -- the context that the engine would load
  pub resting-kept : context_of e guest (descriptor_at guest engine) ≡ context_of d guest (descriptor_at guest engine)
  resting-kept =
      let is : descriptor_at w.guest w.engine ≡ descriptor_at guest engine = ap (λ g. descriptor_at g w.engine) window.guest_is ∙ ap (descriptor_at guest) window.engine_is in
      ap (context_of e guest) (sym is) ∙ context-kept d e w.guest (descriptor_at w.guest w.engine) (page_at w 1) image-before image-after image-words guest ∙ ap (context_of d guest) is

  -- another place of the same context
  pub copies-kept : (l : Loaded) (runs_from : IsContextOf w root_page l) (left : Left) (runs : WorksAs d w root_page l left) → Copied e l.owner (page_at w 1) runs.layout l.ring_start
  copies-kept l context left runs =
      let P : ℕ → Device → Type 0 = λ owner x. Copied x owner (page_at w 1) runs.layout l.ring_start in
      let here : P w.guest d = subst (λ o. P o d) context.owner runs.stands.copied in
      subst (λ o. P o e) (sym context.owner) (copied-kept d e w (page_at w 1) shows keeps runs.layout l.ring_start context.start runs.base runs.few here)

  pub runs-kept : (l : Loaded) (left : Left) → WorksAs d w root_page l left → WorksAs e w root_page l left
  runs-kept l left runs = record {
    shows = shows-kept;
    context = runs.context;
    image = holds-kept d e w.guest (descriptor_at w.guest w.engine) (page_at w 1) image-before image-after image-words l runs.context.descriptor runs.image;
    small = runs.small;
    layout = runs.layout;
    base = runs.base;
    few = runs.few;
    stands = record { copied = copies-kept l runs.context left runs; tail = runs.stands.tail; place = runs.stands.place };
    form = runs.form;
    short = runs.short;
  }

-- the context as it is now stays
now-kept : (d e : Device) (guest engine : ℕ) (here : Bool) (l : Loaded) → (here ≡ true → e.loaded engine ≡ Some l) → (here ≡ true → context_now d guest engine here ≡ l) → (here ≡ false → l ≡ context_of d guest (descriptor_at guest engine)) → context_of e guest (descriptor_at guest engine) ≡ context_of d guest (descriptor_at guest engine) → context_now e guest engine here ≡ l
now-kept d e guest engine true l loaded is rest same = ap (λ o. loaded_or o (context_of e guest (descriptor_at guest engine))) (loaded refl)
now-kept d e guest engine false l loaded is rest same = same ∙ sym (rest refl)

resting : (d : Device) (guest engine : ℕ) (here : Bool) → here ≡ false → context_now d guest engine here ≡ context_of d guest (descriptor_at guest engine)
resting d guest engine true not = cc
resting d guest engine false not = refl

pub work-stays : (d e : Device) (guest engine : ℕ) (here : Bool) (root_page : ℕ) (x : Held) → Works d guest engine here root_page x → KeepsWindow x.window d e → (here ≡ true → e.loaded engine ≡ d.loaded engine)
    → WorksWith e guest engine here root_page x (left_of d guest engine here)
work-stays d e guest engine here root_page x works keeps same =
    let l = context_now d guest engine here in
    let left = left_of d guest engine here in
    let loaded : here ≡ true → e.loaded engine ≡ Some l = (λ h. same h ∙ works.loaded h) in
    works-with e guest engine here root_page x l left works.window
    (runs-kept guest engine root_page d e x.window works.window works.runs.shows keeps l left works.runs)
    loaded
    (now-kept d e guest engine here l loaded (λ h. refl) (resting d guest engine here) (resting-kept guest engine root_page d e x.window works.window works.runs.shows keeps))

-- ---- a part that stays

pub part-keeps : (d e : Device) (here : Bool) (w : Window) (q : Part) → Shows d w → Covers q here w → Leaves q d e → KeepsWindow w d e
part-keeps d e here w q shows covers left = record {
  entry = λ i h. global-same q d e left.same (first_of w + i) (covers.entry (first_of w + i) (in-window w.guest w.engine i h));
  label = λ k h. label-same q d e left.same (page_at w k) (shadow_label w.guest) (covers.page k h) (shows.label k h) ∙ sym (shows.label k h);
  words = λ k h. words-same q d e left.same (page_at w k) (shadow_label w.guest) (covers.page k h) (shows.label k h);
}

pub part-keeps-work : (d e : Device) (guest engine : ℕ) (here : Bool) (root_page : ℕ) (x : Held) (q : Part) → Works d guest engine here root_page x → Covers q here x.window → Leaves q d e
    → WorksWith e guest engine here root_page x (left_of d guest engine here)
part-keeps-work d e guest engine here root_page x q works covers left =
    work-stays d e guest engine here root_page x works (part-keeps d e here x.window q works.runs.shows covers left)
    (λ h. loaded-same q d e left.same engine (ap q.engine (sym works.window.engine_is) ∙ covers.engine h))
