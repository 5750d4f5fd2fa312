-- What calls leave of the copies that elements at work run from.
use Rattle.std.proofs.Common.{◌≡◌, ℕ, ◌<◌, Bool, true, false, Option, None, Some, [], if◌then◌else◌, refl, sym, ◌∙◌, subst}
use Rattle.std.proofs.lemmas.Option.{none-some}
use Rattle.gv_types.specs.declared.ids.Label.{Label}
use Rattle.gv_element.specs.Works.{Held, HasNoPage}
use Rattle.gv_gpu.specs.Device.{Device}
use Rattle.gv_gpu.specs.Part.{Part, outside, shadow_label}
use Rattle.gv_gtt.specs.Gtt.{gtt_part}
use Rattle.gv_sring.specs.Window.{Shows, Window, page_at}
use Rattle.gv_vgpu.specs.Changes.{Keeps, MayLoad}
use Rattle.gv_vgpu.specs.Copies.{CopiesStay, KeepsCopies, NoneComes}
use Rattle.gv_vgpu.specs.Vgpu.{element_in, engine_at}
use Rattle.gv_vgpu.specs.Standing.{Holds, StandsOn}
use Rattle.gv_vgpu.specs.declared.vgpu.Vgpu.{Vgpu}
use Rattle.gv_vgpu.proofs.Engines.{each-engine}

-- ---- pages that a part doesn't have

shown : {A : Type 0} (hidden : Bool) (x none : A) → hidden ≡ false → (if hidden then none else x) ≡ x
shown hidden x none is = λ i. if is i then none else x

label-shown : (hidden : Bool) (o : Option Label) (l : Label) → (if hidden then None else o) ≡ Some l → hidden ≡ false
label-shown true o l is = absurd (none-some l is)
label-shown false o l is = refl

-- A page that was live and in no part that changed has the words that it had.
pub words-kept :
    (d e : Device) (before after : Part) (page : ℕ) (l : Label) → d.label page ≡ Some l → before.page page (Some l) ≡ false → outside after e ≡ outside before d → e.words page ≡ d.words page
words-kept d e before after page l is missed same =
    sym (shown (after.page page (e.label page)) (e.words page) [] still)
    ∙ (λ i. (same i).words page)
    ∙ shown (before.page page (d.label page)) (d.words page) [] other
  where
    other : before.page page (d.label page) ≡ false
    other = (λ i. before.page page (is i)) ∙ missed

    still : after.page page (e.label page) ≡ false
    still =
        label-shown (after.page page (e.label page)) (e.label page) l
        ((λ i. (same i).label page) ∙ shown (before.page page (d.label page)) (d.label page) None other ∙ is)

-- and so have the copies of a window that no such part has a page of
pub copies-kept : (d e : Device) (before after : Part) (w : Window) → Shows d w → HasNoPage before w → outside after e ≡ outside before d → KeepsCopies w d e
copies-kept d e before after w shows missed same k two within =
    words-kept d e before after (page_at w k) (shadow_label w.guest) (shows.label k within) (missed k within) same

-- ---- no element comes

-- where the device and the elements are as they were
pub comes-none : (d : Device) (old new : Vgpu) → ((k : ℕ) → (engine_at new k).element ≡ (engine_at old k).element) → NoneComes d d old new
comes-none d old new elements k x is = (sym (elements k) ∙ is, λ j two within. refl)

-- one call after another
pub comes-then : (d e f : Device) (a b c : Vgpu) → NoneComes d e a b → NoneComes e f b c → NoneComes d f a c
comes-then d e f a b c first second k x is =
    let later = second k x is in
    let sooner = first k x later.0 in
    (sooner.0, λ j two within. later.1 j two within ∙ sooner.1 j two within)

-- where none is at work
pub comes-gone : (d e : Device) (old new : Vgpu) → ((k : ℕ) → (engine_at new k).element ≡ None) → NoneComes d e old new
comes-gone d e old new none k x is = absurd (none-some x (sym (none k) ∙ is))

-- no element in the private device, none at work
pub none-at-work : (d : Device) (guest engine : ℕ) (here : Bool) (element : Option Held) → element_in d guest engine here element ≡ None → element ≡ None
none-at-work d guest engine here None none = refl
none-at-work d guest engine here (Some x) none = absurd (none-some _ (sym none))

-- where each window's copies are kept, and the elements stay
pub comes-each :
    (d e : Device) (old new : Vgpu) (here : ℕ → Bool) → Holds d old here → ((k : ℕ) → (engine_at new k).element ≡ (engine_at old k).element)
    → ((k : ℕ) (x : Held) → k < 4 → (engine_at old k).element ≡ Some x → StandsOn d old k (here k) (Some x) → KeepsCopies x.window d e) → NoneComes d e old new
comes-each d e old new here holds elements keeps k x is = (at, each k x at at)
  where
    at : (engine_at old k).element ≡ Some x
    at = sym (elements k) ∙ is

    each : (k : ℕ) (x : Held) → (engine_at old k).element ≡ Some x → (engine_at old k).element ≡ Some x → KeepsCopies x.window d e
    each k = each-engine old (λ k element. (x : Held) → element ≡ Some x → (engine_at old k).element ≡ Some x → KeepsCopies x.window d e)
        (λ k four x is at. keeps k x four at (subst (λ o. StandsOn d old k (here k) o) is (holds.engines k four)))
        (λ k x is at. absurd (none-some x is)) k

-- where memory and tables changed alone
pub comes-tables :
    (d e : Device) (old new : Vgpu) (here : ℕ → Bool) (after : Part) → Holds d old here → outside after e ≡ outside (gtt_part old.gtt) d → ((k : ℕ) → (engine_at new k).element ≡ (engine_at old k).element) → NoneComes d e old new
comes-tables d e old new here after holds same elements =
    comes-each d e old new here holds elements (λ k x four at stands. copies-kept d e (gtt_part old.gtt) after x.window stands.works.runs.shows stands.apart same)

-- ---- an element may come

same-element : (o : Option Held) (x y : Held) → o ≡ Some x → o ≡ Some y → y ≡ x
same-element o x y one other = let same : Some y ≡ Some x = sym other ∙ one in cc

-- Where none comes, the copies stay.
pub comes-stay : (d e : Device) (old new : Vgpu) → NoneComes d e old new → CopiesStay d e old new
comes-stay d e old new comes k x y was is =
    let before = comes k y is in
    let same : y ≡ x = same-element (engine_at old k).element x y was before.0 in
    (same, subst (λ (z : Held). KeepsCopies z.window d e) same before.1)

pub may-load : (here : ℕ → Bool) (d e : Device) (old new : Vgpu) → Keeps here d e old new → MayLoad here d e old new
may-load here d e old new keeps = record {
  holds = keeps.holds;
  changes = keeps.changes;
  copies = comes-stay d e old new keeps.copies;
}

-- behind a call that leaves the elements
pub stay-then : (d e f : Device) (a b c : Vgpu) → ((k : ℕ) → (engine_at b k).element ≡ (engine_at a k).element) → NoneComes d e a b → CopiesStay e f b c → CopiesStay d f a c
stay-then d e f a b c elements first second k x y was is =
    let mid : (engine_at b k).element ≡ Some x = elements k ∙ was in
    let later = second k x y mid is in
    let sooner = first k x mid in
    (later.0, λ j two within. later.1 j two within ∙ sooner.1 j two within)
