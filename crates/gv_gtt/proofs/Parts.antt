-- Parts of the device that a guest's memory and tables have, together and apart.
use Rattle.std.proofs.Common.{◌≡◌, ℕ, Bool, true, false, ◌||◌, [], Option, None, Some, refl, ap, sym, ◌∙◌, cond, arith}
use Rattle.std.proofs.lemmas.Bool.{eq-eqb, or_right}
use Rattle.std.proofs.lemmas.Bool.Decides.{nat_tests}
use Rattle.gv_types.specs.declared.ids.Label.{Label}
use Rattle.gv_types.specs.declared.ranges.Ranges.{Ranges}
use Rattle.gv_gpu.specs.Change.{ChangesOnly, Leaves}
use Rattle.gv_gpu.specs.Device.{Device}
use Rattle.gv_gpu.specs.Part.{Part, Apart, Within, outside, frames_part, entries_part, is_frame_of, is_shadow_of, shadow_label}
use Rattle.gv_gpu.proofs.Changes.{leaves}
use Rattle.gv_gpu.proofs.Parts.{outside-widen}
use Rattle.gv_gpu.proofs.Seen.{label-same, words-same}
use Rattle.gv_shape.specs.Shadow.{Pages}
use Rattle.gv_shape.specs.Shadows.{KeepsPages}
use Rattle.gv_sppgtt.specs.State.{own_part, shadow_part}
use Rattle.gv_sppgtt.specs.declared.tables.Tables.{Tables}
use Rattle.gv_gtt.specs.Gtt.{both}

-- ---- both of two parts

twice : {A : Type 0} (a b : Bool) (x none : A) → cond (a || b) none x ≡ cond b none (cond a none x)
twice true true x none = refl
twice true false x none = refl
twice false b x none = refl

-- The device without both is that without one and then without the other.
pub outside-both : (p q : Part) (d : Device) → outside (both p q) d ≡ outside q (outside p d)
outside-both p q d = λ i. record (outside (both p q) d) {
  label = λ n. page n (d.label n) None i;
  words = λ n. page n (d.words n) [] i;
  global = λ n. twice (p.entry n) (q.entry n) (d.global n) 0 i;
  general = λ e. twice (p.engine e) (q.engine e) (d.general e) (λ _. 0) i;
  loaded = λ e. twice (p.engine e) (q.engine e) (d.loaded e) None i;
  spare = twice p.spare q.spare d.spare 0 i;
}
  where
    same : {A : Type 0} (b : Bool) (none : A) → none ≡ cond b none none
    same true none = refl
    same false none = refl

    by_label : {A : Type 0} (n : ℕ) (b : Bool) (x none : A) → cond (b || q.page n (d.label n)) none x ≡ cond (q.page n (cond b None (d.label n))) none (cond b none x)
    by_label n true x none = same (q.page n None) none
    by_label n false x none = refl

    page : {A : Type 0} (n : ℕ) (x none : A) → cond (p.page n (d.label n) || q.page n (d.label n)) none x ≡ cond (q.page n (cond (p.page n (d.label n)) None (d.label n))) none (cond (p.page n (d.label n)) none x)
    page n x none = by_label n (p.page n (d.label n)) x none

-- what changes the first part alone, which may be another one afterwards
pub outside-first : (p r q : Part) (d e : Device) → outside r e ≡ outside p d → outside (both r q) e ≡ outside (both p q) d
outside-first p r q d e same = outside-both r q e ∙ ap (outside q) same ∙ sym (outside-both p q d)

-- what changes the second part alone
pub outside-second : (p q : Part) (d e : Device) → outside q e ≡ outside q d → outside (both p q) e ≡ outside (both p q) d
outside-second p q d e same = outside-widen q q (both p q) d e within within same
  where
    within : Within q (both p q)
    within = record {
      page = λ n l h. or_right (p.page n l) (q.page n l) h;
      entry = λ i h. or_right (p.entry i) (q.entry i) h;
      engine = λ k h. or_right (p.engine k) (q.engine k) h;
      spare = λ h. or_right p.spare q.spare h;
    }

-- ---- shadow tables

-- A change of frames leaves the shadow pages.
frame_not_shadow : (guest : ℕ) (l : Option Label) → is_frame_of guest l ≡ true → is_shadow_of guest l ≡ false
frame_not_shadow guest None is = refl
frame_not_shadow guest (Some l) is = grind (arith, nat_tests)

apart-frames-shadow : (guest : ℕ) → Apart (frames_part guest) (shadow_part guest)
apart-frames-shadow guest = record {
  dead = λ n. refl;
  page = λ n l h. frame_not_shadow guest l h;
  entry = λ i h. refl;
  engine = λ e h. refl;
  spare = λ h. refl;
}

pub own_shadow : (guest : ℕ) → is_shadow_of guest (Some (shadow_label guest)) ≡ true
own_shadow guest = rw (eq-eqb guest guest refl) refl

module _ (pages : Pages) (guest : ℕ) (d e : Device) (labelled : (level frame p : ℕ) → pages level frame ≡ Some p → d.label p ≡ Some (shadow_label guest)) where
  -- Nodes' pages are as they were where a part is that has them.
  pub pages-left : (w : Part) → ((level frame p : ℕ) → pages level frame ≡ Some p → w.page p (Some (shadow_label guest)) ≡ true) → Leaves w d e → KeepsPages pages d e
  pages-left w own left = record {
    label = λ level frame p is. label-same w d e left.same p (shadow_label guest) (own level frame p is) (labelled level frame p is) ∙ sym (labelled level frame p is);
    words = λ level frame p is. words-same w d e left.same p (shadow_label guest) (own level frame p is) (labelled level frame p is);
  }

  pub pages-frames : (n : ℕ) → ChangesOnly (frames_part guest) n d e → KeepsPages pages d e
  pages-frames n changes = pages-left (shadow_part guest) (λ level frame p is. own_shadow guest) (leaves (apart-frames-shadow guest) changes)

-- A change of entries leaves every page.
pub pages-entries : (pages : Pages) (ranges : Ranges) (n : ℕ) (d e : Device) → ChangesOnly (entries_part ranges) n d e → KeepsPages pages d e
pages-entries pages ranges n d e changes = record {
  label = λ level frame p is. ap (λ (x : Device). x.label p) changes.outside;
  words = λ level frame p is. ap (λ (x : Device). x.words p) changes.outside;
}

-- A change of shadow tables, or of frames, leaves every entry.
pub entries-tables : (guest : ℕ) (t u : Tables) (d e : Device) → outside (own_part guest u) e ≡ outside (own_part guest t) d → (page : ℕ) → e.global page ≡ d.global page
entries-tables guest t u d e same page = ap (λ (x : Device). x.global page) same

pub entries-frames : (guest n : ℕ) (d e : Device) → ChangesOnly (frames_part guest) n d e → (page : ℕ) → e.global page ≡ d.global page
entries-frames guest n d e changes page = ap (λ (x : Device). x.global page) changes.outside
