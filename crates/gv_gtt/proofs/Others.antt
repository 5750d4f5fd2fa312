-- What a call of a guest's memory and tables leaves of the device.
use Rattle.std.proofs.Common.{◌≡◌, ℕ, Bool, true, false, ◌||◌, ◌&&◌, cond, [], Option, None, Some, refl, sym, ap, ◌∙◌, subst}
use Rattle.std.proofs.lemmas.Bool.{false≢true, eq-eqb, or_left, or_right}
use Rattle.gv_types.specs.declared.ids.Label.{Label}
use Rattle.gv_types.specs.declared.ranges.Ranges.{Ranges}
use Rattle.gv_entry.specs.Ranges.{owns_page}
use Rattle.gv_gpu.specs.Change.{Leaves}
use Rattle.gv_gpu.specs.Device.{Device}
use Rattle.gv_gpu.specs.Part.{Part, Within, inside, guest_part, standing_part, is_in_windows, is_named, is_page_of, is_shadow_of, is_frame_of, shadow_label}
use Rattle.gv_gpu.proofs.Parts.{outside-widen}
use Rattle.gv_guest.specs.Placed.{Placed, frame_label}
use Rattle.gv_guest.proofs.Written.{own_frame}
use Rattle.gv_sppgtt.specs.State.{own_in}
use Rattle.gv_sppgtt.proofs.OwnPages.{page-own}
use Rattle.gv_gtt.specs.Changes.{Changes}
use Rattle.gv_gtt.specs.Gtt.{gtt_part, number_of, ranges_of}
use Rattle.gv_gtt.specs.Laws.{Covers, OtherPart, ChangesStayInside, ChangesLeaveOthers}
use Rattle.gv_gtt.specs.declared.gtt.Gtt.{Gtt}
use Rattle.gv_gtt.proofs.Parts.{own_shadow}

-- ---- up: the guest's whole part

either : (a b : Bool) (P : Type 0) → (a || b) ≡ true → (a ≡ true → P) → (b ≡ true → P) → P
either true b P is first second = first refl
either false b P is first second = second is

and-right : (a b : Bool) → (a && b) ≡ true → b ≡ true
and-right true b h = h
and-right false b h = cc

and-left : (a b : Bool) → (a && b) ≡ true → a ≡ true
and-left true b h = refl
and-left false b h = cc

shadow-page : (guest : ℕ) (l : Option Label) → is_shadow_of guest l ≡ true → is_page_of guest l ≡ true
shadow-page guest None is = is
shadow-page guest (Some l) is = and-left _ l.shadow is

frame-page : (guest : ℕ) (l : Option Label) → is_frame_of guest l ≡ true → is_page_of guest l ≡ true
frame-page guest None is = is
frame-page guest (Some l) is = and-left _ _ is

pub gtt-within : (g : Gtt) (here : ℕ → Bool) → Within (gtt_part g) (guest_part (number_of g) (ranges_of g) here)
gtt-within g here = record {
  page = λ n l h. either (is_named (own_in g.tables.nodes) n && is_shadow_of (number_of g) l) (is_frame_of (number_of g) l) (is_page_of (number_of g) l ≡ true) h
      (λ node. shadow-page (number_of g) l (and-right (is_named (own_in g.tables.nodes) n) (is_shadow_of (number_of g) l) node))
      (λ frame. frame-page (number_of g) l frame);
  entry = λ i h. or_left (owns_page (ranges_of g) i) (is_in_windows (number_of g) i) h;
  engine = λ e h. absurd (false≢true h);
  spare = λ h. refl;
}

-- ---- parts that cover theirs

-- the part of their own
pub part-covers : (g : Gtt) → Covers (gtt_part g) g
part-covers g = record {
  frames = λ n. or_right (is_named (own_in g.tables.nodes) n && is_shadow_of (number_of g) (Some (frame_label (number_of g)))) (is_frame_of (number_of g) (Some (frame_label (number_of g)))) (own_frame (number_of g));
  entries = λ page own. own;
  nodes = λ level frame p is. or_left (is_named (own_in g.tables.nodes) p && is_shadow_of (number_of g) (Some (shadow_label (number_of g)))) (is_frame_of (number_of g) (Some (shadow_label (number_of g))))
      (ap (λ b. b && is_shadow_of (number_of g) (Some (shadow_label (number_of g)))) (page-own g.tables.nodes level frame p is) ∙ own_shadow (number_of g));
}

-- what of the guest's part no other guest changes
pub standing-covers : (g : Gtt) (here : ℕ → Bool) → Covers (standing_part (number_of g) (ranges_of g) here) g
standing-covers g here = record {
  frames = λ n. eq-eqb (number_of g) (number_of g) refl;
  entries = λ page own. or_left (owns_page (ranges_of g) page) (is_in_windows (number_of g) page) own;
  nodes = λ level frame p is. eq-eqb (number_of g) (number_of g) refl;
}

pub changes_stay_inside : ChangesStayInside
changes_stay_inside d e old new here changes =
    let after : Within (gtt_part new) (guest_part (number_of old) (ranges_of old) here) =
    (subst (λ n. Within (gtt_part new) (guest_part n (ranges_of old) here)) (ap (λ (placed : Placed). placed.guest) changes.frames) (subst (λ (r : Ranges). Within (gtt_part new) (guest_part (number_of new) r here)) changes.ranges (gtt-within new here))) in
    outside-widen (gtt_part old) (gtt_part new) (guest_part (number_of old) (ranges_of old) here) d e (gtt-within old here) after changes.outside

-- ---- sideways: other parts

-- what stands outside of the part before stands there after
module _ (d e : Device) (old new : Gtt) (changes : Changes d e old new) where
  hidden : (b : Bool) (x : Option Label) (l : Label) → cond b None x ≡ Some l → (b ≡ false) × (x ≡ Some l)
  hidden true x l is = cc
  hidden false x l is = (refl, is)

  module _ (n : ℕ) (l : Label) (there : d.label n ≡ Some l) (apart : (gtt_part old).page n (Some l) ≡ false) where
    not_in : (gtt_part old).page n (d.label n) ≡ false
    not_in = ap ((gtt_part old).page n) there ∙ apart

    after : ((gtt_part new).page n (e.label n) ≡ false) × (e.label n ≡ Some l)
    after = hidden ((gtt_part new).page n (e.label n)) (e.label n) l (ap (λ (x : Device). x.label n) changes.outside ∙ ap (λ b. cond b None (d.label n)) not_in ∙ there)

    pub label-stays : e.label n ≡ Some l
    label-stays = after.1

    pub words-stay : e.words n ≡ d.words n
    words-stay = sym (ap (λ b. cond b [] (e.words n)) after.0) ∙ ap (λ (x : Device). x.words n) changes.outside ∙ ap (λ b. cond b [] (d.words n)) not_in

  entry-stays : (i : ℕ) → owns_page (ranges_of old) i ≡ false → e.global i ≡ d.global i
  entry-stays i apart =
      let before : (gtt_part old).entry i ≡ false = apart in
      let same : (gtt_part new).entry i ≡ false = ap (λ (r : Ranges). owns_page r i) changes.ranges ∙ apart in
      sym (ap (λ b. cond b 0 (e.global i)) same) ∙ ap (λ (x : Device). x.global i) changes.outside ∙ ap (λ b. cond b 0 (d.global i)) before

  module _ (q : Part) (other : OtherPart q d old) where
    -- a page that isn't in the part before isn't in it after
    gone : {A : Type 0} (n : ℕ) (h none : A) (x : Option Label) (y : Option Label) → d.label n ≡ x → q.page n x ≡ false → cond (q.page n y) h none ≡ none
    gone n h none x None a out = ap (λ c. cond c h none) (other.dead n)
    gone n h none x (Some k) a out = by (q.page n (Some k)) refl
      where
        by : (c : Bool) → q.page n (Some k) ≡ c → cond c h none ≡ none
        by true mine = absurd (false≢true (sym out ∙ ap (λ z. q.page n z) (sym a ∙ (other.page n k mine).0) ∙ mine))
        by false mine = refl

    page_same : {A : Type 0} (n : ℕ) (f h : A) (none : A) (x y : Option Label) → d.label n ≡ x → e.label n ≡ y
        → ((l : Label) → d.label n ≡ Some l → (gtt_part old).page n (Some l) ≡ false → (e.label n ≡ Some l) × (h ≡ f)) → cond (q.page n y) h none ≡ cond (q.page n x) f none
    page_same n f h none None y a b stays = gone n h none None y a (other.dead n) ∙ sym (ap (λ c. cond c f none) (other.dead n))
    page_same n f h none (Some l) y a b stays = by (q.page n (Some l)) refl
      where
        by : (c : Bool) → q.page n (Some l) ≡ c → cond (q.page n y) h none ≡ cond c f none
        by true own =
            let kept = stays l a (other.page n l own).1 in
            ap (λ z. cond (q.page n z) h none) (sym b ∙ kept.0) ∙ ap (λ c. cond c h none) own ∙ kept.1
        by false own = gone n h none (Some l) y a own

    pub leaves-other : Leaves q d e
    leaves-other = record {
      same = λ i. record (inside q d) {
        label = λ n. page_same n (d.label n) (e.label n) None (d.label n) (e.label n) refl refl (λ l is apart. (label-stays n l is apart, label-stays n l is apart ∙ sym is)) i;
        words = λ n. page_same n (d.words n) (e.words n) [] (d.label n) (e.label n) refl refl (λ l is apart. (label-stays n l is apart, words-stay n l is apart)) i;
        global = λ n. entry n (q.entry n) refl i;
        general = λ k. cond (q.engine k) (ap (λ (x : Device). x.general k) changes.outside i) (λ _. 0);
        loaded = λ k. cond (q.engine k) (ap (λ (x : Device). x.loaded k) changes.outside i) None;
        spare = cond q.spare (ap (λ (x : Device). x.spare) changes.outside i) 0;
      };
    }
      where
        entry : (n : ℕ) (b : Bool) → q.entry n ≡ b → cond b (e.global n) 0 ≡ cond b (d.global n) 0
        entry n true own = entry-stays n (other.entry n own)
        entry n false own = refl

pub changes_leave_others : ChangesLeaveOthers
changes_leave_others d e old new q changes other = leaves-other d e old new changes q other
