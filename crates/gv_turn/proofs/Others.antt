-- The guest's elements on other engines stay at work.
use Rattle.std.proofs.Common.{◌≡◌, Bool, true, false, None, cond, sym, ap, ◌∙◌, subst, eqb}
use Rattle.std.proofs.lemmas.Bool.{ne_eqb}
use Rattle.gv_gpu.specs.Device.{Device}
use Rattle.gv_place.proofs.Kept.{stands-kept}
use Rattle.gv_place.specs.Place.{KeepsShadow}
use Rattle.gv_private.specs.Device.{PrivateDevice, Engine}
use Rattle.gv_types.specs.declared.ranges.Ranges.{Ranges}
use Rattle.gv_entry.specs.SameTables.{has}
use Rattle.gv_turn.specs.Laws.{OthersStay}
use Rattle.gv_turn.specs.Owned.{OwnsLeft}
use Rattle.gv_turn.proofs.Effects.{keeps-shadow}

hidden : {A : Type 0} (b : Bool) (x y none : A) → b ≡ false → cond b none x ≡ cond b none y → x ≡ y
hidden true x y none is h = cc
hidden false x y none is h = h

pub others_stay : OthersStay
others_stay d placed pages p engine w l image layout runs k v m other_image other_layout differ at =
    let away : eqb k engine ≡ false = ne_eqb k engine differ in
    let same = runs.device.outside in
    let engines = runs.went.others k differ in
    let works = runs.works in
    let ranges : runs.left.ranges ≡ p.ranges = ap (λ (q : PrivateDevice). q.ranges) runs.went.rest in
    let roots : runs.left.roots ≡ p.roots = ap (λ (q : PrivateDevice). q.roots) runs.went.rest in
    let keeps : KeepsShadow m.owner other_image d runs.after = subst (λ owner. KeepsShadow owner other_image d runs.after) (sym at.owner) (keeps-shadow placed.guest other_image d runs.after runs.device.unchanged) in
    record {
      number = works.number;
      parts = works.parts;
      awake = works.awake;
      stands = works.stands;
      memory = works.memory;
      shadows = works.shadows;
      mirrors = works.mirrors;
      general =
          ap (λ (e : Engine). e.general) engines
          ∙ at.general
          ∙ sym (hidden (eqb k engine) (runs.after.general k) (d.general k) (λ _. 0) away (ap (λ (x : Device). x.general k) same));
      element = ap (λ (e : Engine). e.element) engines ∙ at.element;
      root = ap (λ r. has r v.root) roots ∙ at.root;
      shadow_root = at.shadow_root;
      loaded = hidden (eqb k engine) (runs.after.loaded k) (d.loaded k) None away (ap (λ (x : Device). x.loaded k) same) ∙ at.loaded;
      owner = at.owner;
      place = stands-kept d runs.after other_image other_layout m v.left keeps at.place;
      left = at.left;
      owned = subst (λ (r : Ranges). OwnsLeft r v.left) (sym ranges) at.owned;
    }
