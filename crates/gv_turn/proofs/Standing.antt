-- An element stays at work where all that stands of its guest is as it was.
use Rattle.std.proofs.Common.{◌≡◌, Bool, true, false, ◌||◌, refl, sym, ◌∙◌, subst}
use Rattle.std.proofs.lemmas.Bool.{eq-eqb}
use Rattle.gv_entry.specs.Ranges.{owns_page}
use Rattle.gv_gpu.specs.Change.{Leaves}
use Rattle.gv_gpu.specs.Part.{Part, is_in_windows, standing_part, shadow_label}
use Rattle.gv_gpu.proofs.Seen.{label-same, words-same, global-same, general-same, loaded-same}
use Rattle.gv_guest.proofs.Kept.{stands-kept, memory-kept}
use Rattle.gv_place.proofs.Kept.{part-keeps, stands-kept as place-kept}
use Rattle.gv_place.specs.Place.{KeepsShadow}
use Rattle.gv_private.specs.Grants.{page_grant}
use Rattle.gv_private.proofs.Granted.{tables-same}
use Rattle.gv_sggtt.specs.Mirror.{NamesFrame}
use Rattle.gv_shape.specs.Shadows.{KeepsPages}
use Rattle.gv_shape.proofs.Shadows.{shadows_keep}
use Rattle.gv_turn.specs.Laws.{PartKeepsWork}

either : (a b : Bool) → a ≡ true → (a || b) ≡ true
either true b is = is
either false b is = cc

or_second : (a b : Bool) → b ≡ true → (a || b) ≡ true
or_second true b is = cc
or_second false b is = is

pub part_keeps_work : PartKeepsWork
part_keeps_work d e here placed pages p engine w l image layout at mine same =
    let part : Part = standing_part placed.guest p.ranges here in
    let left : Leaves part d e = record { same = same } in
    let kept : KeepsPages pages d e = record {
      label = λ level frame page is.
          label-same part d e same page (shadow_label placed.guest) (eq-eqb placed.guest placed.guest refl) (at.shadows.local.labelled level frame page is)
          ∙ sym (at.shadows.local.labelled level frame page is);
      words = λ level frame page is. words-same part d e same page (shadow_label placed.guest) (eq-eqb placed.guest placed.guest refl) (at.shadows.local.labelled level frame page is);
    } in
    let shadow : KeepsShadow placed.guest image d e =
    part-keeps placed.guest image part d e (λ n. eq-eqb placed.guest placed.guest refl) (λ i window. or_second (owns_page p.ranges i) (is_in_windows placed.guest i) window) same in
    record {
      number = at.number;
      parts = at.parts;
      awake = at.awake;
      stands = stands-kept part d e placed (λ n. eq-eqb placed.guest placed.guest refl) left at.stands;
      memory = at.memory ∙ sym (memory-kept part d e placed (λ n. eq-eqb placed.guest placed.guest refl) left at.stands);
      shadows = shadows_keep d e placed p.memory p.memory p.roots pages kept (tables-same p.memory p.roots) at.shadows;
      mirrors = λ page owned.
          subst (λ entry. NamesFrame placed (page_grant p page) entry) (sym (global-same part d e same page (either (owns_page p.ranges page) (is_in_windows placed.guest page) owned)))
          (at.mirrors page owned);
      general = at.general ∙ sym (general-same part d e same engine mine);
      element = at.element;
      root = at.root;
      shadow_root = at.shadow_root;
      loaded = loaded-same part d e same engine mine ∙ at.loaded;
      owner = at.owner;
      place = place-kept d e image layout l w.left (subst (λ owner. KeepsShadow owner image d e) (sym at.owner) shadow) at.place;
      left = at.left;
      owned = at.owned;
    }
