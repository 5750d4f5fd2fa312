-- What a command that ran leaves: the element is at work as before, in both devices.
use Rattle.std.proofs.Common.{◌≡◌, ◌≢◌, ℕ, ◌-◌, ◌≤◌, true, false, List, [], ◌∷◌, ◌++◌, Some, None, cond, refl, sym, ap, ◌∙◌, subst, arith}
use Rattle.std.proofs.lemmas.Bool.{eq-eqb, ne_eqb}
use Rattle.std.proofs.lemmas.Grind.{common_steps}
use Rattle.gv_types.specs.Maps.{put}
use Rattle.gv_entry.specs.SameTables.{SameTables}
use Rattle.gv_fetch.specs.Left.{IsLeft, moved}
use Rattle.gv_gpu.specs.Device.{Device, Loaded, JournalEntry}
use Rattle.gv_gpu.specs.Part.{Part, outside, step_part}
use Rattle.gv_gpu.specs.Step.{Stepping, next_place, retired}
use Rattle.gv_gpu.proofs.Effects.{Stays}
use Rattle.gv_guest.specs.Placed.{Placed}
use Rattle.gv_place.specs.Place.{StandsFor, Unchanged}
use Rattle.gv_private.specs.Device.{PrivateDevice, Engine, Working}
use Rattle.gv_private.specs.Grants.{page_grant_in}
use Rattle.gv_private.specs.Space.{PrivateSpace, space_of}
use Rattle.gv_private.specs.Turn.{ran_after}
use Rattle.gv_scan.specs.Layout.{Layout}
use Rattle.gv_sggtt.specs.Mirror.{NamesFrame}
use Rattle.gv_shape.specs.Shadow.{Pages}
use Rattle.gv_shape.specs.Shadows.{Shadows}
use Rattle.gv_turn.specs.Same.{Setting, Same}
use Rattle.gv_turn.specs.Work.{AtWork, RanOne, WentOn, shown_entry}
use Rattle.gv_turn.proofs.Effects.{unchanged}
use Rattle.gv_turn.proofs.Owned.{moved-owned}

put-same : {A : Type 0} (f : ℕ → A) (k : ℕ) (v : A) → put f k v k ≡ v
put-same f k v = ap (λ b. cond b v (f k)) (eq-eqb k k refl)

put-other : {A : Type 0} (f : ℕ → A) (k j : ℕ) (v : A) → j ≢ k → put f k v j ≡ f j
put-other f k j v differ = ap (λ b. cond b v (f j)) (ne_eqb j k differ)

-- A command that ran moves its context's place and is in the journal.
outside-ran : (p : Part) (d : Device) (engine : ℕ) (l : Loaded) (c : List ℕ) (n : ℕ) → p.engine engine ≡ true → p.spare ≡ true
    → outside p (retired d engine l c n) ≡ record (outside p d) { journal = d.journal ++ shown_entry engine l.owner c ∷ [] }
outside-ran p d engine l c n own spare = λ i. record (outside p d) {
  journal = d.journal ++ shown_entry engine l.owner c ∷ [];
  loaded = λ e. at e i;
  spare = (ap (λ b. cond b 0 (d.spare - 1)) spare ∙ sym (ap (λ b. cond b 0 d.spare) spare)) i;
}
  where
    at : (e : ℕ) → cond (p.engine e) None (put d.loaded engine (Some (record l { place = next_place l.place c n })) e) ≡ cond (p.engine e) None (d.loaded e)
    at e = grind (arith, common_steps)

module _ (d : Device) (placed : Placed) (pages : Pages) (p : PrivateDevice) (engine : ℕ) (w : Working) (l : Loaded) (image : ℕ) (layout : Layout) (at : AtWork d placed pages p engine w l image layout) where
  -- where a command begins
  abbrev pub setting : Setting
  setting = record { placed = placed; pages = pages; engine = engine; space = space_of p engine w.root; start = d }

  abbrev pub begun : Stepping
  begun = record { device = d; engine = engine; context = l; strayed = false }

  pub begins : Same setting (space_of p engine w.root) begun
  begins = record {
    stands = at.stands;
    memory = at.memory;
    rest = refl;
    tables = record { frames = refl; words = λ frame is. refl };
    engine = refl;
    owner = at.owner;
    root = at.shadow_root;
    shadows = at.shadows;
    mirrors = at.mirrors;
    general = at.general;
    straight = refl;
    outside = refl;
  }

  module _ (ws c : List ℕ) (n : ℕ) (s : PrivateSpace) (y : Stepping) (same : Same setting s y) (stays : Stays begun y) (above : (k m : ℕ) → 16 ≤ m → y.device.general k m ≡ d.general k m) where
    abbrev pub after : Device
    after = retired y.device engine l c n

    abbrev pub left : PrivateDevice
    left = ran_after p engine w ws n s

    abbrev pub work : Working
    work = record w { left = moved w.left ws n }

    abbrev pub context : Loaded
    context = record l { place = next_place l.place c n }

    own-engine : left.engines engine ≡ record (p.engines engine) { general = s.general; element = Some work }
    own-engine =
        put-same (put p.engines engine (record (p.engines engine) { general = s.general })) engine _
        ∙ ap (λ (e : Engine). record e { element = Some work }) (put-same p.engines engine (record (p.engines engine) { general = s.general }))

    other-engine : (k : ℕ) → k ≢ engine → left.engines k ≡ p.engines k
    other-engine k differ =
        put-other (put p.engines engine (record (p.engines engine) { general = s.general })) engine k _ differ
        ∙ put-other p.engines engine k (record (p.engines engine) { general = s.general }) differ

    roots : s.roots ≡ p.roots
    roots = ap (λ (z : PrivateSpace). z.roots) same.rest

    -- the private device has gone on
    pub went-on : WentOn p left engine work
    went-on = record {
      rest = refl;
      others = other-engine;
      own = own-engine ∙ ap (λ g. record (p.engines engine) { general = g; element = Some work }) (sym (ap (λ (e : Engine). e.general) own-engine));
      tables = subst (λ r. SameTables p.memory s.memory r) roots same.tables;
      above = λ m big.
          ap (λ (e : Engine). e.general m) own-engine
          ∙ ap (λ (f : ℕ → ℕ). f m) (same.general ∙ ap y.device.general same.engine)
          ∙ above engine m big
          ∙ sym (ap (λ (f : ℕ → ℕ). f m) at.general);
    }

    abbrev entry : JournalEntry
    entry = shown_entry engine placed.guest c

    ran-outside : outside (step_part placed.guest engine) after ≡ record (outside (step_part placed.guest engine) d) { journal = d.journal ++ entry ∷ [] }
    ran-outside =
        outside-ran (step_part placed.guest engine) y.device engine l c n (eq-eqb engine engine refl) refl
        ∙ ap (λ (x : Device). record x { journal = x.journal ++ shown_entry engine l.owner c ∷ [] }) same.outside
        ∙ ap (λ owner. record (outside (step_part placed.guest engine) d) { journal = d.journal ++ shown_entry engine owner c ∷ [] }) at.owner

    here : Unchanged placed.guest d y.device
    here =
        unchanged placed.guest engine d y.device
        (ap (λ (x : Device). x.label) stays.rest) (ap (λ (x : Device). x.global) stays.rest) same.outside

    -- and so has the device
    pub ran-one : RanOne d after placed.guest engine entry
    ran-one = record {
      outside = ran-outside;
      unchanged = record { label = here.label; global = here.global; words = here.words };
      journal = ap (λ (x : Device). x.journal) ran-outside;
      strays = ap (λ (x : Device). x.strays) stays.rest;
      pokes = ap (λ (x : Device). x.pokes) stays.rest;
      live = ap (λ (x : Device). x.live) stays.rest;
      faults = ap (λ (x : Device). x.faults) stays.rest;
      spare = ap (λ (x : Device). x.spare - 1) stays.rest;
      above = above;
    }

    the_shadows : Shadows y.device placed s.memory p.roots pages
    the_shadows = subst (λ r. Shadows y.device placed s.memory r pages) roots same.shadows

    -- The element is at work behind the command.
    pub still-works : StandsFor after image layout context (moved w.left ws n) → IsLeft engine (moved w.left ws n) → AtWork after placed pages left engine work context image layout
    still-works place form = record {
      number = at.number;
      parts = at.parts;
      awake = at.awake;
      stands = record { labelled = same.stands.labelled; long = same.stands.long; below = same.stands.below; apart = same.stands.apart; all = same.stands.all };
      memory = same.memory;
      shadows = record { tables = the_shadows.tables; local = record { labelled = the_shadows.local.labelled; names = the_shadows.local.names } };
      mirrors = λ page own. subst (λ (z : PrivateSpace). NamesFrame placed (page_grant_in z.ranges z.entries z.memory z.roots page) (y.device.global page)) same.rest (same.mirrors page own);
      general = ap (λ (e : Engine). e.general) own-engine ∙ same.general ∙ ap y.device.general same.engine;
      element = ap (λ (e : Engine). e.element) own-engine;
      root = at.root;
      shadow_root = at.shadow_root;
      loaded = put-same y.device.loaded engine (Some context);
      owner = at.owner;
      place = place;
      left = form;
      owned = moved-owned p.ranges w.left ws n at.owned;
    }
