-- What leaves an element at work: writes to frames that are no live tables, status events and interrupts.
use Rattle.std.proofs.Common.{◌≡◌, ◌≢◌, ℕ, ◌+◌, ◌*◌, ◌/◌, Bool, true, false, not, ◌&&◌, List, [], ◌∷◌, Option, None, Some, cond, refl, sym, ap, ◌∙◌, subst, eqb}
use Rattle.std.proofs.lemmas.Bool.{eq-eqb, ne_eqb, eqb-true}
use Rattle.std.specs.Prelude.{filter}
use Rattle.gv_types.specs.Maps.{put}
use Rattle.gv_types.specs.declared.event.Width.TheVariants.{Four}
use Rattle.gv_types.specs.declared.ids.Label.{Label}
use Rattle.gv_types.specs.declared.ranges.Ranges.{Ranges}
use Rattle.gv_types.specs.Bits.{has_bit}
use Rattle.gv_csb.specs.Slots.{Execlists, completed, completion_events}
use Rattle.gv_entry.specs.Global.{global_entry}
use Rattle.gv_entry.specs.Grants.{global_grant}
use Rattle.gv_entry.specs.Ranges.{InParts, owns_page}
use Rattle.gv_entry.specs.SameTables.{has, SameTables}
use Rattle.gv_entry.proofs.SameTables.{tables_decide, same_tables_chain}
use Rattle.gv_entry.specs.Tables.{is_guarded}
use Rattle.gv_gpu.specs.Device.{Device}
use Rattle.gv_gpu.specs.Part.{Part, Apart, outside, inside, is_frame_of, is_shadow_of, frames_part, shadow_label}
use Rattle.gv_gpu.proofs.Parts.{inside-kept}
use Rattle.gv_gpu.proofs.Seen.{label-same, words-same}
use Rattle.gv_irq.specs.Irq.{Interrupts, raised, interrupt_bit}
use Rattle.gv_place.proofs.Kept.{stands-kept}
use Rattle.gv_place.specs.Place.{KeepsShadow}
use Rattle.gv_private.specs.Device.{PrivateDevice, Engine, with_slots, with_element, front_context}
use Rattle.gv_private.specs.Grants.{page_grant, frame_written, global_written}
use Rattle.gv_private.specs.Status.{bit_raised, bits_raised, command_raised, user_interrupt, notify}
use Rattle.gv_private.specs.Turn.{tail_written, without_front}
use Rattle.gv_private.proofs.Granted.{page-free, tables-same, frame_written-tables}
use Rattle.gv_private.proofs.Keeps.{KeptByEvents, events-keep, and_then-keeps}
use Rattle.gv_sggtt.specs.Mirror.{NamesFrame}
use Rattle.gv_shape.specs.Shadows.{Shadows, KeepsPages}
use Rattle.gv_shape.proofs.Shadows.{shadows_keep}
use Rattle.gv_turn.specs.Keeping.{KeepsWork}
use Rattle.gv_turn.specs.Laws.{WritesKeepWork, RaisingKeepsWork, EventsKeepWork, FinishingKeepsWork}
use Rattle.gv_turn.specs.Owned.{OwnsLeft}

-- ---- shadow pages, where only frames change

own_shadows : ℕ → Part
own_shadows guest = record { page = λ _ l. is_shadow_of guest l; entry = λ _. false; engine = λ _. false; spare = false }

no_shadow : (guest : ℕ) (l : Option Label) → is_frame_of guest l ≡ true → is_shadow_of guest l ≡ false
no_shadow guest None is = refl
no_shadow guest (Some l) is = by_tests (eqb l.guest.0 guest) l.shadow is
  where
    by_tests : (a b : Bool) → (a && not b) ≡ true → (a && b) ≡ false
    by_tests true true is = cc
    by_tests true false is = refl
    by_tests false b is = refl

own_shadow : (guest : ℕ) → is_shadow_of guest (Some (shadow_label guest)) ≡ true
own_shadow guest = rw (eq-eqb guest guest refl) refl

module _ (guest : ℕ) (d e : Device) (frames : outside (frames_part guest) e ≡ outside (frames_part guest) d) where
  apart : Apart (frames_part guest) (own_shadows guest)
  unfolding own_shadows
  apart = record { dead = λ n. refl; page = λ n l h. no_shadow guest l h; entry = λ i h. refl; engine = λ e h. refl; spare = λ h. refl }

  kept : inside (own_shadows guest) e ≡ inside (own_shadows guest) d
  kept = inside-kept (frames_part guest) (own_shadows guest) d e apart frames

  label-kept : (page : ℕ) → d.label page ≡ Some (shadow_label guest) → e.label page ≡ Some (shadow_label guest)
  unfolding own_shadows
  label-kept page is = label-same (own_shadows guest) d e kept page (shadow_label guest) (own_shadow guest) is

  words-kept : (page : ℕ) → d.label page ≡ Some (shadow_label guest) → e.words page ≡ d.words page
  unfolding own_shadows
  words-kept page is = words-same (own_shadows guest) d e kept page (shadow_label guest) (own_shadow guest) is

  global-kept : e.global ≡ d.global
  global-kept = ap (λ (x : Device). x.global) frames

  shadow-kept : (image : ℕ) → KeepsShadow guest image d e
  shadow-kept image = record {
    entry = λ i window. ap (λ (f : ℕ → ℕ). f i) global-kept;
    label = λ q own. label-kept q own ∙ sym own;
    words = λ q own differ. words-kept q own;
  }

-- ---- writes

pub writes_keep_work : WritesKeepWork
writes_keep_work d e placed pages p q engine w l image layout at keeps stands memory frames =
    let guarded : is_guarded q.memory p.roots ≡ is_guarded p.memory p.roots = (tables_decide p.memory q.memory p.roots keeps.tables).guarded in
    let all_guarded : is_guarded q.memory q.roots ≡ is_guarded p.memory p.roots = (λ i. is_guarded q.memory (keeps.roots i)) ∙ guarded in
    let pages_kept : KeepsPages pages d e = record {
      label = λ level frame page is. label-kept placed.guest d e frames page (at.shadows.local.labelled level frame page is) ∙ sym (at.shadows.local.labelled level frame page is);
      words = λ level frame page is. words-kept placed.guest d e frames page (at.shadows.local.labelled level frame page is);
    } in
    let shadows = shadows_keep d e placed p.memory q.memory p.roots pages pages_kept keeps.tables at.shadows in
    record {
      number = keeps.number ∙ at.number;
      parts = subst (λ (r : Ranges). InParts r) (sym keeps.ranges) at.parts;
      awake = keeps.failsafe ∙ at.awake;
      stands = stands;
      memory = memory;
      shadows = subst (λ roots. Shadows e placed q.memory roots pages) (sym keeps.roots) shadows;
      mirrors = λ page own.
          subst (λ grant. NamesFrame placed grant (e.global page))
          (sym (λ i. global_grant (keeps.ranges i) (keeps.tables.frames i) (all_guarded i) (global_entry (keeps.ranges i) (keeps.entries i)) page))
          (subst (λ entry. NamesFrame placed (page_grant p page) entry) (sym (ap (λ (f : ℕ → ℕ). f page) (global-kept placed.guest d e frames)))
          (at.mirrors page (subst (λ (r : Ranges). owns_page r page ≡ true) keeps.ranges own)));
      general = keeps.general ∙ at.general ∙ sym (ap (λ (x : Device). x.general engine) frames);
      element = keeps.element ∙ at.element;
      root = ap (λ roots. has roots w.root) keeps.roots ∙ at.root;
      shadow_root = at.shadow_root;
      loaded = ap (λ (x : Device). x.loaded engine) frames ∙ at.loaded;
      owner = at.owner;
      place = stands-kept d e image layout l w.left (subst (λ owner. KeepsShadow owner image d e) (sym at.owner) (shadow-kept placed.guest d e frames image)) at.place;
      left = at.left;
      owned = subst (λ (r : Ranges). OwnsLeft r w.left) (sym keeps.ranges) at.owned;
    }

-- ---- interrupts

keeps-itself : (p : PrivateDevice) (engine : ℕ) → KeepsWork p p engine
keeps-itself p engine = record { number = refl; ranges = refl; failsafe = refl; entries = refl; roots = refl; general = refl; element = refl; tables = tables-same p.memory p.roots }

-- nothing but interrupt registers has changed
abbrev IsRaised : PrivateDevice → PrivateDevice → Type 0
IsRaised p q = q ≡ record p { interrupts = q.interrupts }

bits-raise : (p q : PrivateDevice) (of : ℕ) (bits : List ℕ) → IsRaised p q → IsRaised p (bits_raised q of bits).device
bits-raise p q of [] is = is
bits-raise p q of (n ∷ more) is =
    and_then-keeps (IsRaised p) (bit_raised q of n) (λ r. bits_raised r of more)
    (ap (λ (x : PrivateDevice). record x { interrupts = raised q.interrupts (interrupt_bit of n) }) is)
    (λ r there. bits-raise p r of more there)

pub raising_keeps_work : RaisingKeepsWork
raising_keeps_work d placed pages p engine w l image layout at of bits =
    let q = (command_raised p of bits).device in
    let is : IsRaised p q = bits-raise p p of (filter (has_bit bits) (user_interrupt ∷ notify ∷ [])) refl in
    let keeps : KeepsWork p q engine = subst (λ x. KeepsWork p x engine) (sym is) (record { number = refl; ranges = refl; failsafe = refl; entries = refl; roots = refl; general = refl; element = refl; tables = tables-same p.memory p.roots }) in
    writes_keep_work d d placed pages p q engine w l image layout at keeps at.stands (ap (λ (x : PrivateDevice). x.memory) is ∙ at.memory) refl

-- ---- status events

module _ (p : PrivateDevice) (engine : ℕ) where
  kept-interrupts : (q : PrivateDevice) (i : Interrupts) → KeepsWork p q engine → KeepsWork p (record q { interrupts = i }) engine
  kept-interrupts q i here = record { number = here.number; ranges = here.ranges; failsafe = here.failsafe; entries = here.entries; roots = here.roots; general = here.general; element = here.element; tables = here.tables }

  -- a change of an engine that leaves its registers and its element
  engine-same : {A : Type 0} (f : ℕ → Engine) (of : ℕ) (e : Engine) (part : Engine → A) → part e ≡ part (f of) → part (put f of e engine) ≡ part (f engine)
  engine-same f of e part same = by_test (eqb engine of) refl
    where
      by_test : (b : Bool) → eqb engine of ≡ b → part (cond b e (f engine)) ≡ part (f engine)
      by_test true is = same ∙ ap (λ k. part (f k)) (sym (eqb-true engine of is))
      by_test false is = refl

  kept-slots : (q : PrivateDevice) (of : ℕ) (s : Execlists) → KeepsWork p q engine → KeepsWork p (with_slots q of s) engine
  kept-slots q of s here = record {
    number = here.number;
    ranges = here.ranges;
    failsafe = here.failsafe;
    entries = here.entries;
    roots = here.roots;
    general = engine-same q.engines of (record (q.engines of) { slots = s }) (λ (e : Engine). e.general) refl ∙ here.general;
    element = engine-same q.engines of (record (q.engines of) { slots = s }) (λ (e : Engine). e.element) refl ∙ here.element;
    tables = here.tables;
  }

  kept-granted : (q : PrivateDevice) (at value : ℕ) → KeepsWork p q engine → KeepsWork p (global_written q at value) engine
  kept-granted q at value here =
      let grant = page_grant q (at / 4096) in
      let after = frame_written q.memory Four at value grant in
      record {
        number = here.number;
        ranges = here.ranges;
        failsafe = here.failsafe;
        entries = here.entries;
        roots = here.roots;
        general = here.general;
        element = here.element;
        tables = same_tables_chain p.memory q.memory after p.roots here.tables
            (subst (λ roots. SameTables q.memory after roots) here.roots (frame_written-tables q.memory q.roots Four at value grant (page-free q.ranges q.entries q.memory q.roots (at / 4096))));
      }

  events-kept : KeptByEvents (λ q. KeepsWork p q engine)
  events-kept = record { interrupts = kept-interrupts; slots = kept-slots; granted = kept-granted }

  kept-gone : (q : PrivateDevice) (of : ℕ) → engine ≢ of → KeepsWork p q engine → KeepsWork p (with_element q of None) engine
  kept-gone q of differ here =
      let other : put q.engines of (record (q.engines of) { element = None }) engine ≡ q.engines engine = ap (λ b. cond b (record (q.engines of) { element = None }) (q.engines engine)) (ne_eqb engine of differ) in
      record {
        number = here.number;
        ranges = here.ranges;
        failsafe = here.failsafe;
        entries = here.entries;
        roots = here.roots;
        general = ap (λ (e : Engine). e.general) other ∙ here.general;
        element = ap (λ (e : Engine). e.element) other ∙ here.element;
        tables = here.tables;
      }

pub events_keep_work : EventsKeepWork
events_keep_work p of engine events = events-keep (λ q. KeepsWork p q engine) (events-kept p engine) p of events (keeps-itself p engine)

pub finishing_keeps_work : FinishingKeepsWork
finishing_keeps_work p of engine w differ =
    let tail = tail_written p of w in
    let tailed : KeepsWork p tail engine = kept-granted p engine p (((front_context (p.engines of)).page + 1) * 4096 + 4 * 0x05) w.tail (keeps-itself p engine) in
    let slots = kept-slots p engine tail of (completed (tail.engines of).slots) tailed in
    let gone = kept-gone p engine (with_slots tail of (completed (tail.engines of).slots)) of differ slots in
    events-keep (λ q. KeepsWork p q engine) (events-kept p engine) (without_front tail of) of (completion_events (p.engines of).slots.running (p.engines of).slots.pending) gone
