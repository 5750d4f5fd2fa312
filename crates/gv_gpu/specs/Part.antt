-- A part of the device is given by tests: which pages, by number and label; which entries of the
-- global table; which engines, with their general registers and loaded context; and whether the
-- room for journal entries. A call that is given the device says which part it changes.
use Rattle.std.specs.Prelude.{◌≡◌, ℕ, ◌+◌, ◌*◌, Bool, true, false, not, ◌&&◌, ◌||◌, List, [], Option, None, Some, if◌then◌else◌, ◌==◌, nat_lt, nat_le}
use Rattle.std.specs.List.{list_any}
use Rattle.gv_types.specs.declared.ranges.Ranges.{Ranges}
use Rattle.gv_entry.specs.Ranges.{owns_page}
use Rattle.gv_gpu.specs.Device.{Device}
use Rattle.gv_types.specs.declared.ids.Label.{Label}

pub record Part : Type 0 where
  pub page : ℕ → Option Label → Bool
  pub entry : ℕ → Bool
  pub engine : ℕ → Bool
  pub spare : Bool

-- The device without the part. The counts of live pages and of pokes are no one's. That of faults belongs to
-- no part: a call that can't fail leaves it as it was.
abbrev pub outside : Part → Device → Device
outside p d = record d {
  label = λ n. if p.page n (d.label n) then None else d.label n;
  words = λ n. if p.page n (d.label n) then [] else d.words n;
  live = 0;
  global = λ i. if p.entry i then 0 else d.global i;
  general = λ e. if p.engine e then (λ _. 0) else d.general e;
  loaded = λ e. if p.engine e then None else d.loaded e;
  pokes = 0;
  spare = if p.spare then 0 else d.spare;
}

-- the part alone
abbrev pub inside : Part → Device → Device
inside p d = record {
  label = λ n. if p.page n (d.label n) then d.label n else None;
  words = λ n. if p.page n (d.label n) then d.words n else [];
  live = 0;
  global = λ i. if p.entry i then d.global i else 0;
  general = λ e. if p.engine e then d.general e else (λ _. 0);
  loaded = λ e. if p.engine e then d.loaded e else None;
  journal = [];
  strays = 0;
  pokes = 0;
  spare = if p.spare then d.spare else 0;
  faults = 0;
}

-- Nothing is in both parts. A page that isn't live is in no part.
pub record Apart (p q : Part) : Type 0 where
  pub dead : (n : ℕ) → q.page n None ≡ false
  pub page : (n : ℕ) (l : Option Label) → p.page n l ≡ true → q.page n l ≡ false
  pub entry : (i : ℕ) → p.entry i ≡ true → q.entry i ≡ false
  pub engine : (e : ℕ) → p.engine e ≡ true → q.engine e ≡ false
  pub spare : p.spare ≡ true → q.spare ≡ false

-- all of p is in w
pub record Within (p w : Part) : Type 0 where
  pub page : (n : ℕ) (l : Option Label) → p.page n l ≡ true → w.page n l ≡ true
  pub entry : (i : ℕ) → p.entry i ≡ true → w.entry i ≡ true
  pub engine : (e : ℕ) → p.engine e ≡ true → w.engine e ≡ true
  pub spare : p.spare ≡ true → w.spare ≡ true

-- A frame of a guest's memory, a shadow page of the guest's, or either.
abbrev pub is_frame_of : ℕ → Option Label → Bool
is_frame_of guest None = false
is_frame_of guest (Some l) = (l.guest.0 == guest) && not l.shadow

-- the label of a guest's shadow pages
abbrev pub shadow_label : ℕ → Label
shadow_label guest = record { guest = record { 0 = guest }; shadow = true }

abbrev pub is_shadow_of : ℕ → Option Label → Bool
is_shadow_of guest None = false
is_shadow_of guest (Some l) = (l.guest.0 == guest) && l.shadow

abbrev pub is_page_of : ℕ → Option Label → Bool
is_page_of guest None = false
is_page_of guest (Some l) = l.guest.0 == guest

abbrev pub is_named : List ℕ → ℕ → Bool
is_named own n = list_any (λ page. page == n) own

-- The mediator's window: from page 0xFC000 on, 512 entries for each guest and engine.
abbrev pub first_of_window : ℕ → ℕ → ℕ
first_of_window guest engine = 0xFC000 + (4 * guest + engine) * 0x200

abbrev pub is_in_window : ℕ → ℕ → ℕ → Bool
is_in_window guest engine entry = nat_le (first_of_window guest engine) entry && nat_lt entry (first_of_window guest engine + 0x200)

abbrev pub is_in_windows : ℕ → ℕ → Bool
is_in_windows guest entry = nat_le (first_of_window guest 0) entry && nat_lt entry (first_of_window (guest + 1) 0)

-- The part of each layer. Guest memory has the pages of its guest's frames.
abbrev pub frames_part : ℕ → Part
frames_part guest = record { page = λ _ l. is_frame_of guest l; entry = λ _. false; engine = λ _. false; spare = false }

-- The shadow global table has the entries of its ranges.
abbrev pub entries_part : Ranges → Part
entries_part ranges = record { page = λ _ _. false; entry = λ i. owns_page ranges i; engine = λ _. false; spare = false }

-- The shadow per-process tables have the shadow pages that they made.
abbrev pub tables_part : ℕ → List ℕ → Part
tables_part guest own = record { page = λ n l. is_named own n && is_shadow_of guest l; entry = λ _. false; engine = λ _. false; spare = false }

-- A shadow ring and its image have their window's entries, and the shadow pages that were made for them.
abbrev pub window_part : ℕ → ℕ → List ℕ → Part
window_part guest engine own = record { page = λ n l. is_named own n && is_shadow_of guest l; entry = λ i. is_in_window guest engine i; engine = λ _. false; spare = false }

-- An exchange of the engine's state has its general registers, its loaded context, and the page of the
-- shadow image that keeps the context's place.
abbrev pub context_part : ℕ → ℕ → ℕ → Part
context_part guest engine image = record { page = λ n l. (n == image) && is_shadow_of guest l; entry = λ _. false; engine = λ e. e == engine; spare = false }

-- One engine has its general registers and its loaded context.
abbrev pub engine_part : ℕ → Part
engine_part engine = record { page = λ _ _. false; entry = λ _. false; engine = λ e. e == engine; spare = false }

-- A step of an engine has that, the frames of the guest that owns the engine, and room in the journal.
abbrev pub step_part : ℕ → ℕ → Part
step_part guest engine = record { page = λ _ l. is_frame_of guest l; entry = λ _. false; engine = λ e. e == engine; spare = true }

-- A guest's reads and writes have its frames, and the entries of its ranges.
abbrev pub access_part : ℕ → Ranges → Part
access_part guest ranges = record { page = λ _ l. is_frame_of guest l; entry = λ i. owns_page ranges i; engine = λ _. false; spare = false }

-- The elements at work of a guest have its shadow pages, its windows, and the engines that it owns.
abbrev pub elements_part : ℕ → (ℕ → Bool) → Part
elements_part guest here = record { page = λ _ l. is_shadow_of guest l; entry = λ i. is_in_windows guest i; engine = here; spare = false }

-- One guest has all of its pages, its entries and its windows, and, on the engines that it owns, their
-- state; and it may make room in the journal.
abbrev pub guest_part : ℕ → Ranges → (ℕ → Bool) → Part
guest_part guest ranges here = record { page = λ _ l. is_page_of guest l; entry = λ i. owns_page ranges i || is_in_windows guest i; engine = here; spare = true }

-- What of this no other guest's call changes: all but the room.
abbrev pub standing_part : ℕ → Ranges → (ℕ → Bool) → Part
standing_part guest ranges here = record { page = λ _ l. is_page_of guest l; entry = λ i. owns_page ranges i || is_in_windows guest i; engine = here; spare = false }

-- no engine is owned by both
abbrev pub AreDisjoint : (ℕ → Bool) → (ℕ → Bool) → Type 0
AreDisjoint here there = (e : ℕ) → here e ≡ true → there e ≡ false
