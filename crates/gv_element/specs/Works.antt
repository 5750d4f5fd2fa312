-- An element at work on an engine: what a guest's device keeps of it, and how it stands in the shared device.
use Rattle.std.specs.Prelude.{◌≡◌, ◌≢◌, ℕ, ◌+◌, ◌<◌, ◌≤◌, ◌==◌, ◌&&◌, Bool, true, false, List, length, Option, None, Some, if◌then◌else◌}
use Rattle.std.specs.List.{concat}
use Rattle.gv_types.specs.declared.ids.Label.{Label}
use Rattle.gv_fetch.specs.Items.{Items, MayAllStand, depth}
use Rattle.gv_fetch.specs.Laws.{most_commands}
use Rattle.gv_fetch.specs.Left.{Left, IsLeft, begun}
use Rattle.gv_cmd.specs.declared.stands.Stands.TheVariants.{Ring}
use Rattle.gv_gpu.specs.Context.{context_of}
use Rattle.gv_gpu.specs.Device.{Device, Loaded, with_loaded, with_spare}
use Rattle.gv_gpu.specs.Part.{Part, is_named, is_shadow_of, is_in_window, shadow_label}
use Rattle.gv_scan.specs.Layout.{Layout, IsProgram}
use Rattle.gv_sctx.specs.Context.{HoldsContext, FitsDwords}
use Rattle.gv_sctx.specs.Image.{image_fields, dwords_poked}
use Rattle.gv_sring.specs.Window.{Window, first_of, page_at, Shows, ring_address, batches_address, descriptor_at}
use Rattle.gv_place.specs.Laws.{front_place}
use Rattle.gv_place.specs.Place.{StandsFor}
use Rattle.gv_place.specs.Seen.{left_seen, IsShort}

-- the frame of its root, the tail that its image had at the load, and its window
pub record Held : Type 0 where
  pub root : ℕ
  pub tail : ℕ
  pub window : Window

-- ---- what the device has of it

abbrev pub loaded_or : Option Loaded → Loaded → Loaded
loaded_or None other = other
loaded_or (Some l) other = l

-- The context as the engine has it, where the guest owns the engine; elsewhere the one that it would load
-- from the window's image.
abbrev pub context_now : Device → ℕ → ℕ → Bool → Loaded
context_now d guest engine here =
    if here then loaded_or (d.loaded engine) (context_of d guest (descriptor_at guest engine)) else context_of d guest (descriptor_at guest engine)

-- what is left of it: the device determines that
abbrev pub left_of : Device → ℕ → ℕ → Bool → Left
left_of d guest engine here = left_seen d (context_now d guest engine here)

-- ---- how it stands in the device

-- the context of a window, with the host page of its root
pub record IsContextOf (w : Window) (root_page : ℕ) (l : Loaded) : Type 0 where
  pub descriptor : l.descriptor ≡ descriptor_at w.guest w.engine
  pub owner : l.owner ≡ w.guest
  pub start : l.ring_start ≡ ring_address w.guest w.engine
  pub tail : l.tail ≡ w.tail
  pub root : l.root ≡ root_page

-- The window shows its pages; its image holds the context, but for the place; and by its copies the context
-- stands for what is left.
pub record WorksAs (d : Device) (w : Window) (root_page : ℕ) (l : Loaded) (left : Left) : Type 0 where
  pub shows : Shows d w
  pub context : IsContextOf w root_page l
  pub image : HoldsContext d l
  pub small : FitsDwords l.place
  pub layout : Layout
  pub base : layout.base ≡ batches_address w.guest w.engine
  pub few : length (concat layout.batches) ≤ 262144
  pub stands : StandsFor d (page_at w 1) layout l left
  pub form : IsLeft w.engine left
  pub short : IsShort left

-- a window of this guest and engine, with an image
pub record IsWindow (guest engine : ℕ) (w : Window) : Type 0 where
  pub guest_is : w.guest ≡ guest
  pub engine_is : w.engine ≡ engine
  pub guest_below : guest < 8
  pub engine_below : engine < 4
  pub tail_below : w.tail ≤ 65536
  pub two : 2 ≤ length w.pages

-- The element works, with the host page of its root. Where the guest owns the engine (`here`), the context
-- is loaded.
pub record Works (d : Device) (guest engine : ℕ) (here : Bool) (root_page : ℕ) (x : Held) : Type 0 where
  pub window : IsWindow guest engine x.window
  pub loaded : here ≡ true → d.loaded engine ≡ Some (context_now d guest engine here)
  pub runs : WorksAs d x.window root_page (context_now d guest engine here) (left_of d guest engine here)

-- the element works, and this is left of it
pub record WorksWith (d : Device) (guest engine : ℕ) (here : Bool) (root_page : ℕ) (x : Held) (left : Left) : Type 0 where
  pub works : Works d guest engine here root_page x
  pub remains : left_of d guest engine here ≡ left

-- Its context isn't loaded: the engine has none, or another guest's.
pub record Rests (d : Device) (w : Window) : Type 0 where
  pub shows : Shows d w
  pub unloaded : (l : Loaded) → d.loaded w.engine ≡ Some l → l.owner ≢ w.guest

-- ---- what a load is given, and what it changes

-- dwords that are the program of items which an engine may run
pub record IsProgramOf (engine : ℕ) (ring batches : List ℕ) (items : Items) : Type 0 where
  pub program : IsProgram ring batches items
  pub stand : MayAllStand Ring engine items
  pub short : depth items ≤ most_commands

-- dwords that are the program of some items
pub record MayBeLoaded (engine : ℕ) (ring batches : List ℕ) : Type 0 where
  pub items : Items
  pub program : IsProgramOf engine ring batches items

-- The pages that were made for the window, its entries, the engine, and room in the journal.
abbrev pub element_part : ℕ → ℕ → List ℕ → Part
element_part guest engine own = record { page = λ n l. is_named own n && is_shadow_of guest l; entry = λ i. is_in_window guest engine i; engine = λ e. e == engine; spare = true }

-- ---- what leaves it as it is

-- The window's entries are as they were, and so are the labels and the words of its pages.
pub record KeepsWindow (w : Window) (d e : Device) : Type 0 where
  pub entry : (i : ℕ) → i < 0x200 → e.global (first_of w + i) ≡ d.global (first_of w + i)
  pub label : (k : ℕ) → k < length w.pages → e.label (page_at w k) ≡ d.label (page_at w k)
  pub words : (k : ℕ) → k < length w.pages → e.words (page_at w k) ≡ d.words (page_at w k)

-- a part that has the window's entries and pages, and the engine where the guest owns it
pub record Covers (q : Part) (here : Bool) (w : Window) : Type 0 where
  pub entry : (i : ℕ) → is_in_window w.guest w.engine i ≡ true → q.entry i ≡ true
  pub page : (k : ℕ) → k < length w.pages → q.page (page_at w k) (Some (shadow_label w.guest)) ≡ true
  pub engine : here ≡ true → q.engine w.engine ≡ true

-- A part before a call and after it (the pages that it names may be others then) that had and has none of these;
-- that it has no page of the window afterwards follows.
pub record Misses (before after : Part) (here : Bool) (w : Window) : Type 0 where
  pub entry_before : (i : ℕ) → is_in_window w.guest w.engine i ≡ true → before.entry i ≡ false
  pub entry_after : (i : ℕ) → is_in_window w.guest w.engine i ≡ true → after.entry i ≡ false
  pub engine_before : here ≡ true → before.engine w.engine ≡ false
  pub engine_after : here ≡ true → after.engine w.engine ≡ false
  pub page : (k : ℕ) → k < length w.pages → before.page (page_at w k) (Some (shadow_label w.guest)) ≡ false

-- two windows of which no page is the other's
abbrev pub AreApart : Window → Window → Type 0
AreApart v w = (j k : ℕ) → j < length v.pages → k < length w.pages → page_at v j ≢ page_at w k

-- an element that works beside another, as it did, and has none of its pages
pub record WorksBeside (d : Device) (guest engine : ℕ) (here : Bool) (root_page : ℕ) (y : Held) (left : Left) (w : Window) : Type 0 where
  pub with_left : WorksWith d guest engine here root_page y left
  pub apart : AreApart w y.window

-- none of a window's pages is in a part
abbrev pub HasNoPage : Part → Window → Type 0
HasNoPage q w = (k : ℕ) → k < length w.pages → q.page (page_at w k) (Some (shadow_label w.guest)) ≡ false

-- a live page has the same label and words
pub record KeepsPage (d e : Device) (page : ℕ) (label : Label) : Type 0 where
  pub label_is : e.label page ≡ Some label
  pub words : e.words page ≡ d.words page

-- ---- a load, step by step

-- The image is filled in: the front of the ring copy, its length, and the root.
abbrev pub image_filled : Device → Window → ℕ → Device
image_filled d w root_page = dwords_poked d (page_at w 1) (image_fields (ring_address w.guest w.engine) front_place w.tail root_page)

-- There is room for so many journal entries, and the context of the descriptor is loaded.
abbrev pub started : Device → ℕ → ℕ → ℕ → ℕ → Device
started d spare engine guest descriptor = with_loaded (with_spare d spare) engine (Some (context_of (with_spare d spare) guest descriptor))

-- all items of the program are left of an element that was loaded
abbrev pub Begins : Device → ℕ → ℕ → ℕ → List ℕ → List ℕ → Held → Type 0
Begins d guest engine root_page ring batches x = (items : Items) → IsProgramOf engine ring batches items → WorksWith d guest engine true root_page x (begun items)

-- ---- a switch

-- An element that worked with its context loaded works on without it, with the same left; and the other way round.
abbrev pub StopsWork : Device → Device → Held → Type 0
StopsWork d e x = (root_page : ℕ) → Works d x.window.guest x.window.engine true root_page x → WorksWith e x.window.guest x.window.engine false root_page x (left_of d x.window.guest x.window.engine true)

abbrev pub ResumesWork : Device → Device → Held → Type 0
ResumesWork d e x = (root_page : ℕ) → Works d x.window.guest x.window.engine false root_page x → WorksWith e x.window.guest x.window.engine true root_page x (left_of d x.window.guest x.window.engine false)

-- ---- what a call leaves of the engines

-- On every engine the context that was loaded is loaded still, or none, and the general registers are as they were.
pub record KeepsEngines (d e : Device) : Type 0 where
  pub loaded : e.loaded ≡ d.loaded
  pub general : e.general ≡ d.general
