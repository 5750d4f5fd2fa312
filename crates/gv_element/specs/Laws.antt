-- What holds of an element at work: what leaves it as it is, and how it goes on.
use Rattle.std.specs.Prelude.{◌≡◌, ◌≢◌, ℕ, ◌^◌, ◌<◌, Bool, true, false, List, [], slice_index, None, Some}
use Rattle.gv_gpu.specs.Change.{Leaves}
use Rattle.gv_gpu.specs.Context.{stopped, context_submitted}
use Rattle.gv_gpu.specs.Device.{Device, Loaded, with_faults}
use Rattle.gv_gpu.specs.Part.{Part, Within, outside, is_named, window_part, elements_part, standing_part, guest_part, shadow_label}
use Rattle.gv_types.specs.declared.ranges.Ranges.{Ranges}
use Rattle.gv_gpu.specs.Step.{next_place}
use Rattle.gv_ctx.specs.declared.saved.Saved.{Saved}
use Rattle.gv_fetch.specs.Left.{Left, IsLeft, moved}
use Rattle.gv_place.specs.Place.{StandsFor, KeepsShadow}
use Rattle.gv_place.specs.Seen.{IsShort}
use Rattle.gv_types.specs.declared.ids.Label.{Label}
use Rattle.gv_sctx.specs.Context.{FitsDwords}
use Rattle.gv_sring.specs.Window.{Window, Shows, page_at, descriptor_at}
use Rattle.gv_ctx.specs.Image.{IsImage}
use Rattle.gv_ctx.specs.declared.image.Image.{Image}
use Rattle.gv_fetch.specs.Fetch.{GlobalSpace, fetched}
use Rattle.gv_scan.specs.Scan.{Scanned}
use Rattle.gv_element.specs.Works.{Held, IsProgramOf, Works, WorksWith, WorksBeside, Rests, IsWindow, KeepsWindow, KeepsPage, Covers, Misses, HasNoPage, AreApart, element_part, context_now, left_of}

-- What a scan gives of an image may be loaded.
abbrev pub ScannedMayBeLoaded : Type 0
ScannedMayBeLoaded = (space : GlobalSpace) (engine : ℕ) (image : Image) (ring batches : List ℕ) → IsImage image → (scanned : Scanned (fetched space engine image) ring batches) → IsProgramOf engine ring batches scanned.items

-- Where the window is as it was, and the loaded context too if the guest owns the engine, the element works
-- as before, and as much is left of it.
abbrev pub WorkStays : Type 0
WorkStays = (d e : Device) (guest engine : ℕ) (here : Bool) (root_page : ℕ) (x : Held) → Works d guest engine here root_page x → KeepsWindow x.window d e → (here ≡ true → e.loaded engine ≡ d.loaded engine)
    → WorksWith e guest engine here root_page x (left_of d guest engine here)

abbrev pub PartKeepsWork : Type 0
PartKeepsWork = (d e : Device) (guest engine : ℕ) (here : Bool) (root_page : ℕ) (x : Held) (q : Part) → Works d guest engine here root_page x → Covers q here x.window → Leaves q d e
    → WorksWith e guest engine here root_page x (left_of d guest engine here)

-- The window is as it was where the guest's windows and all of its shadow pages are.
abbrev pub ShadowKeepsWindow : Type 0
ShadowKeepsWindow = (d e : Device) (w : Window) → w.engine < 4 → Shows d w → ((image : ℕ) → KeepsShadow w.guest image d e) → KeepsWindow w d e

-- The parts of a guest have the windows of its elements at work; and a load changes that guest's part alone, on
-- an engine that it owns.
abbrev pub ElementsCover : Type 0
ElementsCover = (guest engine : ℕ) (here : ℕ → Bool) (w : Window) → IsWindow guest engine w → Covers (elements_part guest here) (here engine) w

abbrev pub StandingCovers : Type 0
StandingCovers = (guest engine : ℕ) (ranges : Ranges) (here : ℕ → Bool) (w : Window) → IsWindow guest engine w → Covers (standing_part guest ranges here) (here engine) w

abbrev pub LoadIsWithin : Type 0
LoadIsWithin = (guest engine : ℕ) (own : List ℕ) (ranges : Ranges) (here : ℕ → Bool) → engine < 4 → here engine ≡ true → Within (element_part guest engine own) (guest_part guest ranges here)

-- ---- steps

-- After a step that left the window, the element works with what the new place stands for.
abbrev pub StepGoesOn : Type 0
StepGoesOn = (d e : Device) (guest engine root_page : ℕ) (x : Held) (works : Works d guest engine true root_page x) (place : Saved) (left : Left) → KeepsWindow x.window d e
    → e.loaded engine ≡ Some (record (context_now d guest engine true) { place = place })
    → StandsFor e (page_at x.window 1) works.runs.layout (record (context_now d guest engine true) { place = place }) left
    → IsLeft engine left → IsShort left → FitsDwords place
    → WorksWith e guest engine true root_page x left

-- What is left is no deeper after a command, and the place fits its fields, where the command's second dword
-- is one of 32 bits.
abbrev pub MovesStayShort : Type 0
MovesStayShort = (w : Left) (ws : List ℕ) (dwords : ℕ) → IsShort w → IsShort (moved w ws dwords)

abbrev pub MovesStaySmall : Type 0
MovesStaySmall = (place : Saved) (ws : List ℕ) (dwords : ℕ) → slice_index ws 1 < 2 ^ 32 → FitsDwords place → FitsDwords (next_place place ws dwords)

-- Where the engine has no context any more, the element can be taken away.
abbrev pub EndedRests : Type 0
EndedRests = (d e : Device) (guest engine : ℕ) (here : Bool) (root_page : ℕ) (x : Held) → Works d guest engine here root_page x → KeepsWindow x.window d e → e.loaded engine ≡ None → Rests e x.window

-- and likewise where the engine has another guest's
abbrev pub AwayRests : Type 0
AwayRests = (d : Device) (guest engine : ℕ) (here : Bool) (root_page : ℕ) (x : Held) → Works d guest engine here root_page x → ((l : Loaded) → d.loaded engine ≡ Some l → l.owner ≢ guest) → Rests d x.window

-- ---- putting away and bringing back

abbrev pub StoppedIsUnloaded : Type 0
StoppedIsUnloaded = (d : Device) (engine : ℕ) → (stopped d engine).loaded engine ≡ None

abbrev pub StoppedWorks : Type 0
StoppedWorks = (d : Device) (guest engine root_page : ℕ) (x : Held) → Works d guest engine true root_page x
    → WorksWith (stopped d engine) guest engine false root_page x (left_of d guest engine true)

-- so that it can be taken away, as after a failure
abbrev pub StoppedRests : Type 0
StoppedRests = (d : Device) (guest engine root_page : ℕ) (x : Held) → Works d guest engine true root_page x → Rests (stopped d engine) x.window

abbrev pub SubmittedWorks : Type 0
SubmittedWorks = (d : Device) (guest engine root_page : ℕ) (x : Held) → Works d guest engine false root_page x → d.loaded engine ≡ None
    → WorksWith (context_submitted d engine guest (descriptor_at guest engine)) guest engine true root_page x (left_of d guest engine false)

-- ---- other parts of the same guest

-- A call that changed a part which misses the element leaves it, and the part has none of its pages then.
abbrev pub OthersLeaveWork : Type 0
OthersLeaveWork = (d e : Device) (guest engine : ℕ) (here : Bool) (root_page : ℕ) (x : Held) (before after : Part) → Works d guest engine here root_page x → Misses before after here x.window
    → outside after e ≡ outside before d → WorksWith e guest engine here root_page x (left_of d guest engine here)

abbrev pub OthersStayApart : Type 0
OthersStayApart = (d e : Device) (w : Window) (before after : Part) → Shows d w → HasNoPage before w → outside after e ≡ outside before d → HasNoPage after w

-- A load takes no page that was live, and leaves each of these; a release leaves all that weren't its own.
abbrev pub LoadLeavesPages : Type 0
LoadLeavesPages = (d e : Device) (faults guest engine : ℕ) (own : List ℕ) (page : ℕ) (label : Label) → d.label page ≡ Some label
    → outside (element_part guest engine own) e ≡ outside (element_part guest engine []) (with_faults d faults) → KeepsPage d e page label

abbrev pub LoadTakesNewPages : Type 0
LoadTakesNewPages = (d e : Device) (faults guest engine : ℕ) (own : List ℕ) (page : ℕ) → d.label page ≡ Some (shadow_label guest)
    → outside (element_part guest engine own) e ≡ outside (element_part guest engine []) (with_faults d faults) → is_named own page ≡ false

abbrev pub ReleaseLeavesPages : Type 0
ReleaseLeavesPages = (d e : Device) (guest engine : ℕ) (own : List ℕ) (page : ℕ) (label : Label) → d.label page ≡ Some label → is_named own page ≡ false
    → outside (window_part guest engine []) e ≡ outside (window_part guest engine own) d → KeepsPage d e page label

-- ---- two elements of one guest

-- A load beside an element at work on another engine leaves it, and takes none of its pages.
abbrev pub LoadLeavesOthers : Type 0
LoadLeavesOthers = (d e : Device) (faults guest engine other : ℕ) (here : Bool) (root_page : ℕ) (y : Held) (w : Window) → engine ≢ other → Works d guest other here root_page y
    → outside (element_part guest engine w.pages) e ≡ outside (element_part guest engine []) (with_faults d faults)
    → WorksBeside e guest other here root_page y (left_of d guest other here) w

-- and so does one that fails
abbrev pub FailedLoadLeavesOthers : Type 0
FailedLoadLeavesOthers = (d e : Device) (faults guest engine other : ℕ) (here : Bool) (root_page : ℕ) (y : Held) → engine ≢ other → Works d guest other here root_page y
    → outside (element_part guest engine []) e ≡ outside (element_part guest engine []) (with_faults d faults)
    → WorksWith e guest other here root_page y (left_of d guest other here)

-- The release of one leaves the other.
abbrev pub ReleaseLeavesOthers : Type 0
ReleaseLeavesOthers = (d e : Device) (guest engine other : ℕ) (here : Bool) (root_page : ℕ) (y : Held) (w : Window) → engine ≢ other → Works d guest other here root_page y → AreApart w y.window
    → outside (window_part guest engine []) e ≡ outside (window_part guest engine w.pages) d
    → WorksWith e guest other here root_page y (left_of d guest other here)
