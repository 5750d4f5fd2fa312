-- What holds of the place of a context in its copies, step by step.
use Rattle.std.specs.Prelude.{ℕ, ◌*◌, ◌≡◌, Bool, true, false, List, length, None, Some}
use Rattle.gv_cmd.specs.Allowed.{is_allowed}
use Rattle.gv_cmd.specs.Effect.{effect}
use Rattle.gv_cmd.specs.Simulation.{access, MayDo}
use Rattle.gv_cmd.specs.Table.{kind_of}
use Rattle.gv_cmd.specs.declared.stands.Stands.TheVariants.{Ring}
use Rattle.gv_ctx.specs.declared.saved.Saved.{Saved}
use Rattle.gv_fetch.specs.Items.{Items, MayAllStand}
use Rattle.gv_fetch.specs.Left.{Left, IsLeft, begun, is_done, is_privileged, front, live_command, stands_of, moved}
use Rattle.gv_gpu.specs.Context.{context_of, stopped, context_submitted}
use Rattle.gv_gpu.specs.Device.{Device, Loaded, with_loaded}
use Rattle.gv_gpu.specs.Part.{Part, inside, is_in_windows, shadow_label}
use Rattle.gv_gpu.specs.Step.{Stepping, operations, head_read, settled, next_place, retired, has_ended, physical_step}
use Rattle.gv_gpu.specs.declared.step.Step.TheVariants.{Ran, Waits, Ended}
use Rattle.gv_scan.specs.Layout.{Layout, IsProgram, placed_layout}
use Rattle.gv_sctx.specs.Context.{HasImage, HoldsContext, FitsDwords}
use Rattle.gv_sring.specs.Copy.{Copied}
use Rattle.gv_place.specs.Place.{StandsFor, ReadsSame, KeepsShadow, GoesElsewhere}
use Rattle.gv_place.specs.Seen.{left_seen, IsShort}
use Rattle.gv_place.specs.Steps.{Runs, does}

-- The context has ended exactly where nothing is left.
abbrev pub EndsWhenDone : Type 0
EndsWhenDone = (d : Device) (image : ℕ) (p : Layout) (l : Loaded) (engine : ℕ) (w : Left) → StandsFor d image p l w → IsLeft engine w → has_ended l ≡ is_done w

-- The device and the loaded context determine what is left.
abbrev pub LeftIsSeen : Type 0
LeftIsSeen = (d : Device) (image : ℕ) (p : Layout) (l : Loaded) (engine : ℕ) (w : Left) → StandsFor d image p l w → IsLeft engine w → IsShort w → left_seen d l ≡ w

-- In the ring and in fetched batches the engine reads the front command's copy, and nothing strays. The
-- copy is decoded, allowed, shown in the journal and run as that command, and behind it the place stands
-- for what is left behind it.
abbrev pub FetchedRuns : Type 0
FetchedRuns = (d : Device) (image : ℕ) (p : Layout) (l : Loaded) (engine : ℕ) (w : Left) (read : ℕ → List ℕ) → StandsFor d image p l w → IsLeft engine w → is_done w ≡ false → is_privileged w ≡ true
    → Runs d image p l w (front read w)

-- In a live batch the engine reads the front command, where its reads agree with the guest's; and behind
-- it the place stands for what is left.
abbrev pub LiveIsRead : Type 0
LiveIsRead = (d : Device) (image : ℕ) (p : Layout) (l : Loaded) (engine : ℕ) (w : Left) (read : ℕ → ℕ) → StandsFor d image p l w → IsLeft engine w → ReadsSame d l.root read → is_privileged w ≡ false
    → (head_read d l).words ≡ front (live_command read) w

abbrev pub LiveIsPassed : Type 0
LiveIsPassed = (d : Device) (image : ℕ) (p : Layout) (l : Loaded) (engine : ℕ) (w : Left) (ws : List ℕ) (n : ℕ) → StandsFor d image p l w → is_privileged w ≡ false → is_allowed ws (stands_of w) engine ≡ true
    → StandsFor d image p (record l { place = next_place l.place ws n }) (moved w ws n)

-- ---- whole steps

abbrev pub StepEnds : Type 0
StepEnds = (d : Device) (image : ℕ) (p : Layout) (engine : ℕ) (l : Loaded) (w : Left) → d.loaded engine ≡ Some l → StandsFor d image p l w → IsLeft engine w → is_done w ≡ true
    → physical_step d engine ≡ record { after = with_loaded d engine None; answer = Ended }

-- A front command that is fetched and may stand there does what the guest's own command does. Where it is
-- a wait that doesn't hold, the step waits.
abbrev pub StepRuns : Type 0
StepRuns = (d : Device) (image : ℕ) (p : Layout) (engine : ℕ) (l : Loaded) (w : Left) → d.loaded engine ≡ Some l → StandsFor d image p l w → IsLeft engine w → is_done w ≡ false → is_privileged w ≡ true
    → (ws : List ℕ) (runs : Runs d image p l w ws) (raise : ℕ) → is_allowed ws (stands_of w) engine ≡ true → (does d engine l true ws).raise ≡ Some raise
    → physical_step d engine ≡ record { after = retired (settled (does d engine l true ws).after) engine l runs.c (length ws); answer = Ran runs.c raise }

abbrev pub StepWaits : Type 0
StepWaits = (d : Device) (image : ℕ) (p : Layout) (engine : ℕ) (l : Loaded) (w : Left) → d.loaded engine ≡ Some l → StandsFor d image p l w → IsLeft engine w → is_done w ≡ false → is_privileged w ≡ true
    → (ws : List ℕ) (runs : Runs d image p l w ws) → is_allowed ws (stands_of w) engine ≡ true → (does d engine l true ws).raise ≡ None
    → physical_step d engine ≡ record { after = settled (does d engine l true ws).after; answer = Waits }

-- Where the command's stores left the window and the shadow pages, the place stands behind it.
abbrev pub StepStands : Type 0
StepStands = (d : Device) (image : ℕ) (p : Layout) (engine : ℕ) (l : Loaded) (w : Left) → d.loaded engine ≡ Some l → StandsFor d image p l w → IsLeft engine w → is_done w ≡ false → is_privileged w ≡ true
    → (ws : List ℕ) (runs : Runs d image p l w ws) → KeepsShadow l.owner image d (does d engine l true ws).after.device
    → StandsFor (retired (settled (does d engine l true ws).after) engine l runs.c (length ws)) image p (record l { place = next_place l.place runs.c (length ws) }) (moved w ws (length ws))

-- ---- what stays

-- What changes neither the window nor shadow pages but the image leaves the place as it stands; a part of
-- the device that has them, and is as before, is such.
abbrev pub PlaceStays : Type 0
PlaceStays = (d e : Device) (image : ℕ) (p : Layout) (l : Loaded) (w : Left) → KeepsShadow l.owner image d e → StandsFor d image p l w → StandsFor e image p l w

abbrev pub PartKeeps : Type 0
PartKeeps = (guest image : ℕ) (w : Part) (d e : Device) → ((n : ℕ) → w.page n (Some (shadow_label guest)) ≡ true) → ((i : ℕ) → is_in_windows guest i ≡ true → w.entry i ≡ true) → inside w e ≡ inside w d → KeepsShadow guest image d e

-- A command that runs leaves the copies, where the accesses of its form and the rows that it may draw go to no shadow
-- page of the guest's.
abbrev pub StoresKeep : Type 0
StoresKeep = (guest root image : ℕ) (d : Device) → ((at : ℕ) → GoesElsewhere guest root d (access false at))
    → (ws : List ℕ) (engine : ℕ) (privileged : Bool) (s : Stepping) → s.context.root ≡ root → s.device ≡ d → MayDo (GoesElsewhere guest root d) engine privileged (kind_of ws)
    → KeepsShadow guest image d (effect operations ws engine privileged s).after.device

-- ---- loading, stopping, submitting

-- the place that a load fills in
abbrev pub front_place : Saved
front_place = record { ring = 0; first = None; second = None }

-- After a load the place stands for all that was fetched.
abbrev pub LoadedStands : Type 0
LoadedStands = (d : Device) (image : ℕ) (l : Loaded) (engine base : ℕ) (ring batches : List ℕ) (items : Items) (is : IsProgram ring batches items)
    → MayAllStand Ring engine items → Copied d l.owner image (placed_layout base is.layout) l.ring_start → l.place ≡ front_place → l.tail ≡ 4 * length ring
    → StandsFor d image (placed_layout base is.layout) l (begun items)

-- A context that is stopped stands by its image for the same, and so does one that is submitted again.
abbrev pub StoppedStands : Type 0
StoppedStands = (d : Device) (engine image : ℕ) (p : Layout) (l : Loaded) (w : Left) → d.loaded engine ≡ Some l → HasImage d l.owner l.descriptor image → HoldsContext d l → FitsDwords l.place → StandsFor d image p l w
    → StandsFor (stopped d engine) image p (context_of (stopped d engine) l.owner l.descriptor) w

abbrev pub SubmittedStands : Type 0
SubmittedStands = (d : Device) (engine image owner descriptor : ℕ) (p : Layout) (w : Left) → d.loaded engine ≡ None → StandsFor d image p (context_of d owner descriptor) w
    → StandsFor (context_submitted d engine owner descriptor) image p (context_of d owner descriptor) w
