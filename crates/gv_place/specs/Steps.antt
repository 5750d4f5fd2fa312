-- A step of an engine in a copied program, against the command that is next for the guest.
use Rattle.std.specs.Prelude.{ℕ, ◌≡◌, Bool, false, List, length, Ok}
use Rattle.gv_cmd.specs.Allowed.{is_allowed}
use Rattle.gv_cmd.specs.Command.{decoded, shape_of}
use Rattle.gv_cmd.specs.Effect.{Effect, effect}
use Rattle.gv_cmd.specs.declared.stands.Stands.{Stands as StandsIn}
use Rattle.gv_fetch.specs.Left.{Left, moved}
use Rattle.gv_gpu.specs.Device.{Device, Loaded}
use Rattle.gv_gpu.specs.Step.{Stepping, operations, head_read, next_place}
use Rattle.gv_place.specs.Place.{StandsFor}
use Rattle.gv_scan.specs.Layout.{Layout}

-- a copy is decoded, allowed, shown in the journal and run as its command
pub record SameCommand (ws c : List ℕ) : Type 0 where
  pub decoded : decoded c ≡ Ok (c, length c)
  pub allowed : (stands : StandsIn) (engine : ℕ) → is_allowed c stands engine ≡ is_allowed ws stands engine
  pub shape : shape_of c ≡ shape_of ws
  pub effect : (engine : ℕ) (privileged : Bool) (s : Stepping) → effect operations c engine privileged s ≡ effect operations ws engine privileged s

-- what the engine reads for the front command, and where it stands behind it
pub record Runs (d : Device) (image : ℕ) (p : Layout) (l : Loaded) (w : Left) (ws : List ℕ) : Type 0 where
  pub c : List ℕ
  pub words : (head_read d l).words ≡ c
  pub strayed : (head_read d l).strayed ≡ false
  pub own : decoded ws ≡ Ok (ws, length ws)
  pub same : SameCommand ws c
  pub long : length c ≡ length ws
  pub after : StandsFor d image p (record l { place = next_place l.place c (length c) }) (moved w ws (length ws))

-- what the guest's own command does in the space of the loaded context, where nothing has strayed so far
abbrev pub does : Device → ℕ → Loaded → Bool → List ℕ → Effect Stepping
does d engine l privileged ws = effect operations ws engine privileged (record { device = d; engine = engine; context = l; strayed = false })
