-- A turn that waits or is idle changes nothing.
use Rattle.std.proofs.Common.{◌≡◌, ℕ, Bool, true, false, List, [], ◌∷◌, Option, None, Some, Result, Ok, Err, cond, refl}
use Rattle.gv_types.specs.declared.reply.Outcome.TheVariants as outcomes
use Rattle.gv_types.specs.declared.reply.Reason.{Reason}
use Rattle.gv_types.specs.declared.reply.Reason.TheVariants.{Command}
use Rattle.gv_cmd.specs.Allowed.{is_allowed}
use Rattle.gv_cmd.specs.Command.{decoded}
use Rattle.gv_cmd.specs.declared.command.Unlisted.{Unlisted}
use Rattle.gv_fetch.specs.Left.{is_done, stands_of}
use Rattle.gv_private.specs.Device.{PrivateDevice, Working, quietly, fails}
use Rattle.gv_private.specs.Laws.{is_still, StillTurnsChangeNothing}
use Rattle.gv_private.specs.Load.{loaded}
use Rattle.gv_private.specs.Space.{PrivateSpace}
use Rattle.gv_private.specs.Turn.{Turned, turned_as, front_words, front_effect, run_by, command_by, finished, load_by, next_by, turned_by}

abbrev IsStill : PrivateDevice → Turned → Type 0
IsStill p t = is_still t.outcome ≡ true → t ≡ turned_as t.outcome (quietly p)

choose : (p : PrivateDevice) (b : Bool) (x y : Turned) → IsStill p x → IsStill p y → IsStill p (cond b x y)
choose p true x y first second = first
choose p false x y first second = second

run-still : (p : PrivateDevice) (engine : ℕ) (w : Working) (ws : List ℕ) (dwords : ℕ) (s : PrivateSpace) (raise : Option ℕ) → IsStill p (run_by p engine w ws dwords s raise)
run-still p engine w ws dwords s None = λ still. refl
run-still p engine w ws dwords s (Some bits) = λ still. cc

command-still : (p : PrivateDevice) (engine : ℕ) (w : Working) (r : Result (List ℕ × ℕ) Unlisted) → IsStill p (command_by p engine w r)
command-still p engine w (Err unlisted) = λ still. cc
command-still p engine w (Ok (ws, dwords)) =
    choose p (is_allowed ws (stands_of w.left) engine) (run_by p engine w ws dwords (front_effect p engine w ws).after (front_effect p engine w ws).raise) (turned_as outcomes.Failed (fails p Command))
    (run-still p engine w ws dwords (front_effect p engine w ws).after (front_effect p engine w ws).raise)
    (λ still. cc)

load-still : (p : PrivateDevice) (r : Result PrivateDevice Reason) → IsStill p (load_by p r)
load-still p (Ok q) = λ still. cc
load-still p (Err reason) = λ still. cc

next-still : (p : PrivateDevice) (engine : ℕ) (running : List ℕ) → IsStill p (next_by p engine running)
next-still p engine [] = λ still. refl
next-still p engine (descriptor ∷ more) = load-still p (loaded p engine descriptor)

by-still : (p : PrivateDevice) (engine : ℕ) (element : Option Working) → IsStill p (turned_by p engine element)
by-still p engine None = next-still p engine (p.engines engine).slots.running
by-still p engine (Some w) =
    choose p (is_done w.left) (turned_as outcomes.Ended (finished p engine w)) (command_by p engine w (decoded (front_words p engine w)))
    (λ still. cc)
    (command-still p engine w (decoded (front_words p engine w)))

pub still_turns_change_nothing : StillTurnsChangeNothing
still_turns_change_nothing p engine =
    choose p p.failsafe (turned_as outcomes.Idle (quietly p)) (turned_by p engine (p.engines engine).element) (λ still. refl) (by-still p engine (p.engines engine).element)
