-- The cases of a step, and what every step leaves as it is.
use Rattle.std.proofs.Common.{◌≡◌, ℕ, Bool, true, false, List, Option, None, Some, Result, Ok, Err, cond, refl, ap, ◌∙◌}
use Rattle.gv_cmd.specs.Allowed.{is_allowed}
use Rattle.gv_cmd.specs.Command.{decoded}
use Rattle.gv_cmd.specs.Effect.{Effect, effect}
use Rattle.gv_cmd.specs.declared.command.Unlisted.{Unlisted as UnlistedError}
use Rattle.gv_gpu.specs.Device.{Device, Loaded, with_loaded}
use Rattle.gv_gpu.specs.Step.{Stepping, Stepped, operations, stands_at, runs_privileged, head_read, settled, retired, stepped_by, stepped_with, command_step, front_step, has_ended, step_with, physical_step}
use Rattle.gv_gpu.specs.declared.step.Step.TheVariants.{Ran, Waits, Ended, Unlisted, Idle}
use Rattle.gv_gpu.proofs.Effects.{rest, effect-stays}

-- ---- cases

pub step-idle : (d : Device) (engine : ℕ) → d.loaded engine ≡ None → physical_step d engine ≡ record { after = d; answer = Idle }
unfolding physical_step
step-idle d engine none = ap (step_with d engine) none

by_end : Device → ℕ → Loaded → Bool → Stepped
by_end d engine l b = cond b (record { after = with_loaded d engine None; answer = Ended }) (front_step d engine l)

pub step-ended : (d : Device) (engine : ℕ) (l : Loaded) → d.loaded engine ≡ Some l → has_ended l ≡ true → physical_step d engine ≡ record { after = with_loaded d engine None; answer = Ended }
unfolding physical_step by_end
step-ended d engine l is ended = ap (step_with d engine) is ∙ ap (by_end d engine l) ended

pub step-front : (d : Device) (engine : ℕ) (l : Loaded) → d.loaded engine ≡ Some l → has_ended l ≡ false → physical_step d engine ≡ front_step d engine l
unfolding physical_step by_end
step-front d engine l is more = ap (step_with d engine) is ∙ ap (by_end d engine l) more

-- what a step works on, when the front command has been read
abbrev pub start : Device → ℕ → Loaded → Stepping
start d engine l = record { device = d; engine = engine; context = l; strayed = (head_read d l).strayed }

pub front-unlisted : (d : Device) (engine : ℕ) (l : Loaded) (e : UnlistedError) → decoded (head_read d l).words ≡ Err e → front_step d engine l ≡ record { after = settled (start d engine l); answer = Unlisted }
unfolding front_step
front-unlisted d engine l e is = ap (command_step (start d engine l)) is

module _ (d : Device) (engine : ℕ) (l : Loaded) (ws : List ℕ) (dwords : ℕ) (is : decoded (head_read d l).words ≡ Ok (ws, dwords)) where
  -- what the command does
  abbrev pub done : Effect Stepping
  done = effect operations ws engine (runs_privileged l.place) (start d engine l)

  abbrev by_test : Bool → Stepped
  by_test b = cond b (stepped_by engine l ws dwords done.after done.raise) (record { after = settled (start d engine l); answer = Unlisted })

  pub front-not_allowed : is_allowed ws (stands_at l.place) engine ≡ false → front_step d engine l ≡ record { after = settled (start d engine l); answer = Unlisted }
  unfolding front_step
  front-not_allowed denied = ap (command_step (start d engine l)) is ∙ ap by_test denied

  allowed : is_allowed ws (stands_at l.place) engine ≡ true → front_step d engine l ≡ stepped_by engine l ws dwords done.after done.raise
  unfolding front_step
  allowed may = ap (command_step (start d engine l)) is ∙ ap by_test may

  pub front-waits : is_allowed ws (stands_at l.place) engine ≡ true → done.raise ≡ None → front_step d engine l ≡ record { after = settled done.after; answer = Waits }
  front-waits may waits = allowed may ∙ ap (stepped_by engine l ws dwords done.after) waits

  pub front-ran : (raise : ℕ) → is_allowed ws (stands_at l.place) engine ≡ true → done.raise ≡ Some raise → front_step d engine l ≡ record { after = retired (settled done.after) engine l ws dwords; answer = Ran ws raise }
  front-ran raise may ran = allowed may ∙ ap (stepped_by engine l ws dwords done.after) ran

-- ---- what stays

-- No page comes or goes, no entry is set, nothing is poked, and no fault is counted.
pub record Keeps (d e : Device) : Type 0 where
  pub label : e.label ≡ d.label
  pub live : e.live ≡ d.live
  pub global : e.global ≡ d.global
  pub pokes : e.pokes ≡ d.pokes
  pub faults : e.faults ≡ d.faults

by_rest : (d e : Device) → rest e ≡ rest d → Keeps d e
by_rest d e is = record {
  label = ap (λ (x : Device). x.label) is;
  live = ap (λ (x : Device). x.live) is;
  global = ap (λ (x : Device). x.global) is;
  pokes = ap (λ (x : Device). x.pokes) is;
  faults = ap (λ (x : Device). x.faults) is;
}

settled-keeps : (s : Stepping) → Keeps s.device (settled s)
settled-keeps s = record { label = refl; live = refl; global = refl; pokes = refl; faults = refl }

done-keeps : (d : Device) (engine : ℕ) (l : Loaded) (ws : List ℕ) (dwords : ℕ) (s : Stepping) (raise : Option ℕ) → Keeps d s.device → Keeps d (stepped_by engine l ws dwords s raise).after
done-keeps d engine l ws dwords s None k = record { label = k.label; live = k.live; global = k.global; pokes = k.pokes; faults = k.faults }
done-keeps d engine l ws dwords s (Some raise) k = record { label = k.label; live = k.live; global = k.global; pokes = k.pokes; faults = k.faults }

listed-keeps : (s : Stepping) (ws : List ℕ) (dwords : ℕ) (e : Effect Stepping) (b : Bool) → Keeps s.device e.after.device → Keeps s.device (cond b (stepped_with s.engine s.context ws dwords e) (record { after = settled s; answer = Unlisted })).after
listed-keeps s ws dwords e true k = done-keeps s.device s.engine s.context ws dwords e.after e.raise k
listed-keeps s ws dwords e false k = settled-keeps s

command-keeps : (s : Stepping) (r : Result (List ℕ × ℕ) UnlistedError) → Keeps s.device (command_step s r).after
command-keeps s (Err e) = settled-keeps s
command-keeps s (Ok (ws, dwords)) =
    let e = effect operations ws s.engine (runs_privileged s.context.place) s in
    listed-keeps s ws dwords e (is_allowed ws (stands_at s.context.place) s.engine)
    (by_rest s.device e.after.device (effect-stays ws s.engine (runs_privileged s.context.place) s).rest)

front-keeps : (d : Device) (engine : ℕ) (l : Loaded) → Keeps d (front_step d engine l).after
unfolding front_step
front-keeps d engine l = command-keeps (start d engine l) (decoded (head_read d l).words)

end-keeps : (d : Device) (engine : ℕ) (l : Loaded) (b : Bool) → Keeps d (by_end d engine l b).after
unfolding by_end
end-keeps d engine l true = record { label = refl; live = refl; global = refl; pokes = refl; faults = refl }
end-keeps d engine l false = front-keeps d engine l

loaded-keeps : (d : Device) (engine : ℕ) (context : Option Loaded) → Keeps d (step_with d engine context).after
unfolding by_end
loaded-keeps d engine None = record { label = refl; live = refl; global = refl; pokes = refl; faults = refl }
loaded-keeps d engine (Some l) = end-keeps d engine l (has_ended l)

pub step-keeps : (d : Device) (engine : ℕ) → Keeps d (physical_step d engine).after
unfolding physical_step
step-keeps d engine = loaded-keeps d engine (d.loaded engine)
