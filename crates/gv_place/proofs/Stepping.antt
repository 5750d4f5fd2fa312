-- One step of the engine on a copied program.
use Rattle.std.proofs.Common.{◌≡◌, ℕ, true, false, List, [], ◌∷◌, ◌++◌, length, Option, None, Some, Ok, Err, refl, ap, subst, ◌∙◌}
use Rattle.gv_cmd.specs.Allowed.{is_allowed}
use Rattle.gv_cmd.specs.Command.{decoded, shape_of}
use Rattle.gv_cmd.specs.Effect.{Effect, effect}
use Rattle.gv_cmd.specs.declared.command.Unlisted.{Unlisted as UnlistedError}
use Rattle.gv_gpu.specs.Device.{Device, Loaded, with_loaded}
use Rattle.gv_gpu.specs.Step.{Stepping, operations, head_read, stands_at, runs_privileged, settled, next_place, retired, has_ended, physical_step}
use Rattle.gv_gpu.specs.declared.step.Step.TheVariants.{Ran, Waits, Ended, Unlisted}
use Rattle.gv_gpu.proofs.Steps.{start, step-ended, step-front, front-unlisted, front-not_allowed, front-ran, front-waits}
use Rattle.gv_fetch.specs.Items.{Items}
use Rattle.gv_scan.specs.Layout.{Layout}
use Rattle.gv_fetch.specs.Left.{Left, Level, IsLeft, is_done, is_done_by, privileged_by, live_command, front, stands_of, is_privileged, moved}
use Rattle.gv_place.specs.Place.{StandsFor, KeepsShadow, ReadsSame}
use Rattle.gv_place.proofs.Ends.{ended-done, stands-same, privileged-same}
use Rattle.gv_place.proofs.LiveBatch.{live-fetched, live-after}
use Rattle.gv_place.proofs.Kept.{stands-kept}
use Rattle.gv_place.specs.Steps.{Runs}

module _ (d : Device) (image : ℕ) (p : Layout) (engine : ℕ) (l : Loaded) (w : Left) (is : d.loaded engine ≡ Some l) (stands : StandsFor d image p l w) (form : IsLeft engine w) where
  -- with nothing left the step ends
  pub ends : is_done w ≡ true → physical_step d engine ≡ record { after = with_loaded d engine None; answer = Ended }
  ends done = step-ended d engine l is (ended-done d image p l engine w stands form ∙ done)

  pub same-stands : stands_at l.place ≡ stands_of w
  same-stands = stands-same p l.place.first l.place.second w.first w.second stands.place.first stands.place.second

  pub same-privileged : runs_privileged l.place ≡ is_privileged w
  same-privileged = privileged-same p l.place.first l.place.second w.first w.second stands.place.first stands.place.second

  module _ (more : is_done w ≡ false) (priv : is_privileged w ≡ true) (ws : List ℕ) (runs : Runs d image p l w ws) where
    -- what the guest's own command does from here
    abbrev done : Effect Stepping
    done = effect operations ws engine true (record { device = d; engine = engine; context = l; strayed = false })

    begun : start d engine l ≡ record { device = d; engine = engine; context = l; strayed = false }
    begun = λ i. record { device = d; engine = engine; context = l; strayed = runs.strayed i }

    not_ended : has_ended l ≡ false
    not_ended = ended-done d image p l engine w stands form ∙ more

    taken : decoded (head_read d l).words ≡ Ok (runs.c, length ws)
    taken = ap decoded runs.words ∙ runs.same.decoded ∙ ap (λ n. Ok (runs.c, n)) runs.long

    may : is_allowed ws (stands_of w) engine ≡ true → is_allowed runs.c (stands_at l.place) engine ≡ true
    may own = runs.same.allowed (stands_at l.place) engine ∙ ap (λ s. is_allowed ws s engine) same-stands ∙ own

    does : effect operations runs.c engine (runs_privileged l.place) (start d engine l) ≡ done
    does =
        runs.same.effect engine (runs_privileged l.place) (start d engine l)
        ∙ ap (λ b. effect operations ws engine b (start d engine l)) (same-privileged ∙ priv)
        ∙ ap (effect operations ws engine true) begun

    -- the front command runs: what it leaves, the journal gets its shape, and the place stands behind it
    pub ran : (raise : ℕ) → is_allowed ws (stands_of w) engine ≡ true → done.raise ≡ Some raise
        → physical_step d engine ≡ record { after = retired (settled done.after) engine l runs.c (length ws); answer = Ran runs.c raise }
    ran raise own raises =
        step-front d engine l is not_ended
        ∙ front-ran d engine l runs.c (length ws) taken raise (may own) (ap (λ (e : Effect Stepping). e.raise) does ∙ raises)
        ∙ ap (λ (e : Effect Stepping). record { after = retired (settled e.after) engine l runs.c (length ws); answer = Ran runs.c raise }) does

    pub waits : is_allowed ws (stands_of w) engine ≡ true → done.raise ≡ None → physical_step d engine ≡ record { after = settled done.after; answer = Waits }
    waits own none =
        step-front d engine l is not_ended
        ∙ front-waits d engine l runs.c (length ws) taken (may own) (ap (λ (e : Effect Stepping). e.raise) does ∙ none)
        ∙ ap (λ (e : Effect Stepping). record { after = settled e.after; answer = Waits }) does

    pub ran-journal : (retired (settled done.after) engine l runs.c (length ws)).journal ≡ done.after.device.journal ++ record { engine = engine; owner = l.owner; shape = shape_of ws } ∷ []
    ran-journal = ap (λ s. done.after.device.journal ++ record { engine = engine; owner = l.owner; shape = s } ∷ []) runs.same.shape

    -- where the command's stores left the window's copies
    pub ran-stands : KeepsShadow l.owner image d done.after.device
        → StandsFor (retired (settled done.after) engine l runs.c (length ws)) image p (record l { place = next_place l.place runs.c (length ws) }) (moved w ws (length ws))
    ran-stands keeps =
        let e = retired (settled done.after) engine l runs.c (length ws) in
        let also : KeepsShadow l.owner image d e = record { entry = keeps.entry; label = keeps.label; words = keeps.words } in
        let after = runs.after in
        let here : StandsFor d image p (record l { place = next_place l.place runs.c (length ws) }) (moved w ws (length ws)) =
        (let P : ℕ → Type 0 = λ n. StandsFor d image p (record l { place = next_place l.place runs.c n }) (moved w ws (length ws)) in subst P runs.long after) in
        stands-kept d e image p (record l { place = next_place l.place runs.c (length ws) }) (moved w ws (length ws)) also here

-- ---- a live batch: the engine reads what the guest's device reads, so the step is that command's
module _ (d : Device) (image : ℕ) (p : Layout) (engine : ℕ) (l : Loaded) (w : Left) (read : ℕ → ℕ) (is : d.loaded engine ≡ Some l) (stands : StandsFor d image p l w) (form : IsLeft engine w) (agree : ReadsSame d l.root read) (live : is_privileged w ≡ false) where
  abbrev here : List ℕ
  here = front (live_command read) w

  words : (head_read d l).words ≡ here
  words = live-fetched d image p l engine w read stands form agree live

  live_more : (ring : Items) (f s : Option Level) → privileged_by f s ≡ false → is_done_by ring f s ≡ false
  live_more ring None None priv = cc
  live_more ring None (Some y) priv = refl
  live_more ring (Some x) None priv = refl
  live_more ring (Some x) (Some y) priv = refl

  live_goes : has_ended l ≡ false
  live_goes = ended-done d image p l engine w stands form ∙ live_more w.ring w.first w.second live

  pub live-unlisted : (e : UnlistedError) → decoded here ≡ Err e → physical_step d engine ≡ record { after = settled (start d engine l); answer = Unlisted }
  live-unlisted e bad = step-front d engine l is live_goes ∙ front-unlisted d engine l e (ap decoded words ∙ bad)

  module _ (ws : List ℕ) (n : ℕ) (taken : decoded here ≡ Ok (ws, n)) where
    pub live-denied : is_allowed ws (stands_of w) engine ≡ false → physical_step d engine ≡ record { after = settled (start d engine l); answer = Unlisted }
    live-denied denied =
        step-front d engine l is live_goes
        ∙ front-not_allowed d engine l ws n (ap decoded words ∙ taken) (ap (λ s. is_allowed ws s engine) (same-stands d image p engine l w is stands form) ∙ denied)

    abbrev live_done : Effect Stepping
    live_done = effect operations ws engine false (start d engine l)

    pub live-ran : (raise : ℕ) → is_allowed ws (stands_of w) engine ≡ true → live_done.raise ≡ Some raise
        → physical_step d engine ≡ record { after = retired (settled live_done.after) engine l ws n; answer = Ran ws raise }
    live-ran raise may raises =
        let priv : runs_privileged l.place ≡ false = same-privileged d image p engine l w is stands form ∙ live in
        let same = ap (λ b. effect operations ws engine b (start d engine l)) priv in
        step-front d engine l is live_goes
        ∙ front-ran d engine l ws n (ap decoded words ∙ taken) raise (ap (λ s. is_allowed ws s engine) (same-stands d image p engine l w is stands form) ∙ may) (ap (λ (e : Effect Stepping). e.raise) same ∙ raises)
        ∙ ap (λ (e : Effect Stepping). record { after = retired (settled e.after) engine l ws n; answer = Ran ws raise }) same

    pub live-stands : is_allowed ws (stands_of w) engine ≡ true → KeepsShadow l.owner image d live_done.after.device
        → StandsFor (retired (settled live_done.after) engine l ws n) image p (record l { place = next_place l.place ws n }) (moved w ws n)
    live-stands may keeps =
        let e = retired (settled live_done.after) engine l ws n in
        let also : KeepsShadow l.owner image d e = record { entry = keeps.entry; label = keeps.label; words = keeps.words } in
        stands-kept d e image p (record l { place = next_place l.place ws n }) (moved w ws n) also (live-after d image p l engine w ws n stands live may)
