-- A step of the engine against the turn of the element that is at work there.
use Rattle.std.proofs.Common.{◌≡◌, ℕ, ◌≤◌, Bool, true, false, List, [], ◌∷◌, length, Option, Some, None, Result, Ok, Err, refl, sym, ap, ◌∙◌, subst}
use Rattle.gv_types.specs.declared.reply.Outcome.{Outcome}
use Rattle.gv_types.specs.declared.reply.Outcome.TheVariants as outcomes
use Rattle.gv_cmd.specs.Allowed.{is_allowed}
use Rattle.gv_cmd.specs.Command.{decoded, shape_of}
use Rattle.gv_cmd.specs.Effect.{Effect, effect}
use Rattle.gv_cmd.specs.Simulation.{MayDo, SameEffect}
use Rattle.gv_cmd.specs.Table.{kind_of}
use Rattle.gv_cmd.specs.declared.command.Unlisted.{Unlisted as UnlistedError}
use Rattle.gv_fetch.specs.Left.{IsLeft, is_done, is_privileged, live_command, stands_of, moved}
use Rattle.gv_fetch.proofs.Moving.{fetched-moves, live-moves}
use Rattle.gv_gpu.specs.Device.{Device, Loaded}
use Rattle.gv_gpu.specs.Step.{Stepping, operations, head_read, settled, has_ended, runs_privileged, stands_at, next_place, retired, physical_step}
use Rattle.gv_gpu.specs.declared.step.Step.TheVariants as steps
use Rattle.gv_gpu.proofs.Effects.{Stays, effect-stays}
use Rattle.gv_gpu.proofs.Steps.{start, step-front, front-waits}
use Rattle.gv_guest.specs.Placed.{Placed}
use Rattle.gv_place.specs.Place.{KeepsShadow, ReadsSame, StandsFor}
use Rattle.gv_place.specs.Steps.{Runs}
use Rattle.gv_place.proofs.Ends.{ended-done}
use Rattle.gv_place.proofs.LiveBatch.{live-fetched}
use Rattle.gv_place.proofs.Runs.{runs-fetched}
use Rattle.gv_place.proofs.Stepping.{ends, same-stands, same-privileged, ran, waits, ran-stands, live-unlisted, live-denied, live-ran, live-stands}
use Rattle.gv_private.specs.Device.{PrivateDevice, Working}
use Rattle.gv_private.specs.Space.{PrivateSpace, space_of, operand_read, private_operations}
use Rattle.gv_private.specs.Status.{command_raised}
use Rattle.gv_private.specs.Turn.{Turned, front_words, front_effect, run_by, ran_after, turned}
use Rattle.gv_scan.specs.Layout.{Layout}
use Rattle.gv_shape.specs.Shadow.{Pages}
use Rattle.gv_turn.specs.Laws.{StepIsTurn}
use Rattle.gv_turn.specs.Owned.{MayReach}
use Rattle.gv_turn.specs.Same.{Same}
use Rattle.gv_turn.specs.Work.{AtWork, StepIs, EndsAlike, WaitsAlike, FailsAlike, RunsAlike}
use Rattle.gv_turn.proofs.After.{setting, begun, begins, went-on, ran-one, still-works}
use Rattle.gv_turn.proofs.Effects.{wait-leaves, settled-straight, unchanged, keeps-shadow}
use Rattle.gv_turn.proofs.Live.{code-read, code-straight}
use Rattle.gv_turn.proofs.Owned.{front-may, live_code_may}
use Rattle.gv_turn.proofs.Registers.{effect-above}
use Rattle.gv_turn.proofs.Simulated.{commands_agree}
use Rattle.gv_turn.proofs.Turns.{turn-done, turn-unlisted, turn-denied, turn-runs}

module _ (d : Device) (placed : Placed) (pages : Pages) (p : PrivateDevice) (engine : ℕ) (w : Working) (l : Loaded) (image : ℕ) (layout : Layout) (at : AtWork d placed pages p engine w l image layout) where
  abbrev Is : Outcome → Type 0
  Is outcome = StepIs d placed pages p engine w l image layout outcome

  as-turned : (t : Turned) → turned p engine ≡ t → Is t.outcome → Is (turned p engine).outcome
  as-turned t is step = subst Is (sym (ap (λ (x : Turned). x.outcome) is)) step

  abbrev first : Stepping
  first = begun d placed pages p engine w l image layout at

  abbrev space : PrivateSpace
  space = space_of p engine w.root

  abbrev read : ℕ → ℕ
  read = operand_read space false

  -- ---- nothing is left

  ended : is_done w.left ≡ true → Is (turned p engine).outcome
  ended done =
      let turn = turn-done p engine w at.awake at.element done in
      let here : EndsAlike d p engine w = record { step = ends d image layout engine l w.left at.loaded at.place at.left done; turn = turn } in
      as-turned _ turn here

  -- ---- a command that may run

  abbrev does : Bool → List ℕ → Effect Stepping
  does privileged ws = effect operations ws engine privileged first

  abbrev own_does : Bool → List ℕ → Effect PrivateSpace
  own_does privileged ws = effect private_operations ws engine privileged space

  -- the front command, as the private device reads it and as the engine does
  record Goes (ws c : List ℕ) (n : ℕ) (privileged : Bool) : Type 0 where
    mode : is_privileged w.left ≡ privileged
    front : decoded (front_words p engine w) ≡ Ok (ws, n)
    turn : turned p engine ≡ run_by p engine w ws n (front_effect p engine w ws).after (front_effect p engine w ws).raise
    may : MayDo (MayReach p.ranges) engine privileged (kind_of ws)
    shape : shape_of c ≡ shape_of ws
    form : IsLeft engine (moved w.left ws n)
    ran : (raise : ℕ) → (does privileged ws).raise ≡ Some raise → physical_step d engine ≡ record { after = retired (settled (does privileged ws).after) engine l c n; answer = steps.Ran c raise }
    waits : (does privileged ws).raise ≡ None → physical_step d engine ≡ record { after = settled (does privileged ws).after; answer = steps.Waits }
    stands : KeepsShadow l.owner image d (does privileged ws).after.device
        → StandsFor (retired (settled (does privileged ws).after) engine l c n) image layout (record l { place = next_place l.place c n }) (moved w.left ws n)

  module _ (ws c : List ℕ) (n : ℕ) (privileged : Bool) (goes : Goes ws c n privileged) where
    abbrev done : Effect Stepping
    done = does privileged ws

    abbrev own : Effect PrivateSpace
    own = own_does privileged ws

    agree : SameEffect (Same (setting d placed pages p engine w l image layout at)) own done
    agree = commands_agree (setting d placed pages p engine w l image layout at) at.parts ws engine privileged space first (begins d placed pages p engine w l image layout at) goes.may

    stays : Stays first done.after
    stays = effect-stays ws engine privileged first

    above : (k m : ℕ) → 16 ≤ m → done.after.device.general k m ≡ d.general k m
    above k m big = effect-above ws engine privileged first k m big

    settle : settled done.after ≡ done.after.device
    settle = settled-straight done.after agree.after.straight

    turn : turned p engine ≡ run_by p engine w ws n own.after own.raise
    turn = goes.turn ∙ ap (λ b. run_by p engine w ws n (own_does b ws).after (own_does b ws).raise) goes.mode

    waited : own.raise ≡ None → Is (turned p engine).outcome
    waited none =
        let raise : done.raise ≡ None = sym agree.raise ∙ none in
        let is = turn ∙ ap (run_by p engine w ws n own.after) none in
        let here : WaitsAlike d p engine = record {
          step = goes.waits raise ∙ ap (λ (x : Device). record { after = x; answer = steps.Waits }) (settle ∙ wait-leaves ws engine privileged first raise);
          turn = is;
        } in
        as-turned _ is here

    abbrev next : Device
    next = retired done.after.device engine l c n

    keeps : KeepsShadow l.owner image d done.after.device
    keeps =
        subst (λ owner. KeepsShadow owner image d done.after.device) (sym at.owner)
        (keeps-shadow placed.guest image d done.after.device
        (unchanged placed.guest engine d done.after.device (ap (λ (x : Device). x.label) stays.rest) (ap (λ (x : Device). x.global) stays.rest) agree.after.outside))

    place : StandsFor next image layout (record l { place = next_place l.place c n }) (moved w.left ws n)
    place =
        subst (λ (x : Device). StandsFor (retired x engine l c n) image layout (record l { place = next_place l.place c n }) (moved w.left ws n)) settle (goes.stands keeps)

    ran-on : (raise : ℕ) → own.raise ≡ Some raise → Is (turned p engine).outcome
    ran-on raise raises =
        let is = turn ∙ ap (run_by p engine w ws n own.after) raises in
        let here : RunsAlike d placed pages p engine w l image layout = record {
          command = c;
          raise = raise;
          after = next;
          left = ran_after p engine w ws n own.after;
          work = record w { left = moved w.left ws n };
          context = record l { place = next_place l.place c n };
          step = goes.ran raise (sym agree.raise ∙ raises) ∙ ap (λ (x : Device). record { after = retired x engine l c n; answer = steps.Ran c raise }) settle;
          turn = is ∙ (λ i. record {
            left = command_raised (ran_after p engine w ws n own.after) engine raise;
            outcome = outcomes.Ran;
            ran = record { engine = engine; guest = at.number i; shape = sym goes.shape i } ∷ [];
          });
          device = ran-one d placed pages p engine w l image layout at ws c n own.after done.after agree.after stays above;
          went = went-on d placed pages p engine w l image layout at ws c n own.after done.after agree.after stays above;
          working = refl;
          loaded = refl;
          own = ws;
          dwords = n;
          front = goes.front;
          moved = refl;
          place = refl;
          works = still-works d placed pages p engine w l image layout at ws c n own.after done.after agree.after stays above place goes.form;
        } in
        as-turned _ is here

    by_raise : (o : Option ℕ) → own.raise ≡ o → Is (turned p engine).outcome
    by_raise None none = waited none
    by_raise (Some raise) raises = ran-on raise raises

    goes-is : Is (turned p engine).outcome
    goes-is = by_raise own.raise refl

  -- ---- the ring and fetched batches

  module _ (more : is_done w.left ≡ false) (priv : is_privileged w.left ≡ true) where
    abbrev ws : List ℕ
    ws = front_words p engine w

    runs : Runs d image layout l w.left ws
    runs = runs-fetched d image layout l engine w.left (live_command read) at.place at.left more priv

    fetched-goes : Goes ws runs.c (length ws) true
    fetched-goes =
        let may = front-may p.ranges engine (live_command read) w.left at.left at.owned more priv in
        record {
          mode = priv;
          front = runs.own;
          turn = turn-runs p engine w at.awake at.element ws (length ws) more runs.own may.allowed;
          may = may.owned;
          shape = runs.same.shape;
          form = fetched-moves engine (live_command read) (length ws) w.left at.left more priv;
          ran = λ raise raises. ran d image layout engine l w.left at.loaded at.place at.left more priv ws runs raise may.allowed raises;
          waits = λ none. waits d image layout engine l w.left at.loaded at.place at.left more priv ws runs may.allowed none;
          stands = λ keeps. ran-stands d image layout engine l w.left at.loaded at.place at.left more priv ws runs keeps;
        }

    fetched-is : Is (turned p engine).outcome
    fetched-is = goes-is ws runs.c (length ws) true fetched-goes

  -- ---- live batches

  module _ (more : is_done w.left ≡ false) (live : is_privileged w.left ≡ false) where
    abbrev code : List ℕ
    code = front_words p engine w

    agrees : ReadsSame d l.root read
    agrees = code-read (setting d placed pages p engine w l image layout at) at.parts space first (begins d placed pages p engine w l image layout at)

    live_place : runs_privileged l.place ≡ false
    live_place = same-privileged d image layout engine l w.left at.loaded at.place at.left ∙ live

    straight : (head_read d l).strayed ≡ false
    straight = code-straight (setting d placed pages p engine w l image layout at) at.parts space first (begins d placed pages p engine w l image layout at) live_place

    starts : start d engine l ≡ first
    starts = λ i. record { device = d; engine = engine; context = l; strayed = straight i }

    nothing : settled (start d engine l) ≡ d
    nothing = settled-straight (start d engine l) straight

    unlisted : (e : UnlistedError) → decoded code ≡ Err e → Is (turned p engine).outcome
    unlisted e bad =
        let turn = turn-unlisted p engine w at.awake at.element more e bad in
        let here : FailsAlike d p engine = record {
          step = live-unlisted d image layout engine l w.left read at.loaded at.place at.left agrees live e bad ∙ ap (λ (x : Device). record { after = x; answer = steps.Unlisted }) nothing;
          turn = turn;
        } in
        as-turned _ turn here

    module _ (ws : List ℕ) (n : ℕ) (taken : decoded code ≡ Ok (ws, n)) where
      denied : is_allowed ws (stands_of w.left) engine ≡ false → Is (turned p engine).outcome
      denied no_leave =
          let turn = turn-denied p engine w at.awake at.element ws n more taken no_leave in
          let here : FailsAlike d p engine = record {
            step = live-denied d image layout engine l w.left read at.loaded at.place at.left agrees live ws n taken no_leave ∙ ap (λ (x : Device). record { after = x; answer = steps.Unlisted }) nothing;
            turn = turn;
          } in
          as-turned _ turn here

      abbrev started_does : Stepping → Effect Stepping
      started_does x = effect operations ws engine false x

      live-waits : is_allowed ws (stands_of w.left) engine ≡ true → (does false ws).raise ≡ None → physical_step d engine ≡ record { after = settled (does false ws).after; answer = steps.Waits }
      live-waits may none =
          let words = live-fetched d image layout l engine w.left read at.place at.left agrees live in
          let not_ended : has_ended l ≡ false = ended-done d image layout l engine w.left at.place at.left ∙ more in
          let allowed : is_allowed ws (stands_at l.place) engine ≡ true = ap (λ s. is_allowed ws s engine) (same-stands d image layout engine l w.left at.loaded at.place at.left) ∙ may in
          let same : effect operations ws engine (runs_privileged l.place) (start d engine l) ≡ does false ws = ap (λ b. effect operations ws engine b (start d engine l)) live_place ∙ ap started_does starts in
          step-front d engine l at.loaded not_ended
          ∙ front-waits d engine l ws n (ap decoded words ∙ taken) allowed (ap (λ (e : Effect Stepping). e.raise) same ∙ none)
          ∙ ap (λ (e : Effect Stepping). record { after = settled e.after; answer = steps.Waits }) same

      live-goes : is_allowed ws (stands_of w.left) engine ≡ true → Goes ws ws n false
      live-goes may = record {
        mode = live;
        front = taken;
        turn = turn-runs p engine w at.awake at.element ws n more taken may;
        may = live_code_may p.ranges ws engine;
        shape = refl;
        form = live-moves engine ws n w.left at.left live may;
        ran = λ raise raises.
            live-ran d image layout engine l w.left read at.loaded at.place at.left agrees live ws n taken raise may (ap (λ x. (started_does x).raise) starts ∙ raises)
            ∙ ap (λ x. record { after = retired (settled (started_does x).after) engine l ws n; answer = steps.Ran ws raise }) starts;
        waits = λ none. live-waits may none;
        stands = λ keeps.
            subst (λ x. StandsFor (retired (settled (started_does x).after) engine l ws n) image layout (record l { place = next_place l.place ws n }) (moved w.left ws n)) starts
            (live-stands d image layout engine l w.left read at.loaded at.place at.left agrees live ws n taken may
            (subst (λ x. KeepsShadow l.owner image d (started_does x).after.device) (sym starts) keeps));
      }

      by_test : (b : Bool) → is_allowed ws (stands_of w.left) engine ≡ b → Is (turned p engine).outcome
      by_test false not = denied not
      by_test true may = goes-is ws ws n false (live-goes may)

      listed : Is (turned p engine).outcome
      listed = by_test (is_allowed ws (stands_of w.left) engine) refl

    by_code : (r : Result (List ℕ × ℕ) UnlistedError) → decoded code ≡ r → Is (turned p engine).outcome
    by_code (Err e) bad = unlisted e bad
    by_code (Ok (ws, n)) taken = listed ws n taken

    live-is : Is (turned p engine).outcome
    live-is = by_code (decoded code) refl

  -- ---- all cases

  by_mode : (b : Bool) → is_done w.left ≡ false → is_privileged w.left ≡ b → Is (turned p engine).outcome
  by_mode true more priv = fetched-is more priv
  by_mode false more live = live-is more live

  by_done : (b : Bool) → is_done w.left ≡ b → Is (turned p engine).outcome
  by_done true done = ended done
  by_done false more = by_mode (is_privileged w.left) more refl

  pub whole : Is (turned p engine).outcome
  whole = by_done (is_done w.left) refl

pub step_is_turn : StepIsTurn
step_is_turn d placed pages p engine w l image layout at = whole d placed pages p engine w l image layout at
