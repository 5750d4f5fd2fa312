-- A step at an element at work touches exactly what its turn asks for and is granted.
use Rattle.std.proofs.Common.{◌≡◌, ℕ, ◌+◌, ◌%◌, ◌^◌, ◌<◌, min, not, Bool, true, false, List, [], ◌++◌, Option, Some, None, IfSome, Result, Ok, Err, All, length, get_or, cond, refl, sym, ap, ◌∙◌, subst, arith}
use Rattle.std.proofs.lemmas.Grind.{flat_map-append}
use Rattle.std.proofs.lemmas.List.Elements.{All-map}
use Rattle.gv_ctx.specs.declared.saved.Batch.{Batch}
use Rattle.gv_cmd.specs.Allowed.{is_allowed}
use Rattle.gv_cmd.specs.Command.{decoded}
use Rattle.gv_cmd.specs.Effect.{Effect, effect}
use Rattle.gv_cmd.specs.Simulation.{MayDo}
use Rattle.gv_cmd.specs.Table.{kind_of, length_of, read_length}
use Rattle.gv_cmd.specs.declared.command.Unlisted.{Unlisted as UnlistedError}
use Rattle.gv_cmd.specs.declared.stands.Stands.TheVariants.{Privileged, Second}
use Rattle.gv_fetch.specs.Items.{Items}
use Rattle.gv_fetch.specs.Left.{Level, Fetched, At, LevelMayStand, words_of, started, live_command, is_done, privileged_by, is_privileged, stands_of}
use Rattle.gv_fetch.proofs.Readdressed.{effect-same}
use Rattle.gv_gpu.specs.Device.{Device, Loaded}
use Rattle.gv_gpu.specs.Physical.{read_page, dword_at}
use Rattle.gv_gpu.specs.Step.{Stepping, runs_privileged, stands_at, active_head_by, batch_address, head_read, has_ended}
use Rattle.gv_guest.specs.Placed.{Placed}
use Rattle.gv_place.specs.Place.{LevelAt, ReadsSame}
use Rattle.gv_place.specs.Steps.{Runs}
use Rattle.gv_place.proofs.Ahead.{next-fetched}
use Rattle.gv_place.proofs.Ends.{ended-done}
use Rattle.gv_place.proofs.Levels.{FrontCopy, same, start}
use Rattle.gv_place.proofs.LiveBatch.{live-fetched}
use Rattle.gv_place.proofs.Runs.{runs-fetched}
use Rattle.gv_place.proofs.Stepping.{same-stands, same-privileged}
use Rattle.gv_private.specs.Device.{PrivateDevice, Working}
use Rattle.gv_private.specs.Space.{PrivateSpace, space_of, reads, writes, operand_read}
use Rattle.gv_private.specs.Turn.{front_words}
use Rattle.gv_scan.specs.Layout.{Layout}
use Rattle.gv_shape.specs.Shadow.{Pages}
use Rattle.gv_turn.specs.Owned.{MayReach}
use Rattle.gv_turn.specs.Same.{Setting, Same}
use Rattle.gv_turn.specs.Work.{AtWork}
use Rattle.gv_turn.proofs.After.{setting, begun, begins}
use Rattle.gv_turn.proofs.Live.{code-read, code-straight}
use Rattle.gv_turn.proofs.Owned.{front-may, live_code_may}
use Rattle.gv_turn.proofs.Simulated.{reads_placed, writes_placed}
use Rattle.gv_exact.specs.Asked.{given_one, command_asked}
use Rattle.gv_exact.specs.Exact.{recorded_operations, at_front, live_code_touched, operands_touched, front_touched, touched_with, step_touched, live_at_by, live_at, code_asked_at, listed_asked, front_asked, turn_asked, given_by, on_host, on_hosts, StepsExactly}
use Rattle.gv_exact.specs.Laws.{ExactGrants, Ungranted, Touches, Spares, UngrantedIsSpared}
use Rattle.gv_exact.specs.Touched.{Touch, Recorded, untouched, codes_touched}
use Rattle.gv_exact.proofs.Asked.{codes_given}
use Rattle.gv_exact.proofs.Granted.{asked_and_granted, IsGranted, all_granted}
use Rattle.gv_exact.proofs.Touches.{joined, codes_are_read, touches_agree}

-- a copy does what its command does, recorded or not
copied-effect : (p : Layout) (ws c : List ℕ) (items : Items) → FrontCopy p ws c items → (engine : ℕ) (b : Bool) (s : Recorded Stepping) → effect recorded_operations c engine b s ≡ effect recorded_operations ws engine b s
copied-effect p ws c items (same is not) engine b s = ap (λ x. effect recorded_operations x engine b s) is
copied-effect p ws c items (start to is starts at) engine b s = effect-same ws c to starts recorded_operations engine b s

-- in privileged code nothing is read live
no_live : (f s : Option Level) → privileged_by f s ≡ true → live_at_by f s ≡ None
no_live f (Some (Fetched items)) priv = refl
no_live f (Some (At at)) priv = cc
no_live (Some (Fetched items)) None priv = refl
no_live (Some (At at)) None priv = cc
no_live None None priv = refl

-- where a live batch's command stands, on both sides
record LiveAt (private_at : Option ℕ) (device_at : ℕ) : Type 0 where
  at : ℕ
  own : private_at ≡ Some at
  device : device_at ≡ at
  fit : at % 4 ≡ 0

in_batch : Batch → Bool → ℕ
in_batch b live = cond live (b.at % 2 ^ 48) (min b.at (2 ^ 32))

live_batch : (b : Batch) (at : ℕ) → b.live ≡ true → b.at ≡ at → batch_address b ≡ at % 2 ^ 48
unfolding in_batch
live_batch b at alive is = ap (in_batch b) alive ∙ ap (λ n. n % 2 ^ 48) is

fits : (at : ℕ) → at % 4 ≡ 0 → (at % 2 ^ 48) % 4 ≡ 0
fits at fit = omega arith

live-level : (p : Layout) (engine ring : ℕ) (first second : Option Batch) (f s : Option Level) → LevelAt p first f → LevelAt p second s → LevelMayStand Privileged engine f → LevelMayStand Second engine s → privileged_by f s ≡ false
    → LiveAt (live_at_by f s) (active_head_by ring first second)
live-level p engine ring first (Some b) f (Some (Fetched items)) one two mf ms live = cc
live-level p engine ring first (Some b) f (Some (At at)) one two mf ms live = record { at = at % 2 ^ 48; own = refl; device = live_batch b at two.0 two.1; fit = fits at ms }
live-level p engine ring first (Some b) f None one two mf ms live = absurd two
live-level p engine ring first None f (Some level) one two mf ms live = absurd two
live-level p engine ring (Some b) None (Some (Fetched items)) None one two mf ms live = cc
live-level p engine ring (Some b) None (Some (At at)) None one two mf ms live = record { at = at % 2 ^ 48; own = refl; device = live_batch b at one.0 one.1; fit = fits at mf }
live-level p engine ring (Some b) None None None one two mf ms live = absurd one
live-level p engine ring None None (Some level) None one two mf ms live = absurd one
live-level p engine ring None None None None one two mf ms live = cc

module _ (d : Device) (placed : Placed) (pages : Pages) (p : PrivateDevice) (engine : ℕ) (w : Working) (l : Loaded) (image : ℕ) (layout : Layout) (at : AtWork d placed pages p engine w l image layout) where
  abbrev space : PrivateSpace
  space = space_of p engine w.root

  abbrev read : ℕ → ℕ
  read = operand_read space false

  abbrev first : Stepping
  first = begun d placed pages p engine w l image layout at

  abbrev set : Setting
  set = setting d placed pages p engine w l image layout at

  at_first : Same set space first
  at_first = begins d placed pages p engine w l image layout at

  abbrev trace : List ℕ → Bool → Stepping → List Touch
  trace ws b s = (effect recorded_operations ws engine b (untouched s)).after.trace

  -- a command from there touches what it asks for and is granted
  traced : (ws : List ℕ) (b : Bool) → MayDo (MayReach p.ranges) engine b (kind_of ws) → trace ws b first ≡ on_hosts placed (given_by space (command_asked ws engine b))
  traced ws b may =
      (touches_agree set at.parts ws engine b (untouched space) (untouched first) (record { same = at_first; trace = refl }) may).after.trace
      ∙ ap (on_hosts placed) (asked_and_granted space at.root ws engine b)

  mode : (b : Bool) → is_privileged w.left ≡ b → runs_privileged l.place ≡ b
  mode b is = same-privileged d image layout engine l w.left at.loaded at.place at.left ∙ is

  -- the operands of the front command, as the device reads it and as the private device does
  module _ (b : Bool) (own : is_privileged w.left ≡ b) (c ws : List ℕ) (m n : ℕ) (starts : at_front d engine l ≡ first) (taken : decoded (head_read d l).words ≡ Ok (c, m)) (own_taken : decoded (front_words p engine w) ≡ Ok (ws, n)) where
    by_test : ((s : Recorded Stepping) → effect recorded_operations c engine b s ≡ effect recorded_operations ws engine b s) → MayDo (MayReach p.ranges) engine b (kind_of ws) → (t : Bool)
        → cond t (trace c b first) [] ≡ on_hosts placed (given_by space (cond t (command_asked ws engine (is_privileged w.left)) []))
    by_test alike may true =
        ap (λ (e : Effect (Recorded Stepping)). e.after.trace) (alike (untouched first))
        ∙ traced ws b may
        ∙ ap (λ v. on_hosts placed (given_by space (command_asked ws engine v))) (sym own)
    by_test alike may false = refl

    operands : ((s : Recorded Stepping) → effect recorded_operations c engine b s ≡ effect recorded_operations ws engine b s) → MayDo (MayReach p.ranges) engine b (kind_of ws) → is_allowed c (stands_at l.place) engine ≡ is_allowed ws (stands_of w.left) engine
        → operands_touched d engine l (decoded (head_read d l).words) ≡ on_hosts placed (given_by space (listed_asked engine w.left (decoded (front_words p engine w))))
    operands alike may allowed =
        ap (operands_touched d engine l) taken
        ∙ (λ i. cond (allowed i) (trace c (mode b own i) (starts i)) [])
        ∙ by_test alike may (is_allowed ws (stands_of w.left) engine)
        ∙ ap (λ r. on_hosts placed (given_by space (listed_asked engine w.left r))) (sym own_taken)

  -- code and operands together
  whole : (b : Bool) → is_privileged w.left ≡ b → live_code_touched d l b ≡ on_hosts placed (given_by space (code_asked_at read (live_at w.left)))
      → operands_touched d engine l (decoded (head_read d l).words) ≡ on_hosts placed (given_by space (listed_asked engine w.left (decoded (front_words p engine w))))
      → front_touched d engine l ≡ on_hosts placed (given_by space (front_asked p engine w))
  whole b own code operand =
      (λ i. live_code_touched d l (mode b own i) ++ operands_touched d engine l (decoded (head_read d l).words))
      ∙ joined placed _ _ (given_by space (code_asked_at read (live_at w.left))) (given_by space (listed_asked engine w.left (decoded (front_words p engine w)))) code operand
      ∙ ap (on_hosts placed) (sym (flat_map-append (given_one (reads space) (writes space)) (code_asked_at read (live_at w.left)) (listed_asked engine w.left (decoded (front_words p engine w)))))

  abbrev straight_start : Bool → Stepping
  straight_start b = record { device = d; engine = engine; context = l; strayed = b }

  -- ---- the ring and fetched batches

  fetched-touches : is_done w.left ≡ false → is_privileged w.left ≡ true → front_touched d engine l ≡ on_hosts placed (given_by space (front_asked p engine w))
  fetched-touches more priv =
      let ws = front_words p engine w in
      let runs : Runs d image layout l w.left ws = runs-fetched d image layout l engine w.left (live_command read) at.place at.left more priv in
      let next = next-fetched d image layout l engine w.left at.place at.left more priv in
      let may = front-may p.ranges engine (live_command read) w.left at.left at.owned more priv in
      let copy : runs.c ≡ next.read.c = sym runs.words ∙ next.read.words in
      let alike = (λ (s : Recorded Stepping). ap (λ x. effect recorded_operations x engine true s) copy
      ∙ copied-effect layout (words_of next.items) next.read.c (started next.items) next.read.copy engine true s
      ∙ ap (λ x. effect recorded_operations x engine true s) (sym (next.front (live_command read)))) in
      whole true priv (ap (λ o. on_hosts placed (given_by space (code_asked_at read o))) (sym (no_live w.left.first w.left.second priv)))
      (operands true priv runs.c ws (length runs.c) (length ws) (ap straight_start runs.strayed) (ap decoded runs.words ∙ runs.same.decoded) runs.own alike may.owned
      (runs.same.allowed (stands_at l.place) engine ∙ ap (λ s. is_allowed ws s engine) (same-stands d image layout engine l w.left at.loaded at.place at.left)))

  -- ---- live batches

  agrees : ReadsSame d l.root read
  agrees = code-read set at.parts space first at_first

  live-code : is_privileged w.left ≡ false → live_code_touched d l false ≡ on_hosts placed (given_by space (code_asked_at read (live_at w.left)))
  live-code live =
      let here = live-level layout engine (l.ring_start + l.place.ring) l.place.first l.place.second w.left.first w.left.second at.place.place.first at.place.place.second at.left.first at.left.second live in
      let n = read_length (length_of (read here.at)) in
      ap (λ a. codes_touched (λ k. read_page d l.root false k) a (read_length (length_of (dword_at d l.root false a)))) here.device
      ∙ ap (λ h. codes_touched (λ k. read_page d l.root false k) here.at (read_length (length_of h))) (agrees.dword here.at here.fit)
      ∙ codes_are_read set at.parts space first at_first here.at n
      ∙ ap (on_hosts placed) (codes_given (reads space) (writes space) here.at n here.fit)
      ∙ ap (λ o. on_hosts placed (given_by space (code_asked_at read o))) (sym here.own)

  live-operands : is_privileged w.left ≡ false → (r : Result (List ℕ × ℕ) UnlistedError) → decoded (front_words p engine w) ≡ r
      → operands_touched d engine l (decoded (head_read d l).words) ≡ on_hosts placed (given_by space (listed_asked engine w.left (decoded (front_words p engine w))))
  live-operands live (Err e) bad =
      let words = live-fetched d image layout l engine w.left read at.place at.left agrees live in
      ap (operands_touched d engine l) (ap decoded words ∙ bad) ∙ ap (λ r. on_hosts placed (given_by space (listed_asked engine w.left r))) (sym bad)
  live-operands live (Ok (ws, n)) taken =
      let words = live-fetched d image layout l engine w.left read at.place at.left agrees live in
      operands false live ws ws n n (ap straight_start (code-straight set at.parts space first at_first (mode false live))) (ap decoded words ∙ taken) taken (λ s. refl) (live_code_may p.ranges ws engine)
      (ap (λ s. is_allowed ws s engine) (same-stands d image layout engine l w.left at.loaded at.place at.left))

  by_mode : (b : Bool) → is_done w.left ≡ false → is_privileged w.left ≡ b → front_touched d engine l ≡ on_hosts placed (given_by space (front_asked p engine w))
  by_mode true more priv = fetched-touches more priv
  by_mode false more live = whole false live (live-code live) (live-operands live (decoded (front_words p engine w)) refl)

  -- ---- the step

  ended : has_ended l ≡ is_done w.left
  ended = ended-done d image layout l engine w.left at.place at.left

  by_done : (b : Bool) → is_done w.left ≡ b → cond b [] (front_touched d engine l) ≡ on_hosts placed (given_by space (cond b [] (front_asked p engine w)))
  by_done true done = refl
  by_done false more = by_mode (is_privileged w.left) more refl

  pub exact : StepsExactly d engine placed p w
  unfolding step_touched
  exact =
      ap (touched_with d engine) at.loaded
      ∙ ap (λ b. cond b [] (front_touched d engine l)) ended
      ∙ by_done (is_done w.left) refl

  -- ---- what no grant gives

  All-imp : {X : Type 0} (P Q : X → Type 0) → ((x : X) → P x → Q x) → (xs : List X) → All P xs → All Q xs
  All-imp P Q f xs all k e low = f (get_or xs k e) (all k e low)

  by_read : (write global : Bool) (a frame f : ℕ) → frame < length placed.pages → Ungranted (reads space) frame → cond write (writes space global a) (reads space global a) ≡ Some f → write ≡ false → get_or placed.pages f 0 ≡ get_or placed.pages frame 0 → ⊥
  by_read true global a frame f low none is no_write page = cc
  by_read false global a frame f low none is no_write page =
      let there : f < length placed.pages = subst (λ o. IfSome o (λ k. k < length placed.pages)) is (reads_placed set at.parts space first at_first global a) in
      none global a (is ∙ ap Some (at.stands.apart f frame there low page))

  by_write : (write global : Bool) (a frame f : ℕ) → frame < length placed.pages → Ungranted (writes space) frame → cond write (writes space global a) (reads space global a) ≡ Some f → write ≡ true → get_or placed.pages f 0 ≡ get_or placed.pages frame 0 → ⊥
  by_write false global a frame f low none is no_read page = cc
  by_write true global a frame f low none is no_read page =
      let there : f < length placed.pages = subst (λ o. IfSome o (λ k. k < length placed.pages)) is (writes_placed set at.parts space first at_first global a) in
      none global a (is ∙ ap Some (at.stands.apart f frame there low page))

  pub spares : Spares d placed space engine
  spares = record {
    unread = λ frame low none. subst (All (λ x. Touches false (get_or placed.pages frame 0) x → ⊥)) (sym exact)
        (All-map (λ x. Touches false (get_or placed.pages frame 0) x → ⊥) (on_host placed) _
        (All-imp (IsGranted space) (λ x. Touches false (get_or placed.pages frame 0) (on_host placed x) → ⊥) (λ x granted it. by_read x.write granted.0 granted.1 frame x.page low none granted.2 it.0 it.1) _ (all_granted space (turn_asked p engine w))));
    unwritten = λ frame low none. subst (All (λ x. Touches true (get_or placed.pages frame 0) x → ⊥)) (sym exact)
        (All-map (λ x. Touches true (get_or placed.pages frame 0) x → ⊥) (on_host placed) _
        (All-imp (IsGranted space) (λ x. Touches true (get_or placed.pages frame 0) (on_host placed x) → ⊥) (λ x granted it. by_write x.write granted.0 granted.1 frame x.page low none granted.2 it.0 it.1) _ (all_granted space (turn_asked p engine w))));
  }

pub exact_grants : ExactGrants
exact_grants d placed pages p engine w l image layout at = exact d placed pages p engine w l image layout at

pub ungranted_is_spared : UngrantedIsSpared
ungranted_is_spared d placed pages p engine w l image layout at = spares d placed pages p engine w l image layout at
