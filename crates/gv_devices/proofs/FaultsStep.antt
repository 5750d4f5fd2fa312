-- A step does the same whatever the count of faults is.
use Rattle.std.proofs.Common.{◌≡◌, ℕ, suc, zero, ◌+◌, ◌*◌, ◌%◌, ◌^◌, ◌||◌, Bool, true, false, List, [], ◌∷◌, ◌++◌, Option, None, Some, Result, Ok, Err, cond, refl, ap, sym, ◌∙◌}
use Rattle.std.specs.Prelude.{IfOk, OnOk}
use Rattle.gv_cmd.specs.Allowed.{is_allowed}
use Rattle.gv_cmd.specs.Command.{decoded}
use Rattle.gv_cmd.specs.Effect.{Effect, effect, colour_byte}
use Rattle.gv_cmd.specs.Table.{length_of, kind_of, read_length}
use Rattle.gv_cmd.specs.Simulation.{Access, EachAccess, MayDo, Simulates, SameEffect}
use Rattle.gv_cmd.specs.declared.command.Unlisted.{Unlisted as UnlistedError}
use Rattle.gv_cmd.specs.declared.kind.Kind.{Kind}
use Rattle.gv_cmd.proofs.Simulation.{effects_agree}
use Rattle.gv_gpu.specs.Device.{Device, Loaded, with_loaded}
use Rattle.gv_gpu.specs.Physical.{byte_at, byte_stored, dword_at, write_strays}
use Rattle.gv_gpu.specs.Step.{Stepping, Stepped, HeadRead, bytes_stored, bytes_stray, row_moved, operations, stands_at, runs_privileged, active_head, dwords_stray, dwords_from, head_read_from, head_read, settled, stepped_by, stepped_with, command_step, front_step, has_ended, step_with, physical_step}
use Rattle.gv_gpu.specs.declared.step.Step.{Step}
use Rattle.gv_gpu.specs.declared.step.Step.TheVariants.{Ended, Unlisted}
use Rattle.gv_devices.proofs.Faults.{other, operand_at-other, operand_stored-other, byte_at-other, byte_stored-other, dword_at-other, read_strays-other, dword_strays-other, write_strays-other}

module _ (n : ℕ) where
  -- what a step works on, and what it leaves, with that count
  abbrev turned : Stepping → Stepping
  turned s = record s { device = other n s.device }

  abbrev pub turned_step : Stepped → Stepped
  turned_step p = record { after = other n p.after; answer = p.answer }

  -- ---- the space

  byte_next : Stepping → ℕ → (ℕ → ℕ) → ℕ → Stepping
  byte_next t at bytes k = record t {
    device = byte_stored t.device t.context.root false (at + k) (bytes k);
    strayed = t.strayed || write_strays t.device t.context false (at + k);
  }

  byte_next-turned : (t : Stepping) (at : ℕ) (bytes : ℕ → ℕ) (k : ℕ) → byte_next (turned t) at bytes k ≡ turned (byte_next t at bytes k)
  unfolding byte_next
  byte_next-turned t at bytes k = λ i. record t {
    device = byte_stored-other n t.device t.context.root false (at + k) (bytes k) i;
    strayed = t.strayed || write_strays-other n t.device t.context false (at + k) i;
  }

  bytes_stored-turned : (s : Stepping) (at : ℕ) (bytes : ℕ → ℕ) (count : ℕ) → bytes_stored (turned s) at bytes count ≡ turned (bytes_stored s at bytes count)
  unfolding bytes_stored byte_next
  bytes_stored-turned s at bytes zero = refl
  bytes_stored-turned s at bytes (suc count) =
      ap (λ t. byte_next t at bytes count) (bytes_stored-turned s at bytes count) ∙ byte_next-turned (bytes_stored s at bytes count) at bytes count

  bytes_stray-other : (d : Device) (l : Loaded) (at count : ℕ) → bytes_stray (other n d) l at count ≡ bytes_stray d l at count
  unfolding bytes_stray
  bytes_stray-other d l at zero = refl
  bytes_stray-other d l at (suc count) = λ i. bytes_stray-other d l at count i || read_strays-other n d l false (at + count) i

  row_moved-turned : (s : Stepping) (to from count : ℕ) → row_moved (turned s) to from count ≡ turned (row_moved s to from count)
  row_moved-turned s to from count =
      (λ i. bytes_stored (record (turned s) { strayed = s.strayed || bytes_stray-other s.device s.context from count i }) to (λ k. byte_at-other n s.device s.context.root false (from + k) i) count)
      ∙ bytes_stored-turned (record s { strayed = s.strayed || bytes_stray s.device s.context from count }) to (λ k. byte_at s.device s.context.root false (from + k)) count

  record Same (x y : Stepping) : Type 0 where
    pub is : y ≡ turned x

  abbrev May : Access → Type 0
  May a = Unit {0}

  may_each : (xs : List Access) → EachAccess May xs
  may_each [] = tt
  may_each (a ∷ xs) = (tt, may_each xs)

  may_do : (engine : ℕ) (privileged : Bool) (kind : Option Kind) → MayDo May engine privileged kind
  may_do engine privileged None = tt
  may_do engine privileged (Some kind) = may_each _

  load_leaves-turned : (x : Stepping) (global : Bool) (at : ℕ) → operations.load_leaves (turned x) global at ≡ turned (operations.load_leaves x global at)
  load_leaves-turned x global at = λ i. record (turned x) { strayed = x.strayed || read_strays-other n x.device x.context global at i }

  stored-turned : (x : Stepping) (global : Bool) (at value : ℕ) → operations.stored (turned x) global at value ≡ turned (operations.stored x global at value)
  stored-turned x global at value = λ i. record x {
    device = operand_stored-other n x.device x.context.root global at value i;
    strayed = x.strayed || write_strays-other n x.device x.context global at i;
  }

  simulates : Simulates operations operations Same May
  simulates = record {
    load_gives = λ x y global at same may. sym (operand_at-other n x.device x.context.root global at) ∙ ap (λ s. operations.load_gives s global at) (sym same.is);
    load_leaves = λ x y global at same may. record { is = ap (λ s. operations.load_leaves s global at) same.is ∙ load_leaves-turned x global at };
    stored = λ x y global at value same may. record { is = ap (λ s. operations.stored s global at value) same.is ∙ stored-turned x global at value };
    row_copied = λ x y to from bytes same. record { is = ap (λ s. operations.row_copied s to from bytes) same.is ∙ row_moved-turned x (to % 2 ^ 48) (from % 2 ^ 48) bytes };
    row_filled = λ x y to bytes colour depth same. record { is = ap (λ s. operations.row_filled s to bytes colour depth) same.is ∙ bytes_stored-turned x (to % 2 ^ 48) (colour_byte colour depth) bytes };
    general_gives = λ x y k small same. ap (λ s. operations.general_gives s k) (sym same.is);
    general_set = λ x y k value small same. record { is = ap (λ s. operations.general_set s k value) same.is };
  }

  effect-turned : (ws : List ℕ) (engine : ℕ) (privileged : Bool) (s : Stepping) → SameEffect Same (effect operations ws engine privileged s) (effect operations ws engine privileged (turned s))
  effect-turned ws engine privileged s =
      effects_agree operations operations Same May simulates ws engine privileged s (turned s) (record { is = refl }) (may_do engine privileged (kind_of ws))

  -- ---- fetching

  dwords_stray-other : (d : Device) (l : Loaded) (global : Bool) (at count : ℕ) → dwords_stray (other n d) l global at count ≡ dwords_stray d l global at count
  unfolding dwords_stray
  dwords_stray-other d l global at zero = refl
  dwords_stray-other d l global at (suc count) = λ i. dwords_stray-other d l global at count i || dword_strays-other n d l global (at + 4 * count) i

  dwords_from-other : (d : Device) (root : ℕ) (global : Bool) (at count : ℕ) → dwords_from (other n d) root global at count ≡ dwords_from d root global at count
  unfolding dwords_from
  dwords_from-other d root global at zero = refl
  dwords_from-other d root global at (suc count) = λ i. dwords_from-other d root global at count i ++ dword_at-other n d root global (at + 4 * count) i ∷ []

  fetched_from-other : (d : Device) (l : Loaded) (global : Bool) (at : ℕ) → head_read_from (other n d) l global at ≡ head_read_from d l global at
  fetched_from-other d l global at =
      (λ i. record {
        words = dwords_from (other n d) l.root global at (read_length (length_of (dword_at-other n d l.root global at i)));
        strayed = dwords_stray (other n d) l global at (read_length (length_of (dword_at-other n d l.root global at i)));
      })
      ∙ (λ i. record {
        words = dwords_from-other d l.root global at (read_length (length_of (dword_at d l.root global at))) i;
        strayed = dwords_stray-other d l global at (read_length (length_of (dword_at d l.root global at))) i;
      })

  fetched-other : (d : Device) (l : Loaded) → head_read (other n d) l ≡ head_read d l
  unfolding head_read
  fetched-other d l = fetched_from-other d l (runs_privileged l.place) (active_head l)

  -- ---- the step

  stepped_by-turned : (engine : ℕ) (l : Loaded) (ws : List ℕ) (dwords : ℕ) (s : Stepping) (raise : Option ℕ) → stepped_by engine l ws dwords (turned s) raise ≡ turned_step (stepped_by engine l ws dwords s raise)
  stepped_by-turned engine l ws dwords s None = refl
  stepped_by-turned engine l ws dwords s (Some raise) = refl

  stepped_with-turned : (engine : ℕ) (l : Loaded) (ws : List ℕ) (dwords : ℕ) (e f : Effect Stepping) → SameEffect Same e f → stepped_with engine l ws dwords f ≡ turned_step (stepped_with engine l ws dwords e)
  stepped_with-turned engine l ws dwords e f same =
      (λ i. stepped_by engine l ws dwords (same.after.is i) (sym same.raise i)) ∙ stepped_by-turned engine l ws dwords e.after e.raise

  by_test : (s : Stepping) (ws : List ℕ) (dwords : ℕ) (e f : Effect Stepping) (b : Bool) → SameEffect Same e f
      → cond b (stepped_with s.engine s.context ws dwords f) (record { after = settled (turned s); answer = Unlisted })
      ≡ turned_step (cond b (stepped_with s.engine s.context ws dwords e) (record { after = settled s; answer = Unlisted }))
  by_test s ws dwords e f true same = stepped_with-turned s.engine s.context ws dwords e f same
  by_test s ws dwords e f false same = refl

  command_step-turned : (s : Stepping) (r : Result (List ℕ × ℕ) UnlistedError) → command_step (turned s) r ≡ turned_step (command_step s r)
  command_step-turned s (Err e) = refl
  command_step-turned s (Ok (ws, dwords)) =
      by_test s ws dwords
      (effect operations ws s.engine (runs_privileged s.context.place) s)
      (effect operations ws s.engine (runs_privileged s.context.place) (turned s))
      (is_allowed ws (stands_at s.context.place) s.engine)
      (effect-turned ws s.engine (runs_privileged s.context.place) s)

  begun : Device → ℕ → Loaded → HeadRead → Stepping
  begun d engine l f = record { device = d; engine = engine; context = l; strayed = f.strayed }

  front_step-other : (d : Device) (engine : ℕ) (l : Loaded) → front_step (other n d) engine l ≡ turned_step (front_step d engine l)
  unfolding front_step begun
  front_step-other d engine l =
      ap (λ f. command_step (begun (other n d) engine l f) (decoded f.words)) (fetched-other d l)
      ∙ command_step-turned (begun d engine l (head_read d l)) (decoded (head_read d l).words)

  by_end : (d : Device) (engine : ℕ) (l : Loaded) (b : Bool)
      → cond b (record { after = with_loaded (other n d) engine None; answer = Ended }) (front_step (other n d) engine l)
      ≡ turned_step (cond b (record { after = with_loaded d engine None; answer = Ended }) (front_step d engine l))
  by_end d engine l true = refl
  by_end d engine l false = front_step-other d engine l

  step_with-other : (d : Device) (engine : ℕ) (context : Option Loaded) → step_with (other n d) engine context ≡ turned_step (step_with d engine context)
  step_with-other d engine None = refl
  step_with-other d engine (Some l) = by_end d engine l (has_ended l)

  pub physical_step-other : (d : Device) (engine : ℕ) → physical_step (other n d) engine ≡ turned_step (physical_step d engine)
  unfolding physical_step
  physical_step-other d engine = step_with-other d engine (d.loaded engine)

-- A device in memory made a step, and the count of faults is another one.
module _ {E : Type 0} (inner after d : Device) (n engine : ℕ) (same : other n inner ≡ d) where
  pub step-after : (r : Result Step E) → OnOk r (after ≡ (physical_step inner engine).after) → OnOk r (other n after ≡ (physical_step d engine).after)
  step-after (Ok a) done = ap (other n) done ∙ sym (ap (λ (p : Stepped). p.after) (physical_step-other n inner engine)) ∙ ap (λ e. (physical_step e engine).after) same
  step-after (Err e) done = tt

  pub step-answer : (r : Result Step E) → IfOk r (λ answer. answer ≡ (physical_step inner engine).answer) → IfOk r (λ answer. answer ≡ (physical_step d engine).answer)
  step-answer (Ok a) done = done ∙ sym (ap (λ (p : Stepped). p.answer) (physical_step-other n inner engine)) ∙ ap (λ e. (physical_step e engine).answer) same
  step-answer (Err e) done = tt
