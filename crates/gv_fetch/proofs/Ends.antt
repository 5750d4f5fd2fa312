-- A fetch ends: more commands than there are dwords change nothing.
use Rattle.std.proofs.Common.{◌≡◌, ℕ, suc, zero, ◌+◌, ◌-◌, ◌*◌, ◌<◌, ◌≤◌, false, List, [], ◌∷◌, length, drop, length-drop, Option, Some, Result, Ok, Err, refl, ap, ◌∙◌, arith}
use Rattle.gv_types.specs.declared.reply.Reason.{Reason}
use Rattle.gv_types.specs.declared.reply.Reason.TheVariants.{Command}
use Rattle.gv_cmd.specs.Table.{kind_of}
use Rattle.gv_cmd.specs.declared.kind.Kind.{Kind}
use Rattle.gv_cmd.specs.declared.kind.Kind.TheVariants.{BatchEnd, BatchStart}
use Rattle.gv_cmd.specs.declared.stands.Stands.{Stands}
use Rattle.gv_cmd.specs.declared.stands.Stands.TheVariants.{Privileged}
use Rattle.gv_fetch.specs.Items.{Items, none, command, batch, inside, start_at}
use Rattle.gv_fetch.specs.Fetch.{GlobalSpace, then, by_kind, Got, batch_command, ring_command, command_first, batch_first, batch_items, whole_batch, ring_items, whole_ring}
use Rattle.gv_fetch.proofs.Forms.{then-ok, batch_command-ok, ring_command-ok}

then-same : {A B : Type 0} (r : Result A Reason) (go also : A → Result B Reason) → ((x : A) → r ≡ Ok x → go x ≡ also x) → then r go ≡ then r also
then-same (Err reason) go also each = refl
then-same (Ok x) go also each = each x refl

by-kind-same : {A : Type 0} (k : Option Kind) (starts also : ℕ → A) (ends goes on : A) → ((to : ℕ) → starts to ≡ also to) → goes ≡ on → by_kind k starts ends goes ≡ by_kind k also ends on
by-kind-same (Some (BatchStart false second to)) starts also ends goes on each same = each to
by-kind-same (Some BatchEnd) starts also ends goes on each same = refl
by-kind-same k starts also ends goes on each same = same

got-budget : (items : Items) (budget : ℕ) (got : Got) → (let r : Result Got Reason = Ok record { items = items; budget = budget } in r ≡ Ok got) → budget ≡ got.budget
got-budget items budget got is = ap (λ (g : Got). g.budget) (ok-got (record { items = items; budget = budget }) got is)
  where
    ok-got : (x y : Got) → (let r : Result Got Reason = Ok x in r ≡ Ok y) → x ≡ y
    ok-got x y is = cc

module _ (space : GlobalSpace) (engine : ℕ) where
  -- what is left of the budget is less
  abbrev pub Falls : ℕ → Type 0
  Falls n = (stands : Stands) (at budget : ℕ) (got : Got) → batch_items n space engine stands at budget ≡ Ok got → got.budget < budget

  falls-by-kind : (n : ℕ) → Falls n → (stands : Stands) (at budget : ℕ) (got : Got) (ws : List ℕ) → 1 ≤ length ws → length ws ≤ budget → (k : Option Kind)
      → by_kind k
      (λ to. then (batch_items n space engine (inside stands) to (budget - length ws)) (λ got.
      then (batch_items n space engine stands (at + 4 * length ws) got.budget) (batch_first ws got.items)))
      (Ok record { items = command ws none; budget = budget - length ws })
      (then (batch_items n space engine stands (at + 4 * length ws) (budget - length ws)) (command_first ws))
      ≡ Ok got
      → got.budget < budget
  falls-by-kind n falls stands at budget got ws some few (Some (BatchStart false second to)) e =
      let a = then-ok (batch_items n space engine (inside stands) to (budget - length ws)) _ got e in
      let b = then-ok (batch_items n space engine stands (at + 4 * length ws) a.x.budget) _ got a.second in
      let one = falls (inside stands) to (budget - length ws) a.x a.first in
      let two = falls stands (at + 4 * length ws) a.x.budget b.x b.first in
      let is = got-budget (batch (start_at ws 0) a.x.items b.x.items) b.x.budget got b.second in
      omega arith
  falls-by-kind n falls stands at budget got ws some few (Some BatchEnd) e =
      let is = got-budget (command ws none) (budget - length ws) got e in
      omega arith
  falls-by-kind n falls stands at budget got ws some few k e =
      let a = then-ok (batch_items n space engine stands (at + 4 * length ws) (budget - length ws)) _ got e in
      let one = falls stands (at + 4 * length ws) (budget - length ws) a.x a.first in
      let is = got-budget (command ws a.x.items) a.x.budget got a.second in
      omega arith

  pub batch-falls : (n : ℕ) → Falls n
  unfolding batch_items
  batch-falls zero stands at budget got e = cc
  batch-falls (suc n) stands at budget got e =
      let a = then-ok (batch_command space engine stands at budget) _ got e in
      let c = batch_command-ok space engine stands at budget a.x a.first in
      falls-by-kind n (batch-falls n) stands at budget got a.x c.passed.some c.few (kind_of a.x) a.second

  -- any number of commands above the budget is enough
  abbrev pub Enough : ℕ → Type 0
  Enough n = (m : ℕ) (stands : Stands) (at budget : ℕ) → budget < n → budget < m → batch_items n space engine stands at budget ≡ batch_items m space engine stands at budget

  enough-behind : (n m : ℕ) → Enough n → (stands : Stands) (at budget : ℕ) (ws : List ℕ) → 1 ≤ length ws → length ws ≤ budget → budget ≤ n → budget ≤ m
      → by_kind (kind_of ws)
      (λ to. then (batch_items n space engine (inside stands) to (budget - length ws)) (λ got.
      then (batch_items n space engine stands (at + 4 * length ws) got.budget) (batch_first ws got.items)))
      (Ok record { items = command ws none; budget = budget - length ws })
      (then (batch_items n space engine stands (at + 4 * length ws) (budget - length ws)) (command_first ws))
      ≡ by_kind (kind_of ws)
      (λ to. then (batch_items m space engine (inside stands) to (budget - length ws)) (λ got.
      then (batch_items m space engine stands (at + 4 * length ws) got.budget) (batch_first ws got.items)))
      (Ok record { items = command ws none; budget = budget - length ws })
      (then (batch_items m space engine stands (at + 4 * length ws) (budget - length ws)) (command_first ws))
  enough-behind n m enough stands at budget ws some few one two =
      let left_n : budget - length ws < n = omega arith in
      let left_m : budget - length ws < m = omega arith in
      by-kind-same (kind_of ws) _ _ _ _ _
      (λ to.
      ap (λ r. then r (λ got. then (batch_items n space engine stands (at + 4 * length ws) got.budget) (batch_first ws got.items))) (enough m (inside stands) to (budget - length ws) left_n left_m)
      ∙ then-same (batch_items m space engine (inside stands) to (budget - length ws)) _ _
      (λ got is.
      let less = batch-falls m (inside stands) to (budget - length ws) got is in
      let got_n : got.budget < n = omega arith in
      let got_m : got.budget < m = omega arith in
      ap (λ r. then r (batch_first ws got.items)) (enough m stands (at + 4 * length ws) got.budget got_n got_m)))
      (ap (λ r. then r (command_first ws)) (enough m stands (at + 4 * length ws) (budget - length ws) left_n left_m))

  pub batch-enough : (n : ℕ) → Enough n
  unfolding batch_items
  batch-enough zero m stands at budget one two = absurd (omega arith)
  batch-enough (suc n) zero stands at budget one two = absurd (omega arith)
  batch-enough (suc n) (suc m) stands at budget one two =
      let few_n : budget ≤ n = omega arith in
      let few_m : budget ≤ m = omega arith in
      then-same (batch_command space engine stands at budget) _ _
      (λ ws is.
      let c = batch_command-ok space engine stands at budget ws is in
      enough-behind n m (batch-enough n) stands at budget ws c.passed.some c.few few_n few_m)

  -- so a batch is its first command and what comes behind it
  pub batch-step : (stands : Stands) (at budget : ℕ) → whole_batch space engine stands at budget
      ≡ then (batch_command space engine stands at budget) (λ ws.
      by_kind (kind_of ws)
      (λ to. then (whole_batch space engine (inside stands) to (budget - length ws)) (λ got.
      then (whole_batch space engine stands (at + 4 * length ws) got.budget) (batch_first ws got.items)))
      (Ok record { items = command ws none; budget = budget - length ws })
      (then (whole_batch space engine stands (at + 4 * length ws) (budget - length ws)) (command_first ws)))
  unfolding batch_items
  batch-step stands at budget =
      then-same (batch_command space engine stands at budget) _ _ (λ ws is.
      let c = batch_command-ok space engine stands at budget ws is in
      let some = c.passed.some in
      let few = c.few in
      let left : budget - length ws < budget = omega arith in
      let next : budget - length ws < suc (budget - length ws) = omega arith in
      by-kind-same (kind_of ws) _ _ _ _ _
      (λ to.
      ap (λ r. then r (λ got. then (batch_items budget space engine stands (at + 4 * length ws) got.budget) (batch_first ws got.items)))
      (batch-enough budget (suc (budget - length ws)) (inside stands) to (budget - length ws) left next)
      ∙ then-same (whole_batch space engine (inside stands) to (budget - length ws)) _ _
      (λ got is.
      let less = batch-falls (suc (budget - length ws)) (inside stands) to (budget - length ws) got is in
      let got_n : got.budget < budget = omega arith in
      let got_m : got.budget < suc got.budget = omega arith in
      ap (λ r. then r (batch_first ws got.items)) (batch-enough budget (suc got.budget) stands (at + 4 * length ws) got.budget got_n got_m)))
      (ap (λ r. then r (command_first ws)) (batch-enough budget (suc (budget - length ws)) stands (at + 4 * length ws) (budget - length ws) left next)))

  pub ring-enough : (n m : ℕ) (ring : List ℕ) (budget : ℕ) → length ring ≤ n → length ring ≤ m → ring_items n space engine ring budget ≡ ring_items m space engine ring budget
  unfolding ring_items
  ring-enough n m [] budget one two = refl
  ring-enough zero m (x ∷ ring) budget one two = absurd (omega arith)
  ring-enough (suc n) zero (x ∷ ring) budget one two = absurd (omega arith)
  ring-enough (suc n) (suc m) (x ∷ ring) budget one two =
      then-same (ring_command space engine (x ∷ ring)) _ _ (λ ws is.
      let c = ring_command-ok space engine (x ∷ ring) ws is in
      let some = c.passed.some in
      let long = length-drop (length ws) (x ∷ ring) in
      let rest_n : length (drop (length ws) (x ∷ ring)) ≤ n = omega arith in
      let rest_m : length (drop (length ws) (x ∷ ring)) ≤ m = omega arith in
      by-kind-same (kind_of ws) _ _ _ _ _
      (λ to. then-same (whole_batch space engine Privileged to budget) _ _ (λ got is.
      ap (λ r. then r (batch_first ws got.items)) (ring-enough n m (drop (length ws) (x ∷ ring)) got.budget rest_n rest_m)))
      (ap (λ r. then r (command_first ws)) (ring-enough n m (drop (length ws) (x ∷ ring)) budget rest_n rest_m)))

  -- so a ring is its first command and what comes behind it
  pub ring-step : (ring : List ℕ) (budget : ℕ) → 0 < length ring → whole_ring space engine ring budget
      ≡ then (ring_command space engine ring) (λ ws.
      by_kind (kind_of ws)
      (λ to. then (whole_batch space engine Privileged to budget) (λ got.
      then (whole_ring space engine (drop (length ws) ring) got.budget) (batch_first ws got.items)))
      (Err Command)
      (then (whole_ring space engine (drop (length ws) ring) budget) (command_first ws)))
  unfolding ring_items
  ring-step [] budget some = absurd (omega arith)
  ring-step (x ∷ ring) budget some =
      then-same (ring_command space engine (x ∷ ring)) _ _ (λ ws is.
      let c = ring_command-ok space engine (x ∷ ring) ws is in
      let one = c.passed.some in
      let long = length-drop (length ws) (x ∷ ring) in
      let rest_n : length (drop (length ws) (x ∷ ring)) ≤ length ring = omega arith in
      let rest_m : length (drop (length ws) (x ∷ ring)) ≤ length (drop (length ws) (x ∷ ring)) = omega arith in
      by-kind-same (kind_of ws) _ _ _ _ _
      (λ to. then-same (whole_batch space engine Privileged to budget) _ _ (λ got is.
      ap (λ r. then r (batch_first ws got.items)) (ring-enough (length ring) (length (drop (length ws) (x ∷ ring))) (drop (length ws) (x ∷ ring)) got.budget rest_n rest_m)))
      (ap (λ r. then r (command_first ws)) (ring-enough (length ring) (length (drop (length ws) (x ∷ ring))) (drop (length ws) (x ∷ ring)) budget rest_n rest_m)))

  pub ring-none : (budget : ℕ) → whole_ring space engine [] budget ≡ Ok record { items = none; budget = budget }
  unfolding ring_items
  ring-none budget = refl
