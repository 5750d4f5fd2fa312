-- How many commands follow one another in what is fetched.
use Rattle.std.proofs.Common.{◌≡◌, ℕ, suc, zero, ◌+◌, ◌-◌, ◌*◌, ◌≤◌, false, List, [], ◌∷◌, length, drop, Option, Some, Result, Ok, Err, ap, arith}
use Rattle.gv_types.specs.declared.reply.Reason.{Reason}
use Rattle.gv_types.specs.declared.reply.Reason.TheVariants.{Command}
use Rattle.gv_cmd.specs.Table.{kind_of}
use Rattle.gv_cmd.specs.declared.kind.Kind.{Kind}
use Rattle.gv_cmd.specs.declared.kind.Kind.TheVariants.{BatchEnd, BatchStart}
use Rattle.gv_cmd.specs.declared.stands.Stands.{Stands}
use Rattle.gv_cmd.specs.declared.stands.Stands.TheVariants.{Privileged}
use Rattle.gv_fetch.specs.Items.{Items, none, command, batch, inside, start_at, depth}
use Rattle.gv_fetch.specs.Fetch.{GlobalSpace, Got, then, by_kind, batch_command, ring_command, command_first, batch_first, batch_items, whole_batch, ring_items}
use Rattle.gv_fetch.proofs.Forms.{then-ok}
use Rattle.gv_fetch.proofs.Ends.{batch-falls}

ok-got : (x y : Got) → (let r : Result Got Reason = Ok x in r ≡ Ok y) → x ≡ y
ok-got x y is = cc

got-depth : (items : Items) (budget : ℕ) (got : Got) → (let r : Result Got Reason = Ok record { items = items; budget = budget } in r ≡ Ok got) → depth items ≡ depth got.items
got-depth items budget got is = ap (λ (g : Got). depth g.items) (ok-got (record { items = items; budget = budget }) got is)

module _ (space : GlobalSpace) (engine : ℕ) where
  abbrev pub IsShallow : ℕ → Type 0
  IsShallow n = (stands : Stands) (at budget : ℕ) (got : Got) → batch_items n space engine stands at budget ≡ Ok got → depth got.items ≤ n

  shallow-by-kind : (n : ℕ) → IsShallow n → (stands : Stands) (at budget : ℕ) (got : Got) (ws : List ℕ) (k : Option Kind)
      → by_kind k
      (λ to. then (batch_items n space engine (inside stands) to (budget - length ws)) (λ got.
      then (batch_items n space engine stands (at + 4 * length ws) got.budget) (batch_first ws got.items)))
      (Ok record { items = command ws none; budget = budget - length ws })
      (then (batch_items n space engine stands (at + 4 * length ws) (budget - length ws)) (command_first ws))
      ≡ Ok got
      → depth got.items ≤ suc n
  shallow-by-kind n shallow stands at budget got ws (Some (BatchStart false second to)) e =
      let a = then-ok (batch_items n space engine (inside stands) to (budget - length ws)) _ got e in
      let b = then-ok (batch_items n space engine stands (at + 4 * length ws) a.x.budget) _ got a.second in
      let one = shallow (inside stands) to (budget - length ws) a.x a.first in
      let two = shallow stands (at + 4 * length ws) a.x.budget b.x b.first in
      let is = got-depth (batch (start_at ws 0) a.x.items b.x.items) b.x.budget got b.second in
      omega arith
  shallow-by-kind n shallow stands at budget got ws (Some BatchEnd) e =
      let is = got-depth (command ws none) (budget - length ws) got e in
      omega arith
  shallow-by-kind n shallow stands at budget got ws k e =
      let a = then-ok (batch_items n space engine stands (at + 4 * length ws) (budget - length ws)) _ got e in
      let one = shallow stands (at + 4 * length ws) (budget - length ws) a.x a.first in
      let is = got-depth (command ws a.x.items) a.x.budget got a.second in
      omega arith

  pub batch-depth : (n : ℕ) → IsShallow n
  unfolding batch_items
  batch-depth zero stands at budget got e = cc
  batch-depth (suc n) stands at budget got e =
      let a = then-ok (batch_command space engine stands at budget) _ got e in
      shallow-by-kind n (batch-depth n) stands at budget got a.x (kind_of a.x) a.second

  abbrev pub IsShallowRing : ℕ → Type 0
  IsShallowRing n = (ring : List ℕ) (budget : ℕ) (got : Got) → ring_items n space engine ring budget ≡ Ok got → (depth got.items ≤ n + (budget + 1)) × (got.budget ≤ budget)

  got-budget : (items : Items) (budget : ℕ) (got : Got) → (let r : Result Got Reason = Ok record { items = items; budget = budget } in r ≡ Ok got) → budget ≡ got.budget
  got-budget items budget got is = ap (λ (g : Got). g.budget) (ok-got (record { items = items; budget = budget }) got is)

  ring-by-kind : (n : ℕ) → IsShallowRing n → (ring : List ℕ) (budget : ℕ) (got : Got) (ws : List ℕ) (k : Option Kind)
      → by_kind k
      (λ to. then (whole_batch space engine Privileged to budget) (λ got.
      then (ring_items n space engine (drop (length ws) ring) got.budget) (batch_first ws got.items)))
      (Err Command)
      (then (ring_items n space engine (drop (length ws) ring) budget) (command_first ws))
      ≡ Ok got
      → (depth got.items ≤ suc n + (budget + 1)) × (got.budget ≤ budget)
  ring-by-kind n shallow ring budget got ws (Some (BatchStart false second to)) e =
      let a = then-ok (whole_batch space engine Privileged to budget) _ got e in
      let b = then-ok (ring_items n space engine (drop (length ws) ring) a.x.budget) _ got a.second in
      let one = batch-depth (suc budget) Privileged to budget a.x a.first in
      let fall = batch-falls space engine (suc budget) Privileged to budget a.x a.first in
      let two = shallow (drop (length ws) ring) a.x.budget b.x b.first in
      let deep = two.0 in
      let less = two.1 in
      let is = got-depth (batch (start_at ws 0) a.x.items b.x.items) b.x.budget got b.second in
      let left = got-budget (batch (start_at ws 0) a.x.items b.x.items) b.x.budget got b.second in
      (omega arith, omega arith)
  ring-by-kind n shallow ring budget got ws (Some BatchEnd) e = cc
  ring-by-kind n shallow ring budget got ws k e =
      let a = then-ok (ring_items n space engine (drop (length ws) ring) budget) _ got e in
      let two = shallow (drop (length ws) ring) budget a.x a.first in
      let deep = two.0 in
      let less = two.1 in
      let is = got-depth (command ws a.x.items) a.x.budget got a.second in
      let left = got-budget (command ws a.x.items) a.x.budget got a.second in
      (omega arith, omega arith)

  -- a ring of so many dwords gives no deeper items
  pub ring-depth : (n : ℕ) → IsShallowRing n
  unfolding ring_items
  ring-depth n [] budget got e =
      let is = got-depth none budget got e in
      let left = got-budget none budget got e in
      (omega arith, omega arith)
  ring-depth zero (x ∷ ring) budget got e = cc
  ring-depth (suc n) (x ∷ ring) budget got e =
      let a = then-ok (ring_command space engine (x ∷ ring)) _ got e in
      ring-by-kind n (ring-depth n) (x ∷ ring) budget got a.x (kind_of a.x) a.second
