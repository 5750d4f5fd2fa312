-- What is fetched is within its bounds.
use Rattle.std.proofs.Common.{◌≡◌, ℕ, suc, zero, ◌+◌, ◌-◌, ◌*◌, ◌≤◌, true, false, List, [], ◌∷◌, length, drop, length-drop, Option, Some, Result, Ok, Err, refl, ap, arith}
use Rattle.gv_types.specs.declared.reply.Reason.{Reason}
use Rattle.gv_types.specs.declared.reply.Reason.TheVariants.{Command}
use Rattle.gv_ctx.specs.Image.{IsImage}
use Rattle.gv_ctx.specs.declared.image.Image.{Image}
use Rattle.gv_cmd.specs.Command.{IsCommand}
use Rattle.gv_cmd.specs.Table.{kind_of}
use Rattle.gv_cmd.specs.declared.kind.Kind.{Kind}
use Rattle.gv_cmd.specs.declared.kind.Kind.TheVariants.{BatchEnd, BatchStart}
use Rattle.gv_cmd.specs.declared.stands.Stands.{Stands}
use Rattle.gv_cmd.specs.declared.stands.Stands.TheVariants.{Privileged}
use Rattle.gv_fetch.specs.Items.{Items, none, command, batch, inside, start_at, is_fetched_start}
use Rattle.gv_fetch.specs.Fetch.{GlobalSpace, then, by_kind, Got, batch_command, ring_command, command_first, batch_first, batch_items, whole_batch, ring_items, ring_dwords, fetched}
use Rattle.gv_fetch.specs.Left.{begun}
use Rattle.gv_fetch.proofs.Fetched.{fetched-ring, length-ring, ring-few}
use Rattle.gv_fetch.proofs.Forms.{then-ok, batch_command-ok, ring_command-ok}
use Rattle.gv_fetch.specs.Flat.{own_dwords, batch_dwords, IsSized, IsBounded}
use Rattle.gv_fetch.proofs.Readdressed.{start_copied}

-- a start of a fetched batch has three dwords
three : (ws : List ℕ) → IsCommand ws → is_fetched_start (kind_of ws) ≡ true → length ws ≡ 3
three ws good is = (start_copied ws 0 refl good is).few

ok-got : (x y : Got) → (let r : Result Got Reason = Ok x in r ≡ Ok y) → x ≡ y
ok-got x y is = cc

abbrev weight : Got → ℕ
weight got = got.budget + (own_dwords got.items + batch_dwords got.items)

got-weight : (items : Items) (budget : ℕ) (got : Got) → (let r : Result Got Reason = Ok record { items = items; budget = budget } in r ≡ Ok got) → budget + (own_dwords items + batch_dwords items) ≡ weight got
got-weight items budget got is = ap (λ (g : Got). weight g) (ok-got (record { items = items; budget = budget }) got is)

got-own : (items : Items) (budget : ℕ) (got : Got) → (let r : Result Got Reason = Ok record { items = items; budget = budget } in r ≡ Ok got) → own_dwords items ≡ own_dwords got.items
got-own items budget got is = ap (λ (g : Got). own_dwords g.items) (ok-got (record { items = items; budget = budget }) got is)

module _ (space : GlobalSpace) (engine : ℕ) where
  -- what was fetched and what is left of the budget are no more than it was
  abbrev pub Keeps : ℕ → Type 0
  Keeps n = (stands : Stands) (at budget : ℕ) (got : Got) → batch_items n space engine stands at budget ≡ Ok got → weight got ≤ budget

  keeps-by-kind : (n : ℕ) → Keeps n → (stands : Stands) (at budget : ℕ) (got : Got) (ws : List ℕ) → IsCommand ws → length ws ≤ budget → (k : Option Kind) → kind_of ws ≡ k
      → by_kind k
      (λ to. then (batch_items n space engine (inside stands) to (budget - length ws)) (λ got.
      then (batch_items n space engine stands (at + 4 * length ws) got.budget) (batch_first ws got.items)))
      (Ok record { items = command ws none; budget = budget - length ws })
      (then (batch_items n space engine stands (at + 4 * length ws) (budget - length ws)) (command_first ws))
      ≡ Ok got
      → weight got ≤ budget
  keeps-by-kind n keeps stands at budget got ws good few (Some (BatchStart false second to)) kind e =
      let a = then-ok (batch_items n space engine (inside stands) to (budget - length ws)) _ got e in
      let b = then-ok (batch_items n space engine stands (at + 4 * length ws) a.x.budget) _ got a.second in
      let one = keeps (inside stands) to (budget - length ws) a.x a.first in
      let two = keeps stands (at + 4 * length ws) a.x.budget b.x b.first in
      let start = three ws good (ap is_fetched_start kind) in
      let is = got-weight (batch (start_at ws 0) a.x.items b.x.items) b.x.budget got b.second in
      omega arith
  keeps-by-kind n keeps stands at budget got ws good few (Some BatchEnd) kind e =
      let is = got-weight (command ws none) (budget - length ws) got e in
      omega arith
  keeps-by-kind n keeps stands at budget got ws good few k kind e =
      let a = then-ok (batch_items n space engine stands (at + 4 * length ws) (budget - length ws)) _ got e in
      let one = keeps stands (at + 4 * length ws) (budget - length ws) a.x a.first in
      let is = got-weight (command ws a.x.items) a.x.budget got a.second in
      omega arith

  pub batch-keeps : (n : ℕ) → Keeps n
  unfolding batch_items
  batch-keeps zero stands at budget got e = cc
  batch-keeps (suc n) stands at budget got e =
      let a = then-ok (batch_command space engine stands at budget) _ got e in
      let c = batch_command-ok space engine stands at budget a.x a.first in
      keeps-by-kind n (batch-keeps n) stands at budget got a.x c.passed.may.command c.few (kind_of a.x) refl a.second

  abbrev pub RingKeeps : ℕ → Type 0
  RingKeeps n = (ring : List ℕ) (budget : ℕ) (got : Got) → ring_items n space engine ring budget ≡ Ok got → (own_dwords got.items ≤ length ring) × (weight got ≤ budget + own_dwords got.items)

  ring-by-kind : (n : ℕ) → RingKeeps n → (ring : List ℕ) (budget : ℕ) (got : Got) (ws : List ℕ) → IsCommand ws → length ws ≤ length ring → (k : Option Kind) → kind_of ws ≡ k
      → by_kind k
      (λ to. then (whole_batch space engine Privileged to budget) (λ got.
      then (ring_items n space engine (drop (length ws) ring) got.budget) (batch_first ws got.items)))
      (Err Command)
      (then (ring_items n space engine (drop (length ws) ring) budget) (command_first ws))
      ≡ Ok got
      → (own_dwords got.items ≤ length ring) × (weight got ≤ budget + own_dwords got.items)
  ring-by-kind n keeps ring budget got ws good few (Some (BatchStart false second to)) kind e =
      let a = then-ok (whole_batch space engine Privileged to budget) _ got e in
      let b = then-ok (ring_items n space engine (drop (length ws) ring) a.x.budget) _ got a.second in
      let one = batch-keeps (suc budget) Privileged to budget a.x a.first in
      let two = keeps (drop (length ws) ring) a.x.budget b.x b.first in
      let own = two.0 in
      let all = two.1 in
      let long = length-drop (length ws) ring in
      let start = three ws good (ap is_fetched_start kind) in
      let is = got-weight (batch (start_at ws 0) a.x.items b.x.items) b.x.budget got b.second in
      let own_is = got-own (batch (start_at ws 0) a.x.items b.x.items) b.x.budget got b.second in
      (omega arith, omega arith)
  ring-by-kind n keeps ring budget got ws good few (Some BatchEnd) kind e = cc
  ring-by-kind n keeps ring budget got ws good few k kind e =
      let a = then-ok (ring_items n space engine (drop (length ws) ring) budget) _ got e in
      let two = keeps (drop (length ws) ring) budget a.x a.first in
      let own = two.0 in
      let all = two.1 in
      let long = length-drop (length ws) ring in
      let is = got-weight (command ws a.x.items) a.x.budget got a.second in
      let own_is = got-own (command ws a.x.items) a.x.budget got a.second in
      (omega arith, omega arith)

  pub ring-keeps : (n : ℕ) → RingKeeps n
  unfolding ring_items
  ring-keeps n [] budget got e =
      let is = got-weight none budget got e in
      let own_is = got-own none budget got e in
      (omega arith, omega arith)
  ring-keeps zero (x ∷ ring) budget got e = cc
  ring-keeps (suc n) (x ∷ ring) budget got e =
      let a = then-ok (ring_command space engine (x ∷ ring)) _ got e in
      let c = ring_command-ok space engine (x ∷ ring) a.x a.first in
      ring-by-kind n (ring-keeps n) (x ∷ ring) budget got a.x c.passed.may.command c.few (kind_of a.x) refl a.second

pub fetched-sized : (space : GlobalSpace) (engine : ℕ) (image : Image) (items : Items) → IsImage image → fetched space engine image ≡ Ok items → IsSized (begun items)
fetched-sized space engine image items form is =
    let f = fetched-ring space engine image items is in
    let long = length-ring space image in
    let few = ring-few image form in
    let both = ring-keeps space engine (length (ring_dwords space image)) (ring_dwords space image) 262144 f.got f.is in
    let own = both.0 in
    let all = both.1 in
    let same_own = ap own_dwords f.same in
    let same_batch = ap batch_dwords f.same in
    record { ring = omega arith; batches = omega arith }

pub fetched-bounded : (space : GlobalSpace) (engine : ℕ) (image : Image) (items : Items) → IsImage image → fetched space engine image ≡ Ok items → IsBounded (begun items)
fetched-bounded space engine image items form is = record { sized = fetched-sized space engine image items form is; nested = tt; first = tt; second = tt }
