-- What is fetched makes global accesses on owned pages alone.
use Rattle.std.proofs.Common.{◌≡◌, ℕ, suc, zero, ◌+◌, ◌-◌, ◌*◌, ◌&&◌, not, Bool, true, false, List, [], ◌∷◌, length, take, drop, get_or, leb, Option, None, Some, Result, Ok, Err, cond, ap, sym, subst, ◌∙◌}
use Rattle.std.proofs.lemmas.Bool.{and_parts}
use Rattle.gv_types.specs.declared.reply.Reason.{Reason}
use Rattle.gv_types.specs.declared.reply.Reason.TheVariants.{Command}
use Rattle.gv_cmd.specs.Effect.{is_skipped}
use Rattle.gv_cmd.specs.Simulation.{Access, accesses, EachAccess, MayDo}
use Rattle.gv_cmd.specs.Table.{length_of, kind_of}
use Rattle.gv_cmd.specs.Allowed.{is_allowed}
use Rattle.gv_cmd.specs.declared.kind.Kind.{Kind}
use Rattle.gv_cmd.specs.declared.kind.Kind.TheVariants.{BatchEnd, BatchStart}
use Rattle.gv_cmd.specs.declared.stands.Stands.{Stands}
use Rattle.gv_cmd.specs.declared.stands.Stands.TheVariants.{Ring, Privileged}
use Rattle.gv_fetch.specs.Items.{Items, none, command, batch, inside, start_at}
use Rattle.gv_fetch.specs.Fetch.{GlobalSpace, dwords, owns_dwords, owns_access, owns_accesses, owns_operands_by, owns_operands, Got, then, by_kind, batch_command, ring_command, command_first, batch_first, batch_items, whole_batch, ring_items}
use Rattle.gv_fetch.proofs.Forms.{then-ok, check-ok, listed-ok}
use Rattle.gv_fetch.specs.Owned.{AllOwned, MayAccess}

ok-same : (x y : List ℕ) → (let r : Result (List ℕ) Reason = Ok x in r ≡ Ok y) → x ≡ y
ok-same x y is = cc

module _ (space : GlobalSpace) where
  each : (xs : List Access) → owns_accesses space xs ≡ true → EachAccess (MayAccess space) xs
  each [] h = tt
  each (a ∷ xs) h = let both = and_parts (owns_access space a) (owns_accesses space xs) h in (both.0, each xs both.1)

  unless : (b : Bool) (xs : List Access) → EachAccess (MayAccess space) xs → EachAccess (MayAccess space) (cond b [] xs)
  unless true xs h = tt
  unless false xs h = h

  by-kind-may : (engine : ℕ) (privileged : Bool) (k : Option Kind) → owns_operands_by space k ≡ true → MayDo (MayAccess space) engine privileged k
  by-kind-may engine privileged None h = tt
  by-kind-may engine privileged (Some kind) h = unless (not privileged && is_skipped engine kind) (accesses kind) (each (accesses kind) h)

  pub may-do : (ws : List ℕ) (engine : ℕ) (privileged : Bool) → owns_operands space ws ≡ true → MayDo (MayAccess space) engine privileged (kind_of ws)
  may-do ws engine privileged h = by-kind-may engine privileged (kind_of ws) h

  in-batch : (engine : ℕ) (stands : Stands) (at budget : ℕ) (ws : List ℕ) (n : ℕ) → length_of (space.word at) ≡ Some n → owns_dwords space at n ≡ true → is_allowed (dwords space.word at n) stands engine ≡ true → leb n budget ≡ true → owns_operands space (dwords space.word at n) ≡ true → dwords space.word at n ≡ ws → owns_operands space ws ≡ true
  in-batch engine stands at budget ws n named there may few own same = ap (owns_operands space) (sym same) ∙ own

  batch-command-owned : (engine : ℕ) (stands : Stands) (at budget : ℕ) (ws : List ℕ) → batch_command space engine stands at budget ≡ Ok ws → owns_operands space ws ≡ true
  batch-command-owned engine stands at budget ws is =
      let a = check-ok _ _ _ ws is in
      let b = listed-ok _ _ ws a.1 in
      let c = check-ok _ _ _ ws b.second in
      let d = check-ok _ _ _ ws c.1 in
      let e = check-ok _ _ _ ws d.1 in
      let f = check-ok _ _ _ ws e.1 in
      in-batch engine stands at budget ws b.n b.first c.0 d.0 e.0 f.0 (ok-same (dwords space.word at b.n) ws f.1)

  in-ring : (engine : ℕ) (ring ws : List ℕ) (n : ℕ) → length_of (get_or ring 0 0) ≡ Some n → leb n (length ring) ≡ true → is_allowed (take n ring) Ring engine ≡ true → owns_operands space (take n ring) ≡ true → take n ring ≡ ws → owns_operands space ws ≡ true
  in-ring engine ring ws n named few may own same = ap (owns_operands space) (sym same) ∙ own

  ring-command-owned : (engine : ℕ) (ring ws : List ℕ) → ring_command space engine ring ≡ Ok ws → owns_operands space ws ≡ true
  ring-command-owned engine ring ws is =
      let b = listed-ok _ _ ws is in
      let c = check-ok _ _ _ ws b.second in
      let d = check-ok _ _ _ ws c.1 in
      let f = check-ok _ _ _ ws d.1 in
      in-ring engine ring ws b.n b.first c.0 d.0 f.0 (ok-same (take b.n ring) ws f.1)

  ok-got : (x y : Got) → (let r : Result Got Reason = Ok x in r ≡ Ok y) → x ≡ y
  ok-got x y is = cc

  got-items : (items : Items) (budget : ℕ) (got : Got) → (let r : Result Got Reason = Ok record { items = items; budget = budget } in r ≡ Ok got) → items ≡ got.items
  got-items items budget got is = ap (λ (g : Got). g.items) (ok-got (record { items = items; budget = budget }) got is)

  module _ (engine : ℕ) where
    abbrev pub Owned : ℕ → Type 0
    Owned n = (stands : Stands) (at budget : ℕ) (got : Got) → batch_items n space engine stands at budget ≡ Ok got → AllOwned space got.items

    by-kind : (n : ℕ) → Owned n → (stands : Stands) (at budget : ℕ) (got : Got) (ws : List ℕ) → owns_operands space ws ≡ true → (k : Option Kind)
        → by_kind k
        (λ to. then (batch_items n space engine (inside stands) to (budget - length ws)) (λ got.
        then (batch_items n space engine stands (at + 4 * length ws) got.budget) (batch_first ws got.items)))
        (Ok record { items = command ws none; budget = budget - length ws })
        (then (batch_items n space engine stands (at + 4 * length ws) (budget - length ws)) (command_first ws))
        ≡ Ok got
        → AllOwned space got.items
    by-kind n owned stands at budget got ws own (Some (BatchStart false second to)) e =
        let a = then-ok (batch_items n space engine (inside stands) to (budget - length ws)) _ got e in
        let b = then-ok (batch_items n space engine stands (at + 4 * length ws) a.x.budget) _ got a.second in
        subst (AllOwned space) (got-items (batch (start_at ws 0) a.x.items b.x.items) b.x.budget got b.second)
        (owned (inside stands) to (budget - length ws) a.x a.first, owned stands (at + 4 * length ws) a.x.budget b.x b.first)
    by-kind n owned stands at budget got ws own (Some BatchEnd) e = subst (AllOwned space) (got-items (command ws none) (budget - length ws) got e) (own, tt)
    by-kind n owned stands at budget got ws own k e =
        let a = then-ok (batch_items n space engine stands (at + 4 * length ws) (budget - length ws)) _ got e in
        subst (AllOwned space) (got-items (command ws a.x.items) a.x.budget got a.second) (own, owned stands (at + 4 * length ws) (budget - length ws) a.x a.first)

    pub batch-owned : (n : ℕ) → Owned n
    unfolding batch_items
    batch-owned zero stands at budget got e = cc
    batch-owned (suc n) stands at budget got e =
        let a = then-ok (batch_command space engine stands at budget) _ got e in
        by-kind n (batch-owned n) stands at budget got a.x (batch-command-owned engine stands at budget a.x a.first) (kind_of a.x) a.second

    ring-by-kind : (n : ℕ) (ring : List ℕ) (budget : ℕ) (got : Got) (ws : List ℕ) → owns_operands space ws ≡ true
        → ((more : List ℕ) (left : ℕ) (g : Got) → ring_items n space engine more left ≡ Ok g → AllOwned space g.items)
        → (k : Option Kind)
        → by_kind k
        (λ to. then (whole_batch space engine Privileged to budget) (λ got.
        then (ring_items n space engine (drop (length ws) ring) got.budget) (batch_first ws got.items)))
        (Err Command)
        (then (ring_items n space engine (drop (length ws) ring) budget) (command_first ws))
        ≡ Ok got
        → AllOwned space got.items
    ring-by-kind n ring budget got ws own rest (Some (BatchStart false second to)) e =
        let a = then-ok (whole_batch space engine Privileged to budget) _ got e in
        let b = then-ok (ring_items n space engine (drop (length ws) ring) a.x.budget) _ got a.second in
        subst (AllOwned space) (got-items (batch (start_at ws 0) a.x.items b.x.items) b.x.budget got b.second)
        (batch-owned (suc budget) Privileged to budget a.x a.first, rest (drop (length ws) ring) a.x.budget b.x b.first)
    ring-by-kind n ring budget got ws own rest (Some BatchEnd) e = cc
    ring-by-kind n ring budget got ws own rest k e =
        let a = then-ok (ring_items n space engine (drop (length ws) ring) budget) _ got e in
        subst (AllOwned space) (got-items (command ws a.x.items) a.x.budget got a.second) (own, rest (drop (length ws) ring) budget a.x a.first)

    pub ring-owned : (n : ℕ) (ring : List ℕ) (budget : ℕ) (got : Got) → ring_items n space engine ring budget ≡ Ok got → AllOwned space got.items
    unfolding ring_items
    ring-owned n [] budget got e = subst (AllOwned space) (got-items none budget got e) tt
    ring-owned zero (x ∷ ring) budget got e = cc
    ring-owned (suc n) (x ∷ ring) budget got e =
        let a = then-ok (ring_command space engine (x ∷ ring)) _ got e in
        ring-by-kind n (x ∷ ring) budget got a.x (ring-command-owned engine (x ∷ ring) a.x a.first) (λ more left g is. ring-owned n more left g is) (kind_of a.x) a.second
