-- A batch, one command on.
use Rattle.std.proofs.Common.{◌≡◌, ℕ, ◌+◌, ◌-◌, ◌*◌, ◌%◌, ◌^◌, ◌<◌, ◌≤◌, Bool, true, false, List, [], ◌∷◌, ◌++◌, length, drop, length-drop, append_assoc, Option, Some, Result, Ok, Err, refl, ap, sym, subst, ◌∙◌, arith}
use Rattle.std.specs.List.{concat}
use Rattle.std.proofs.lemmas.List.{append-nil, drop-drop, drop_all}
use Rattle.gv_types.specs.declared.reply.Reason.{Reason}
use Rattle.gv_types.specs.declared.reply.Reason.TheVariants.{Command}
use Rattle.gv_cmd.specs.Allowed.{is_allowed, may_stand}
use Rattle.gv_cmd.specs.Command.{IsCommand}
use Rattle.gv_cmd.specs.Table.{kind_of}
use Rattle.gv_cmd.specs.declared.kind.Kind.{Kind}
use Rattle.gv_cmd.specs.declared.kind.Kind.TheVariants.{BatchEnd, BatchStart}
use Rattle.gv_cmd.specs.declared.stands.Stands.{Stands}
use Rattle.gv_cmd.specs.declared.stands.Stands.TheVariants.{Ring, Privileged, Second}
use Rattle.gv_fetch.specs.Items.{Items, none, command, batch, inside, is_fetched_start, is_end, MayStand, start_at}
use Rattle.gv_fetch.specs.Fetch.{GlobalSpace, Got, then, by_kind, batch_command, command_first, batch_first, whole_batch, ring_command, whole_ring, items_of}
use Rattle.gv_scan.specs.Layout.{Copies, BatchAt, StartsWithin, IsCopy, AreCopies, FitsWindow}
use Rattle.gv_fetch.proofs.Readdressed.{start_copied}
use Rattle.gv_fetch.proofs.Ends.{batch-step, ring-step, ring-none}
use Rattle.gv_fetch.proofs.Forms.{batch_command-ok, ring_command-ok}
use Rattle.gv_fetch.proofs.Moving.{second-starts}
use Rattle.gv_scan.specs.declared.fault.ScanFault.{ScanFault}
use Rattle.gv_scan.specs.declared.fault.ScanFault.TheVariants.{OutOfMemory, Refused}
use Rattle.gv_scan.specs.Scan.{joined, behind_these, IsFault, Appended, SecondDone, SecondSoFar, FirstDone, FirstSoFar, RingSoFar, RingDone}

-- ---- copies

plain-within : (kind : Option Kind) → is_fetched_start kind ≡ false → StartsWithin kind
plain-within (Some (BatchStart false second at)) not = cc
plain-within kind not = tt

plain-copy : (ws : List ℕ) → IsCommand ws → is_fetched_start (kind_of ws) ≡ false → IsCopy ws
plain-copy ws good not = record { command = good; offset = plain-within (kind_of ws) not }

start-copy : (ws : List ℕ) (offset : ℕ) → offset % 4 ≡ 0 → offset ≤ 2 ^ 20 → IsCommand ws → is_fetched_start (kind_of ws) ≡ true → IsCopy (start_at ws offset)
start-copy ws offset fit few good is =
    let s = start_copied ws offset fit good is in
    record { command = s.command; offset = subst StartsWithin (sym s.copy) few }

-- ---- items behind others

pub joined-assoc : (a b c : Items) → joined (joined a b) c ≡ joined a (joined b c)
joined-assoc none b c = refl
joined-assoc (command ws items) b c = ap (command ws) (joined-assoc items b c)
joined-assoc (batch ws inner items) b c = ap (batch ws inner) (joined-assoc items b c)

behind-both : (a b : Items) (r : Result Got Reason) → behind_these a (behind_these b r) ≡ behind_these (joined a b) r
behind-both a b (Err reason) = refl
behind-both a b (Ok got) = ap (λ i. Ok record { items = i; budget = got.budget }) (sym (joined-assoc a b got.items))

command-behind : (ws : List ℕ) (r : Result Got Reason) → then r (command_first ws) ≡ behind_these (command ws none) r
command-behind ws (Err reason) = refl
command-behind ws (Ok got) = refl

-- ---- copies behind others

pub commands-joined : (xs ys : List (List ℕ)) → AreCopies xs → AreCopies ys → AreCopies (xs ++ ys)
commands-joined [] ys a b = b
commands-joined (x ∷ xs) ys a b = (a.0, commands-joined xs ys a.1 b)

pub concat-append : (xs ys : List (List ℕ)) → concat (xs ++ ys) ≡ concat xs ++ concat ys
concat-append [] ys = refl
concat-append (x ∷ xs) ys = ap (λ zs. x ++ zs) (concat-append xs ys) ∙ sym (append_assoc x (concat xs) (concat ys))

pub copies-joined : (base : ℕ) (bs : List (List ℕ)) (a b : Items) (xs ys after : List (List ℕ)) → Copies base bs a xs [] → Copies base bs b ys after → Copies base bs (joined a b) (xs ++ ys) after
copies-joined base bs none b xs ys after one two = let P : List (List ℕ) → Type 0 = λ zs. Copies base bs b (zs ++ ys) after in subst P (sym one) two
copies-joined base bs (command ws items) b [] ys after one two = absurd one
copies-joined base bs (command ws items) b (x ∷ xs) ys after one two = (one.0, copies-joined base bs items b xs ys after one.1 two)
copies-joined base bs (batch ws inner items) b [] ys after one two = absurd one
copies-joined base bs (batch ws inner items) b (x ∷ xs) ys after one two = (one.0, copies-joined base bs items b xs ys after one.1 two)

pub appended-more : (commands more : List (List ℕ)) (before now next : List ℕ) → Appended commands before now → next ≡ now ++ concat more → AreCopies more → Appended (commands ++ more) before next
appended-more commands more before now next done is each = record {
  joined = is ∙ ap (λ xs. xs ++ concat more) done.joined ∙ append_assoc before (concat commands) (concat more) ∙ ap (λ xs. before ++ xs) (sym (concat-append commands more));
  each = commands-joined commands more done.each each;
}

pub appended-none : (now : List ℕ) → Appended [] now now
appended-none now = record { joined = sym (append-nil now); each = tt }

-- Copies stay copies where batches are added behind, and commands behind theirs.
pub copies-grow : (bs ds : List (List ℕ)) (items : Items) (cs after tail : List (List ℕ)) → Copies 0 bs items cs after → Copies 0 (bs ++ ds) items (cs ++ tail) (after ++ tail)
copies-grow bs ds none cs after tail copies = ap (λ xs. xs ++ tail) copies
copies-grow bs ds (command ws more) [] after tail copies = absurd copies
copies-grow bs ds (command ws more) (c ∷ cs) after tail copies = (copies.0, copies-grow bs ds more cs after tail copies.1)
copies-grow bs ds (batch ws items more) [] after tail copies = absurd copies
copies-grow bs ds (batch ws items more) (c ∷ cs) after tail copies =
    let s = copies.0 in (
      record {
        to = s.to;
        copy = s.copy;
        rest = s.rest ++ ds;
        begins = record { before = s.begins.before; split = ap (λ xs. xs ++ ds) s.begins.split ∙ append_assoc s.begins.before s.rest ds; count = s.begins.count };
        behind = s.behind ++ ds;
        inside = copies-grow bs ds items s.rest s.behind ds s.inside;
      },
      copies-grow bs ds more cs after tail copies.1,
    )

pub copies-added : (bs ds : List (List ℕ)) (items : Items) (cs : List (List ℕ)) → Copies 0 bs items cs [] → Copies 0 (bs ++ ds) items cs []
copies-added bs ds items cs copies = let P : List (List ℕ) → Type 0 = λ xs. Copies 0 (bs ++ ds) items xs [] in subst P (append-nil cs) (copies-grow bs ds items cs [] [] copies)

-- ---- one command on

by-end : (kind : Option Kind) → is_end kind ≡ true → {A : Type 0} (starts : ℕ → A) (ends goes : A) → by_kind kind starts ends goes ≡ ends
by-end (Some BatchEnd) is starts ends goes = refl
by-end kind is starts ends goes = cc

by-other : (kind : Option Kind) → is_end kind ≡ false → is_fetched_start kind ≡ false → {A : Type 0} (starts : ℕ → A) (ends goes : A) → by_kind kind starts ends goes ≡ goes
by-other (Some BatchEnd) is not starts ends goes = cc
by-other (Some (BatchStart false second at)) is not starts ends goes = cc
by-other kind is not starts ends goes = refl

module _ (space : GlobalSpace) (engine : ℕ) (stands : Stands) (at left : ℕ) where
  abbrev step : Result (List ℕ) Reason → Result Got Reason
  step r = then r (λ ws.
      by_kind (kind_of ws)
      (λ to. then (whole_batch space engine (inside stands) to (left - length ws)) (λ got.
      then (whole_batch space engine stands (at + 4 * length ws) got.budget) (batch_first ws got.items)))
      (Ok record { items = command ws none; budget = left - length ws })
      (then (whole_batch space engine stands (at + 4 * length ws) (left - length ws)) (command_first ws)))

  pub refused-step : (reason : Reason) → batch_command space engine stands at left ≡ Err reason → whole_batch space engine stands at left ≡ Err reason
  refused-step reason is = batch-step space engine stands at left ∙ ap step is

  module _ (ws : List ℕ) (is : batch_command space engine stands at left ≡ Ok ws) where
    pub end-step : is_end (kind_of ws) ≡ true → whole_batch space engine stands at left ≡ Ok record { items = command ws none; budget = left - length ws }
    end-step ends = batch-step space engine stands at left ∙ ap step is ∙ by-end (kind_of ws) ends _ _ _

    pub on-step : is_end (kind_of ws) ≡ false → is_fetched_start (kind_of ws) ≡ false → whole_batch space engine stands at left ≡ behind_these (command ws none) (whole_batch space engine stands (at + 4 * length ws) (left - length ws))
    on-step goes not = batch-step space engine stands at left ∙ ap step is ∙ by-other (kind_of ws) goes not _ _ _ ∙ command-behind ws (whole_batch space engine stands (at + 4 * length ws) (left - length ws))

    pub step-command : IsCommand ws
    step-command = (batch_command-ok space engine stands at left ws is).passed.may.command

    pub step-allowed : is_allowed ws stands engine ≡ true
    step-allowed = (batch_command-ok space engine stands at left ws is).passed.may.allowed

    pub start-step : (second : Bool) (to : ℕ) (got : Got) → kind_of ws ≡ Some (BatchStart false second to) → whole_batch space engine (inside stands) to (left - length ws) ≡ Ok got
        → whole_batch space engine stands at left ≡ behind_these (batch (start_at ws 0) got.items none) (whole_batch space engine stands (at + 4 * length ws) got.budget)
    start-step second to got kind inner =
        batch-step space engine stands at left ∙ ap step is
        ∙ ap (λ k. by_kind k
        (λ to. then (whole_batch space engine (inside stands) to (left - length ws)) (λ got. then (whole_batch space engine stands (at + 4 * length ws) got.budget) (batch_first ws got.items)))
        (Ok record { items = command ws none; budget = left - length ws })
        (then (whole_batch space engine stands (at + 4 * length ws) (left - length ws)) (command_first ws))) kind
        ∙ ap (λ r. then r (λ got. then (whole_batch space engine stands (at + 4 * length ws) got.budget) (batch_first ws got.items))) inner
        ∙ batch-behind (whole_batch space engine stands (at + 4 * length ws) got.budget)
      where
        batch-behind : (r : Result Got Reason) → then r (batch_first ws got.items) ≡ behind_these (batch (start_at ws 0) got.items none) r
        batch-behind (Err reason) = refl
        batch-behind (Ok rest) = refl

    pub start-refused : (second : Bool) (to : ℕ) (reason : Reason) → kind_of ws ≡ Some (BatchStart false second to) → whole_batch space engine (inside stands) to (left - length ws) ≡ Err reason → whole_batch space engine stands at left ≡ Err reason
    start-refused second to reason kind inner =
        batch-step space engine stands at left ∙ ap step is
        ∙ ap (λ k. by_kind k
        (λ to. then (whole_batch space engine (inside stands) to (left - length ws)) (λ got. then (whole_batch space engine stands (at + 4 * length ws) got.budget) (batch_first ws got.items)))
        (Ok record { items = command ws none; budget = left - length ws })
        (then (whole_batch space engine stands (at + 4 * length ws) (left - length ws)) (command_first ws))) kind
        ∙ ap (λ r. then r (λ got. then (whole_batch space engine stands (at + 4 * length ws) got.budget) (batch_first ws got.items))) inner

-- ---- the loop over a batch of the second level

module _ (space : GlobalSpace) (engine : ℕ) (whole : Result Got Reason) (at left : ℕ) (before now : List ℕ) (so_far : SecondSoFar space engine whole at left before now) where
  pub second-refused : (reason : Reason) → batch_command space engine Second at left ≡ Err reason → whole ≡ Err reason
  second-refused reason is = sym so_far.is ∙ ap (behind_these so_far.items) (refused-step space engine Second at left reason is)

  module _ (ws next : List ℕ) (is : batch_command space engine Second at left ≡ Ok ws) (added : next ≡ now ++ ws) where
    one : next ≡ now ++ concat (ws ∷ [])
    one = added ∙ ap (λ xs. now ++ xs) (sym (append-nil ws))

    appended : Appended (so_far.commands ++ ws ∷ []) before next
    appended = appended-more so_far.commands (ws ∷ []) before now next so_far.appended one (plain-copy ws (step-command space engine Second at left ws is) (second-starts (kind_of ws) engine (step-allowed space engine Second at left ws is)), tt)

    copied : (base : ℕ) (bs : List (List ℕ)) → Copies base bs (joined so_far.items (command ws none)) (so_far.commands ++ ws ∷ []) []
    copied base bs = copies-joined base bs so_far.items (command ws none) so_far.commands (ws ∷ []) [] (so_far.copies base bs) (refl, refl)

    pub second-ends : is_end (kind_of ws) ≡ true → SecondDone whole before next (left - length ws)
    second-ends ends = record {
      items = joined so_far.items (command ws none);
      commands = so_far.commands ++ ws ∷ [];
      is = sym so_far.is ∙ ap (behind_these so_far.items) (end-step space engine Second at left ws is ends);
      appended = appended;
      copies = copied;
    }

    pub second-goes : is_end (kind_of ws) ≡ false → SecondSoFar space engine whole (at + 4 * length ws) (left - length ws) before next
    second-goes goes = record {
      items = joined so_far.items (command ws none);
      commands = so_far.commands ++ ws ∷ [];
      is = sym (behind-both so_far.items (command ws none) (whole_batch space engine Second (at + 4 * length ws) (left - length ws)))
          ∙ sym (ap (behind_these so_far.items) (on-step space engine Second at left ws is goes (second-starts (kind_of ws) engine (step-allowed space engine Second at left ws is))))
          ∙ so_far.is;
      appended = appended;
      copies = copied;
    }

pub nothing-behind : (r : Result Got Reason) → behind_these none r ≡ r
nothing-behind (Err reason) = refl
nothing-behind (Ok got) = refl

pub second-begins : (space : GlobalSpace) (engine at left : ℕ) (now : List ℕ) → SecondSoFar space engine (whole_batch space engine Second at left) at left now now
second-begins space engine at left now = record { items = none; commands = []; is = nothing-behind (whole_batch space engine Second at left); appended = appended-none now; copies = λ base bs. refl }

-- ---- the loop over a batch of the first level

module _ (space : GlobalSpace) (engine : ℕ) (whole : Result Got Reason) (at left : ℕ) (before now own : List ℕ) (so_far : FirstSoFar space engine whole at left before now own) where
  pub first-refused : (reason : Reason) → batch_command space engine Privileged at left ≡ Err reason → whole ≡ Err reason
  first-refused reason is = sym so_far.is ∙ ap (behind_these so_far.items) (refused-step space engine Privileged at left reason is)

  placed : (others : List (List ℕ)) → before ≡ concat others → (offset : ℕ) → offset ≡ 4 * length now → offset ≡ 0 + 4 * length (concat (others ++ so_far.added))
  placed others same offset is =
      let whole_now : now ≡ concat (others ++ so_far.added) = so_far.appended.joined ∙ ap (λ xs. xs ++ concat so_far.added) same ∙ sym (concat-append others so_far.added) in
      let long = ap length whole_now in
      omega arith

  module _ (ws : List ℕ) (is : batch_command space engine Privileged at left ≡ Ok ws) where
    pub first-second-refused : (second : Bool) (to : ℕ) (reason : Reason) → kind_of ws ≡ Some (BatchStart false second to) → whole_batch space engine Second to (left - length ws) ≡ Err reason → whole ≡ Err reason
    first-second-refused second to reason kind inner = sym so_far.is ∙ ap (behind_these so_far.items) (start-refused space engine Privileged at left ws is second to reason kind inner)

    -- a plain command
    module _ (next : List ℕ) (added : next ≡ own ++ ws) (not : is_fetched_start (kind_of ws) ≡ false) where
      plain_one : next ≡ own ++ concat (ws ∷ [])
      plain_one = added ∙ ap (λ xs. own ++ xs) (sym (append-nil ws))

      apart : Appended (so_far.commands ++ ws ∷ []) [] next
      apart = appended-more so_far.commands (ws ∷ []) [] own next so_far.apart plain_one (plain-copy ws (step-command space engine Privileged at left ws is) not, tt)

      plain_copied : (others : List (List ℕ)) → before ≡ concat others → Copies 0 (others ++ so_far.added) (joined so_far.items (command ws none)) (so_far.commands ++ ws ∷ []) []
      plain_copied others same = copies-joined 0 (others ++ so_far.added) so_far.items (command ws none) so_far.commands (ws ∷ []) [] (so_far.copies others same) (refl, refl)

      pub first-goes : is_end (kind_of ws) ≡ false → FirstSoFar space engine whole (at + 4 * length ws) (left - length ws) before now next
      first-goes goes = record {
        items = joined so_far.items (command ws none);
        added = so_far.added;
        commands = so_far.commands ++ ws ∷ [];
        is = sym (behind-both so_far.items (command ws none) (whole_batch space engine Privileged (at + 4 * length ws) (left - length ws)))
            ∙ sym (ap (behind_these so_far.items) (on-step space engine Privileged at left ws is goes not))
            ∙ so_far.is;
        appended = so_far.appended;
        apart = apart;
        copies = plain_copied;
      }

      -- the end: its own commands go behind the others
      pub first-ends : is_end (kind_of ws) ≡ true → (after : List ℕ) (offset : ℕ) → after ≡ now ++ next → offset ≡ 4 * length now → offset ≤ 2 ^ 20 → FirstDone whole before after offset (left - length ws)
      first-ends ends after offset behind is_offset few = record {
        few = few;
        items = joined so_far.items (command ws none);
        added = so_far.added ++ (so_far.commands ++ ws ∷ []);
        is = sym so_far.is ∙ ap (behind_these so_far.items) (end-step space engine Privileged at left ws is ends);
        appended = appended-more so_far.added (so_far.commands ++ ws ∷ []) before now after so_far.appended (behind ∙ ap (λ xs. now ++ xs) apart.joined) apart.each;
        copies = λ others same. record {
          rest = so_far.commands ++ ws ∷ [];
          begins = record {
            before = others ++ so_far.added;
            split = sym (append_assoc others so_far.added (so_far.commands ++ ws ∷ []));
            count = placed others same offset is_offset;
          };
          behind = [];
          copies = let P : List (List ℕ) → Type 0 = λ bs. Copies 0 bs (joined so_far.items (command ws none)) (so_far.commands ++ ws ∷ []) [] in
              subst P (append_assoc others so_far.added (so_far.commands ++ ws ∷ [])) (copies-added (others ++ so_far.added) (so_far.commands ++ ws ∷ []) (joined so_far.items (command ws none)) (so_far.commands ++ ws ∷ []) (plain_copied others same));
        };
      }

    -- a start of a batch of the second level, which was fetched and appended
    module _ (second : Bool) (to left_then offset : ℕ) (now_then next : List ℕ) (kind : kind_of ws ≡ Some (BatchStart false second to)) (is_offset : offset ≡ 4 * length now) (few : offset ≤ 2 ^ 20)
        (inner : SecondDone (whole_batch space engine Second to (left - length ws)) now now_then left_then) (added : next ≡ own ++ start_at ws offset) where
      fit : offset % 4 ≡ 0
      fit = omega arith

      copy_command : IsCopy (start_at ws offset)
      copy_command = start-copy ws offset fit few (step-command space engine Privileged at left ws is) (ap is_fetched_start kind)

      start_copied_there : (others : List (List ℕ)) → before ≡ concat others → Copies 0 (others ++ (so_far.added ++ inner.commands)) (joined so_far.items (batch (start_at ws 0) inner.items none)) (so_far.commands ++ start_at ws offset ∷ []) []
      start_copied_there others same =
          let bs = others ++ (so_far.added ++ inner.commands) in
          let P : List (List ℕ) → Type 0 = λ xs. Copies 0 xs so_far.items so_far.commands [] in
          let old : P bs = subst P (append_assoc others so_far.added inner.commands) (copies-added (others ++ so_far.added) inner.commands so_far.items so_far.commands (so_far.copies others same)) in
          copies-joined 0 bs so_far.items (batch (start_at ws 0) inner.items none) so_far.commands (start_at ws offset ∷ []) [] old (
            record {
              to = offset;
              copy = refl;
              rest = inner.commands;
              begins = record { before = others ++ so_far.added; split = sym (append_assoc others so_far.added inner.commands); count = placed others same offset is_offset };
              behind = [];
              inside = inner.copies 0 bs;
            },
            refl,
          )

      pub first-starts : FirstSoFar space engine whole (at + 4 * length ws) left_then before now_then next
      first-starts = record {
        items = joined so_far.items (batch (start_at ws 0) inner.items none);
        added = so_far.added ++ inner.commands;
        commands = so_far.commands ++ start_at ws offset ∷ [];
        is = sym (behind-both so_far.items (batch (start_at ws 0) inner.items none) (whole_batch space engine Privileged (at + 4 * length ws) left_then))
            ∙ sym (ap (behind_these so_far.items) (start-step space engine Privileged at left ws is second to (record { items = inner.items; budget = left_then }) kind inner.is))
            ∙ so_far.is;
        appended = appended-more so_far.added inner.commands before now now_then so_far.appended inner.appended.joined inner.appended.each;
        apart = appended-more so_far.commands (start_at ws offset ∷ []) [] own next so_far.apart (added ∙ ap (λ xs. own ++ xs) (sym (append-nil (start_at ws offset)))) (copy_command, tt);
        copies = start_copied_there;
      }

pub first-begins : (space : GlobalSpace) (engine at left : ℕ) (now : List ℕ) → FirstSoFar space engine (whole_batch space engine Privileged at left) at left now now []
first-begins space engine at left now = record {
  items = none;
  added = [];
  commands = [];
  is = nothing-behind (whole_batch space engine Privileged at left);
  appended = appended-none now;
  apart = appended-none [];
  copies = λ others same. refl;
}

-- a fault inside is a fault
pub fault-lifts : (inner whole : Result Got Reason) (e : ScanFault) → IsFault inner e → ((reason : Reason) → inner ≡ Err reason → whole ≡ Err reason) → IsFault whole e
fault-lifts inner whole OutOfMemory is lift = tt
fault-lifts inner whole (Refused reason) is lift = lift reason is

-- the copy of a start has as many dwords
pub start-long : (space : GlobalSpace) (engine : ℕ) (stands : Stands) (at left : ℕ) (ws : List ℕ) → batch_command space engine stands at left ≡ Ok ws → (second : Bool) (to : ℕ) → kind_of ws ≡ Some (BatchStart false second to) → length ws ≡ 3
start-long space engine stands at left ws is second to kind = (start_copied ws 0 refl (step-command space engine stands at left ws is) (ap is_fetched_start kind)).few

-- ---- the loop over a ring

no-end : (kind : Option Kind) (engine : ℕ) → may_stand kind Ring engine ≡ true → is_end kind ≡ false
no-end (Some BatchEnd) engine may = cc
no-end kind engine may = refl

module _ (space : GlobalSpace) (engine : ℕ) (whole : Result Got Reason) (ring : List ℕ) (at left : ℕ) (own batches : List ℕ) (so_far : RingSoFar space engine whole ring at left own batches) (more : at < length ring) where
  abbrev rest : List ℕ
  rest = drop at ring

  some : 0 < length rest
  some = let l = length-drop at ring in omega arith

  abbrev ring_next : Result (List ℕ) Reason → Result Got Reason
  ring_next r = then r (λ ws.
      by_kind (kind_of ws)
      (λ to. then (whole_batch space engine Privileged to left) (λ got.
      then (whole_ring space engine (drop (length ws) rest) got.budget) (batch_first ws got.items)))
      (Err Command)
      (then (whole_ring space engine (drop (length ws) rest) left) (command_first ws)))

  one_on : whole_ring space engine rest left ≡ ring_next (ring_command space engine rest)
  one_on = ring-step space engine rest left some

  pub ring-refused : (reason : Reason) → ring_command space engine rest ≡ Err reason → whole ≡ Err reason
  ring-refused reason is = sym so_far.is ∙ ap (behind_these so_far.items) (one_on ∙ ap ring_next is)

  module _ (ws : List ℕ) (is : ring_command space engine rest ≡ Ok ws) where
    on : (n : ℕ) → whole_ring space engine (drop (length ws) rest) n ≡ whole_ring space engine (drop (at + length ws) ring) n
    on n = ap (λ xs. whole_ring space engine xs n) (drop-drop (length ws) at ring)

    may : MayStand Ring engine ws
    may = (ring_command-ok space engine rest ws is).passed.may

    -- a plain command
    module _ (next : List ℕ) (added : next ≡ own ++ ws) (not : is_fetched_start (kind_of ws) ≡ false) where
      pub ring-goes : RingSoFar space engine whole ring (at + length ws) left next batches
      ring-goes = record {
        items = joined so_far.items (command ws none);
        commands = so_far.commands ++ ws ∷ [];
        added = so_far.added;
        is = sym (behind-both so_far.items (command ws none) (whole_ring space engine (drop (at + length ws) ring) left))
            ∙ sym (ap (behind_these so_far.items) (one_on ∙ ap ring_next is
            ∙ by-other (kind_of ws) (no-end (kind_of ws) engine may.allowed) not _ _ _
            ∙ command-behind ws (whole_ring space engine (drop (length ws) rest) left)
            ∙ ap (behind_these (command ws none)) (on left)))
            ∙ so_far.is;
        own_is = appended-more so_far.commands (ws ∷ []) [] own next so_far.own_is (added ∙ ap (λ xs. own ++ xs) (sym (append-nil ws))) (plain-copy ws may.command not, tt);
        batches_are = so_far.batches_are;
        copies = copies-joined 0 so_far.added so_far.items (command ws none) so_far.commands (ws ∷ []) [] so_far.copies (refl, refl);
      }

    pub ring-inner-refused : (second : Bool) (to : ℕ) (reason : Reason) → kind_of ws ≡ Some (BatchStart false second to) → whole_batch space engine Privileged to left ≡ Err reason → whole ≡ Err reason
    ring-inner-refused second to reason kind inner =
        sym so_far.is ∙ ap (behind_these so_far.items) (one_on ∙ ap ring_next is
        ∙ ap (λ k. by_kind k
        (λ to. then (whole_batch space engine Privileged to left) (λ got. then (whole_ring space engine (drop (length ws) rest) got.budget) (batch_first ws got.items)))
        (Err Command)
        (then (whole_ring space engine (drop (length ws) rest) left) (command_first ws))) kind
        ∙ ap (λ r. then r (λ got. then (whole_ring space engine (drop (length ws) rest) got.budget) (batch_first ws got.items))) inner)

    -- a start of a batch, which was fetched and appended
    module _ (second : Bool) (to offset left_then : ℕ) (next batches_then : List ℕ) (kind : kind_of ws ≡ Some (BatchStart false second to))
        (outer : FirstDone (whole_batch space engine Privileged to left) batches batches_then offset left_then) (added : next ≡ own ++ start_at ws offset) where
      there : BatchAt 0 (so_far.added ++ outer.added) offset outer.items
      there = outer.copies so_far.added so_far.batches_are.joined

      fits : offset % 4 ≡ 0
      fits = let n = there.begins.count in omega arith

      ring_copy : IsCopy (start_at ws offset)
      ring_copy = start-copy ws offset fits outer.few may.command (ap is_fetched_start kind)

      batch-behind : (items : Items) (r : Result Got Reason) → then r (batch_first ws items) ≡ behind_these (batch (start_at ws 0) items none) r
      batch-behind items (Err reason) = refl
      batch-behind items (Ok got) = refl

      pub ring-starts : RingSoFar space engine whole ring (at + length ws) left_then next batches_then
      ring-starts = record {
        items = joined so_far.items (batch (start_at ws 0) outer.items none);
        commands = so_far.commands ++ start_at ws offset ∷ [];
        added = so_far.added ++ outer.added;
        is = sym (behind-both so_far.items (batch (start_at ws 0) outer.items none) (whole_ring space engine (drop (at + length ws) ring) left_then))
            ∙ sym (ap (behind_these so_far.items) (one_on ∙ ap ring_next is
            ∙ ap (λ k. by_kind k
            (λ to. then (whole_batch space engine Privileged to left) (λ got. then (whole_ring space engine (drop (length ws) rest) got.budget) (batch_first ws got.items)))
            (Err Command)
            (then (whole_ring space engine (drop (length ws) rest) left) (command_first ws))) kind
            ∙ ap (λ r. then r (λ got. then (whole_ring space engine (drop (length ws) rest) got.budget) (batch_first ws got.items))) outer.is
            ∙ batch-behind outer.items (whole_ring space engine (drop (length ws) rest) left_then)
            ∙ ap (behind_these (batch (start_at ws 0) outer.items none)) (on left_then)))
            ∙ so_far.is;
        own_is = appended-more so_far.commands (start_at ws offset ∷ []) [] own next so_far.own_is (added ∙ ap (λ xs. own ++ xs) (sym (append-nil (start_at ws offset)))) (ring_copy, tt);
        batches_are = appended-more so_far.added outer.added [] batches batches_then so_far.batches_are outer.appended.joined outer.appended.each;
        copies = copies-joined 0 (so_far.added ++ outer.added) so_far.items (batch (start_at ws 0) outer.items none) so_far.commands (start_at ws offset ∷ []) []
            (copies-added so_far.added outer.added so_far.items so_far.commands so_far.copies)
            (record { to = offset; copy = refl; rest = there.rest; begins = there.begins; behind = there.behind; inside = there.copies }, refl);
      }

pub ring-begins : (space : GlobalSpace) (engine : ℕ) (ring : List ℕ) (left : ℕ) → RingSoFar space engine (whole_ring space engine ring left) ring 0 left [] []
ring-begins space engine ring left = record {
  items = none;
  commands = [];
  added = [];
  is = nothing-behind (whole_ring space engine ring left);
  own_is = appended-none [];
  batches_are = appended-none [];
  copies = refl;
}

pub ring-done : (space : GlobalSpace) (engine : ℕ) (whole : Result Got Reason) (ring : List ℕ) (at left : ℕ) (own batches : List ℕ) → RingSoFar space engine whole ring at left own batches → length ring ≤ at → RingDone whole own batches
ring-done space engine whole ring at left own batches so_far end =
    let all : whole ≡ Ok record { items = joined so_far.items none; budget = left } =
    sym so_far.is ∙ ap (behind_these so_far.items) (ap (λ xs. whole_ring space engine xs left) (drop_all at ring end) ∙ ring-none space engine left) in
    record {
      items = so_far.items;
      is = ap items_of all ∙ ap Ok (joined-none so_far.items);
      program = record {
        layout = record { ring = so_far.commands; batches = so_far.added; base = 0 };
        is = record {
          offsets = refl;
          ring_is = sym so_far.own_is.joined;
          batches_are = sym so_far.batches_are.joined;
          ring_copies = so_far.own_is.each;
          batch_copies = so_far.batches_are.each;
        };
        follows = record { rest = so_far.commands; begins = record { before = []; split = refl; count = refl }; copies = so_far.copies };
      };
    }
  where
    joined-none : (items : Items) → joined items none ≡ items
    joined-none none = refl
    joined-none (command ws items) = ap (command ws) (joined-none items)
    joined-none (batch ws inner items) = ap (batch ws inner) (joined-none items)

-- what is gathered fits a window
pub ring-fits : (space : GlobalSpace) (engine : ℕ) (whole : Result Got Reason) (ring : List ℕ) (at left : ℕ) (own batches : List ℕ) → RingSoFar space engine whole ring at left own batches
    → length own ≤ 16384 → length batches ≤ 262144 → FitsWindow own batches
ring-fits space engine whole ring at left own batches so_far few many = record {
  ring_whole = record { commands = so_far.commands; is = sym so_far.own_is.joined; each = so_far.own_is.each };
  batches_whole = record { commands = so_far.added; is = sym so_far.batches_are.joined; each = so_far.batches_are.each };
  ring_few = few;
  batches_few = many;
}

-- a start of a batch in the ring has three dwords
pub start-three : (space : GlobalSpace) (engine : ℕ) (ring ws : List ℕ) → ring_command space engine ring ≡ Ok ws → (second : Bool) (to : ℕ) → kind_of ws ≡ Some (BatchStart false second to) → length ws ≡ 3
start-three space engine ring ws is second to kind = (start_copied ws 0 refl (ring_command-ok space engine ring ws is).passed.may.command (ap is_fetched_start kind)).few
