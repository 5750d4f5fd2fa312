-- Along a flat list, command by command.
use Rattle.std.proofs.Common.{◌≡◌, ℕ, ◌+◌, ◌*◌, ◌<◌, ◌≤◌, Bool, true, false, List, [], ◌++◌, length, length-append, length-drop, drop, take, append_assoc, Option, Some, Ok, Result, refl, ap, sym, subst, ◌∙◌, arith}
use Rattle.std.specs.List.{concat}
use Rattle.std.specs.Bool.{MatchBool}
use Rattle.std.proofs.lemmas.Bool.{false≢true}
use Rattle.std.proofs.lemmas.List.{append-nil, drop_at, drop-drop, take_at}
use Rattle.std.proofs.lemmas.List.Folds.{concat-append}
use Rattle.gv_cmd.specs.Allowed.{may_stand}
use Rattle.gv_cmd.specs.Command.{decoded}
use Rattle.gv_cmd.specs.Table.{kind_of}
use Rattle.gv_cmd.specs.declared.command.Unlisted.{Unlisted}
use Rattle.gv_cmd.specs.declared.kind.Kind.{Kind}
use Rattle.gv_cmd.specs.declared.kind.Kind.TheVariants.{BatchEnd, BatchStart}
use Rattle.gv_cmd.specs.declared.stands.Stands.{Stands}
use Rattle.gv_cmd.specs.declared.stands.Stands.TheVariants.{Ring, Privileged, Live, Second}
use Rattle.gv_cmd.proofs.Lengths.{decoded-command, IsCommand-length}
use Rattle.gv_fetch.specs.Items.{Items, none, command, batch, inside, is_fetched_start, is_end, MayAllStand, start_at}
use Rattle.gv_fetch.specs.Left.{words_of, is_none}
use Rattle.gv_scan.proofs.Laying.{behind, three}
use Rattle.gv_fetch.specs.Flat.{flat}
use Rattle.gv_scan.specs.Lay.{lay, bytes_of}
use Rattle.gv_scan.specs.Listed.{BeginsWithCommand, ListsBatch, ListsSecond, ListsRing, SecondSoFar, BatchSoFar, RingSoFar, BatchLaid, RingLaid}

ok-same : (x y : List ℕ × ℕ) → (let r : Result (List ℕ × ℕ) Unlisted = Ok x in r ≡ Ok y) → x ≡ y
ok-same x y same = cc

-- the front of what is left, where something is
pub record Front (stands : Stands) (engine : ℕ) (words : List ℕ) (items : Items) : Type 0 where
  pub begins : BeginsWithCommand words
  pub is : begins.command ≡ words_of items

pub same-front : (words c : List ℕ) (b : BeginsWithCommand words) → decoded words ≡ Ok (c, length c) → b.command ≡ c
same-front words c b is = ap (λ (p : List ℕ × ℕ). p.0) (ok-same (b.command, length b.command) (c, length c) (sym b.decodes ∙ is))

pub front-of : (stands : Stands) (engine : ℕ) (words rest : List ℕ) (items : Items) → is_none items ≡ false → words ≡ flat items ++ rest → MayAllStand stands engine items → Front stands engine words items
front-of stands engine words rest none some is may = cc
front-of stands engine words rest (command ws more) some is may = record {
  begins = record { command = ws; good = may.0.command; decodes = ap decoded (is ∙ append_assoc ws (flat more) rest) ∙ decoded-command ws (flat more ++ rest) may.0.command };
  is = refl;
}
front-of stands engine words rest (batch ws items more) some is may = record {
  begins = record { command = ws; good = may.0.command; decodes = ap decoded (is ∙ append_assoc ws (flat items ++ flat more) rest) ∙ decoded-command ws ((flat items ++ flat more) ++ rest) may.0.command };
  is = refl;
}

pub some-left : (stands : Stands) (engine : ℕ) (items : Items) → (stands ≡ Ring → ⊥) → MayAllStand stands engine items → is_none items ≡ false
some-left stands engine none batched may = absurd (batched may)
some-left stands engine (command ws more) batched may = refl
some-left stands engine (batch ws items more) batched may = refl

pub second-batched : Second ≡ Ring → ⊥
second-batched h = cc

drop-more : (n m : ℕ) (xs : List ℕ) → drop (n + m) xs ≡ drop m (drop n xs)
drop-more n m xs = sym (drop-drop m n xs)

-- past the front of a list
pub past-front : (words rest ws behind_it : List ℕ) (at : ℕ) → drop at words ≡ (ws ++ behind_it) ++ rest → drop (at + length ws) words ≡ behind_it ++ rest
past-front words rest ws behind_it at is =
    drop-more at (length ws) words ∙ ap (drop (length ws)) (is ∙ append_assoc ws behind_it rest) ∙ drop_at ws (behind_it ++ rest) (length ws) refl

no-start : (kind : Option Kind) (engine : ℕ) → may_stand kind Second engine ≡ true → is_fetched_start kind ≡ false
no-start (Some (BatchStart live second at)) engine may = cc
no-start kind engine may = refl

differ : {P : Type 0} (b : Bool) → b ≡ false → b ≡ true → P
differ b off on = absurd (false≢true (sym off ∙ on))

-- ---- a batch that starts none

module _ (words : List ℕ) (start at : ℕ) (b : ListsSecond words start) (c : List ℕ) (decodes : decoded (drop at words) ≡ Ok (c, length c)) where
  second-by : (left : Items) → drop at words ≡ flat left ++ b.rest → MayAllStand Second b.engine left → at + length (flat left) ≡ start + length (flat b.items)
      → (is_end (kind_of c) ≡ true → at + length c ≡ start + length (flat b.items)) × (is_end (kind_of c) ≡ false → SecondSoFar words start (at + length c) b)
  second-by none is may past = absurd (second-batched may)
  second-by (batch ws items more) is may past = differ (is_fetched_start (kind_of ws)) (no-start (kind_of ws) b.engine may.0.allowed) may.1
  second-by (command ws more) is may past =
      let f = front-of Second b.engine (drop at words) b.rest (command ws more) refl is may in
      let same : ws ≡ c = sym f.is ∙ same-front (drop at words) c f.begins decodes in
      let long = length-append ws (flat more) in
      let here = ap length same in (
        (λ ends.
            let P : List ℕ → Type 0 = λ w. MatchBool (is_end (kind_of w)) (more ≡ none) (MayAllStand Second b.engine more) in
            let Q : Bool → Type 0 = λ v. MatchBool v (more ≡ none) (MayAllStand Second b.engine more) in
            let last : more ≡ none = subst Q ends (subst P same may.2) in
            let nothing = ap (λ i. length (flat i)) last in
            omega arith),
        (λ goes.
            let P : List ℕ → Type 0 = λ w. MatchBool (is_end (kind_of w)) (more ≡ none) (MayAllStand Second b.engine more) in
            let Q : Bool → Type 0 = λ v. MatchBool v (more ≡ none) (MayAllStand Second b.engine more) in
            let rest : MayAllStand Second b.engine more = subst Q goes (subst P same may.2) in
            record {
              left = more;
              is = (let R : ℕ → Type 0 = λ n. drop (at + n) words ≡ flat more ++ b.rest in subst R here (past-front words b.rest ws (flat more) at is));
              may = rest;
              past = omega arith;
            }),
      )

  pub second-ends : SecondSoFar words start at b → is_end (kind_of c) ≡ true → at + length c ≡ start + length (flat b.items)
  second-ends so_far ends = (second-by so_far.left so_far.is so_far.may so_far.past).0 ends

  pub second-goes : SecondSoFar words start at b → is_end (kind_of c) ≡ false → SecondSoFar words start (at + length c) b
  second-goes so_far goes = (second-by so_far.left so_far.is so_far.may so_far.past).1 goes

pub second-begins : (words : List ℕ) (start : ℕ) (b : ListsSecond words start) → SecondSoFar words start start b
second-begins words start b = record { left = b.items; is = b.is; may = b.may; past = refl }

-- what is left is among the dwords
pub within : (words left rest : List ℕ) (at : ℕ) → drop at words ≡ left ++ rest → 1 ≤ length left → at + length left ≤ length words
within words left rest at is some =
    let l = ap length is ∙ length-append left rest in
    let d = length-drop at words in
    omega arith

some-words : (stands : Stands) (engine : ℕ) (items : Items) → is_none items ≡ false → MayAllStand stands engine items → 1 ≤ length (flat items)
some-words stands engine none some may = cc
some-words stands engine (command ws more) some may = let a = (IsCommand-length ws may.0.command).0 in let l = length-append ws (flat more) in omega arith
some-words stands engine (batch ws items more) some may = let a = (IsCommand-length ws may.0.command).0 in let l = length-append ws (flat items ++ flat more) in omega arith

pub second-within : (words : List ℕ) (start at : ℕ) (b : ListsSecond words start) → SecondSoFar words start at b → at < length words
second-within words start at b so_far =
    let some = some-words Second b.engine so_far.left (some-left Second b.engine so_far.left second-batched so_far.may) so_far.may in
    let w = within words (flat so_far.left) b.rest at so_far.is some in
    omega arith

pub second-front : (words : List ℕ) (start at : ℕ) (b : ListsSecond words start) → SecondSoFar words start at b → BeginsWithCommand (drop at words)
second-front words start at b so_far = (front-of Second b.engine (drop at words) b.rest so_far.left (some-left Second b.engine so_far.left second-batched so_far.may) so_far.is so_far.may).begins

front-within : (items : Items) → length (words_of items) ≤ length (flat items)
front-within none = omega arith
front-within (command ws more) = let l = length-append ws (flat more) in omega arith
front-within (batch ws items more) = let l = length-append ws (flat items ++ flat more) in omega arith

-- the front command is among the dwords
pub second-long : (words : List ℕ) (start at : ℕ) (b : ListsSecond words start) (c : List ℕ) → decoded (drop at words) ≡ Ok (c, length c) → SecondSoFar words start at b → (1 ≤ length c) × (at + length c ≤ length words)
second-long words start at b c decodes so_far = by so_far.left so_far.is so_far.may
  where
    by : (left : Items) → drop at words ≡ flat left ++ b.rest → MayAllStand Second b.engine left → (1 ≤ length c) × (at + length c ≤ length words)
    by left is may =
        let f = front-of Second b.engine (drop at words) b.rest left (some-left Second b.engine left second-batched may) is may in
        let same = same-front (drop at words) c f.begins decodes in
        let here = ap length same in
        let some = (IsCommand-length f.begins.command f.begins.good).0 in
        let there = ap length f.is in
        let w = within words (flat left) b.rest at is (some-words Second b.engine left (some-left Second b.engine left second-batched may) may) in
        let fits = front-within left in
        (omega arith, omega arith)

-- ---- a batch

plain-none : (at : ℕ) → ((lay at none).others ≡ []) × (concat (lay at none).own ≡ flat none)
unfolding lay
plain-none at = (refl, refl)

-- what starts no batch is laid out as it is
pub second-plain : (engine : ℕ) (items : Items) (at : ℕ) → MayAllStand Second engine items → ((lay at items).others ≡ []) × (concat (lay at items).own ≡ flat items)
unfolding lay
second-plain engine none at may = (refl, refl)
second-plain engine (batch ws items more) at may = differ (is_fetched_start (kind_of ws)) (no-start (kind_of ws) engine may.0.allowed) may.1
second-plain engine (command ws more) at may =
    let P : Items → Type 0 = λ m. ((lay at m).others ≡ []) × (concat (lay at m).own ≡ flat m) in
    let r = behind P Second engine more (is_end (kind_of ws)) (plain-none at) (λ all. second-plain engine more at all) may.2 in
    (r.0, ap (λ xs. ws ++ xs) r.1)

inside-second : (stands : Stands) → (stands ≡ Ring → ⊥) → inside stands ≡ Second
inside-second Ring batched = absurd (batched refl)
inside-second Privileged batched = refl
inside-second Live batched = refl
inside-second Second batched = refl

-- the dwords of a batch that starts none, between its ends
pub second-slice : (words : List ℕ) (start : ℕ) (b : ListsSecond words start) → take (length (flat b.items)) (drop start words) ≡ flat b.items
second-slice words start b = ap (take (length (flat b.items))) b.is ∙ take_at (flat b.items) b.rest (length (flat b.items)) refl

pub batch-begins : (words : List ℕ) (start : ℕ) (before : List ℕ) (b : ListsBatch words start) → BatchSoFar words start start before before [] b
batch-begins words start before b = record { left = b.items; is = b.is; may = b.may; past = refl; own_goes = refl; others_go = refl }

module _ (words : List ℕ) (start at : ℕ) (before now own : List ℕ) (b : ListsBatch words start) (so_far : BatchSoFar words start at before now own b) where
  some : is_none so_far.left ≡ false
  some = some-left b.stands b.engine so_far.left b.batched so_far.may

  pub batch-within : at < length words
  batch-within =
      let w = within words (flat so_far.left) b.rest at so_far.is (some-words b.stands b.engine so_far.left some so_far.may) in
      let l = some-words b.stands b.engine so_far.left some so_far.may in
      omega arith

  pub batch-front : BeginsWithCommand (drop at words)
  batch-front = (front-of b.stands b.engine (drop at words) b.rest so_far.left some so_far.is so_far.may).begins

  module _ (c : List ℕ) (decodes : decoded (drop at words) ≡ Ok (c, length c)) where
    pub batch-long : (1 ≤ length c) × (at + length c ≤ length words)
    batch-long =
        let f = front-of b.stands b.engine (drop at words) b.rest so_far.left some so_far.is so_far.may in
        let same = same-front (drop at words) c f.begins decodes in
        let here = ap length same in
        let one = (IsCommand-length f.begins.command f.begins.good).0 in
        let there = ap length f.is in
        let w = within words (flat so_far.left) b.rest at so_far.is (some-words b.stands b.engine so_far.left some so_far.may) in
        let fits = front-within so_far.left in
        (omega arith, omega arith)

    -- what it is that stands there: a command, or a start with its batch
    pub record Plain : Type 0 where
      pub more : Items
      pub is : so_far.left ≡ command c more

    pub record Starts : Type 0 where
      pub items : Items
      pub more : Items
      pub is : so_far.left ≡ batch c items more

    same-words : (left : Items) → so_far.left ≡ left → words_of left ≡ c
    same-words left is =
        let f = front-of b.stands b.engine (drop at words) b.rest so_far.left some so_far.is so_far.may in
        ap words_of (sym is) ∙ sym f.is ∙ same-front (drop at words) c f.begins decodes

    plain-by : (left : Items) → so_far.left ≡ left → is_fetched_start (kind_of c) ≡ false → Plain
    plain-by none is not = differ (is_none none) (ap is_none (sym is) ∙ some) refl
    plain-by (command ws more) is not = record { more = more; is = is ∙ ap (λ w. command w more) (same-words (command ws more) is) }
    plain-by (batch ws items more) is not =
        let may : MayAllStand b.stands b.engine (batch ws items more) = subst (MayAllStand b.stands b.engine) is so_far.may in
        differ (is_fetched_start (kind_of ws)) (ap (λ w. is_fetched_start (kind_of w)) (same-words (batch ws items more) is) ∙ not) may.1

    starts-by : (left : Items) → so_far.left ≡ left → is_fetched_start (kind_of c) ≡ true → Starts
    starts-by none is so = differ (is_none none) (ap is_none (sym is) ∙ some) refl
    starts-by (batch ws items more) is so = record { items = items; more = more; is = is ∙ ap (λ w. batch w items more) (same-words (batch ws items more) is) }
    starts-by (command ws more) is so =
        let may : MayAllStand b.stands b.engine (command ws more) = subst (MayAllStand b.stands b.engine) is so_far.may in
        differ (is_fetched_start (kind_of ws)) may.1 (ap (λ w. is_fetched_start (kind_of w)) (same-words (command ws more) is) ∙ so)

    pub plain : is_fetched_start (kind_of c) ≡ false → Plain
    plain not = plain-by so_far.left refl not

    pub starts : is_fetched_start (kind_of c) ≡ true → Starts
    starts so = starts-by so_far.left refl so

    -- ---- a command that starts nothing

    module _ (not : is_fetched_start (kind_of c) ≡ false) where
      more : Items
      more = (plain not).more

      is_left : so_far.left ≡ command c more
      unfolding more
      is_left = (plain not).is

      here_is : drop at words ≡ flat (command c more) ++ b.rest
      here_is = so_far.is ∙ ap (λ i. flat i ++ b.rest) is_left

      past_is : at + length c + length (flat more) ≡ start + length (flat b.items)
      past_is =
          let p = so_far.past in
          let l = ap (λ i. length (flat i)) is_left in
          let j = length-append c (flat more) in
          omega arith

      may_is : MayAllStand b.stands b.engine (command c more)
      may_is = subst (MayAllStand b.stands b.engine) is_left so_far.may

      own_is : (next : List ℕ) → next ≡ own ++ c → next ++ concat (lay (4 * length now) more).own ≡ concat (lay (4 * length before) b.items).own
      unfolding lay
      own_is next added =
          ap (λ xs. xs ++ concat (lay (4 * length now) more).own) added ∙ append_assoc own c (concat (lay (4 * length now) more).own)
          ∙ sym (ap (λ i. own ++ concat (lay (4 * length now) i).own) is_left) ∙ so_far.own_goes

      others_is : now ++ concat (lay (4 * length now) more).others ≡ before ++ concat (lay (4 * length before) b.items).others
      unfolding lay
      others_is = sym (ap (λ i. now ++ concat (lay (4 * length now) i).others) is_left) ∙ so_far.others_go

      pub batch-goes : (next : List ℕ) → next ≡ own ++ c → is_end (kind_of c) ≡ false → BatchSoFar words start (at + length c) before now next b
      batch-goes next added goes = record {
        left = more;
        is = past-front words b.rest c (flat more) at here_is;
        may = (let Q : Bool → Type 0 = λ v. MatchBool v (more ≡ none) (MayAllStand b.stands b.engine more) in subst Q goes may_is.2);
        past = past_is;
        own_goes = own_is next added;
        others_go = others_is;
      }

      nothing-own : (n : ℕ) → concat (lay n none).own ≡ []
      unfolding lay
      nothing-own n = refl

      nothing-others : (n : ℕ) → concat (lay n none).others ≡ []
      unfolding lay
      nothing-others n = refl

      pub batch-ends : (next after : List ℕ) (offset : ℕ) → next ≡ own ++ c → is_end (kind_of c) ≡ true → after ≡ now ++ next → offset ≡ 4 * length now → BatchLaid words start (at + length c) offset before after b
      batch-ends next after offset added ends behind_it offset_is =
          let Q : Bool → Type 0 = λ v. MatchBool v (more ≡ none) (MayAllStand b.stands b.engine more) in
          let last : more ≡ none = subst Q ends may_is.2 in
          let n = 4 * length now in
          let all_own : next ≡ concat (lay (4 * length before) b.items).own
          = sym (append-nil next) ∙ ap (λ xs. next ++ xs) (sym (nothing-own n)) ∙ ap (λ i. next ++ concat (lay n i).own) (sym last) ∙ own_is next added in
          let all_others : now ≡ before ++ concat (lay (4 * length before) b.items).others
          = sym (append-nil now) ∙ ap (λ xs. now ++ xs) (sym (nothing-others n)) ∙ ap (λ i. now ++ concat (lay n i).others) (sym last) ∙ others_is in
          let long = ap length all_others ∙ length-append before (concat (lay (4 * length before) b.items).others) in
          let nothing = ap (λ i. length (flat i)) last in
          let p = past_is in
          record {
            past = omega arith;
            offset_is = omega arith;
            copied = behind_it ∙ ap (λ xs. xs ++ next) all_others ∙ ap (λ xs. (before ++ concat (lay (4 * length before) b.items).others) ++ xs) all_own;
          }

    -- ---- a start, with its batch

    module _ (so : is_fetched_start (kind_of c) ≡ true) where
      abbrev pub inner : Items
      inner = (starts so).items

      abbrev pub later : Items
      later = (starts so).more

      pub is_start : so_far.left ≡ batch c inner later
      is_start = (starts so).is

      pub start_here : drop at words ≡ flat (batch c inner later) ++ b.rest
      start_here = so_far.is ∙ ap (λ i. flat i ++ b.rest) is_start

      pub start_may : MayAllStand b.stands b.engine (batch c inner later)
      start_may = subst (MayAllStand b.stands b.engine) is_start so_far.may

      pub inner_may : MayAllStand Second b.engine inner
      inner_may = subst (λ s. MayAllStand s b.engine inner) (inside-second b.stands b.batched) start_may.2

      abbrev pub second-there : ListsSecond words (at + length c)
      second-there = record {
        engine = b.engine;
        items = inner;
        rest = flat later ++ b.rest;
        is = past-front words b.rest c (flat inner ++ flat later) at start_here ∙ append_assoc (flat inner) (flat later) b.rest;
        may = inner_may;
      }

      -- behind it
      pub batch-starts : (next after : List ℕ) (end : ℕ) → end ≡ at + length c + length (flat inner) → next ≡ own ++ start_at c (4 * length now) → after ≡ now ++ flat inner → BatchSoFar words start end before after next b
      unfolding lay
      batch-starts next after end end_is added copied =
          let n = 4 * length now in
          let plain_inner = second-plain b.engine inner n inner_may in
          let i = lay n inner in
          let no_others : bytes_of i.others ≡ 0 = ap bytes_of plain_inner.0 in
          let to_is : n + bytes_of i.others ≡ n = omega arith in
          let after_long = ap length copied ∙ length-append now (flat inner) in
          let own_long = ap length plain_inner.1 in
          let next_is : n + bytes_of i.others + bytes_of i.own ≡ 4 * length after = omega arith in
          let own_whole : own ++ (start_at c (n + bytes_of i.others) ++ concat (lay (n + bytes_of i.others + bytes_of i.own) later).own) ≡ concat (lay (4 * length before) b.items).own
          = sym (ap (λ x. own ++ concat (lay n x).own) is_start) ∙ so_far.own_goes in
          let others_whole : now ++ concat (i.others ++ (i.own ++ (lay (n + bytes_of i.others + bytes_of i.own) later).others)) ≡ before ++ concat (lay (4 * length before) b.items).others
          = sym (ap (λ x. now ++ concat (lay n x).others) is_start) ∙ so_far.others_go in
          let long = length-append c (flat inner ++ flat later) in
          let two = length-append (flat inner) (flat later) in
          let p = so_far.past in
          let l = ap (λ x. length (flat x)) is_start in
          record {
            left = later;
            is =
                let P : ℕ → Type 0 = λ k. drop k words ≡ flat later ++ b.rest in
                subst P (sym end_is) (drop-more (at + length c) (length (flat inner)) words ∙ ap (drop (length (flat inner))) second-there.is ∙ drop_at (flat inner) (flat later ++ b.rest) (length (flat inner)) refl);
            may = start_may.3;
            past = omega arith;
            own_goes =
                ap (λ xs. xs ++ concat (lay (4 * length after) later).own) added
                ∙ append_assoc own (start_at c n) (concat (lay (4 * length after) later).own)
                ∙ ap (λ k. own ++ (start_at c n ++ concat (lay k later).own)) (sym next_is)
                ∙ ap (λ k. own ++ (start_at c k ++ concat (lay (n + bytes_of i.others + bytes_of i.own) later).own)) (sym to_is)
                ∙ own_whole;
            others_go =
                ap (λ xs. xs ++ concat (lay (4 * length after) later).others) copied
                ∙ append_assoc now (flat inner) (concat (lay (4 * length after) later).others)
                ∙ ap (λ k. now ++ (flat inner ++ concat (lay k later).others)) (sym next_is)
                ∙ ap (λ xs. now ++ (xs ++ concat (lay (n + bytes_of i.others + bytes_of i.own) later).others)) (sym plain_inner.1)
                ∙ ap (λ xs. now ++ xs) (sym (concat-append i.own (lay (n + bytes_of i.others + bytes_of i.own) later).others))
                ∙ ap (λ xs. now ++ concat (xs ++ (i.own ++ (lay (n + bytes_of i.others + bytes_of i.own) later).others))) (sym plain_inner.0)
                ∙ others_whole;
          }

    pub batch-three : is_fetched_start (kind_of c) ≡ true → length c ≡ 3
    batch-three so =
        let may : MayAllStand b.stands b.engine (batch c (starts so).items (starts so).more) = subst (MayAllStand b.stands b.engine) (starts so).is so_far.may in
        three c may.0.command so

-- ---- a ring

ring-goes-on : (kind : Option Kind) (engine : ℕ) → may_stand kind Ring engine ≡ true → is_end kind ≡ false
ring-goes-on (Some BatchEnd) engine may = cc
ring-goes-on kind engine may = refl

pub ring-begins : (words : List ℕ) (r : ListsRing words) → RingSoFar words 0 [] [] r
ring-begins words r = record { left = r.items; is = r.is; may = r.may; own_goes = refl; others_go = refl }

module _ (words : List ℕ) (at : ℕ) (own batches : List ℕ) (r : ListsRing words) (so_far : RingSoFar words at own batches r) where
  left-some : (left : Items) → drop at words ≡ flat left → at < length words → is_none left ≡ false
  left-some none is less = let l = ap length is in let d = length-drop at words in absurd (omega arith)
  left-some (command ws _) is less = refl
  left-some (batch ws items _) is less = refl

  whole : drop at words ≡ flat so_far.left ++ []
  whole = so_far.is ∙ sym (append-nil (flat so_far.left))

  left-none : (left : Items) → drop at words ≡ flat left → MayAllStand Ring r.engine left → length words ≤ at → left ≡ none
  left-none none is may over = refl
  left-none (command ws more) is may over = let s = some-words Ring r.engine (command ws more) refl may in let l = ap length is in let d = length-drop at words in absurd (omega arith)
  left-none (batch ws items more) is may over = let s = some-words Ring r.engine (batch ws items more) refl may in let l = ap length is in let d = length-drop at words in absurd (omega arith)

  nothing-of : (n : ℕ) → (concat (lay n none).own ≡ []) × (concat (lay n none).others ≡ [])
  unfolding lay
  nothing-of n = (refl, refl)

  pub ring-ends : length words ≤ at → RingLaid words own batches r
  ring-ends over =
      let last = left-none so_far.left so_far.is so_far.may over in
      let n = 4 * length batches in
      record {
        own_is = sym (append-nil own) ∙ ap (λ xs. own ++ xs) (sym (nothing-of n).0) ∙ ap (λ i. own ++ concat (lay n i).own) (sym last) ∙ so_far.own_goes;
        batches_are = sym (append-nil batches) ∙ ap (λ xs. batches ++ xs) (sym (nothing-of n).1) ∙ ap (λ i. batches ++ concat (lay n i).others) (sym last) ∙ so_far.others_go;
      }

  module _ (less : at < length words) where
    some_left : is_none so_far.left ≡ false
    some_left = left-some so_far.left so_far.is less

    pub ring-front : BeginsWithCommand (drop at words)
    ring-front = (front-of Ring r.engine (drop at words) [] so_far.left some_left whole so_far.may).begins

    module _ (c : List ℕ) (decodes : decoded (drop at words) ≡ Ok (c, length c)) where
      pub ring-long : (1 ≤ length c) × (at + length c ≤ length words)
      ring-long =
          let f = front-of Ring r.engine (drop at words) [] so_far.left some_left whole so_far.may in
          let same = same-front (drop at words) c f.begins decodes in
          let here = ap length same in
          let one = (IsCommand-length f.begins.command f.begins.good).0 in
          let there = ap length f.is in
          let w = within words (flat so_far.left) [] at whole (some-words Ring r.engine so_far.left some_left so_far.may) in
          let fits = front-within so_far.left in
          (omega arith, omega arith)

      ring-words : (left : Items) → so_far.left ≡ left → words_of left ≡ c
      ring-words left is =
          let f = front-of Ring r.engine (drop at words) [] so_far.left some_left whole so_far.may in
          ap words_of (sym is) ∙ sym f.is ∙ same-front (drop at words) c f.begins decodes

      goes-by : (left : Items) → so_far.left ≡ left → is_fetched_start (kind_of c) ≡ false → (next : List ℕ) → next ≡ own ++ c → RingSoFar words (at + length c) next batches r
      unfolding lay
      goes-by none is not next added = differ (is_none none) (ap is_none (sym is) ∙ some_left) refl
      goes-by (batch ws items more) is not next added =
          let may : MayAllStand Ring r.engine (batch ws items more) = subst (MayAllStand Ring r.engine) is so_far.may in
          differ (is_fetched_start (kind_of ws)) (ap (λ w. is_fetched_start (kind_of w)) (ring-words (batch ws items more) is) ∙ not) may.1
      goes-by (command ws more) is not next added =
          let same = ring-words (command ws more) is in
          let may : MayAllStand Ring r.engine (command ws more) = subst (MayAllStand Ring r.engine) is so_far.may in
          let here : drop at words ≡ (c ++ flat more) ++ [] = so_far.is ∙ ap flat is ∙ ap (λ w. w ++ flat more) same ∙ sym (append-nil (c ++ flat more)) in
          record {
            left = more;
            is = past-front words [] c (flat more) at here ∙ append-nil (flat more);
            may = (let P : Bool → Type 0 = λ v. MatchBool v (more ≡ none) (MayAllStand Ring r.engine more) in subst P (ring-goes-on (kind_of ws) r.engine may.0.allowed) may.2);
            own_goes = ap (λ xs. xs ++ concat (lay (4 * length batches) more).own) added ∙ append_assoc own c (concat (lay (4 * length batches) more).own)
                ∙ sym (ap (λ w. own ++ (w ++ concat (lay (4 * length batches) more).own)) same) ∙ sym (ap (λ i. own ++ concat (lay (4 * length batches) i).own) is) ∙ so_far.own_goes;
            others_go = sym (ap (λ i. batches ++ concat (lay (4 * length batches) i).others) is) ∙ so_far.others_go;
          }

      pub ring-goes : is_fetched_start (kind_of c) ≡ false → (next : List ℕ) → next ≡ own ++ c → RingSoFar words (at + length c) next batches r
      ring-goes not next added = goes-by so_far.left refl not next added

      -- a start, with its batch
      pub record RingStarts : Type 0 where
        pub items : Items
        pub more : Items
        pub is : so_far.left ≡ batch c items more
        pub may : MayAllStand Ring r.engine (batch c items more)

      ring-starts-by : (left : Items) → so_far.left ≡ left → is_fetched_start (kind_of c) ≡ true → RingStarts
      ring-starts-by none is so = differ (is_none none) (ap is_none (sym is) ∙ some_left) refl
      ring-starts-by (batch ws items more) is so =
          let there = is ∙ ap (λ w. batch w items more) (ring-words (batch ws items more) is) in
          record { items = items; more = more; is = there; may = subst (MayAllStand Ring r.engine) there so_far.may }
      ring-starts-by (command ws more) is so =
          let may : MayAllStand Ring r.engine (command ws more) = subst (MayAllStand Ring r.engine) is so_far.may in
          differ (is_fetched_start (kind_of ws)) may.1 (ap (λ w. is_fetched_start (kind_of w)) (ring-words (command ws more) is) ∙ so)

      pub ring-starts : is_fetched_start (kind_of c) ≡ true → RingStarts
      ring-starts so = ring-starts-by so_far.left refl so

      privileged-batched : Privileged ≡ Ring → ⊥
      privileged-batched h = cc

      module _ (s : RingStarts) where
        pub batch-is : drop (at + length c) words ≡ flat s.items ++ flat s.more
        batch-is =
            let here : drop at words ≡ (c ++ (flat s.items ++ flat s.more)) ++ [] = so_far.is ∙ ap flat s.is ∙ sym (append-nil (c ++ (flat s.items ++ flat s.more))) in
            past-front words [] c (flat s.items ++ flat s.more) at here ∙ append-nil (flat s.items ++ flat s.more)

        pub batch-batched : Privileged ≡ Ring → ⊥
        batch-batched = privileged-batched

        abbrev pub batch-there : ListsBatch words (at + length c)
        batch-there = record { stands = Privileged; batched = batch-batched; engine = r.engine; items = s.items; rest = flat s.more; is = batch-is; may = s.may.2 }

        pub ring-three : is_fetched_start (kind_of c) ≡ true → length c ≡ 3
        ring-three so = three c s.may.0.command so

        pub ring-behind : (next after : List ℕ) (offset end : ℕ) → BatchLaid words (at + length c) end offset batches after batch-there → next ≡ own ++ start_at c offset → RingSoFar words end next after r
        unfolding lay
        ring-behind next after offset end laid added =
            let n = 4 * length batches in
            let i = lay n s.items in
            let offset_is = laid.offset_is in
            let one = ap length laid.copied ∙ length-append (batches ++ concat i.others) (concat i.own) in
            let two = length-append batches (concat i.others) in
            let next_is : n + bytes_of i.others + bytes_of i.own ≡ 4 * length after = omega arith in
            let rest = lay (n + bytes_of i.others + bytes_of i.own) s.more in
            let own_whole : own ++ (start_at c (n + bytes_of i.others) ++ concat rest.own) ≡ concat (lay 0 r.items).own = sym (ap (λ x. own ++ concat (lay n x).own) s.is) ∙ so_far.own_goes in
            let others_whole : batches ++ concat (i.others ++ (i.own ++ rest.others)) ≡ concat (lay 0 r.items).others = sym (ap (λ x. batches ++ concat (lay n x).others) s.is) ∙ so_far.others_go in
            record {
              left = s.more;
              is =
                  let P : ℕ → Type 0 = λ k. drop k words ≡ flat s.more in
                  subst P (sym laid.past) (drop-more (at + length c) (length (flat s.items)) words ∙ ap (drop (length (flat s.items))) batch-is ∙ drop_at (flat s.items) (flat s.more) (length (flat s.items)) refl);
              may = s.may.3;
              own_goes =
                  ap (λ xs. xs ++ concat (lay (4 * length after) s.more).own) added
                  ∙ append_assoc own (start_at c offset) (concat (lay (4 * length after) s.more).own)
                  ∙ ap (λ k. own ++ (start_at c offset ++ concat (lay k s.more).own)) (sym next_is)
                  ∙ ap (λ k. own ++ (start_at c k ++ concat rest.own)) offset_is
                  ∙ own_whole;
              others_go =
                  ap (λ k. after ++ concat (lay k s.more).others) (sym next_is)
                  ∙ ap (λ xs. xs ++ concat rest.others) laid.copied
                  ∙ append_assoc (batches ++ concat i.others) (concat i.own) (concat rest.others)
                  ∙ append_assoc batches (concat i.others) (concat i.own ++ concat rest.others)
                  ∙ ap (λ xs. batches ++ (concat i.others ++ xs)) (sym (concat-append i.own rest.others))
                  ∙ ap (λ xs. batches ++ xs) (sym (concat-append i.others (i.own ++ rest.others)))
                  ∙ others_whole;
            }
