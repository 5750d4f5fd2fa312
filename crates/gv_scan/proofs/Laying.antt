-- Items that are laid out are copied, and fit.
use Rattle.std.proofs.Common.{◌≡◌, ℕ, ◌+◌, ◌*◌, ◌%◌, ◌^◌, ◌≤◌, Bool, true, false, List, [], ◌∷◌, ◌++◌, length, length-append, append_assoc, Option, Some, refl, ap, sym, subst, ◌∙◌, arith}
use Rattle.std.specs.List.{concat}
use Rattle.std.specs.Bool.{MatchBool}
use Rattle.std.proofs.lemmas.List.Folds.{concat-append}
use Rattle.gv_cmd.specs.Command.{IsCommand}
use Rattle.gv_cmd.specs.Table.{kind_of}
use Rattle.gv_cmd.specs.declared.kind.Kind.{Kind}
use Rattle.gv_cmd.specs.declared.kind.Kind.TheVariants.{BatchStart}
use Rattle.gv_cmd.specs.declared.stands.Stands.{Stands}
use Rattle.gv_fetch.specs.Items.{Items, none, command, batch, inside, is_fetched_start, is_end, MayAllStand, start_at}
use Rattle.gv_fetch.proofs.Readdressed.{start_copied}
use Rattle.gv_scan.specs.Layout.{Copies, IsCopy, AreCopies, StartsWithin}
use Rattle.gv_fetch.specs.Flat.{own_dwords, batch_dwords}
use Rattle.gv_scan.specs.Lay.{lay, bytes_of}

-- ---- they are copied

pub bytes-append : (xs ys : List (List ℕ)) → bytes_of (xs ++ ys) ≡ bytes_of xs + bytes_of ys
bytes-append xs ys = let l = ap length (concat-append xs ys) ∙ length-append (concat xs) (concat ys) in omega arith

pub laid-copies : (items : Items) (at : ℕ) (before tail after bs : List (List ℕ)) → at ≡ bytes_of before → bs ≡ before ++ ((lay at items).others ++ tail) → Copies 0 bs items ((lay at items).own ++ after) after
unfolding lay
laid-copies none at before tail after bs here is = refl
laid-copies (command ws more) at before tail after bs here is = (refl, laid-copies more at before tail after bs here is)
laid-copies (batch ws items more) at before tail after bs here is =
    let i = lay at items in
    let to = at + bytes_of i.others in
    let next = to + bytes_of i.own in
    let r = lay next more in
    let others_long = bytes-append before i.others in
    let to_is : to ≡ 0 + bytes_of (before ++ i.others) = omega arith in
    let own_long = bytes-append (before ++ i.others) i.own in
    let next_is : next ≡ bytes_of ((before ++ i.others) ++ i.own) = omega arith in
    let inner : bs ≡ before ++ (i.others ++ (i.own ++ (r.others ++ tail)))
    = is ∙ ap (λ xs. before ++ xs) (append_assoc i.others (i.own ++ r.others) tail ∙ ap (λ xs. i.others ++ xs) (append_assoc i.own r.others tail)) in
    let split : bs ≡ (before ++ i.others) ++ (i.own ++ (r.others ++ tail)) = inner ∙ sym (append_assoc before i.others (i.own ++ (r.others ++ tail))) in
    let rest : bs ≡ ((before ++ i.others) ++ i.own) ++ (r.others ++ tail) = split ∙ sym (append_assoc (before ++ i.others) i.own (r.others ++ tail)) in (
      record {
        to = to;
        copy = refl;
        rest = i.own ++ (r.others ++ tail);
        begins = record { before = before ++ i.others; split = split; count = to_is };
        behind = r.others ++ tail;
        inside = laid-copies items at before (i.own ++ (r.others ++ tail)) (r.others ++ tail) bs here inner;
      },
      laid-copies more next ((before ++ i.others) ++ i.own) tail after bs next_is rest,
    )

-- ---- they have as many dwords

pub three : (ws : List ℕ) → IsCommand ws → is_fetched_start (kind_of ws) ≡ true → length ws ≡ 3
three ws good is = (start_copied ws 0 refl good is).few

-- what holds of no items and of all that may stand there holds of those behind a command
pub behind : (P : Items → Type 0) (stands : Stands) (engine : ℕ) (more : Items) (b : Bool) → P none → (MayAllStand stands engine more → P more) → MatchBool b (more ≡ none) (MayAllStand stands engine more) → P more
behind P stands engine more true nothing go last = subst P (sym last) nothing
behind P stands engine more false nothing go rest = go rest

abbrev pub IsLong : ℕ → Items → Type 0
IsLong at items = (length (concat (lay at items).own) ≡ own_dwords items) × (length (concat (lay at items).others) ≡ batch_dwords items)

none-long : (at : ℕ) → IsLong at none
unfolding lay
none-long at = (refl, refl)

pub laid-long : (stands : Stands) (engine : ℕ) (items : Items) (at : ℕ) → MayAllStand stands engine items → IsLong at items
unfolding lay
laid-long stands engine none at may = (refl, refl)
laid-long stands engine (command ws more) at may =
    let r = behind (IsLong at) stands engine more (is_end (kind_of ws)) (none-long at) (λ all. laid-long stands engine more at all) may.2 in
    (length-append ws (concat (lay at more).own) ∙ ap (λ n. length ws + n) r.0, r.1)
laid-long stands engine (batch ws items more) at may =
    let i = lay at items in
    let next = at + bytes_of i.others + bytes_of i.own in
    let inner = laid-long (inside stands) engine items at may.2 in
    let rest = laid-long stands engine more next may.3 in
    let start = three ws may.0.command may.1 in
    let one = length-append (start_at ws (at + bytes_of i.others)) (concat (lay next more).own) in
    let two = ap length (concat-append i.others (i.own ++ (lay next more).others)) ∙ length-append (concat i.others) (concat (i.own ++ (lay next more).others)) in
    let three_ = ap length (concat-append i.own (lay next more).others) ∙ length-append (concat i.own) (concat (lay next more).others) in
    (grind (arith, one, rest.0, start), grind (arith, two, three_, inner.0, inner.1, rest.1))

-- ---- each is a copy, whose offset is within the batches

plain-within : (kind : Option Kind) → is_fetched_start kind ≡ false → StartsWithin kind
plain-within (Some (BatchStart false second at)) not = cc
plain-within kind not = tt

start-copy : (ws : List ℕ) (offset : ℕ) → offset % 4 ≡ 0 → offset ≤ 2 ^ 20 → IsCommand ws → is_fetched_start (kind_of ws) ≡ true → IsCopy (start_at ws offset)
start-copy ws offset fit few good is =
    let s = start_copied ws offset fit good is in
    record { command = s.command; offset = subst StartsWithin (sym s.copy) few }

pub copies-joined : (xs ys : List (List ℕ)) → AreCopies xs → AreCopies ys → AreCopies (xs ++ ys)
copies-joined [] ys a b = b
copies-joined (x ∷ xs) ys a b = (a.0, copies-joined xs ys a.1 b)

abbrev pub BothCopies : ℕ → Items → Type 0
BothCopies at items = AreCopies (lay at items).own × AreCopies (lay at items).others

none-copies : (at : ℕ) → BothCopies at none
unfolding lay
none-copies at = (tt, tt)

fits-four : (n m : ℕ) → (4 * n + 4 * m) % 4 ≡ 0
fits-four n m = omega arith

pub laid-copied : (stands : Stands) (engine : ℕ) (items : Items) (n : ℕ) → MayAllStand stands engine items → n + batch_dwords items ≤ 262144 → BothCopies (4 * n) items
unfolding lay
laid-copied stands engine none n may few = (tt, tt)
laid-copied stands engine (command ws more) n may few =
    let P : Items → Type 0 = λ m. n + batch_dwords m ≤ 262144 → BothCopies (4 * n) m in
    let r = behind P stands engine more (is_end (kind_of ws)) (λ h. none-copies (4 * n)) (λ all h. laid-copied stands engine more n all h) may.2 few in
    ((record { command = may.0.command; offset = plain-within (kind_of ws) may.1 }, r.0), r.1)
laid-copied stands engine (batch ws items more) n may few =
    let i = lay (4 * n) items in
    let a = length (concat i.others) in
    let b = length (concat i.own) in
    let long = laid-long (inside stands) engine items (4 * n) may.2 in
    let own_long = long.0 in
    let others_long = long.1 in
    let inner_few : n + batch_dwords items ≤ 262144 = omega arith in
    let inner = laid-copied (inside stands) engine items n may.2 inner_few in
    let m = n + a + b in
    let rest_few : m + batch_dwords more ≤ 262144 = omega arith in
    let next : 4 * n + 4 * a + 4 * b ≡ 4 * m = omega arith in
    let rest : BothCopies (4 * n + 4 * a + 4 * b) more = (let P : ℕ → Type 0 = λ k. BothCopies k more in subst P (sym next) (laid-copied stands engine more m may.3 rest_few)) in
    let low : 4 * n + 4 * a ≤ 2 ^ 20 = omega arith in (
      (start-copy ws (4 * n + 4 * a) (fits-four n a) low may.0.command may.1, rest.0),
      copies-joined i.others (i.own ++ (lay (4 * n + 4 * a + 4 * b) more).others) inner.1 (copies-joined i.own (lay (4 * n + 4 * a + 4 * b) more).others inner.0 rest.1),
    )
