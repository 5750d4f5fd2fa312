-- What is left of an element, laid out, built into a window and loaded at its place, is left again.
use Rattle.std.proofs.Common.{◌≡◌, ℕ, ◌+◌, ◌*◌, ◌≤◌, true, false, cond, List, [], ◌++◌, map, length, length-append, append_assoc, Option, None, Some, refl, ap, sym, subst, ◌∙◌, arith}
use Rattle.std.specs.List.{concat}
use Rattle.std.proofs.lemmas.List.{append-nil, map-append}
use Rattle.std.proofs.lemmas.List.Folds.{concat-append}
use Rattle.gv_cmd.specs.declared.stands.Stands.{Stands}
use Rattle.gv_cmd.specs.declared.stands.Stands.TheVariants.{Ring, Privileged, Second}
use Rattle.gv_ctx.specs.declared.saved.Batch.{Batch}
use Rattle.gv_ctx.specs.declared.saved.Saved.{Saved}
use Rattle.gv_cmd.specs.Table.{kind_of}
use Rattle.gv_cmd.proofs.Lengths.{IsCommand-length}
use Rattle.gv_fetch.specs.Items.{Items, none, command, batch, inside, is_end, depth, MayAllStand}
use Rattle.gv_fetch.specs.Left.{Level, Fetched, At, Left, LevelMayStand, IsLeft}
use Rattle.gv_gpu.specs.Device.{Device, Loaded}
use Rattle.gv_scan.specs.Layout.{Layout, Begins, Copies, BatchAt, AreCopies, IsLayout, FitsWindow, placed, placed_layout}
use Rattle.gv_scan.proofs.Placing.{length-all, commands-front, copies-placed, ring-placed}
use Rattle.gv_sring.specs.Copy.{Copied}
use Rattle.gv_place.specs.Place.{LevelAt, Follows, StandsFor}
use Rattle.gv_fetch.specs.Flat.{own_dwords, batch_dwords, level_dwords, IsSized}
use Rattle.gv_scan.specs.Lay.{lay, bytes_of, level_laid, level_place, first_offset, second_offset, layout_of, place_of}
use Rattle.gv_place.specs.Seen.{LevelIsShort, IsShort}
use Rattle.gv_scan.proofs.Laying.{behind, laid-copies, laid-long, laid-copied, bytes-append, copies-joined}
use Rattle.gv_place.specs.Placed.{placed_batch, placed_place}

-- ---- the place in the layout

level-at : (level : Option Level) (offset : ℕ) (before tail bs : List (List ℕ)) (ring : List (List ℕ)) → offset ≡ bytes_of before → bs ≡ before ++ (level_laid offset level ++ tail)
    → LevelAt (record { ring = ring; batches = bs; base = 0 }) (level_place offset level) level
level-at None offset before tail bs ring here is = tt
level-at (Some (At at)) offset before tail bs ring here is = (refl, refl)
level-at (Some (Fetched items)) offset before tail bs ring here is =
    let i = lay offset items in
    let inner : bs ≡ before ++ (i.others ++ (i.own ++ tail)) = is ∙ ap (λ xs. before ++ xs) (append_assoc i.others i.own tail) in
    let long = bytes-append before i.others in (
      refl,
      record {
        rest = i.own ++ tail;
        begins = record { before = before ++ i.others; split = inner ∙ sym (append_assoc before i.others (i.own ++ tail)); count = omega arith };
        behind = tail;
        copies = laid-copies items offset before (i.own ++ tail) tail bs here inner;
      },
    )

pub laid-follows : (w : Left) → Follows (layout_of w) (place_of w) w
laid-follows w =
    let r = lay 0 w.ring in
    let a = level_laid (first_offset w) w.first in
    let b = level_laid (second_offset w) w.second in
    let bs = r.others ++ (a ++ b) in
    let long = bytes-append r.others a in
    record {
      ring = record {
        rest = r.own;
        begins = record { before = []; split = refl; count = refl };
        copies = let P : List (List ℕ) → Type 0 = λ xs. Copies 0 bs w.ring xs [] in subst P (append-nil r.own) (laid-copies w.ring 0 [] (a ++ b) [] bs refl refl);
      };
      first = level-at w.first (first_offset w) r.others b bs r.own refl refl;
      second = level-at w.second (second_offset w) (r.others ++ a) [] bs r.own (omega arith) (sym (append_assoc r.others a b) ∙ ap (λ xs. (r.others ++ a) ++ xs) (sym (append-nil b)));
    }

-- ---- the layout fits a window

level-long : (stands : Stands) (engine : ℕ) (level : Option Level) (offset : ℕ) → LevelMayStand stands engine level → length (concat (level_laid offset level)) ≡ level_dwords level
level-long stands engine None offset may = refl
level-long stands engine (Some (At at)) offset may = refl
level-long stands engine (Some (Fetched items)) offset may =
    let i = lay offset items in
    let both = laid-long stands engine items offset may in
    let own = both.0 in
    let others = both.1 in
    let joined = ap length (concat-append i.others i.own) ∙ length-append (concat i.others) (concat i.own) in
    omega arith

level-copied : (stands : Stands) (engine : ℕ) (level : Option Level) (n : ℕ) → LevelMayStand stands engine level → n + level_dwords level ≤ 262144 → AreCopies (level_laid (4 * n) level)
level-copied stands engine None n may few = tt
level-copied stands engine (Some (At at)) n may few = tt
level-copied stands engine (Some (Fetched items)) n may few =
    let i = lay (4 * n) items in
    let less : n + batch_dwords items ≤ 262144 = omega arith in
    let both = laid-copied stands engine items n may less in
    copies-joined i.others i.own both.1 both.0

-- what is laid out is a layout that fits a window
pub record Fits (w : Left) : Type 0 where
  pub is : IsLayout (concat (layout_of w).ring) (concat (layout_of w).batches) (layout_of w)
  pub fits : FitsWindow (concat (layout_of w).ring) (concat (layout_of w).batches)

pub laid-fits : (engine : ℕ) (w : Left) → IsLeft engine w → IsSized w → Fits w
laid-fits engine w form sized =
    let r = lay 0 w.ring in
    let a = level_laid (first_offset w) w.first in
    let b = level_laid (second_offset w) w.second in
    let ring_long = laid-long Ring engine w.ring 0 form.ring in
    let own_long = ring_long.0 in
    let others_long = ring_long.1 in
    let first_long = level-long Privileged engine w.first (first_offset w) form.first in
    let second_long = level-long Second engine w.second (second_offset w) form.second in
    let own_few = sized.ring in
    let few = sized.batches in
    let n = length (concat r.others) in
    let m = length (concat r.others) + length (concat a) in
    let ring_few : 0 + batch_dwords w.ring ≤ 262144 = omega arith in
    let ring_copies = laid-copied Ring engine w.ring 0 form.ring ring_few in
    let first_few : n + level_dwords w.first ≤ 262144 = omega arith in
    let first_copies = level-copied Privileged engine w.first n form.first first_few in
    let second_few : m + level_dwords w.second ≤ 262144 = omega arith in
    let second_is : 4 * m ≡ second_offset w = omega arith in
    let second_copies : AreCopies b = (let P : ℕ → Type 0 = λ k. AreCopies (level_laid k w.second) in subst P second_is (level-copied Second engine w.second m form.second second_few)) in
    let all = copies-joined r.others (a ++ b) ring_copies.1 (copies-joined a b first_copies second_copies) in
    let joined = ap length (concat-append r.others (a ++ b)) ∙ length-append (concat r.others) (concat (a ++ b)) in
    let two = ap length (concat-append a b) ∙ length-append (concat a) (concat b) in
    record {
      is = record { offsets = refl; ring_is = refl; batches_are = refl; ring_copies = ring_copies.0; batch_copies = all };
      fits = record {
        ring_whole = record { commands = r.own; is = refl; each = ring_copies.0 };
        batches_whole = record { commands = r.others ++ (a ++ b); is = refl; each = all };
        ring_few = omega arith;
        batches_few = omega arith;
      };
    }

-- ---- the place in copies that begin elsewhere

module _ (base : ℕ) (p : Layout) (offsets : p.base ≡ 0) (batches : AreCopies p.batches) where
  batch-begins : (at : ℕ) (rest : List (List ℕ)) → Begins p.base p.batches at rest → Begins base (placed_layout base p).batches (base + at) (map (placed base) rest)
  batch-begins at rest b =
      let front = commands-front b.before rest (subst AreCopies b.split batches) in
      record {
        before = map (placed base) b.before;
        split = ap (map (placed base)) b.split ∙ map-append (placed base) b.before rest;
        count = let n = b.count in let l = length-all base b.before front in let o = offsets in omega arith;
      }

  live-stays : (b : Batch) → b.live ≡ true → cond b.live b.at (base + b.at) ≡ b.at
  live-stays b is = ap (λ v. cond v b.at (base + b.at)) is

  fetched-goes : (b : Batch) → b.live ≡ false → base + b.at ≡ cond b.live b.at (base + b.at)
  fetched-goes b is = sym (ap (λ v. cond v b.at (base + b.at)) is)

  level-placed : (stands : Stands) (engine : ℕ) (b : Option Batch) (level : Option Level) → LevelMayStand stands engine level → LevelAt p b level → LevelAt (placed_layout base p) (placed_batch base b) level
  level-placed stands engine None None may at = tt
  level-placed stands engine None (Some level) may at = at
  level-placed stands engine (Some b) None may at = at
  level-placed stands engine (Some b) (Some (At a)) may at = (at.0, live-stays b at.0 ∙ at.1)
  level-placed stands engine (Some b) (Some (Fetched items)) may at = (
    at.0,
    (let P : ℕ → Type 0 = λ x. BatchAt base (placed_layout base p).batches x items in
        subst P (fetched-goes b at.0) (record {
          rest = map (placed base) at.1.rest;
          begins = batch-begins b.at at.1.rest at.1.begins;
          behind = map (placed base) at.1.behind;
          copies = copies-placed base p offsets batches stands engine items at.1.rest at.1.behind may at.1.copies;
        })),
  )

  pub follows-placed : (engine : ℕ) (place : Saved) (w : Left) → AreCopies p.ring → IsLeft engine w → Follows p place w → Follows (placed_layout base p) (placed_place base place) w
  follows-placed engine place w ring form f = record {
    ring = ring-placed base p offsets batches engine place.ring w.ring ring form.ring f.ring;
    first = level-placed Privileged engine place.first w.first form.first f.first;
    second = level-placed Second engine place.second w.second form.second f.second;
  }

-- ---- a context at that place, whose copies the device holds, stands for it

pub put-stands : (d : Device) (image : ℕ) (l : Loaded) (engine base : ℕ) (w : Left) → IsLeft engine w → IsSized w
    → Copied d l.owner image (placed_layout base (layout_of w)) l.ring_start → l.place ≡ placed_place base (place_of w) → l.tail ≡ 4 * length (concat (layout_of w).ring)
    → StandsFor d image (placed_layout base (layout_of w)) l w
put-stands d image l engine base w form sized copied place tail =
    let f = laid-fits engine w form sized in
    record {
      copied = copied;
      tail = tail ∙ ap (λ n. 4 * n) (sym (length-all base (layout_of w).ring f.is.ring_copies));
      place =
          let P : Saved → Type 0 = λ x. Follows (placed_layout base (layout_of w)) x w in
          subst P (sym place) (follows-placed base (layout_of w) refl f.is.batch_copies engine (place_of w) w f.is.ring_copies form (laid-follows w));
    }

-- ---- what is within its bounds is short

short-items : (stands : Stands) (engine : ℕ) (items : Items) → MayAllStand stands engine items → depth items ≤ own_dwords items + batch_dwords items
short-items stands engine none may = omega arith
short-items stands engine (command ws more) may =
    let P : Items → Type 0 = λ m. depth m ≤ own_dwords m + batch_dwords m in
    let rest = behind P stands engine more (is_end (kind_of ws)) (omega arith) (λ all. short-items stands engine more all) may.2 in
    let some = (IsCommand-length ws may.0.command).0 in
    omega arith
short-items stands engine (batch ws items more) may =
    let inner = short-items (inside stands) engine items may.2 in
    let rest = short-items stands engine more may.3 in
    let some = (IsCommand-length ws may.0.command).0 in
    omega arith

short-level : (stands : Stands) (engine : ℕ) (level : Option Level) → LevelMayStand stands engine level → level_dwords level ≤ 262144 → LevelIsShort level
short-level stands engine None may few = tt
short-level stands engine (Some (At at)) may few = tt
short-level stands engine (Some (Fetched items)) may few = let s = short-items stands engine items may in omega arith

pub sized-short : (engine : ℕ) (w : Left) → IsLeft engine w → IsSized w → IsShort w
sized-short engine w form sized =
    let own = sized.ring in
    let few = sized.batches in
    let s = short-items Ring engine w.ring form.ring in
    record { ring = omega arith; first = short-level Privileged engine w.first form.first (omega arith); second = short-level Second engine w.second form.second (omega arith) }
