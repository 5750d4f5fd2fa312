-- The ring's batches and the levels, laid out one behind the other.
use denote.Bor.{Bor}
use Rattle.std.proofs.Common.{false, ◌≡◌, ℕ, ◌+◌, ◌*◌, ◌^◌, ◌≤◌, List, [], ◌++◌, length, length-append, append_assoc, Option, None, Some, refl, ap, sym, ◌∙◌, arith}
use Rattle.std.specs.List.{concat}
use Rattle.std.proofs.lemmas.List.{append-nil}
use Rattle.std.proofs.lemmas.List.Folds.{concat-append}
use Rattle.gv_cmd.specs.declared.stands.Stands.{Stands}
use Rattle.gv_cmd.specs.declared.stands.Stands.TheVariants.{Ring, Privileged, Second}
use Rattle.gv_ctx.specs.declared.saved.Batch.{Batch}
use Rattle.gv_fetch.specs.Flat.{flat, own_dwords, batch_dwords, level_dwords}
use Rattle.gv_fetch.specs.Items.{Items, none, command, batch}
use Rattle.gv_fetch.specs.Left.{Level, Fetched, At, Left, LevelMayStand}
use Rattle.gv_ctx.specs.declared.saved.Saved.{Saved}
use Rattle.gv_scan.specs.Lay.{lay, bytes_of, level_laid, level_place}
use Rattle.gv_scan.specs.Listed.{ListsBatch, ListsRing, BatchLaid, RingLaid, ListsLevel, LevelLists, Lists, LevelLaid, LaidOut}
use Rattle.gv_scan.specs.declared.lay.Level.{Level as Given}
use Rattle.gv_scan.specs.declared.lay.Level.TheVariants as given
use Rattle.gv_scan.proofs.Laying.{laid-long}

abbrev Slice : Type 0
Slice = Bor (List ℕ)

-- a list and all batches that it starts
pub flat-long : (items : Items) → length (flat items) ≡ own_dwords items + batch_dwords items
flat-long none = refl
flat-long (command ws more) = let l = length-append ws (flat more) in let r = flat-long more in omega arith
flat-long (batch ws items more) =
    let l = length-append ws (flat items ++ flat more) in
    let m = length-append (flat items) (flat more) in
    let i = flat-long items in
    let r = flat-long more in
    omega arith

pub privileged-batched : Privileged ≡ Ring → ⊥
privileged-batched is = cc

pub second-is-batched : Second ≡ Ring → ⊥
second-is-batched is = cc

-- ---- one level

-- the level's dwords are listed
abbrev level-batch : (words : List ℕ) (before : ℕ) (stands : Stands) (batched : stands ≡ Ring → ⊥) (engine : ℕ) (items : Items) → words ≡ flat items → LevelMayStand stands engine (Some (Fetched items)) → ListsBatch words 0
level-batch words before stands batched engine items is may = record { stands = stands; batched = batched; engine = engine; items = items; rest = []; is = is ∙ sym (append-nil (flat items)); may = may }

few-by : (words : Slice) (before : ℕ) (left : Option Level) → ListsLevel (Some (given.Fetched words)) left → before + level_dwords left ≤ 2 ^ 20 → before + length words.now ≤ 2 ^ 20
few-by words before None is few = absurd is
few-by words before (Some (At at)) is few = absurd is
few-by words before (Some (Fetched items)) is few = let long = flat-long items in let same = ap length is in omega arith

pub level-few : (words : Slice) (before : ℕ) → LevelLists (Some (given.Fetched words)) before → before + length words.now ≤ 2 ^ 20
level-few words before l = few-by words before l.left l.is l.few

laid-by : (words : Slice) (at offset : ℕ) (before after : List ℕ) → ((b : ListsBatch words.now 0) → BatchLaid words.now 0 at offset before after b)
    → (stands : Stands) → (stands ≡ Ring → ⊥) → (engine : ℕ) (left : Option Level) → ListsLevel (Some (given.Fetched words)) left → LevelMayStand stands engine left
    → LevelLaid left before after (Some record { at = offset; live = false })
laid-by words at offset before after laid stands batched engine None is may = absurd is
laid-by words at offset before after laid stands batched engine (Some (At other)) is may = absurd is
laid-by words at offset before after laid stands batched engine (Some (Fetched items)) is may =
    let b = level-batch words.now 0 stands batched engine items is may in
    let one = laid b in
    let l = lay (4 * length before) items in
    record {
      place_is = ap (λ (n : ℕ). let place : Option Batch = Some record { at = n; live = false } in place) one.offset_is;
      copied = one.copied ∙ append_assoc before (concat l.others) (concat l.own) ∙ ap (λ xs. before ++ xs) (sym (concat-append l.others l.own));
    }

pub level-laid : (words : Slice) (at offset : ℕ) (before after : List ℕ) → ((b : ListsBatch words.now 0) → BatchLaid words.now 0 at offset before after b)
    → (l : LevelLists (Some (given.Fetched words)) (length before)) → LevelLaid l.left before after (Some record { at = offset; live = false })
level-laid words at offset before after laid l = laid-by words at offset before after laid l.stands l.batched l.engine l.left l.is l.may

-- ---- how many dwords a level has

level-long : (stands : Stands) (engine : ℕ) (at : ℕ) (left : Option Level) → LevelMayStand stands engine left → length (concat (level_laid at left)) ≡ level_dwords left
level-long stands engine at None may = refl
level-long stands engine at (Some (At other)) may = refl
level-long stands engine at (Some (Fetched items)) may =
    let long = laid-long stands engine items at may in
    let x = long.0 in
    let y = long.1 in
    let both = ap length (concat-append (lay at items).others (lay at items).own) ∙ length-append (concat (lay at items).others) (concat (lay at items).own) in
    omega arith

-- ---- all of it

module _ (ring : List ℕ) (outer inner : Option Given) (engine : ℕ) (w : Left) (l : Lists ring outer inner engine w) where
  pub ring-few : length ring ≤ 2 ^ 19
  ring-few = let long = flat-long w.ring in let same = ap length l.ring_is in let a = l.sized.ring in let b = l.sized.batches in omega arith

  abbrev pub ring-lists : ListsRing ring
  ring-lists = record { engine = engine; items = w.ring; is = l.ring_is; may = l.form.ring }

  module _ (own batches : List ℕ) (laid : RingLaid ring own batches ring-lists) where
    pub ring-long : length batches ≡ batch_dwords w.ring
    ring-long = ap length laid.batches_are ∙ (laid-long Ring engine w.ring 0 l.form.ring).1

    abbrev pub outer-lists : LevelLists outer (length batches)
    outer-lists = record {
      stands = Privileged;
      batched = privileged-batched;
      engine = engine;
      left = w.first;
      is = l.outer_is;
      may = l.form.first;
      few = let long = ring-long in let b = l.sized.batches in omega arith;
    }

    module _ (more : List ℕ) (first : Option Batch) (outer_laid : LevelLaid w.first batches more first) where
      pub more-long : length more ≡ batch_dwords w.ring + level_dwords w.first
      more-long =
          let long = ring-long in
          let both = ap length outer_laid.copied ∙ length-append batches (concat (level_laid (4 * length batches) w.first)) in
          let one = level-long Privileged engine (4 * length batches) w.first l.form.first in
          omega arith

      abbrev pub inner-lists : LevelLists inner (length more)
      inner-lists = record {
        stands = Second;
        batched = second-is-batched;
        engine = engine;
        left = w.second;
        is = l.inner_is;
        may = l.form.second;
        few = let long = more-long in let b = l.sized.batches in omega arith;
      }

      pub all-laid : (all : List ℕ) (second : Option Batch) → LevelLaid w.second more all second → LaidOut w own all (record { ring = 0; first = first; second = second })
      all-laid all second inner_laid =
          let others = (lay 0 w.ring).others in
          let one : 4 * length batches ≡ bytes_of others = ap (λ xs. 4 * length xs) laid.batches_are in
          let level_one = level_laid (bytes_of others) w.first in
          let more_is : more ≡ concat others ++ concat level_one = outer_laid.copied ∙ ap (λ xs. xs ++ concat (level_laid (4 * length batches) w.first)) laid.batches_are ∙ ap (λ n. concat others ++ concat (level_laid n w.first)) one in
          let count = ap length more_is ∙ length-append (concat others) (concat level_one) in
          let two : 4 * length more ≡ bytes_of others + bytes_of level_one = omega arith in
          let level_two = level_laid (bytes_of others + bytes_of level_one) w.second in
          record {
            ring_is = laid.own_is;
            batches_are =
                inner_laid.copied
                ∙ ap (λ n. more ++ concat (level_laid n w.second)) two
                ∙ ap (λ xs. xs ++ concat level_two) more_is
                ∙ append_assoc (concat others) (concat level_one) (concat level_two)
                ∙ ap (λ xs. concat others ++ xs) (sym (concat-append level_one level_two))
                ∙ sym (concat-append others (level_one ++ level_two));
            place_is =
                ap (λ (b : Option Batch). let place : Saved = record { ring = 0; first = b; second = second } in place) (outer_laid.place_is ∙ ap (λ n. level_place n w.first) one)
                ∙ ap (λ (b : Option Batch). let place : Saved = record { ring = 0; first = level_place (bytes_of others) w.first; second = b } in place) (inner_laid.place_is ∙ ap (λ n. level_place n w.second) two);
          }
