-- Flat lists of dwords that are those of items which an engine may run.
use Rattle.std.specs.Prelude.{◌≡◌, ℕ, ◌+◌, ◌*◌, ◌^◌, ◌≤◌, ⊤, List, ◌++◌, length, drop, Option, None, Some, Ok}
use Rattle.std.specs.List.{concat}
use Rattle.gv_cmd.specs.Command.{IsCommand, decoded}
use Rattle.gv_cmd.specs.declared.stands.Stands.{Stands}
use Rattle.gv_cmd.specs.declared.stands.Stands.TheVariants.{Ring, Second}
use Rattle.gv_fetch.specs.Items.{Items, MayAllStand}
use Rattle.gv_ctx.specs.declared.saved.Batch.{Batch}
use Rattle.gv_ctx.specs.declared.saved.Saved.{Saved}
use Rattle.gv_fetch.specs.Flat.{flat, level_dwords, IsSized}
use Rattle.gv_fetch.specs.Left.{Level, Fetched, At, Left, LevelMayStand, IsLeft}
use Rattle.gv_scan.specs.Lay.{lay, bytes_of, level_laid, level_place, layout_of, place_of}
use Rattle.gv_scan.specs.declared.lay.Level.{Level as Given}
use Rattle.gv_scan.specs.declared.lay.Level.TheVariants as given

-- a command stands at the front of dwords
pub record BeginsWithCommand (words : List ℕ) : Type 0 where
  pub command : List ℕ
  pub good : IsCommand command
  pub decodes : decoded words ≡ Ok (command, length command)

-- From a place on stand the dwords of a batch's items, and then others.
pub record ListsBatch (words : List ℕ) (at : ℕ) : Type 0 where
  pub stands : Stands
  pub batched : stands ≡ Ring → ⊥
  pub engine : ℕ
  pub items : Items
  pub rest : List ℕ
  pub is : drop at words ≡ flat items ++ rest
  pub may : MayAllStand stands engine items

-- the same of a batch that a batch starts
pub record ListsSecond (words : List ℕ) (at : ℕ) : Type 0 where
  pub engine : ℕ
  pub items : Items
  pub rest : List ℕ
  pub is : drop at words ≡ flat items ++ rest
  pub may : MayAllStand Second engine items

-- all dwords are those of a ring's items
pub record ListsRing (words : List ℕ) : Type 0 where
  pub engine : ℕ
  pub items : Items
  pub is : words ≡ flat items
  pub may : MayAllStand Ring engine items

-- ---- what was laid out

-- Behind a batch of a batch: its dwords are copied as they are.
pub record SecondLaid (words : List ℕ) (start at : ℕ) (before after : List ℕ) (b : ListsSecond words start) : Type 0 where
  pub past : at ≡ start + length (flat b.items)
  pub copied : after ≡ before ++ flat b.items

-- Behind a batch: its own commands stand behind those of the batches that it starts.
pub record BatchLaid (words : List ℕ) (start at offset : ℕ) (before after : List ℕ) (b : ListsBatch words start) : Type 0 where
  pub past : at ≡ start + length (flat b.items)
  pub offset_is : offset ≡ 4 * length before + bytes_of (lay (4 * length before) b.items).others
  pub copied : after ≡ (before ++ concat (lay (4 * length before) b.items).others) ++ concat (lay (4 * length before) b.items).own

-- A ring: its own commands, and all batches that they start.
pub record RingLaid (words own batches : List ℕ) (r : ListsRing words) : Type 0 where
  pub own_is : own ≡ concat (lay 0 r.items).own
  pub batches_are : batches ≡ concat (lay 0 r.items).others

-- ---- what is left of an element, given by lists of dwords

-- A level is given by the dwords of a fetched batch, or by the address in a live one.
abbrev pub ListsLevel : Option Given → Option Level → Type 0
ListsLevel None None = ⊤
ListsLevel (Some (given.Fetched words)) (Some (Fetched items)) = words.now ≡ flat items
ListsLevel (Some (given.Live at)) (Some (At other)) = at ≡ other
ListsLevel level left = ⊥

-- It is given so, and may stand in a batch; with so many dwords before it there are no more than a window holds.
pub record LevelLists (level : Option Given) (before : ℕ) : Type 0 where
  pub stands : Stands
  pub batched : stands ≡ Ring → ⊥
  pub engine : ℕ
  pub left : Option Level
  pub is : ListsLevel level left
  pub may : LevelMayStand stands engine left
  pub few : before + level_dwords left ≤ 2 ^ 20

-- the ring and both levels are given so
pub record Lists (ring : List ℕ) (outer inner : Option Given) (engine : ℕ) (w : Left) : Type 0 where
  pub ring_is : ring ≡ flat w.ring
  pub outer_is : ListsLevel outer w.first
  pub inner_is : ListsLevel inner w.second
  pub form : IsLeft engine w
  pub sized : IsSized w

-- Behind a level its batch stands with all that it starts, and this is the place in it.
pub record LevelLaid (left : Option Level) (before after : List ℕ) (place : Option Batch) : Type 0 where
  pub place_is : place ≡ level_place (4 * length before) left
  pub copied : after ≡ before ++ concat (level_laid (4 * length before) left)

-- These are the program and the place of what is left.
pub record LaidOut (w : Left) (ring batches : List ℕ) (place : Saved) : Type 0 where
  pub ring_is : ring ≡ concat (layout_of w).ring
  pub batches_are : batches ≡ concat (layout_of w).batches
  pub place_is : place ≡ place_of w

-- ---- on the way

pub record SecondSoFar (words : List ℕ) (start at : ℕ) (b : ListsSecond words start) : Type 0 where
  pub left : Items
  pub is : drop at words ≡ flat left ++ b.rest
  pub may : MayAllStand Second b.engine left
  pub past : at + length (flat left) ≡ start + length (flat b.items)

pub record BatchSoFar (words : List ℕ) (start at : ℕ) (before now own : List ℕ) (b : ListsBatch words start) : Type 0 where
  pub left : Items
  pub is : drop at words ≡ flat left ++ b.rest
  pub may : MayAllStand b.stands b.engine left
  pub past : at + length (flat left) ≡ start + length (flat b.items)
  pub own_goes : own ++ concat (lay (4 * length now) left).own ≡ concat (lay (4 * length before) b.items).own
  pub others_go : now ++ concat (lay (4 * length now) left).others ≡ before ++ concat (lay (4 * length before) b.items).others

pub record RingSoFar (words : List ℕ) (at : ℕ) (own batches : List ℕ) (r : ListsRing words) : Type 0 where
  pub left : Items
  pub is : drop at words ≡ flat left
  pub may : MayAllStand Ring r.engine left
  pub own_goes : own ++ concat (lay (4 * length batches) left).own ≡ concat (lay 0 r.items).own
  pub others_go : batches ++ concat (lay (4 * length batches) left).others ≡ concat (lay 0 r.items).others
