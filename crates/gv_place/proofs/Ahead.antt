-- The command that comes next, read by the engine at its place.
use Rattle.std.proofs.Common.{◌≡◌, ℕ, ◌+◌, ◌*◌, ◌%◌, ◌^◌, Bool, true, false, not, cond, min, List, [], ◌∷◌, length, Option, None, Some, refl, ap, sym, subst, ◌∙◌, arith}
use Rattle.std.specs.List.{concat}
use Rattle.gv_ctx.specs.declared.saved.Batch.{Batch}
use Rattle.gv_ctx.specs.declared.saved.Saved.{Saved}
use Rattle.gv_cmd.specs.Command.{IsCommand}
use Rattle.gv_cmd.specs.declared.stands.Stands.{Stands as StandsIn}
use Rattle.gv_cmd.specs.declared.stands.Stands.TheVariants.{Ring, Privileged, Second}
use Rattle.gv_gpu.specs.Device.{Device, Loaded}
use Rattle.gv_gpu.specs.Step.{HeadRead, head_read_from, head_read, active_head_by, batch_address, is_global_by, advanced_by, advanced}
use Rattle.gv_fetch.specs.Items.{Items, none, command, batch, MayAllStand}
use Rattle.gv_scan.specs.Layout.{Layout, Begins, RingAt, BatchAt}
use Rattle.gv_fetch.specs.Left.{Level, Fetched, At, Left, words_of, started, started_by, behind, is_none, is_done_by, privileged_by, front_by, past_by, past, LevelMayStand, IsLeft, is_done, is_privileged, front}
use Rattle.gv_sring.specs.Copy.{Copied}
use Rattle.gv_place.specs.Place.{LevelAt, Follows, StandsFor}
use Rattle.gv_place.proofs.Reading.{ends-within, begins-past}
use Rattle.gv_place.proofs.Levels.{FrontCopy, Front, front-of, fetched-front, fetched-clean}

-- a batch is never without items
module _ (engine : ℕ) where
  some-privileged : (items : Items) → MayAllStand Privileged engine items → is_none items ≡ false
  some-privileged none may = cc
  some-privileged (command ws more) may = refl
  some-privileged (batch ws items more) may = refl

  some-second : (items : Items) → MayAllStand Second engine items → is_none items ≡ false
  some-second none may = cc
  some-second (command ws more) may = refl
  some-second (batch ws items more) may = refl

-- What the engine reads for the front item of a level, and where that level stands behind it
pub record Read (p : Layout) (got : HeadRead) (items : Items) (Past : ℕ → Type 0) : Type 0 where
  pub c : List ℕ
  pub words : got.words ≡ c
  pub strayed : got.strayed ≡ false
  pub own : IsCommand (words_of items)
  pub long : length c ≡ length (words_of items)
  pub copy : FrontCopy p (words_of items) c (started items)
  pub past : Past (length (words_of items))

module _ (d : Device) (image : ℕ) (p : Layout) (l : Loaded) (engine : ℕ) (copied : Copied d l.owner image p l.ring_start) where
  start-at : (a b : ℕ) → a ≡ 0 + b → l.ring_start + a ≡ l.ring_start + b
  start-at a b e = omega arith

  -- the ring's commands, counted from the ring's start, are counted from 0 in a place
  moved-base : (at : ℕ) (rest : List (List ℕ)) → Begins 0 p.ring at rest → Begins l.ring_start p.ring (l.ring_start + at) rest
  moved-base at rest b = record { before = b.before; split = b.split; count = start-at at (4 * length (concat b.before)) b.count }

  pub ring-read : (at : ℕ) (items : Items) → is_none items ≡ false → MayAllStand Ring engine items → RingAt p at items
      → Read p (head_read_from d l true (l.ring_start + at)) items (λ n. RingAt p ((at + 4 * n) % 2 ^ 32) (behind items))
  ring-read at items some may r =
      let f = front-of p copied.base_aligned Ring engine 0 p.ring at [] items r.rest some r.begins r.copies may in
      let begins = moved-base at (f.c ∷ f.rest) f.begins in
      let end = ends-within 0 p.ring at f.c f.rest f.begins in
      let small = copied.ring_small in
      let fits : (at + 4 * length (words_of items)) % 2 ^ 32 ≡ at + 4 * length f.c = let e = f.long in omega arith in
      let far : Front p l.ring_start p.ring (l.ring_start + at) items [] = record { c = f.c; rest = f.rest; begins = begins; copies = f.copies; own = f.own; command = f.command; long = f.long; copy = f.copy } in
      record {
        c = f.c;
        words = fetched-front p copied.base_aligned Ring engine l.ring_start p.ring (l.ring_start + at) [] d image l items far copied.ring;
        strayed = fetched-clean p copied.base_aligned Ring engine l.ring_start p.ring (l.ring_start + at) [] d image l items far copied.start_aligned copied.ring;
        own = f.own;
        long = f.long;
        copy = f.copy;
        past = record { rest = f.rest; begins = let B : ℕ → Type 0 = λ n. Begins 0 p.ring n f.rest in subst B (sym fits) (begins-past 0 p.ring at f.c f.rest f.begins); copies = f.copies };
      }

  read-at : Batch → Bool → ℕ
  read-at b live = cond live (b.at % 2 ^ 48) (min b.at (2 ^ 32))

  pub batch-read : (stands : StandsIn) (b : Batch) (items : Items) → b.live ≡ false → is_none items ≡ false → MayAllStand stands engine items → BatchAt p.base p.batches b.at items
      → Read p (head_read_from d l (not b.live) (batch_address b)) items (λ n. BatchAt p.base p.batches ((b.at + 4 * n) % 2 ^ 48) (behind items))
  unfolding read-at
  batch-read stands b items dead some may r =
      let f = front-of p copied.base_aligned stands engine p.base p.batches b.at r.behind items r.rest some r.begins r.copies may in
      let end = ends-within p.base p.batches b.at f.c f.rest f.begins in
      let small = copied.batches_small in
      let fits : (b.at + 4 * length (words_of items)) % 2 ^ 48 ≡ b.at + 4 * length f.c = let e = f.long in omega arith in
      let near : min b.at (2 ^ 32) ≡ b.at = omega arith in
      record {
        c = f.c;
        words = ap (λ v. (head_read_from d l (not v) (read-at b v)).words) dead
            ∙ ap (λ at. (head_read_from d l true at).words) near
            ∙ fetched-front p copied.base_aligned stands engine p.base p.batches b.at r.behind d image l items f copied.batches;
        strayed = ap (λ v. (head_read_from d l (not v) (read-at b v)).strayed) dead
            ∙ ap (λ at. (head_read_from d l true at).strayed) near
            ∙ fetched-clean p copied.base_aligned stands engine p.base p.batches b.at r.behind d image l items f copied.base_aligned copied.batches;
        own = f.own;
        long = f.long;
        copy = f.copy;
        past = record { rest = f.rest; begins = let B : ℕ → Type 0 = λ n. Begins p.base p.batches n f.rest in subst B (sym fits) (begins-past p.base p.batches b.at f.c f.rest f.begins); behind = r.behind; copies = f.copies };
      }

-- What comes next in the ring or a fetched batch: items whose first is the front command.
pub record Next (p : Layout) (got : HeadRead) (w : Left) (Past : ℕ → Type 0) : Type 0 where
  pub items : Items
  pub front : (read : ℕ → List ℕ) → front read w ≡ words_of items
  pub started : started_by w.ring w.first w.second ≡ started items
  pub read : Read p got items Past

module _ (d : Device) (image : ℕ) (p : Layout) (l : Loaded) (engine : ℕ) (place : Saved) (w : Left) (copied : Copied d l.owner image p l.ring_start) (follows : Follows p place w) (form : IsLeft engine w) where
  -- as `Next`, by the levels
  record By (got : HeadRead) (f s : Option Level) (Past : ℕ → Type 0) : Type 0 where
    items : Items
    front : (read : ℕ → List ℕ) → front_by read w.ring f s ≡ words_of items
    started : started_by w.ring f s ≡ started items
    read : Read p got items Past

  with_past : (got : HeadRead) (items : Items) (P Q : ℕ → Type 0) → Read p got items P → ((n : ℕ) → P n → Q n) → Read p got items Q
  with_past got items P Q r go = record { c = r.c; words = r.words; strayed = r.strayed; own = r.own; long = r.long; copy = r.copy; past = go (length (words_of items)) r.past }

  by-levels : (first second : Option Batch) (f s : Option Level) → LevelAt p first f → LevelAt p second s → LevelMayStand Privileged engine f → LevelMayStand Second engine s
      → is_done_by w.ring f s ≡ false → privileged_by f s ≡ true
      → By (head_read_from d l (is_global_by first second) (active_head_by (l.ring_start + place.ring) first second)) f s (λ n. Follows p (advanced_by place n first second) (past_by w n f s))
  by-levels first (Some b) f (Some (Fetched items)) atf ats mf ms more priv = record {
    items = items;
    front = λ read. refl;
    started = refl;
    read = with_past _ items _ _ (batch-read d image p l engine copied Second b items ats.0 (some-second engine items ms) ms ats.1)
        (λ n at. record { ring = follows.ring; first = follows.first; second = (ats.0, at) });
  }
  by-levels first (Some b) f (Some (At a)) atf ats mf ms more priv = cc
  by-levels first (Some b) f None atf ats mf ms more priv = absurd ats
  by-levels first None f (Some level) atf ats mf ms more priv = absurd ats
  by-levels (Some b) None (Some (Fetched items)) None atf ats mf ms more priv = record {
    items = items;
    front = λ read. refl;
    started = refl;
    read = with_past _ items _ _ (batch-read d image p l engine copied Privileged b items atf.0 (some-privileged engine items mf) mf atf.1)
        (λ n at. record { ring = follows.ring; first = (atf.0, at); second = follows.second });
  }
  by-levels (Some b) None (Some (At a)) None atf ats mf ms more priv = cc
  by-levels (Some b) None None None atf ats mf ms more priv = absurd atf
  by-levels None None (Some level) None atf ats mf ms more priv = absurd atf
  by-levels None None None None atf ats mf ms more priv = record {
    items = w.ring;
    front = λ read. refl;
    started = refl;
    read = with_past _ w.ring _ _ (ring-read d image p l engine copied place.ring w.ring more form.ring follows.ring)
        (λ n at. record { ring = at; first = follows.first; second = follows.second });
  }

-- The engine fetches the copy of the front command, and behind it the place stands for what is behind.
pub next-fetched : (d : Device) (image : ℕ) (p : Layout) (l : Loaded) (engine : ℕ) (w : Left) → StandsFor d image p l w → IsLeft engine w → is_done w ≡ false → is_privileged w ≡ true
    → Next p (head_read d l) w (λ n. Follows p (advanced l.place n) (past w n))
unfolding head_read
next-fetched d image p l engine w stands form more priv =
    let b = by-levels d image p l engine l.place w stands.copied stands.place form l.place.first l.place.second w.first w.second stands.place.first stands.place.second form.first form.second more priv in
    record { items = b.items; front = b.front; started = b.started; read = b.read }
