-- A place moves as what is left does.
use Rattle.std.proofs.Common.{◌≡◌, ℕ, Bool, true, false, List, Option, None, Some, refl, sym, subst}
use Rattle.gv_ctx.specs.declared.saved.Batch.{Batch}
use Rattle.gv_ctx.specs.declared.saved.Saved.{Saved}
use Rattle.gv_cmd.specs.Table.{kind_of}
use Rattle.gv_cmd.specs.declared.kind.Kind.{Kind}
use Rattle.gv_cmd.specs.declared.kind.Kind.TheVariants.{BatchEnd, BatchStart}
use Rattle.gv_gpu.specs.Step.{returned_by, branched, next_place_by}
use Rattle.gv_fetch.specs.Items.{Items, is_fetched_start}
use Rattle.gv_scan.specs.Layout.{Layout}
use Rattle.gv_fetch.specs.Left.{Level, Fetched, At, Left, batch_left, entered, moved_by}
use Rattle.gv_place.specs.Place.{LevelAt, Follows}
use Rattle.gv_place.proofs.Levels.{FrontCopy, same, start}

module _ (p : Layout) (place : Saved) (w : Left) (follows : Follows p place w) where
  by-level : (second : Option Batch) (s : Option Level) → LevelAt p second s → Follows p (returned_by place second) (batch_left w s)
  by-level None None at = record { ring = follows.ring; first = tt; second = follows.second }
  by-level None (Some level) at = absurd at
  by-level (Some b) None at = absurd at
  by-level (Some b) (Some level) at = record { ring = follows.ring; first = follows.first; second = tt }

  enters : (second : Bool) (b : Batch) (level : Level) → LevelAt p (Some b) (Some level) → Follows p (branched place second b) (entered w second level)
  enters true b level at = record { ring = follows.ring; first = follows.first; second = at }
  enters false b level at = record { ring = follows.ring; first = at; second = follows.second }

  by-kind : (items : Items) (kind : Option Kind) → is_fetched_start kind ≡ false → Follows p (next_place_by place kind) (moved_by w items kind)
  by-kind items (Some BatchEnd) not = by-level place.second w.second follows.second
  by-kind items (Some (BatchStart true second at)) not = enters second (record { at = at; live = true }) (At at) (refl, refl)
  by-kind items (Some (BatchStart false second at)) not = cc
  by-kind items kind not = follows

  -- past a command, by what it does: a plain one, a start of any batch, a jump, an end
  pub moved-follows : (ws c : List ℕ) (items : Items) → FrontCopy p ws c items → Follows p (next_place_by place (kind_of c)) (moved_by w items (kind_of ws))
  moved-follows ws c items (same is not) =
      let F : List ℕ → Type 0 = λ x. Follows p (next_place_by place (kind_of x)) (moved_by w items (kind_of ws)) in
      subst F (sym is) (by-kind items (kind_of ws) not)
  moved-follows ws c items (start to is s at) =
      let b : Batch = record { at = to; live = false } in
      let here = enters s.second b (Fetched items) (refl, at) in
      let F : Option Kind → Type 0 = λ k. Follows p (next_place_by place k) (moved_by w items (kind_of ws)) in
      let G : Option Kind → Type 0 = λ k. Follows p (next_place_by place (Some (BatchStart false s.second to))) (moved_by w items k) in
      subst F (sym s.copy) (subst G (sym s.own) here)
