-- A context has ended exactly where nothing is left; and it stands where what is left does.
use Rattle.std.proofs.Common.{◌≡◌, ℕ, ◌+◌, ◌*◌, ◌%◌, ◌≤◌, Bool, true, false, cond, eqb, [], ◌++◌, length, Option, None, Some, refl, ap, ◌∙◌, arith}
use Rattle.std.specs.List.{concat}
use Rattle.std.proofs.lemmas.List.{append-nil}
use Rattle.std.proofs.lemmas.Bool.Decides.{nat_tests}
use Rattle.gv_ctx.specs.declared.saved.Batch.{Batch}
use Rattle.gv_cmd.specs.declared.stands.Stands.{Stands as StandsIn}
use Rattle.gv_cmd.specs.declared.stands.Stands.TheVariants.{Ring, Privileged, Live}
use Rattle.gv_cmd.proofs.Lengths.{IsCommand-length}
use Rattle.gv_gpu.specs.Device.{Device, Loaded}
use Rattle.gv_gpu.specs.Step.{stands_at_by, is_global_by, has_ended}
use Rattle.gv_fetch.specs.Items.{Items, none, command, batch, MayAllStand}
use Rattle.gv_scan.specs.Layout.{Layout, RingAt}
use Rattle.gv_fetch.specs.Left.{Level, Fetched, At, Left, is_none, is_done_by, is_done, stands_by, privileged_by, IsLeft}
use Rattle.gv_place.specs.Place.{LevelAt, StandsFor}
use Rattle.gv_place.proofs.Reading.{ends-within}
use Rattle.gv_place.proofs.Levels.{front-of}

module _ (p : Layout) where
  pub stands-same : (first second : Option Batch) (f s : Option Level) → LevelAt p first f → LevelAt p second s → stands_at_by first second ≡ stands_by f s
  stands-same first (Some b) f (Some level) one two = refl
  stands-same first (Some b) f None one two = absurd two
  stands-same first None f (Some level) one two = absurd two
  stands-same (Some b) None (Some (Fetched items)) None one two = let of : Bool → StandsIn = λ v. cond v Live Privileged in ap of one.0
  stands-same (Some b) None (Some (At at)) None one two = let of : Bool → StandsIn = λ v. cond v Live Privileged in ap of one.0
  stands-same (Some b) None None None one two = absurd one
  stands-same None None (Some level) None one two = absurd one
  stands-same None None None None one two = refl

  level-privileged : (b : Batch) (level : Level) → LevelAt p (Some b) (Some level) → is_global_by None (Some b) ≡ privileged_by None (Some level)
  level-privileged b (Fetched items) at = ap (λ v. is_global_by None (Some record { at = 0; live = v })) at.0
  level-privileged b (At a) at = ap (λ v. is_global_by None (Some record { at = 0; live = v })) at.0

  pub privileged-same : (first second : Option Batch) (f s : Option Level) → LevelAt p first f → LevelAt p second s → is_global_by first second ≡ privileged_by f s
  privileged-same first (Some b) f (Some level) one two = level-privileged b level two
  privileged-same first (Some b) f None one two = absurd two
  privileged-same first None f (Some level) one two = absurd two
  privileged-same (Some b) None (Some level) None one two = level-privileged b level one
  privileged-same (Some b) None None None one two = absurd one
  privileged-same None None (Some level) None one two = absurd one
  privileged-same None None None None one two = refl

  differs : (at n total : ℕ) → 1 ≤ n → at + 4 * n ≤ total → eqb at total ≡ false
  differs at n total some h = grind (arith, nat_tests)

  equals : (at total : ℕ) → at ≡ total → eqb at total ≡ true
  equals at total h = grind (arith, nat_tests)

  module _ (fours : p.base % 4 ≡ 0) (engine at : ℕ) where
    more-left : (items : Items) → is_none items ≡ false → RingAt p at items → MayAllStand Ring engine items → eqb at (4 * length (concat p.ring)) ≡ false
    more-left items some r may =
        let f = front-of p fours Ring engine 0 p.ring at [] items r.rest some r.begins r.copies may in
        let within = ends-within 0 p.ring at f.c f.rest f.begins in
        let inside : at + 4 * length f.c ≤ 4 * length (concat p.ring) = omega arith in
        differs at (length f.c) (4 * length (concat p.ring)) (IsCommand-length f.c f.command).0 inside

    pub ring-ended : (items : Items) → RingAt p at items → MayAllStand Ring engine items → eqb at (4 * length (concat p.ring)) ≡ is_none items
    ring-ended none r may =
        let all : p.ring ≡ r.begins.before = r.begins.split ∙ ap (λ xs. r.begins.before ++ xs) r.copies ∙ append-nil r.begins.before in
        let n = r.begins.count in
        let same : 4 * length (concat p.ring) ≡ 4 * length (concat r.begins.before) = ap (λ xs. 4 * length (concat xs)) all in
        equals at (4 * length (concat p.ring)) (omega arith)
    ring-ended (command ws more) r may = more-left (command ws more) refl r may
    ring-ended (batch ws items more) r may = more-left (batch ws items more) refl r may

abbrev with_batches : Loaded → Option Batch → Option Batch → Loaded
with_batches l first second = record l { place = record { ring = l.place.ring; first = first; second = second } }

pub ended-done : (d : Device) (image : ℕ) (p : Layout) (l : Loaded) (engine : ℕ) (w : Left) → StandsFor d image p l w → IsLeft engine w → has_ended l ≡ is_done w
ended-done d image p l engine w stands form = by l.place.first l.place.second w.first w.second stands.place.first stands.place.second
  where
    ring : eqb l.place.ring l.tail ≡ is_none w.ring
    ring = ap (eqb l.place.ring) stands.tail ∙ ring-ended p stands.copied.base_aligned engine l.place.ring w.ring stands.place.ring form.ring

    by : (first second : Option Batch) (f s : Option Level) → LevelAt p first f → LevelAt p second s → has_ended (with_batches l first second) ≡ is_done_by w.ring f s
    by first (Some b) f (Some level) one two = several first f
      where
        several : (first : Option Batch) (f : Option Level) → has_ended (with_batches l first (Some b)) ≡ is_done_by w.ring f (Some level)
        several None None = refl
        several None (Some x) = refl
        several (Some x) None = refl
        several (Some x) (Some y) = refl
    by first (Some b) f None one two = absurd two
    by first None f (Some level) one two = absurd two
    by (Some b) None (Some level) None one two = refl
    by (Some b) None None None one two = absurd one
    by None None (Some level) None one two = absurd one
    by None None None None one two = ring
