-- A step of an engine in a copied program, against the command that is next for the guest.
use Rattle.std.proofs.Common.{◌≡◌, ℕ, true, false, List, length, get_or, ap, sym, subst}
use Rattle.gv_cmd.specs.Allowed.{is_allowed}
use Rattle.gv_cmd.specs.Table.{kind_of}
use Rattle.gv_cmd.specs.Command.{IsCommand, shape_of}
use Rattle.gv_cmd.specs.Effect.{effect}
use Rattle.gv_gpu.specs.Device.{Device, Loaded}
use Rattle.gv_gpu.specs.Step.{operations, advanced, next_place}
use Rattle.gv_fetch.specs.Items.{Items}
use Rattle.gv_scan.specs.Layout.{Layout}
use Rattle.gv_fetch.specs.Left.{Left, IsLeft, is_done, front, words_of, started as started_items, is_privileged, past, moved_by}
use Rattle.gv_fetch.proofs.Readdressed.{allowed-same, shape-same, effect-same, decoded-whole}
use Rattle.gv_place.specs.Place.{Follows, StandsFor}
use Rattle.gv_place.specs.Steps.{SameCommand, Runs}
use Rattle.gv_place.proofs.Levels.{FrontCopy, same, start}
use Rattle.gv_place.proofs.Ahead.{next-fetched}
use Rattle.gv_place.proofs.Moves.{moved-follows}

same-command : (p : Layout) (ws c : List ℕ) (items : Items) → IsCommand ws → FrontCopy p ws c items → SameCommand ws c
same-command p ws c items command (same is not) = record {
  decoded = decoded-whole c (subst IsCommand (sym is) command);
  allowed = λ stands engine. ap (λ x. is_allowed x stands engine) is;
  shape = ap shape_of is;
  effect = λ engine privileged s. ap (λ x. effect operations x engine privileged s) is;
}
same-command p ws c items command (start to is s at) = record {
  decoded = decoded-whole c s.command;
  allowed = allowed-same ws c to s;
  shape = shape-same ws c to s (ap (λ x. get_or x 0 0) is);
  effect = λ engine privileged x. effect-same ws c to s operations engine privileged x;
}

-- The front command is in the ring or in a fetched batch.
pub runs-fetched : (d : Device) (image : ℕ) (p : Layout) (l : Loaded) (engine : ℕ) (w : Left) (read : ℕ → List ℕ) → StandsFor d image p l w → IsLeft engine w → is_done w ≡ false → is_privileged w ≡ true
    → Runs d image p l w (front read w)
runs-fetched d image p l engine w read stands form more priv =
    let n = next-fetched d image p l engine w stands form more priv in
    let r = n.read in
    let ws = words_of n.items in
    let shifted : Follows p (advanced l.place (length r.c)) (past w (length ws)) =
    (let F : ℕ → Type 0 = λ k. Follows p (advanced l.place k) (past w (length ws)) in subst F (sym r.long) r.past) in
    let m = moved-follows p (advanced l.place (length r.c)) (past w (length ws)) shifted ws r.c (started_items n.items) r.copy in
    let own : Runs d image p l w ws = record {
      c = r.c;
      words = r.words;
      strayed = r.strayed;
      own = decoded-whole ws r.own;
      same = same-command p ws r.c (started_items n.items) r.own r.copy;
      long = r.long;
      after = record {
        copied = stands.copied;
        tail = stands.tail;
        place = let F : Items → Type 0 = λ x. Follows p (next_place l.place r.c (length r.c)) (moved_by (past w (length ws)) x (kind_of ws)) in subst F (sym n.started) m;
      };
    } in
    let F : List ℕ → Type 0 = λ x. Runs d image p l w x in
    subst F (sym (n.front read)) own
