-- The next command of a live batch is read where the guest's own is, and the place moves alike.
use Rattle.std.proofs.Common.{◌≡◌, ℕ, suc, zero, ◌+◌, ◌*◌, ◌%◌, ◌^◌, ◌<◌, ◌≤◌, Bool, true, false, not, cond, min, List, length, get_or, Option, None, Some, refl, ap, sym, subst, ◌∙◌, arith}
use Rattle.std.proofs.lemmas.List.{take_all}
use Rattle.gv_ctx.specs.declared.saved.Batch.{Batch}
use Rattle.gv_ctx.specs.declared.saved.Saved.{Saved}
use Rattle.gv_cmd.specs.Allowed.{is_allowed, may_stand}
use Rattle.gv_cmd.specs.Table.{length_of, kind_of, read_length}
use Rattle.gv_gpu.specs.Device.{Device, Loaded}
use Rattle.gv_gpu.specs.Physical.{dword_at}
use Rattle.gv_gpu.specs.Step.{head_read_from, head_read, dwords_from, active_head_by, batch_address, is_global_by, advanced_by, advanced, next_place}
use Rattle.gv_fetch.specs.Fetch.{dwords}
use Rattle.gv_fetch.specs.Items.{none, is_fetched_start}
use Rattle.gv_scan.specs.Layout.{Layout}
use Rattle.gv_fetch.specs.Left.{Level, Fetched, At, Left, IsLeft, LevelMayStand, live_command, front, front_by, privileged_by, is_privileged, stands_by, stands_of, past_by, past, moved, moved_by, started_by}
use Rattle.gv_fetch.proofs.Moving.{live-starts, second-starts}
use Rattle.gv_cmd.specs.declared.stands.Stands.TheVariants.{Privileged, Second}
use Rattle.gv_place.specs.Place.{LevelAt, Follows, StandsFor, ReadsSame}
use Rattle.gv_place.proofs.Reading.{dwords-are}
use Rattle.gv_place.proofs.Levels.{same}
use Rattle.gv_place.proofs.Moves.{moved-follows}

pub length-dwords : (read : ℕ → ℕ) (at n : ℕ) → length (dwords read at n) ≡ n
unfolding dwords
length-dwords read at zero = refl
length-dwords read at (suc n) = ap suc (length-dwords read (at + 4) n)

pub get-dwords : (read : ℕ → ℕ) (at n k : ℕ) → k < n → get_or (dwords read at n) k 0 ≡ read (at + 4 * k)
unfolding dwords
get-dwords read at zero k h = absurd (omega arith)
get-dwords read at (suc n) zero h = let e : at ≡ at + 4 * 0 = omega arith in ap read e
get-dwords read at (suc n) (suc k) h =
    let less : k < n = omega arith in
    let e : at + 4 + 4 * k ≡ at + 4 * (suc k) = omega arith in
    get-dwords read (at + 4) n k less ∙ ap read e

module _ (d : Device) (l : Loaded) (read : ℕ → ℕ) (agree : ReadsSame d l.root read) where
  four : (at k : ℕ) → at % 4 ≡ 0 → (at + 4 * k) % 4 ≡ 0
  four at k h = omega arith

  dwords-same : (at n : ℕ) → at % 4 ≡ 0 → dwords_from d l.root false at n ≡ dwords read at n
  dwords-same at n fit =
      let long = length-dwords read at n in
      let enough : n ≤ length (dwords read at n) = omega arith in
      let few : length (dwords read at n) ≤ n = omega arith in
      dwords-are d l.root false at (dwords read at n)
      (λ k h. let less : k < n = omega arith in agree.dword (at + 4 * k) (four at k fit) ∙ sym (get-dwords read at n k less)) n enough
      ∙ take_all n (dwords read at n) few

  command-same : (at : ℕ) → at % 4 ≡ 0 → (head_read_from d l false at).words ≡ live_command read at
  command-same at fit =
      dwords-same at (read_length (length_of (dword_at d l.root false at))) fit
      ∙ ap (λ h. dwords read at (read_length (length_of h))) (agree.dword at fit)

  read-at : Batch → Bool → ℕ
  read-at b live = cond live (b.at % 2 ^ 48) (min b.at (2 ^ 32))

  live-read : (b : Batch) (at : ℕ) → b.live ≡ true → b.at ≡ at → at % 4 ≡ 0 → (head_read_from d l (not b.live) (batch_address b)).words ≡ live_command read (at % 2 ^ 48)
  unfolding read-at
  live-read b at alive is fit =
      let fit_here : (at % 2 ^ 48) % 4 ≡ 0 = omega arith in
      ap (λ v. (head_read_from d l (not v) (read-at b v)).words) alive
      ∙ ap (λ n. (head_read_from d l false (n % 2 ^ 48)).words) is
      ∙ command-same (at % 2 ^ 48) fit_here

  by-levels : (p : Layout) (engine : ℕ) (ring : ℕ) (w : Left) (first second : Option Batch) (f s : Option Level) → LevelAt p first f → LevelAt p second s
      → LevelMayStand Privileged engine f → LevelMayStand Second engine s → privileged_by f s ≡ false
      → (head_read_from d l (is_global_by first second) (active_head_by ring first second)).words ≡ front_by (live_command read) w.ring f s
  by-levels p engine ring w first (Some b) f (Some (Fetched items)) one two mf ms priv = cc
  by-levels p engine ring w first (Some b) f (Some (At at)) one two mf ms priv = live-read b at two.0 two.1 ms
  by-levels p engine ring w first (Some b) f None one two mf ms priv = absurd two
  by-levels p engine ring w first None f (Some level) one two mf ms priv = absurd two
  by-levels p engine ring w (Some b) None (Some (Fetched items)) None one two mf ms priv = cc
  by-levels p engine ring w (Some b) None (Some (At at)) None one two mf ms priv = live-read b at one.0 one.1 mf
  by-levels p engine ring w (Some b) None None None one two mf ms priv = absurd one
  by-levels p engine ring w None None (Some level) None one two mf ms priv = absurd one
  by-levels p engine ring w None None None None one two mf ms priv = cc

-- The engine reads the front command of a live batch.
pub live-fetched : (d : Device) (image : ℕ) (p : Layout) (l : Loaded) (engine : ℕ) (w : Left) (read : ℕ → ℕ) → StandsFor d image p l w → IsLeft engine w → ReadsSame d l.root read → is_privileged w ≡ false
    → (head_read d l).words ≡ front (live_command read) w
unfolding head_read
live-fetched d image p l engine w read stands form agree priv =
    by-levels d l read agree p engine (l.ring_start + l.place.ring) w l.place.first l.place.second w.first w.second stands.place.first stands.place.second form.first form.second priv

module _ (p : Layout) (place : Saved) (w : Left) (follows : Follows p place w) (n : ℕ) where
  past-live : (first second : Option Batch) (f s : Option Level) → LevelAt p first f → LevelAt p second s → privileged_by f s ≡ false
      → Follows p (advanced_by place n first second) (past_by w n f s)
  past-live first (Some b) f (Some (Fetched items)) one two priv = cc
  past-live first (Some b) f (Some (At at)) one two priv = record { ring = follows.ring; first = follows.first; second = (two.0, ap (λ a. (a + 4 * n) % 2 ^ 48) two.1) }
  past-live first (Some b) f None one two priv = absurd two
  past-live first None f (Some level) one two priv = absurd two
  past-live (Some b) None (Some (Fetched items)) None one two priv = cc
  past-live (Some b) None (Some (At at)) None one two priv = record { ring = follows.ring; first = (one.0, ap (λ a. (a + 4 * n) % 2 ^ 48) one.1); second = follows.second }
  past-live (Some b) None None None one two priv = absurd one
  past-live None None (Some level) None one two priv = absurd one
  past-live None None None None one two priv = cc

no_start : (engine : ℕ) (kind : Option _) (f s : Option Level) → privileged_by f s ≡ false → may_stand kind (stands_by f s) engine ≡ true → is_fetched_start kind ≡ false
no_start engine kind f (Some (Fetched items)) priv may = cc
no_start engine kind f (Some (At at)) priv may = second-starts kind engine may
no_start engine kind (Some (Fetched items)) None priv may = cc
no_start engine kind (Some (At at)) None priv may = live-starts kind engine may
no_start engine kind None None priv may = cc

nothing_started : (ring : _) (f s : Option Level) → privileged_by f s ≡ false → started_by ring f s ≡ none
nothing_started ring f (Some (Fetched items)) priv = cc
nothing_started ring f (Some (At at)) priv = refl
nothing_started ring (Some (Fetched items)) None priv = cc
nothing_started ring (Some (At at)) None priv = refl
nothing_started ring None None priv = cc

-- Behind a command of a live batch that may stand there the place stands for what is behind.
pub live-after : (d : Device) (image : ℕ) (p : Layout) (l : Loaded) (engine : ℕ) (w : Left) (ws : List ℕ) (n : ℕ) → StandsFor d image p l w → is_privileged w ≡ false → is_allowed ws (stands_of w) engine ≡ true
    → StandsFor d image p (record l { place = next_place l.place ws n }) (moved w ws n)
live-after d image p l engine w ws n stands priv may =
    let f = past-live p l.place w stands.place n l.place.first l.place.second w.first w.second stands.place.first stands.place.second priv in
    let m = moved-follows p (advanced l.place n) (past w n) f ws ws none (same refl (no_start engine (kind_of ws) w.first w.second priv may)) in
    record {
      copied = stands.copied;
      tail = stands.tail;
      place = let F : _ → Type 0 = λ x. Follows p (next_place l.place ws n) (moved_by (past w n) x (kind_of ws)) in subst F (sym (nothing_started w.ring w.first w.second priv)) m;
    }
