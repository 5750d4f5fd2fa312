-- Each item that is left may stand where it is, also after a command.
use Rattle.std.proofs.Common.{◌≡◌, ℕ, ◌+◌, ◌*◌, ◌/◌, ◌%◌, ◌^◌, Bool, true, false, List, get_or, Option, None, Some, refl, sym, subst, ◌∙◌, arith}
use Rattle.std.specs.Bool.{MatchBool}
use Rattle.gv_cmd.specs.Allowed.{is_allowed, may_stand}
use Rattle.gv_types.specs.Bits.{has_bit}
use Rattle.gv_cmd.specs.Bits.{dword_address}
use Rattle.gv_cmd.specs.Table.{kind_of}
use Rattle.gv_cmd.specs.declared.kind.Kind.{Kind}
use Rattle.gv_cmd.specs.declared.kind.Kind.TheVariants.{BatchEnd, BatchStart}
use Rattle.gv_cmd.specs.declared.stands.Stands.{Stands}
use Rattle.gv_cmd.specs.declared.stands.Stands.TheVariants.{Ring, Privileged, Live, Second}
use Rattle.gv_cmd.proofs.Starts.{header_start, kind_start}
use Rattle.gv_fetch.specs.Items.{Items, none, command, batch, inside, is_fetched_start, is_end, MayStand, MayAllStand}
use Rattle.gv_fetch.specs.Left.{Level, Fetched, At, Left, words_of, started, is_done, is_done_by, is_privileged, privileged_by, front, front_by, stands_by, stands_of, level_of, moved_by, moved, LevelMayStand, IsLeft, is_none, behind}

fits : (x y : ℕ) → (x % 2 ^ 16 * 2 ^ 32 + y / 4 * 4) % 4 ≡ 0
fits x y = omega arith

same_at : (live second l s : Bool) (at x : ℕ) → Some (BatchStart l s x) ≡ Some (BatchStart live second at) → x ≡ at
same_at live second l s at x e = cc

-- a start's address is at a multiple of 4
pub start-aligned : (ws : List ℕ) (live second : Bool) (at : ℕ) → kind_of ws ≡ Some (BatchStart live second at) → at % 4 ≡ 0
unfolding kind_of
start-aligned ws live second at is =
    let s = header_start live second at (get_or ws 0 0) ws is in
    let e = same_at live second (has_bit (get_or ws 0 0) 8) (has_bit (get_or ws 0 0) 22) at (dword_address ws 1) (sym (kind_start (get_or ws 0 0) ws s) ∙ is) in
    let P : ℕ → Type 0 = λ n. n % 4 ≡ 0 in
    subst P e (fits (get_or ws 2 0) (get_or ws 1 0))

-- a command of a live batch starts no privileged one
pub live-starts : (kind : Option Kind) (engine : ℕ) → may_stand kind Live engine ≡ true → is_fetched_start kind ≡ false
live-starts (Some (BatchStart true second at)) engine may = refl
live-starts (Some (BatchStart false second at)) engine may = cc
live-starts kind engine may = refl

pub second-starts : (kind : Option Kind) (engine : ℕ) → may_stand kind Second engine ≡ true → is_fetched_start kind ≡ false
second-starts (Some (BatchStart live second at)) engine may = cc
second-starts kind engine may = refl

module _ (engine : ℕ) where
  -- what a command enters
  MayEnter : Items → Option Kind → Type 0
  MayEnter items (Some (BatchStart live true at)) = LevelMayStand Second engine (Some (level_of live at items))
  MayEnter items (Some (BatchStart live false at)) = LevelMayStand Privileged engine (Some (level_of live at items))
  MayEnter items kind = Unit {0}

  plain : (ws : List ℕ) (items : Items) (kind : Option Kind) → kind_of ws ≡ kind → is_fetched_start kind ≡ false → MayEnter items kind
  unfolding MayEnter
  plain ws items (Some (BatchStart true true at)) is not = start-aligned ws true true at is
  plain ws items (Some (BatchStart true false at)) is not = start-aligned ws true false at is
  plain ws items (Some (BatchStart false second at)) is not = cc
  plain ws items kind is not = tt

  starting : (stands : Stands) (items : Items) (kind : Option Kind) → may_stand kind stands engine ≡ true → is_fetched_start kind ≡ true → MayAllStand (inside stands) engine items → MayEnter items kind
  unfolding MayEnter
  starting Ring items (Some (BatchStart false false at)) may is all = all
  starting Ring items (Some (BatchStart false true at)) may is all = cc
  starting Privileged items (Some (BatchStart false true at)) may is all = all
  starting Privileged items (Some (BatchStart false false at)) may is all = cc
  starting Live items (Some (BatchStart false second at)) may is all = cc
  starting Second items (Some (BatchStart false second at)) may is all = cc
  starting stands items (Some (BatchStart true second at)) may is all = cc
  starting stands items kind may is all = cc

  after-kind : (w : Left) (items : Items) (kind : Option Kind) → is_end kind ≡ false → IsLeft engine w → MayEnter items kind → IsLeft engine (moved_by w items kind)
  unfolding MayEnter
  after-kind w items (Some BatchEnd) not form may = cc
  after-kind w items (Some (BatchStart live true at)) not form may = record { ring = form.ring; first = form.first; second = may }
  after-kind w items (Some (BatchStart live false at)) not form may = record { ring = form.ring; first = may; second = form.second }
  after-kind w items kind not form may = form

  starts-goes : (kind : Option Kind) → is_fetched_start kind ≡ true → is_end kind ≡ false
  starts-goes (Some BatchEnd) is = cc
  starts-goes kind is = refl

  ring-goes : (kind : Option Kind) → may_stand kind Ring engine ≡ true → is_end kind ≡ false
  ring-goes (Some BatchEnd) may = cc
  ring-goes kind may = refl

  ends : (kind : Option Kind) → is_end kind ≡ true → kind ≡ Some BatchEnd
  ends (Some BatchEnd) is = refl
  ends kind is = cc

  -- past the front of one level's items; `put` is what is left with other items there
  module _ (stands : Stands) (put : Items → Left) (form : (more : Items) → MayAllStand stands engine more → IsLeft engine (put more))
      (end : (ws : List ℕ) (more : Items) → MayStand stands engine ws → is_end (kind_of ws) ≡ true → IsLeft engine (moved_by (put more) none (kind_of ws))) where
    by-end : (ws : List ℕ) (more : Items) (b : Bool) → MayStand stands engine ws → is_fetched_start (kind_of ws) ≡ false → is_end (kind_of ws) ≡ b → MatchBool b (more ≡ none) (MayAllStand stands engine more) → IsLeft engine (moved_by (put more) none (kind_of ws))
    by-end ws more true may not is rest = end ws more may is
    by-end ws more false may not is rest = after-kind (put more) none (kind_of ws) is (form more rest) (plain ws none (kind_of ws) refl not)

    front-moved : (items : Items) → is_none items ≡ false → MayAllStand stands engine items → IsLeft engine (moved_by (put (behind items)) (started items) (kind_of (words_of items)))
    front-moved none some may = cc
    front-moved (command cs more) some may = by-end cs more (is_end (kind_of cs)) may.0 may.1 refl may.2
    front-moved (batch cs items more) some may = after-kind (put more) items (kind_of cs) (starts-goes (kind_of cs) may.1) (form more may.3) (starting stands items (kind_of cs) may.0.allowed may.1 may.2)

  module _ (w : Left) (form : IsLeft engine w) where
    leaves-second : (level : Level) (ws : List ℕ) → is_end (kind_of ws) ≡ true → IsLeft engine (moved_by (record w { second = Some level }) none (kind_of ws))
    leaves-second level ws is =
        let P : Option Kind → Type 0 = λ k. IsLeft engine (moved_by (record w { second = Some level }) none k) in
        let here : P (Some BatchEnd) = record { ring = form.ring; first = form.first; second = tt } in
        subst P (sym (ends (kind_of ws) is)) here

    leaves-first : (level : Level) (ws : List ℕ) → is_end (kind_of ws) ≡ true → IsLeft engine (moved_by (record { ring = w.ring; first = Some level; second = None }) none (kind_of ws))
    leaves-first level ws is =
        let P : Option Kind → Type 0 = λ k. IsLeft engine (moved_by (record { ring = w.ring; first = Some level; second = None }) none k) in
        let here : P (Some BatchEnd) = record { ring = form.ring; first = tt; second = tt } in
        subst P (sym (ends (kind_of ws) is)) here

    no_end : (ws : List ℕ) (more : Items) → MayStand Ring engine ws → is_end (kind_of ws) ≡ true → IsLeft engine (moved_by (record w { ring = more }) none (kind_of ws))
    no_end ws more may is = let not = ring-goes (kind_of ws) may.allowed in cc

    in-second : (items : Items) → is_none items ≡ false → MayAllStand Second engine items → IsLeft engine (moved_by (record w { second = Some (Fetched (behind items)) }) (started items) (kind_of (words_of items)))
    in-second items some may =
        front-moved Second (λ more. record w { second = Some (Fetched more) })
        (λ more rest. record { ring = form.ring; first = form.first; second = rest })
        (λ ws more m is. leaves-second (Fetched more) ws is) items some may

    in-first : (items : Items) → is_none items ≡ false → MayAllStand Privileged engine items → IsLeft engine (moved_by (record { ring = w.ring; first = Some (Fetched (behind items)); second = None }) (started items) (kind_of (words_of items)))
    in-first items some may =
        front-moved Privileged (λ more. record { ring = w.ring; first = Some (Fetched more); second = None })
        (λ more rest. record { ring = form.ring; first = rest; second = tt })
        (λ ws more m is. leaves-first (Fetched more) ws is) items some may

    in-ring : (items : Items) → is_none items ≡ false → MayAllStand Ring engine items → IsLeft engine (moved_by (record w { ring = behind items }) (started items) (kind_of (words_of items)))
    in-ring items some may =
        front-moved Ring (λ more. record w { ring = more })
        (λ more rest. record { ring = rest; first = form.first; second = form.second })
        no_end items some may

  some-privileged : (items : Items) → MayAllStand Privileged engine items → is_none items ≡ false
  some-privileged none may = cc
  some-privileged (command ws more) may = refl
  some-privileged (batch ws items more) may = refl

  some-second : (items : Items) → MayAllStand Second engine items → is_none items ≡ false
  some-second none may = cc
  some-second (command ws more) may = refl
  some-second (batch ws items more) may = refl

  abbrev these : Items → Option Level → Option Level → Left
  these ring f s = record { ring = ring; first = f; second = s }

  fetched-goes : (read : ℕ → List ℕ) (n : ℕ) (ring : Items) (f s : Option Level) → IsLeft engine (these ring f s) → is_done_by ring f s ≡ false → privileged_by f s ≡ true → IsLeft engine (moved (these ring f s) (front_by read ring f s) n)
  fetched-goes read n ring f (Some (Fetched items)) form more priv = in-second (these ring f (Some (Fetched items))) form items (some-second items form.second) form.second
  fetched-goes read n ring f (Some (At at)) form more priv = cc
  fetched-goes read n ring (Some (Fetched items)) None form more priv = in-first (these ring (Some (Fetched items)) None) form items (some-privileged items form.first) form.first
  fetched-goes read n ring (Some (At at)) None form more priv = cc
  fetched-goes read n ring None None form more priv = in-ring (these ring None None) form ring more form.ring

  -- behind a command of the ring or of a fetched batch
  pub fetched-moves : (read : ℕ → List ℕ) (n : ℕ) (w : Left) → IsLeft engine w → is_done w ≡ false → is_privileged w ≡ true → IsLeft engine (moved w (front read w) n)
  fetched-moves read n w form more priv = fetched-goes read n w.ring w.first w.second (record { ring = form.ring; first = form.first; second = form.second }) more priv

  on : (at n : ℕ) → at % 4 ≡ 0 → ((at + 4 * n) % 2 ^ 48) % 4 ≡ 0
  on at n h = omega arith

  -- a command that starts nothing fetched, behind it
  by-end-live : (w : Left) (ws : List ℕ) (b : Bool) → is_end (kind_of ws) ≡ b → is_fetched_start (kind_of ws) ≡ false → IsLeft engine w → IsLeft engine (moved_by w none (Some BatchEnd)) → IsLeft engine (moved_by w none (kind_of ws))
  by-end-live w ws true is not form gone = let P : Option Kind → Type 0 = λ k. IsLeft engine (moved_by w none k) in subst P (sym (ends (kind_of ws) is)) gone
  by-end-live w ws false is not form gone = after-kind w none (kind_of ws) is form (plain ws none (kind_of ws) refl not)

  live-goes : (ws : List ℕ) (n : ℕ) (ring : Items) (f s : Option Level) → IsLeft engine (these ring f s) → privileged_by f s ≡ false → may_stand (kind_of ws) (stands_by f s) engine ≡ true → IsLeft engine (moved (these ring f s) ws n)
  live-goes ws n ring f (Some (Fetched items)) form priv may = cc
  live-goes ws n ring f (Some (At at)) form priv may =
      by-end-live (these ring f (Some (At ((at + 4 * n) % 2 ^ 48)))) ws (is_end (kind_of ws)) refl (second-starts (kind_of ws) engine may)
      (record { ring = form.ring; first = form.first; second = on at n form.second })
      (record { ring = form.ring; first = form.first; second = tt })
  live-goes ws n ring (Some (Fetched items)) None form priv may = cc
  live-goes ws n ring (Some (At at)) None form priv may =
      by-end-live (these ring (Some (At ((at + 4 * n) % 2 ^ 48))) None) ws (is_end (kind_of ws)) refl (live-starts (kind_of ws) engine may)
      (record { ring = form.ring; first = on at n form.first; second = tt })
      (record { ring = form.ring; first = tt; second = tt })
  live-goes ws n ring None None form priv may = cc

  -- behind a command of a live batch that may stand there
  pub live-moves : (ws : List ℕ) (n : ℕ) (w : Left) → IsLeft engine w → is_privileged w ≡ false → is_allowed ws (stands_of w) engine ≡ true → IsLeft engine (moved w ws n)
  live-moves ws n w form priv may = live-goes ws n w.ring w.first w.second (record { ring = form.ring; first = form.first; second = form.second }) priv may
