-- What is touched, on the shared device and on the private one.
use Rattle.std.proofs.Common.{◌≡◌, ℕ, zero, suc, ◌+◌, ◌*◌, ◌%◌, ◌^◌, Bool, true, false, List, [], ◌∷◌, ◌++◌, Option, Some, None, cond, refl, sym, ap, ◌∙◌, eqb}
use Rattle.std.proofs.lemmas.List.{map-append}
use Rattle.gv_cmd.specs.Effect.{Operations, effect}
use Rattle.gv_cmd.specs.Simulation.{Access, access, EachAccess, MayDo, Simulates, SameEffect}
use Rattle.gv_cmd.specs.Table.{kind_of}
use Rattle.gv_cmd.specs.declared.kind.Kind.{Kind}
use Rattle.gv_cmd.proofs.Simulation.{effects_agree}
use Rattle.gv_entry.specs.Ranges.{InParts}
use Rattle.gv_gpu.specs.Physical.{read_page, write_page}
use Rattle.gv_gpu.specs.Step.{Stepping, operations}
use Rattle.gv_guest.specs.Placed.{Placed}
use Rattle.gv_private.specs.Space.{PrivateSpace, reads, writes, private_operations}
use Rattle.gv_shape.specs.Shadows.{host_page}
use Rattle.gv_turn.specs.Owned.{MayReach}
use Rattle.gv_turn.specs.Same.{Setting, Same}
use Rattle.gv_turn.proofs.Simulated.{simulates, page_read, page_written}
use Rattle.gv_exact.specs.Exact.{recorded_operations, recorded_private, on_host, on_hosts}
use Rattle.gv_exact.specs.Laws.{RecordedIsDone, SameTouches, TouchesAgree}
use Rattle.gv_exact.specs.Touched.{Touch, Reach, Recorded, recorded, untouched, byte_touched, dword_touched, bytes_touched, code_touched, codes_touched}

-- ---- the record changes no effect

abbrev pub Any : Access → Type 0
Any a = Unit {0}

each_any : (xs : List Access) → EachAccess Any xs
each_any [] = tt
each_any (a ∷ xs) = (tt, each_any xs)

pub any_do : (engine : ℕ) (privileged : Bool) (kind : Option Kind) → MayDo Any engine privileged kind
any_do engine privileged None = tt
any_do engine privileged (Some kind) = each_any _

module _ {S : Type 0} (ops : Operations S) (reach : Reach S) where
  abbrev Now : Recorded S → S → Type 0
  Now r s = r.now ≡ s

  forgets : Simulates (recorded ops reach) ops Now Any
  forgets = record {
    load_gives = λ r s global at now may. ap (λ x. ops.load_gives x global at) now;
    load_leaves = λ r s global at now may. ap (λ x. ops.load_leaves x global at) now;
    stored = λ r s global at value now may. ap (λ x. ops.stored x global at value) now;
    row_copied = λ r s to from n now. ap (λ x. ops.row_copied x to from n) now;
    row_filled = λ r s to n colour depth now. ap (λ x. ops.row_filled x to n colour depth) now;
    general_gives = λ r s n small now. ap (λ x. ops.general_gives x n) now;
    general_set = λ r s n value small now. ap (λ x. ops.general_set x n value) now;
  }

  pub done_alike : (ws : List ℕ) (engine : ℕ) (privileged : Bool) (s : S) → SameEffect Now (effect (recorded ops reach) ws engine privileged (untouched s)) (effect ops ws engine privileged s)
  done_alike ws engine privileged s = effects_agree (recorded ops reach) ops Now Any forgets ws engine privileged (untouched s) s refl (any_do engine privileged (kind_of ws))

pub recorded_is_done : RecordedIsDone
recorded_is_done ws engine privileged s =
    let alike = done_alike operations (record {
      reads = λ (x : Stepping) global at. read_page x.device x.context.root global at;
      writes = λ (x : Stepping) global at. write_page x.device x.context.root global at;
    }) ws engine privileged s in
    (alike.after, alike.raise)

-- ---- bytes of host pages

module _ (placed : Placed) where
  byte_hosted : (write : Bool) (grant : Option ℕ) (at : ℕ) → byte_touched write (host_page placed grant) at ≡ on_hosts placed (byte_touched write grant at)
  byte_hosted write None at = refl
  byte_hosted write (Some f) at = refl

  dword_hosted : (write : Bool) (grant : Option ℕ) (at : ℕ) → dword_touched write (host_page placed grant) at ≡ on_hosts placed (dword_touched write grant at)
  dword_hosted write None at = refl
  dword_hosted write (Some f) at = refl

  -- where two records agree, they agree with more
  pub joined : (xs ys : List Touch) (us vs : List Touch) → xs ≡ on_hosts placed us → ys ≡ on_hosts placed vs → xs ++ ys ≡ on_hosts placed (us ++ vs)
  joined xs ys us vs first second = (λ i. first i ++ second i) ∙ sym (map-append (on_host placed) us vs)

  bytes_hosted : (write : Bool) (page frame : ℕ → Option ℕ) (at : ℕ) → ((k : ℕ) → page k ≡ host_page placed (frame k)) → (n : ℕ) → bytes_touched write page at n ≡ on_hosts placed (bytes_touched write frame at n)
  unfolding bytes_touched
  bytes_hosted write page frame at is zero = refl
  bytes_hosted write page frame at is (suc n) =
      joined _ _ (bytes_touched write frame at n) (byte_touched write (frame n) (at + n)) (bytes_hosted write page frame at is n)
      (ap (λ o. byte_touched write o (at + n)) (is n) ∙ byte_hosted write (frame n) (at + n))

  code_hosted : (page frame : ℕ → Option ℕ) → ((k : ℕ) → page k ≡ host_page placed (frame k)) → (at : ℕ) → code_touched page at ≡ on_hosts placed (code_touched frame at)
  code_hosted page frame is at = by_test (eqb (at % 4) 0)
    where
      by_test : (b : Bool) → cond b (dword_touched false (page at) at) (bytes_touched false (λ k. page (at + k)) at 4)
          ≡ on_hosts placed (cond b (dword_touched false (frame at) at) (bytes_touched false (λ k. frame (at + k)) at 4))
      by_test true = ap (λ o. dword_touched false o at) (is at) ∙ dword_hosted false (frame at) at
      by_test false = bytes_hosted false (λ k. page (at + k)) (λ k. frame (at + k)) at (λ k. is (at + k)) 4

  codes_hosted : (page frame : ℕ → Option ℕ) → ((k : ℕ) → page k ≡ host_page placed (frame k)) → (at n : ℕ) → codes_touched page at n ≡ on_hosts placed (codes_touched frame at n)
  unfolding codes_touched
  codes_hosted page frame is at zero = refl
  codes_hosted page frame is at (suc n) =
      joined _ _ (codes_touched frame at n) (code_touched frame (at + 4 * n)) (codes_hosted page frame is at n) (code_hosted page frame is (at + 4 * n))

-- ---- the touches agree

module _ (t : Setting) (parts : InParts t.space.ranges) where
  abbrev placed : Placed
  placed = t.placed

  agree : Simulates private_operations operations (Same t) (MayReach t.space.ranges)
  agree = simulates t parts

  -- one more access
  more : (x : Recorded PrivateSpace) (y : Recorded Stepping) (us ys : List Touch) → SameTouches t x y → ys ≡ on_hosts placed us → y.trace ++ ys ≡ on_hosts placed (x.trace ++ us)
  more x y us ys same is = joined placed y.trace ys x.trace us same.trace is

  module _ (x : PrivateSpace) (y : Stepping) (same : Same t x y) where
    dword_is_read : (global : Bool) (at : ℕ) → MayReach t.space.ranges (access global at)
        → dword_touched false (read_page y.device y.context.root global at) at ≡ on_hosts placed (dword_touched false (reads x global at) at)
    dword_is_read global at may = ap (λ o. dword_touched false o at) (page_read t parts x y same global at may) ∙ dword_hosted placed false (reads x global at) at

    dword_is_written : (global : Bool) (at : ℕ) → MayReach t.space.ranges (access global at)
        → dword_touched true (write_page y.device y.context.root global at) at ≡ on_hosts placed (dword_touched true (writes x global at) at)
    dword_is_written global at may = ap (λ o. dword_touched true o at) (page_written t parts x y same global at may) ∙ dword_hosted placed true (writes x global at) at

    row_is_read : (from n : ℕ) → bytes_touched false (λ k. read_page y.device y.context.root false (from % 2 ^ 48 + k)) (from % 2 ^ 48) n ≡ on_hosts placed (bytes_touched false (λ k. reads x false (from % 2 ^ 48 + k)) (from % 2 ^ 48) n)
    row_is_read from n = bytes_hosted placed false _ (λ k. reads x false (from % 2 ^ 48 + k)) (from % 2 ^ 48) (λ k. page_read t parts x y same false (from % 2 ^ 48 + k) refl) n

    pub codes_are_read : (at n : ℕ) → codes_touched (λ a. read_page y.device y.context.root false a) at n ≡ on_hosts placed (codes_touched (λ a. reads x false a) at n)
    codes_are_read at n = codes_hosted placed (λ a. read_page y.device y.context.root false a) (λ a. reads x false a) (λ a. page_read t parts x y same false a refl) at n

  row_is_written : (xs : ℕ → PrivateSpace) (ys : ℕ → Stepping) → ((k : ℕ) → Same t (xs k) (ys k)) → (to n : ℕ)
      → bytes_touched true (λ k. write_page (ys k).device (ys k).context.root false (to % 2 ^ 48 + k)) (to % 2 ^ 48) n ≡ on_hosts placed (bytes_touched true (λ k. writes (xs k) false (to % 2 ^ 48 + k)) (to % 2 ^ 48) n)
  row_is_written xs ys same to n =
      bytes_hosted placed true _ (λ k. writes (xs k) false (to % 2 ^ 48 + k)) (to % 2 ^ 48) (λ k. page_written t parts (xs k) (ys k) (same k) false (to % 2 ^ 48 + k) refl) n

  touching : Simulates recorded_private recorded_operations (SameTouches t) (MayReach t.space.ranges)
  touching = record {
    load_gives = λ x y global at same may. agree.load_gives x.now y.now global at same.same may;
    load_leaves = λ x y global at same may. record {
      same = agree.load_leaves x.now y.now global at same.same may;
      trace = more x y _ _ same (dword_is_read x.now y.now same.same global at may);
    };
    stored = λ x y global at value same may. record {
      same = agree.stored x.now y.now global at value same.same may;
      trace = more x y _ _ same (dword_is_written x.now y.now same.same global at may);
    };
    row_copied = λ x y to from n same. record {
      same = agree.row_copied x.now y.now to from n same.same;
      trace = more x y _ _ same (joined placed _ _ _ _ (row_is_read x.now y.now same.same from n)
          (row_is_written (λ k. private_operations.row_copied x.now to from k) (λ k. operations.row_copied y.now to from k) (λ k. agree.row_copied x.now y.now to from k same.same) to n));
    };
    row_filled = λ x y to n colour depth same. record {
      same = agree.row_filled x.now y.now to n colour depth same.same;
      trace = more x y _ _ same
          (row_is_written (λ k. private_operations.row_filled x.now to k colour depth) (λ k. operations.row_filled y.now to k colour depth) (λ k. agree.row_filled x.now y.now to k colour depth same.same) to n);
    };
    general_gives = λ x y n small same. agree.general_gives x.now y.now n small same.same;
    general_set = λ x y n value small same. record { same = agree.general_set x.now y.now n value small same.same; trace = same.trace };
  }

pub touches_agree : TouchesAgree
touches_agree t parts = effects_agree recorded_private recorded_operations (SameTouches t) (MayReach t.space.ranges) (touching t parts)
