-- Rows of blits, span by span.
use Rattle.std.proofs.Common.{◌≡◌, ℕ, suc, zero, arith, ◌+◌, ◌/◌, ◌%◌, ◌<◌, ◌≤◌, ◌||◌, Bool, true, false, Option, None, Some, refl, ap, sym, ◌∙◌, add-zero, List, [], ◌∷◌, get_or}
use Rattle.std.specs.Int.{w64, to_le_bytes}
use Rattle.gv_types.specs.Bits.{byte_of}
use Rattle.gv_gpu.specs.Device.{Device, Loaded}
use Rattle.gv_gpu.specs.Physical.{word_in, byte_at, byte_stored, read_page, read_strays, write_strays}
use Rattle.gv_gpu.specs.Step.{Stepping, bytes_stored, bytes_stray, row_moved}
use Rattle.gv_engine.specs.Pages.{byte_in}
use Rattle.gv_engine.specs.Running.{stepping}
use Rattle.gv_engine.specs.Soft.{loaded_of}
use Rattle.gv_engine.specs.Walk.{walk_of}
use Rattle.gv_engine.specs.declared.context.Context.{Context}
use Rattle.gv_engine.proofs.SpanLemmas.{keeps-all, read_page-same, read_strays-same}
use Rattle.gv_engine.proofs.States.{zeros-get}

-- ---- reading

pub bytes_stray-none : (d : Device) (l : Loaded) (at : ℕ) → bytes_stray d l at 0 ≡ false
unfolding bytes_stray
bytes_stray-none d l at = refl

or_false : (b : Bool) → (b || false) ≡ b
or_false true = refl
or_false false = refl

or_assoc : (a b c : Bool) → (a || b || c) ≡ (a || (b || c))
or_assoc true b c = refl
or_assoc false b c = refl

or_same : (b : Bool) → (b || b) ≡ b
or_same true = refl
or_same false = refl

bytes_stray-append : (d : Device) (l : Loaded) (at n m : ℕ) → bytes_stray d l at (n + m) ≡ (bytes_stray d l at n || bytes_stray d l (at + n) m)
unfolding bytes_stray
bytes_stray-append d l at n zero = ap (bytes_stray d l at) (add-zero n) ∙ sym (or_false (bytes_stray d l at n))
bytes_stray-append d l at n (suc m) =
    let more : n + suc m ≡ suc (n + m) = omega arith in
    let there : at + (n + m) ≡ at + n + m = omega arith in
    ap (bytes_stray d l at) more
    ∙ ap (λ b. b || read_strays d l false (at + (n + m))) (bytes_stray-append d l at n m)
    ∙ ap (λ a. bytes_stray d l at n || bytes_stray d l (at + n) m || read_strays d l false a) there
    ∙ or_assoc (bytes_stray d l at n) (bytes_stray d l (at + n) m) (read_strays d l false (at + n + m))

-- bytes of one page are read alike
pub bytes_stray-span : (d : Device) (l : Loaded) (at n : ℕ) → at % 4096 + suc n ≤ 4096 → bytes_stray d l at (suc n) ≡ read_strays d l false at
unfolding bytes_stray
bytes_stray-span d l at zero within = ap (read_strays d l false) (add-zero at)
bytes_stray-span d l at (suc n) within =
    let same : (at + suc n) / 4096 ≡ at / 4096 = omega arith in
    ap (λ b. b || read_strays d l false (at + suc n)) (bytes_stray-span d l at n (omega arith))
    ∙ ap (λ b. read_strays d l false at || b) (read_strays-same d d.words l (at + suc n) at same (keeps-all d (walk_of d l.root false at)))
    ∙ or_same (read_strays d l false at)

-- a span more is read
pub stray-more : (d : Device) (l : Loaded) (from done more : ℕ) (strayed stray after : Bool) → 0 < more → (from + done) % 4096 + more ≤ 4096
    → strayed ≡ bytes_stray d l from done → stray ≡ read_strays d l false (from + done) → after ≡ (strayed || stray) → after ≡ bytes_stray d l from (done + more)
stray-more d l from done zero strayed stray after some within so_far is both = absurd (omega arith)
stray-more d l from done (suc n) strayed stray after some within so_far is both =
    both ∙ ap (λ b. b || stray) so_far ∙ ap (λ b. bytes_stray d l from done || b) (is ∙ sym (bytes_stray-span d l (from + done) n within))
    ∙ sym (bytes_stray-append d l from done (suc n))

zero_byte : (at : ℕ) → byte_of 0 at ≡ 0
zero_byte at = zeros-get (0 ∷ 0 ∷ 0 ∷ 0 ∷ 0 ∷ 0 ∷ 0 ∷ 0 ∷ []) refl (at % 8)

module _ (d : Device) (root at k : ℕ) (within : at % 4096 + k < 4096) where
  same : (at + k) / 4096 ≡ at / 4096
  same = omega arith

  byte_by : (page : Option ℕ) → page ≡ read_page d root false at → byte_at d root false (at + k) ≡ byte_of (word_in d page (at + k)) (at + k)
  unfolding byte_at
  byte_by page is = ap (λ p. byte_of (word_in d p (at + k)) (at + k)) (read_page-same d d.words root (at + k) at same (keeps-all d (walk_of d root false at)) ∙ sym is)

  -- in a page that isn't there
  pub byte-absent : None ≡ read_page d root false at → byte_at d root false (at + k) ≡ 0
  byte-absent is = byte_by None is ∙ zero_byte (at + k)

  pub byte-there : (page : ℕ) → Some page ≡ read_page d root false at → byte_at d root false (at + k) ≡ byte_in (d.words page) (at % 4096 + k)
  byte-there page is =
      let place : (at + k) % 4096 / 8 ≡ (at % 4096 + k) / 8 = omega arith in
      let digit : (at + k) % 8 ≡ (at % 4096 + k) % 8 = omega arith in
      byte_by (Some page) is
      ∙ ap (λ n. byte_of (get_or (d.words page) n 0) (at + k)) place
      ∙ ap (λ n. get_or (to_le_bytes w64 (get_or (d.words page) ((at % 4096 + k) / 8) 0)) n 0) digit

-- ---- writing

abbrev one_stored : Stepping → ℕ → ℕ → Stepping
one_stored t at value = record t { device = byte_stored t.device t.context.root false at value; strayed = t.strayed || write_strays t.device t.context false at }

pub bytes_stored-none : (s : Stepping) (at : ℕ) (bytes : ℕ → ℕ) → bytes_stored s at bytes 0 ≡ s
unfolding bytes_stored
bytes_stored-none s at bytes = refl

pub bytes_stored-append : (s : Stepping) (at : ℕ) (bytes : ℕ → ℕ) (n m : ℕ) → bytes_stored s at bytes (n + m) ≡ bytes_stored (bytes_stored s at bytes n) (at + n) (λ k. bytes (n + k)) m
unfolding bytes_stored
bytes_stored-append s at bytes n zero = ap (bytes_stored s at bytes) (add-zero n)
bytes_stored-append s at bytes n (suc m) =
    let more : n + suc m ≡ suc (n + m) = omega arith in
    let there : at + (n + m) ≡ at + n + m = omega arith in
    ap (bytes_stored s at bytes) more
    ∙ ap (λ t. one_stored t (at + (n + m)) (bytes (n + m))) (bytes_stored-append s at bytes n m)
    ∙ ap (λ a. one_stored (bytes_stored (bytes_stored s at bytes n) (at + n) (λ k. bytes (n + k)) m) a (bytes (n + m))) there

-- bytes that are the same, as far as they are stored
pub bytes_stored-same : (s : Stepping) (at : ℕ) (f g : ℕ → ℕ) (n : ℕ) → ((k : ℕ) → k < n → f k ≡ g k) → bytes_stored s at f n ≡ bytes_stored s at g n
unfolding bytes_stored
bytes_stored-same s at f g zero same = refl
bytes_stored-same s at f g (suc n) same =
    ap (λ t. one_stored t (at + n) (f n)) (bytes_stored-same s at f g n (λ k h. same k (omega arith)))
    ∙ ap (one_stored (bytes_stored s at g n) (at + n)) (same n (omega arith))

-- a row that was read is written
pub row_moved-by : (d next : Device) (engine : ℕ) (c : Context) (strayed stray both after : Bool) (to from n : ℕ) (row : List ℕ)
    → ((k : ℕ) → k < n → get_or row k 0 ≡ byte_at d c.root false (from + k))
    → stray ≡ bytes_stray d (loaded_of c) from n → both ≡ (strayed || stray)
    → stepping next engine c after ≡ bytes_stored (stepping d engine c both) to (λ k. get_or row k 0) n
    → stepping next engine c after ≡ row_moved (stepping d engine c strayed) to from n
row_moved-by d next engine c strayed stray both after to from n row bytes is joined stored =
    stored
    ∙ ap (λ b. bytes_stored (stepping d engine c b) to (λ k. get_or row k 0) n) (joined ∙ ap (λ b. strayed || b) is)
    ∙ bytes_stored-same (stepping d engine c (strayed || bytes_stray d (loaded_of c) from n)) to (λ k. get_or row k 0) (λ k. byte_at d c.root false (from + k)) n bytes
