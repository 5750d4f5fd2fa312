-- What a write makes of the state.
use Rattle.std.proofs.Common.{◌≡◌, ℕ, suc, zero, ◌+◌, ◌*◌, ◌<◌, ◌&&◌, List, length, get_or, set, [], ◌∷◌, Option, None, Some, Result, Ok, Err, arith, Bool, true, false, eqb, ltb, cond, refl}
use Rattle.std.proofs.lemmas.Bool.{eqb-true, and_parts}
use Rattle.std.proofs.lemmas.Grind.{common_steps}
use Rattle.std.specs.Prelude.{IfOk, OnOk}
use Rattle.gv_types.specs.Maps.{put}
use Rattle.gv_types.specs.Memory.{zero_words}
use Rattle.gv_types.specs.declared.ids.Label.{Label}
use Rattle.gv_types.specs.declared.memory.OutOfMemory.{OutOfMemory}
use Rattle.gv_gpu.specs.Device.{added, empty_device, with_engine_general, with_global}
use Rattle.gv_engine.specs.Pages.{Held, nothing_held}
use Rattle.gv_engine.specs.Soft.{state_of, register_of, zero_registers, loaded_by}
use Rattle.gv_engine.specs.declared.context.Context.{Context}
use Rattle.gv_engine.specs.declared.entry.Entry.{Entry}

module _ (general : List ℕ) (contexts : List (Option Context)) (journal : List Entry) (strays pokes spare : ℕ) where
  -- a table whose entries are the same, where one that isn't there is 0
  pub state-entries : (pages : Held) (old new : List ℕ) → ((index : ℕ) → get_or new index 0 ≡ get_or old index 0) → state_of pages new general contexts journal strays pokes spare ≡ state_of pages old general contexts journal strays pokes spare
  state-entries pages old new same = λ i. record (state_of pages old general contexts journal strays pokes spare) { global = λ index. same index i }

  -- one entry of a table that has it
  pub state-entry : (pages : Held) (entries : List ℕ) (index entry : ℕ) → index < length entries → state_of pages (set entries index entry) general contexts journal strays pokes spare ≡ with_global (state_of pages entries general contexts journal strays pokes spare) index entry
  state-entry pages entries index entry within = λ i. record (state_of pages entries general contexts journal strays pokes spare) { global = λ n. at n i }
    where
      at : (n : ℕ) → get_or (set entries index entry) n 0 ≡ put (λ k. get_or entries k 0) index entry n
      at n = grind (arith, common_steps)

-- A general register of an engine.
module _ (general : List ℕ) (engine n value : ℕ) (there : n < 16) (here : 16 * engine + n < length general) where
  register_set : (e k : ℕ) → register_of (set general (16 * engine + n) value) e k ≡ put (register_of general) engine (put (register_of general engine) n value) e k
  register_set e k = grind (arith, common_steps)

  pub state-general : (pages : Held) (entries : List ℕ) (contexts : List (Option Context)) (journal : List Entry) (strays pokes spare : ℕ) → state_of pages entries (set general (16 * engine + n) value) contexts journal strays pokes spare ≡ with_engine_general (state_of pages entries general contexts journal strays pokes spare) engine n value
  state-general pages entries contexts journal strays pokes spare = λ i. record (state_of pages entries general contexts journal strays pokes spare) { general = λ e k. register_set e k i }

-- registers of zeros
abbrev pub is_zeros : List ℕ → Bool
is_zeros [] = true
is_zeros (x ∷ xs) = eqb x 0 && is_zeros xs

pub zeros-get : (xs : List ℕ) → is_zeros xs ≡ true → (k : ℕ) → get_or xs k 0 ≡ 0
zeros-get [] all k = refl
zeros-get (x ∷ xs) all zero = eqb-true x 0 (and_parts (eqb x 0) (is_zeros xs) all).0
zeros-get (x ∷ xs) all (suc k) = zeros-get xs ((and_parts (eqb x 0) (is_zeros xs) all).1) k

pub registers-zero : register_of zero_registers ≡ (λ _ _. 0)
unfolding zero_registers
registers-zero = λ i e k. at e k i
  where
    by_test : (b : Bool) (x : ℕ) → x ≡ 0 → cond b x 0 ≡ 0
    by_test true x h = h
    by_test false x h = refl

    at : (e k : ℕ) → register_of zero_registers e k ≡ 0
    at e k = by_test (ltb k 16) (get_or zero_registers (16 * e + k) 0) (zeros-get zero_registers refl (16 * e + k))

-- a device in memory at first
pub state-empty : (pages : Held) (entries general : List ℕ) (journal : List Entry) → pages ≡ nothing_held → entries ≡ [] → general ≡ zero_registers → journal ≡ [] → state_of pages entries general (None ∷ None ∷ None ∷ None ∷ []) journal 0 0 0 ≡ empty_device 0
state-empty pages entries general journal no_page no_entry zeros none = rw (no_page, no_entry, zeros, none) (λ i. record (empty_device 0) { general = registers-zero i; loaded = λ e. idle e i })
  where
    idle : (e : ℕ) → loaded_by (get_or (None ∷ None ∷ None ∷ None ∷ []) e None) ≡ None
    idle zero = refl
    idle (suc zero) = refl
    idle (suc (suc zero)) = refl
    idle (suc (suc (suc zero))) = refl
    idle (suc (suc (suc (suc e)))) = refl

-- a page is added, after the table was lengthened
module _ (old new : Held) (general : List ℕ) (contexts : List (Option Context)) (journal : List Entry) (strays pokes spare : ℕ) (entries longer : List ℕ) (same : (index : ℕ) → get_or longer index 0 ≡ get_or entries index 0) where
  pub state-added : (label : Label) (r : Result ℕ OutOfMemory) → IfOk r (λ page. new.label ≡ put old.label page (Some label)) → IfOk r (λ page. new.words ≡ put old.words page zero_words) → OnOk r (new.live ≡ old.live + 1)
      → IfOk r (λ page. state_of new longer general contexts journal strays pokes spare ≡ added (state_of old entries general contexts journal strays pokes spare) page label)
  state-added label (Ok page) labels words live = λ i. record (state_of old entries general contexts journal strays pokes spare) {
    label = labels i;
    words = words i;
    live = live i;
    global = λ index. same index i;
  }
  state-added label (Err e) labels words live = tt
