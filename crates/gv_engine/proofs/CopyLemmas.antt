-- A row that lies in one page on either side is copied at once.
use Rattle.std.proofs.Common.{◌≡◌, ℕ, zero, suc, ◌+◌, ◌%◌, ◌<◌, ◌≤◌, ◌||◌, Bool, false, Some, sym, ap, ◌∙◌, inr, arith}
use Rattle.gv_gpu.specs.Device.{Device, Loaded}
use Rattle.gv_gpu.specs.Physical.{byte_at, read_page, write_page, read_strays, write_strays}
use Rattle.gv_gpu.specs.Step.{bytes_stored, bytes_stray, row_moved}
use Rattle.gv_engine.specs.Pages.{byte_in}
use Rattle.gv_engine.specs.Rows.{put_in}
use Rattle.gv_engine.specs.Running.{stepping}
use Rattle.gv_engine.specs.Soft.{loaded_of}
use Rattle.gv_engine.specs.Walk.{walk_of, is_table}
use Rattle.gv_engine.specs.declared.context.Context.{Context}
use Rattle.gv_engine.proofs.PutLemmas.{span-put}
use Rattle.gv_engine.proofs.RowLemmas.{byte-there, bytes_stray-span, bytes_stored-same}

bytes_stray-all : (d : Device) (l : Loaded) (at n : ℕ) → 0 < n → at % 4096 + n ≤ 4096 → bytes_stray d l at n ≡ read_strays d l false at
bytes_stray-all d l at zero some within = absurd (omega arith)
bytes_stray-all d l at (suc n) some within = bytes_stray-span d l at n within

module _ (d next : Device) (engine : ℕ) (c : Context) (strayed source target read after : Bool) (to from n from_page to_page : ℕ)
    (some : 0 < n) (from_within : from % 4096 + n ≤ 4096) (to_within : to % 4096 + n ≤ 4096)
    (source_page : Some from_page ≡ read_page d c.root false from) (target_page : Some to_page ≡ write_page d c.root false to)
    (apart : is_table (walk_of d c.root false to) to_page ≡ false) where
  pub copied-at-once : source ≡ read_strays d (loaded_of c) false from → target ≡ write_strays d (loaded_of c) false to → read ≡ (strayed || source) → after ≡ (read || target)
      → next ≡ put_in d (Some to_page) to (λ k. byte_in (d.words from_page) (from % 4096 + k)) n
      → stepping next engine c after ≡ row_moved (stepping d engine c strayed) to from n
  copied-at-once source_is target_is read_is after_is next_is =
      let bytes : ℕ → ℕ = λ k. byte_in (d.words from_page) (from % 4096 + k) in
      span-put (stepping d engine c read) to bytes (Some to_page) target_page n next after some to_within (inr apart) next_is (after_is ∙ ap (λ b. read || b) target_is)
      ∙ ap (λ b. bytes_stored (stepping d engine c b) to bytes n) (read_is ∙ ap (λ b. strayed || b) (source_is ∙ sym (bytes_stray-all d (loaded_of c) from n some from_within)))
      ∙ bytes_stored-same (stepping d engine c (strayed || bytes_stray d (loaded_of c) from n)) to bytes (λ k. byte_at d c.root false (from + k)) n
      (λ k h. sym (byte-there d c.root from k (omega arith) from_page source_page))
