-- What two states of a guest's device have in common, and live pages over calls one after another.
use Rattle.std.proofs.Common.{◌≡◌, ℕ, ◌+◌, ◌≤◌, length, sym, ◌∙◌, subst, arith}
use Rattle.gv_gpu.specs.Device.{Device}
use Rattle.gv_gtt.specs.Gtt.{frames_of, nodes_in, own_pages}
use Rattle.gv_sppgtt.specs.Grown.{count_of}
use Rattle.gv_sppgtt.specs.State.{LiveFollows}
use Rattle.gv_vgpu.specs.Changes.{LiveMoves, held_on, own_live, window_pages}
use Rattle.gv_vgpu.specs.Vgpu.{engine_at}
use Rattle.gv_vgpu.specs.Standing.{AreBeside}
use Rattle.gv_vgpu.specs.declared.vgpu.Vgpu.{Vgpu}

-- the sum of a guest's pages, where frames stay and shadow tables come or go
moved : (frames after p q h d e : ℕ) → after ≡ frames → frames + p + h ≤ d → (p ≤ d → e + p ≡ d + q) → e + (frames + p + h) ≡ d + (after + q + h)
moved frames after p q h d e same enough live = let one : e + p ≡ d + q = live (omega arith) in omega arith

module _ (old new : Vgpu) (elements : (k : ℕ) → (engine_at new k).element ≡ (engine_at old k).element) where
  -- the elements' windows are apart as they were
  pub beside-same : AreBeside old → AreBeside new
  beside-same beside j k x y differ is also = beside j k x y differ (sym (elements j) ∙ is) (sym (elements k) ∙ also)

  held-same : (k : ℕ) → held_on new k ≡ held_on old k
  held-same k = λ i. window_pages (elements k i)

  -- and as many pages are live of the guest's, with the same memory and tables
  pub own-same : new.gtt ≡ old.gtt → own_live new ≡ own_live old
  own-same gtt = λ i. length (frames_of (gtt i)).pages + own_pages (gtt i) + (held-same 0 i + held-same 1 i + held-same 2 i + held-same 3 i)

  -- where memory and tables changed alone, live pages moved with the shadow tables
  pub moves-with-tables :
      (d e : Device) → length (frames_of new.gtt).pages ≡ length (frames_of old.gtt).pages → LiveFollows (length (frames_of old.gtt).pages) d e (nodes_in old.gtt) (nodes_in new.gtt) → LiveMoves d e (own_live old) (own_live new)
  moves-with-tables d e frames live enough =
      subst (λ h. e.live + own_live old ≡ d.live + (length (frames_of new.gtt).pages + own_pages new.gtt + h)) (sym windows)
      (moved (length (frames_of old.gtt).pages) (length (frames_of new.gtt).pages) (own_pages old.gtt) (own_pages new.gtt) (held_on old 0 + held_on old 1 + held_on old 2 + held_on old 3) d.live e.live frames
      enough (λ tables. live.exact tables ∙ (λ i. d.live + count_of (sym frames i) (nodes_in new.gtt))))
    where
      windows : held_on new 0 + held_on new 1 + held_on new 2 + held_on new 3 ≡ held_on old 0 + held_on old 1 + held_on old 2 + held_on old 3
      windows = λ i. held-same 0 i + held-same 1 i + held-same 2 i + held-same 3 i

pub moves-none : (d : Device) (before after : ℕ) → after ≡ before → LiveMoves d d before after
moves-none d before after same enough = λ i. d.live + sym same i

pub moves-then : (d e f : Device) (a b c : ℕ) → LiveMoves d e a b → LiveMoves e f b c → LiveMoves d f a c
moves-then d e f a b c first second enough =
    let one : e.live + a ≡ d.live + b = first enough in
    let two : f.live + b ≡ e.live + c = second (omega arith) in
    omega arith
