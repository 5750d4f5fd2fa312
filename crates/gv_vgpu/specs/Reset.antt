-- Resets of engines, as far as they aren't kept in registers and ports.
use Rattle.std.specs.Prelude.{◌≡◌, ◌≢◌, ℕ, ◌-◌, ◌==◌, ◌&&◌, nat_lt, if◌then◌else◌, Bool, true, false, List, [], Option, None, Some, length, ◌<◌, replicate, ⊤}
use Rattle.gv_types.specs.Maps.{put}
use Rattle.gv_element.specs.Works.{Held, Rests}
use Rattle.gv_gpu.specs.Context.{stopped}
use Rattle.gv_gpu.specs.Device.{Device}
use Rattle.gv_gpu.specs.Part.{Part, guest_part, outside, is_in_window, is_named, is_shadow_of, window_part, shadow_label}
use Rattle.gv_gtt.specs.Gtt.{gtt_part, memory_of, number_of, ranges_of}
use Rattle.gv_gtt.specs.Standing.{Translates}
use Rattle.gv_private.specs.Registers.{is_named as named_at}
use Rattle.gv_sring.specs.Window.{WindowIsAbsent, page_at}
use Rattle.gv_vgpu.specs.Changes.{LiveMoves, held_on, own_live}
use Rattle.gv_vgpu.specs.Copies.{NoneComes}
use Rattle.gv_vgpu.specs.Vgpu.{element_in, engine_at}
use Rattle.gv_vgpu.specs.Standing.{Occupies, StandsOn}
use Rattle.gv_vgpu.specs.declared.engine.Engine.{Engine}
use Rattle.gv_vgpu.specs.declared.vgpu.Vgpu.{Vgpu}

-- the device with zeros for the sixteen general registers of an engine
abbrev pub general_zeroed : Device → ℕ → Device
general_zeroed d engine = record d { general = put d.general engine (λ n. if nat_lt n 16 then 0 else d.general engine n) }

-- without an element, and with zeros for general registers
abbrev pub zero_engine : Engine
zero_engine = record { element = None; kept = replicate 16 0 }

-- what an engine's reset changes of the device: the window's entries and these pages of it, and the engine, where the
-- guest owns it
abbrev pub reset_part : ℕ → ℕ → Bool → List ℕ → Part
reset_part guest engine here own = record { page = λ n l. is_named own n && is_shadow_of guest l; entry = λ i. is_in_window guest engine i; engine = λ e. (e == engine) && here; spare = false }

-- An engine was reset: it has no element, its window is absent, and if the guest owns it no context is loaded there, and
-- its registers are zeros. Nothing else changed of the guest's device, and of the shared one nothing but the pages of
-- that window, of which none is another window's, a shadow table's or a frame.
pub record IsReset (here : ℕ → Bool) (engine : ℕ) (d e : Device) (old new : Vgpu) : Type 0 where
  pub gtt : new.gtt ≡ old.gtt
  pub mmio : new.mmio ≡ old.mmio
  pub failsafe : new.failsafe ≡ old.failsafe
  pub own : engine_at new engine ≡ zero_engine
  pub others : (k : ℕ) → k ≢ engine → engine_at new k ≡ engine_at old k
  pub window : WindowIsAbsent e (number_of old.gtt) engine
  pub idle : here engine ≡ true → e.loaded engine ≡ None
  pub general : here engine ≡ true → (n : ℕ) → e.general engine n ≡ 0
  pub pages : List ℕ
  pub outside : outside (reset_part (number_of old.gtt) engine (here engine) []) e ≡ outside (reset_part (number_of old.gtt) engine (here engine) pages) d
  pub apart : (k : ℕ) (y : Held) → k ≢ engine → (engine_at old k).element ≡ Some y → (j : ℕ) → j < length y.window.pages → is_named pages (page_at y.window j) ≡ false
  pub beside : (n : ℕ) → is_named pages n ≡ true → (gtt_part old.gtt).page n (Some (shadow_label (number_of old.gtt))) ≡ false
  pub live : e.live ≡ d.live - held_on old engine

-- ---- the reset of some engines

-- These engines were reset, and nothing else of the guest's device changed: it occupies its part of the shared one as
-- before, and an engine that wasn't reset stands if it stood, with the copies of its element as they were.
pub record AreReset (named here : ℕ → Bool) (d e : Device) (old new : Vgpu) : Type 0 where
  pub gtt : new.gtt ≡ old.gtt
  pub mmio : new.mmio ≡ old.mmio
  pub failsafe : new.failsafe ≡ old.failsafe
  pub own : (k : ℕ) → k < 4 → named k ≡ true → engine_at new k ≡ zero_engine
  pub others : (k : ℕ) → named k ≡ false → engine_at new k ≡ engine_at old k
  pub zeros : (k n : ℕ) → named k ≡ true → here k ≡ true → e.general k n ≡ 0
  pub registers : (k : ℕ) → named k ≡ false → e.general k ≡ d.general k
  pub work : (k : ℕ) → k < 4 → named k ≡ false → element_in e (number_of old.gtt) k (here k) (engine_at old k).element ≡ element_in d (number_of old.gtt) k (here k) (engine_at old k).element
  pub stands : (k : ℕ) → k < 4 → named k ≡ false → StandsOn d old k (here k) (engine_at old k).element → StandsOn e new k (here k) (engine_at new k).element
  pub occupies : Occupies e new here
  pub translates : Translates d old.gtt → Translates e new.gtt
  pub memory : memory_of e old.gtt ≡ memory_of d old.gtt
  pub outside : outside (guest_part (number_of old.gtt) (ranges_of old.gtt) here) e ≡ outside (guest_part (number_of old.gtt) (ranges_of old.gtt) here) d
  pub live : LiveMoves d e (own_live old) (own_live new)
  pub copies : NoneComes d e old new

-- the first so many engines
abbrev pub are_below : ℕ → ℕ → Bool
are_below n k = nat_lt k n

-- those of them that are named
abbrev pub are_named_below : List Bool → ℕ → ℕ → Bool
are_named_below named n k = nat_lt k n && named_at named k

-- ---- step by step

-- an element stands in the window of its engine, if there is one
abbrev pub IsOn : ℕ → Option Held → Type 0
IsOn engine None = ⊤
IsOn engine (Some x) = x.window.engine ≡ engine

-- the device without the context of an element, and with zeros for general registers
abbrev pub taken_off : Device → ℕ → Option Held → Device
taken_off d engine None = general_zeroed d engine
taken_off d engine (Some x) = general_zeroed (stopped d engine) engine

-- The context of an element isn't loaded.
abbrev pub RestsIf : Device → Option Held → Type 0
RestsIf d None = ⊤
RestsIf d (Some x) = Rests d x.window

-- the element was taken away with its window
pub record IsGone (d e : Device) (x : Held) : Type 0 where
  pub absent : WindowIsAbsent e x.window.guest x.window.engine
  pub live : e.live ≡ d.live - length x.window.pages
  pub outside : outside (window_part x.window.guest x.window.engine []) e ≡ outside (window_part x.window.guest x.window.engine x.window.pages) d

-- and so it was, if there was one
abbrev pub IsGoneIf : Device → Device → Option Held → Type 0
IsGoneIf d e None = e ≡ d
IsGoneIf d e (Some x) = IsGone d e x
