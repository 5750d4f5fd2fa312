-- What a call leaves of the copies that elements at work run from.
use Rattle.std.specs.Prelude.{◌≡◌, ℕ, ◌<◌, ◌≤◌, Some, length}
use Rattle.gv_element.specs.Works.{Held}
use Rattle.gv_gpu.specs.Device.{Device}
use Rattle.gv_sring.specs.Window.{Window, page_at}
use Rattle.gv_vgpu.specs.Vgpu.{engine_at}
use Rattle.gv_vgpu.specs.declared.vgpu.Vgpu.{Vgpu}

-- The copies of a ring and of its batches, which are a window's pages behind the two of its shadow image, have the words
-- that they had.
abbrev pub KeepsCopies : Window → Device → Device → Type 0
KeepsCopies w d e = (k : ℕ) → 2 ≤ k → k < length w.pages → e.words (page_at w k) ≡ d.words (page_at w k)

-- No element comes: one that is at work afterwards was so before, with the same copies.
abbrev pub NoneComes : Device → Device → Vgpu → Vgpu → Type 0
NoneComes d e old new = (engine : ℕ) (x : Held) → (engine_at new engine).element ≡ Some x → ((engine_at old engine).element ≡ Some x) × KeepsCopies x.window d e

-- An engine that has an element before and afterwards has the same one, with the same copies.
abbrev pub CopiesStay : Device → Device → Vgpu → Vgpu → Type 0
CopiesStay d e old new = (engine : ℕ) (x y : Held) → (engine_at old engine).element ≡ Some x → (engine_at new engine).element ≡ Some y → (y ≡ x) × KeepsCopies x.window d e
