use Rattle.std.proofs.Common.{◌≡◌, ℕ, ◌+◌, ◌*◌, ◌<◌, length, slice_index}
use Rattle.gv_gtt.specs.Gtt.{over}
use Rattle.gv_private.specs.Device.{PrivateDevice}
use Rattle.gv_private.specs.Load.{global_space}
use Rattle.gv_vgpu.proofs.fetch.image_page.Given as goal

abbrev pub invariant-loop-n : goal.invariant-loop-n
invariant-loop-n g l = record {
  long : length l.dwords ≡ 1024;
  read : (p : PrivateDevice) (k : ℕ) → k < l.n → slice_index l.dwords k ≡ (global_space (over p (g.G.Gpu.state l.gpu) l.gtt)).word ((l.page + 1) * 4096 + 4 * k);
}
