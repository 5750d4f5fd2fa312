use Rattle.std.proofs.Common.{ℕ, ◌≡◌, ◌<◌, false, length}
use Rattle.gv_sppgtt.specs.Sound.{flag}
use Rattle.gv_sppgtt.proofs.tables.Tables.forget.Given as goal

-- no frame before this one is told to be guarded
abbrev pub invariant-loop-frame : goal.invariant-loop-frame
invariant-loop-frame l = record {
  none : (f : ℕ) → f < l.frame → flag l.self.told.items f ≡ false;
  long : length l.self.told.items ≡ length l.fn.self.told.items;
  nodes : l.self.nodes ≡ l.fn.self.nodes;
  owners : l.self.owners ≡ l.fn.self.owners;
  chains : l.self.chains ≡ l.fn.self.chains;
  guest : l.self.guest ≡ l.fn.self.guest;
}
