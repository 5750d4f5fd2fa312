use Rattle.std.proofs.Common.{◌≡◌, ◌-◌, ◌≤◌, ℕ, get_or}
use Rattle.gv_gpu.specs.Step.{bytes_stored}
use Rattle.gv_engine.specs.Running.{stepping}
use Rattle.gv_engine.specs.Whole.{whole}
use Rattle.gv_engine.proofs.soft.SoftGpu.write_row.Given as goal

abbrev pub invariant-loop-done : goal.invariant-loop-done
invariant-loop-done l = record {
  within : l.done ≤ l.count;
  row : l.self.row ≡ l.fn.self.row;
  stored : (engine : ℕ) → stepping (whole l.self) engine l.context l.strayed ≡ bytes_stored (stepping (whole l.fn.self) engine l.context l.fn.strayed) l.to (λ k. get_or l.fn.self.row k 0) l.done;
}

abbrev pub decreases-loop-done : goal.decreases-loop-done
decreases-loop-done l = l.count - l.done
