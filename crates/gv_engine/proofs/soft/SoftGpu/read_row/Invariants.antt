use Rattle.std.proofs.Common.{◌≡◌, ◌+◌, ◌-◌, ◌<◌, ◌≤◌, ℕ, false, get_or}
use Rattle.gv_gpu.specs.Physical.{byte_at}
use Rattle.gv_gpu.specs.Step.{bytes_stray}
use Rattle.gv_engine.specs.Soft.{loaded_of}
use Rattle.gv_engine.specs.Whole.{whole}
use Rattle.gv_engine.proofs.soft.SoftGpu.read_row.Given as goal

abbrev pub invariant-loop-done : goal.invariant-loop-done
invariant-loop-done l = record {
  within : l.done ≤ l.count;
  same : whole l.self ≡ whole l.fn.self;
  bytes : (k : ℕ) → k < l.done → get_or l.self.row k 0 ≡ byte_at (whole l.fn.self) l.context.root false (l.from + k);
  strayed : l.strayed ≡ bytes_stray (whole l.fn.self) (loaded_of l.context) l.from l.done;
}

abbrev pub decreases-loop-done : goal.decreases-loop-done
decreases-loop-done l = l.count - l.done
