use Rattle.std.proofs.Common.{◌≡◌, take, length}
use Rattle.gv_gpu.specs.Step.{dwords_from, dwords_stray}
use Rattle.gv_engine.specs.Soft.{loaded_of}
use Rattle.gv_engine.specs.Whole.{whole}
use Rattle.gv_engine.proofs.soft.SoftGpu.fetch_dwords.Given as goal

abbrev pub invariant-loop-n : goal.invariant-loop-n
invariant-loop-n l = record {
  long : length l.words ≡ 65;
  words : take l.n l.words ≡ dwords_from (whole l.self) l.context.root l.global l.at l.n;
  strayed : l.strayed ≡ dwords_stray (whole l.self) (loaded_of l.context) l.global l.at l.n;
}
