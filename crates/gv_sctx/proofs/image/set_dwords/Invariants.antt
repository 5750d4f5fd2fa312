use Rattle.std.proofs.Common.{◌≡◌, drop}
use Rattle.std.specs.Prelude.{IsSome}
use Rattle.gv_sctx.specs.Image.{dwords_poked, AreDwords}
use Rattle.gv_sctx.proofs.image.set_dwords.Given as goal

abbrev pub invariant-loop-n : goal.invariant-loop-n
invariant-loop-n g l = record {
  live : IsSome ((g.G.Gpu.state l.gpu).label l.page);
  within : AreDwords (drop l.n-index l.dwords);
  ahead : dwords_poked (g.G.Gpu.state l.gpu) l.page (drop l.n-index l.dwords) ≡ dwords_poked (g.G.Gpu.state l.initial.gpu) l.page l.dwords;
}
