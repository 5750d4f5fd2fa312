use Rattle.std.proofs.Common.{◌≡◌, ℕ, ◌+◌, ◌*◌, ◌^◌, ◌<◌, get_or}
use Rattle.std.specs.Prelude.{IsSome}
use Rattle.gv_sring.specs.Packing.{packed_into}
use Rattle.gv_sring.proofs.pack.pack.Given as goal

abbrev pub invariant-loop-j : goal.invariant-loop-j
invariant-loop-j g l = record {
  live : IsSome ((g.G.Gpu.state l.gpu).label l.page);
  device : g.G.Gpu.state l.gpu ≡ packed_into (g.G.Gpu.state l.initial.gpu) l.page l.words (512 * l.part) l.j;
  small : (k : ℕ) → k < 2 * l.j → get_or l.words (1024 * l.part + k) 0 < 2 ^ 32;
}
