use Rattle.std.proofs.Common.{◌≡◌, ◌+◌, length}
use Rattle.gv_gpu.specs.Part.{outside, window_part}
use Rattle.gv_sring.specs.Packing.{HoldsParts}
use Rattle.gv_sring.specs.Window.{Shows, Grows}
use Rattle.gv_sring.proofs.pages.Pages.add_all.Given as goal

abbrev pub invariant-loop-part : goal.invariant-loop-part
invariant-loop-part g l =
    let now = g.G.Gpu.state l.gpu in
    let start = g.G.Gpu.state l.initial.gpu in
    record {
      shows : Shows now l.self;
      grows : Grows start l.initial.self now l.self;
      count : length l.self.pages ≡ length l.initial.self.pages + l.part;
      parts : HoldsParts now l.self (length l.initial.self.pages) l.words l.part;
      outside : outside (window_part l.initial.self.guest l.initial.self.engine l.self.pages) now ≡ outside (window_part l.initial.self.guest l.initial.self.engine l.initial.self.pages) start;
    }
