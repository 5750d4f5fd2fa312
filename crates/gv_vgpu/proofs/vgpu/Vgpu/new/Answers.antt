use Rattle.std.proofs.Common.{refl, false}
use Rattle.gv_private.specs.Device.{new_device}
use Rattle.gv_vgpu.proofs.First.{first-device, first-holds, first-own, idle-same, windows-same}
use Rattle.gv_vgpu.proofs.vgpu.Vgpu.new.Goals as goal

pub returns-clause-device : goal.returns-clause-device
returns-clause-device g c = λ here idle.
    first-device (g.G.Gpu.state c.new.new.gpu) (record { gtt = c.in_ok-gtt.gtt; mmio = c.new-2.result; failsafe = false; engines = c.first_engines.result; four = c.result-1.given.0 }) here c.args.guest.0 c.args.frames c.args.ranges c.in_ok-gtt.ensures.device c.new-2.ensures.device refl c.first_engines.ensures.elements c.first_engines.ensures.zeros
    (idle-same (g.G.Gpu.state c.args.gpu.now) (g.G.Gpu.state c.new.new.gpu) c.args.guest.0 here c.in_ok-gtt.ensures.outside idle).unwritten

pub returns-clause-holds : goal.returns-clause-holds
returns-clause-holds g c = λ here idle.
    first-holds (g.G.Gpu.state c.new.new.gpu) (record { gtt = c.in_ok-gtt.gtt; mmio = c.new-2.result; failsafe = false; engines = c.first_engines.result; four = c.result-1.given.0 }) here c.args.guest.0 c.args.ranges
    (λ i. (c.in_ok-gtt.ensures.device (new_device 0 0 c.args.ranges) i).number) (λ i. (c.in_ok-gtt.ensures.device (new_device 0 0 c.args.ranges) i).ranges)
    c.new-2.ensures.guest c.new-2.ensures.ranges c.requires.parts c.requires.guest c.in_ok-gtt.ensures.translates
    (idle-same (g.G.Gpu.state c.args.gpu.now) (g.G.Gpu.state c.new.new.gpu) c.args.guest.0 here c.in_ok-gtt.ensures.outside idle)
    (windows-same (g.G.Gpu.state c.args.gpu.now) (g.G.Gpu.state c.new.new.gpu) c.args.guest.0 c.in_ok-gtt.ensures.outside c.requires.windows)
    c.first_engines.ensures.elements c.first_engines.ensures.sixteen

pub returns-clause-own : goal.returns-clause-own
returns-clause-own g c =
    first-own (record { gtt = c.in_ok-gtt.gtt; mmio = c.new-2.result; failsafe = false; engines = c.first_engines.result; four = c.result-1.given.0 }) c.args.frames c.in_ok-gtt.ensures.frames c.in_ok-gtt.ensures.none c.first_engines.ensures.elements
