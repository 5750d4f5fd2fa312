use Rattle.std.proofs.Common.{◌≡◌, ◌<◌, Err, ◌∙◌, arith}
use Rattle.gv_types.specs.declared.reply.Stop.TheVariants.{DeviceFault, OutOfMemory}
use Rattle.gv_vgpu.specs.Owners.{is_here}
use Rattle.gv_vgpu.proofs.Loads.{load-stops, loads-of, put-is, put-keeps}
use Rattle.gv_vgpu.proofs.Announced.{room-for-window, root-small}
use Rattle.gv_vgpu.proofs.Unsubmitted.{element-loads}
use Rattle.gv_vgpu.proofs.vgpu.Vgpu.put_to_work.Goals as goal

pub overflow_cast-root : goal.overflow_cast-root
overflow_cast-root g c =
    let small : c.args.image.now.root < 16384 = root-small (g.G.Gpu.state c.args.gpu.now) c.args.self.now.gtt c.requires.holds.translates.serving.stands c.args.image.now.root c.requires.root in
    omega arith

pub load-requires-clause-room : goal.load-requires-clause-room
load-requires-clause-room g c = room-for-window (g.G.Gpu.state c.args.gpu.now) c.args.self.now.gtt c.requires.holds.translates.serving.stands c.requires.room

pub returns-in-Ok-clause-device : goal.returns-in-Ok-clause-device
returns-in-Ok-clause-device g c =
    let d = g.G.Gpu.state c.args.gpu.now in
    let e = g.G.Gpu.state c.load.new.gpu in
    let now = c.in-Ok.ensures in
    let put = c.put_element.ensures in
    put-is d e c.args.self.now c.put_element.new.self (is_here c.args.here) c.args.engine.0 c.shadow_root-shadow_root.result c.args.image.now c.args.program.now.ring.items c.args.program.now.batches.items c.in-Ok.element c.requires.holds
    c.requires.room c.requires.engine c.requires.own c.requires.none c.requires.list c.requires.awake c.requires.image c.requires.root c.shadow_root-shadow_root.ensures c.requires.items
    (loads-of d e c.guest-guest.result.0 c.args.engine.0 c.shadow_root-shadow_root.result c.args.image.now c.args.program.now.ring.items c.args.program.now.batches.items c.in-Ok.element (c.guest-guest.ensures ∙ c.requires.holds.number) now.begins now.shows now.window now.root now.tail now.live now.outside now.registers)
    put.own put.others put.gtt put.mmio put.failsafe

pub returns-in-Ok-clause-keeps : goal.returns-in-Ok-clause-keeps
returns-in-Ok-clause-keeps g c =
    let d = g.G.Gpu.state c.args.gpu.now in
    let e = g.G.Gpu.state c.load.new.gpu in
    let now = c.in-Ok.ensures in
    let put = c.put_element.ensures in
    put-keeps d e c.args.self.now c.put_element.new.self (is_here c.args.here) c.args.engine.0 c.shadow_root-shadow_root.result c.args.image.now c.args.program.now.ring.items c.args.program.now.batches.items c.in-Ok.element c.requires.holds
    c.requires.room c.requires.engine c.requires.own c.requires.none c.requires.list c.requires.awake c.requires.image c.requires.root c.shadow_root-shadow_root.ensures c.requires.items
    (loads-of d e c.guest-guest.result.0 c.args.engine.0 c.shadow_root-shadow_root.result c.args.image.now c.args.program.now.ring.items c.args.program.now.batches.items c.in-Ok.element (c.guest-guest.ensures ∙ c.requires.holds.number) now.begins now.shows now.window now.root now.tail now.live now.outside now.registers)
    put.own put.others put.gtt put.mmio put.failsafe

pub returns-in-Err-OutOfMemory-clause-stops : goal.returns-in-Err-OutOfMemory-clause-stops
returns-in-Err-OutOfMemory-clause-stops g c =
    load-stops (is_here c.args.here) (g.G.Gpu.state c.args.gpu.now) (g.G.Gpu.state c.load.new.gpu) c.args.self.now c.guest-guest.result.0 c.args.engine.0 OutOfMemory (c.guest-guest.ensures ∙ c.requires.holds.number)
    c.requires.engine c.requires.own c.in-Err-OutOfMemory.ensures.unchanged (λ (is : OutOfMemory ≡ DeviceFault). absurd cc)
    (λ is. c.in-Err-OutOfMemory.ensures.memory (λ i. Err (c.in-Err-OutOfMemory.field-0-is i)))

pub returns-in-Err-GpuFailed-clause-stops : goal.returns-in-Err-GpuFailed-clause-stops
returns-in-Err-GpuFailed-clause-stops g c =
    load-stops (is_here c.args.here) (g.G.Gpu.state c.args.gpu.now) (g.G.Gpu.state c.load.new.gpu) c.args.self.now c.guest-guest.result.0 c.args.engine.0 DeviceFault (c.guest-guest.ensures ∙ c.requires.holds.number)
    c.requires.engine c.requires.own c.in-Err-GpuFailed.ensures.unchanged (λ is. c.in-Err-GpuFailed.ensures.cause (λ i. Err (c.in-Err-GpuFailed.field-0-is i)))
    (λ (is : DeviceFault ≡ OutOfMemory). absurd cc)

pub returns-in-Ok-clause-ready : goal.returns-in-Ok-clause-ready
returns-in-Ok-clause-ready g c =
    let now = c.in-Ok.ensures in
    element-loads c.guest-guest.result.0 c.args.engine.0 c.in-Ok.element.window.pages (g.G.Gpu.state c.args.gpu.now) (g.G.Gpu.state c.load.new.gpu) now.outside now.registers now.room
