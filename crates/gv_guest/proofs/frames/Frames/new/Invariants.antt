use Rattle.std.proofs.Common.{◌≡◌, ◌+◌, ◌≤◌, vec_len, vec_capacity}
use Rattle.gv_types.specs.Memory.{zero_memory}
use Rattle.gv_gpu.specs.Part.{outside, frames_part}
use Rattle.gv_guest.specs.Placed.{Placed, Hosts, memory_in}
use Rattle.gv_guest.proofs.frames.Frames.new.Given as goal

abbrev pub invariant-loop-frame : goal.invariant-loop-frame
invariant-loop-frame g l =
    let now = g.G.Gpu.state l.gpu in
    let start = g.G.Gpu.state l.fn.gpu in
    let placed : Placed = record { guest = l.guest.0; pages = l.pages.items } in
    record {
      stands : Hosts now placed;
      memory : memory_in now placed ≡ zero_memory l._frame;
      frames : vec_len l.pages ≡ l._frame;
      room : l.frames ≤ vec_capacity l.pages;
      live : now.live ≡ start.live + l._frame;
      outside : outside (frames_part l.guest.0) now ≡ outside (frames_part l.guest.0) start;
    }
