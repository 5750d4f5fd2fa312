use Rattle.std.proofs.Common.{◌≡◌, ◌≤◌, ◌-◌, length, vec_len}
use Rattle.gv_gpu.specs.Part.{outside, window_part}
use Rattle.gv_sring.specs.Window.{Shows}
use Rattle.gv_sring.proofs.pages.Pages.drop_all.Given as goal

abbrev pub invariant-pages : goal.invariant-pages
invariant-pages g l =
    let now = g.G.Gpu.state l.gpu in
    let start = g.G.Gpu.state l.initial.gpu in
    let w = l.fn.self in
    record {
      shows : Shows now (record w { pages = l.pages.items });
      outside : outside (window_part w.guest w.engine l.pages.items) now ≡ outside (window_part w.guest w.engine w.pages) start;
      within : length l.pages.items ≤ length w.pages;
      live : now.live ≡ start.live - (length w.pages - length l.pages.items);
    }

abbrev pub decreases-pages : goal.decreases-pages
decreases-pages g l = vec_len l.pages
