use Rattle.std.proofs.Common.{◌≡◌, ◌+◌, ◌≤◌, ◌∷◌, ◌++◌, [], length, ap, sym, subst, ◌∙◌, arith}
use Rattle.gv_gpu.specs.Device.{Device, released, with_global}
use Rattle.gv_gpu.specs.Part.{outside, window_part}
use Rattle.gv_sring.specs.Window.{Window, Shows, first_of, slot_of}
use Rattle.gv_sring.proofs.Windows.{longer, shows-dropped, dropped-outside}
use Rattle.gv_sring.proofs.pages.Pages.drop_all.Goals as goal

pub pages-preserved : goal.pages-preserved
pages-preserved g c =
    let d = g.G.Gpu.state c.pages.gpu in
    let v = c.args.self in
    let w : Window = record v { pages = c.pop.new.self.items } in
    let page = c.in-Some.page in
    let items : c.pages.pages.items ≡ w.pages ++ page ∷ [] = c.in-Some.ensures.items in
    let shows : Shows d (record w { pages = w.pages ++ page ∷ [] }) = subst (λ ps. Shows d (record w { pages = ps })) items c.pages.invariant.shows in
    let small : w.tail ≤ 65536 = subst (λ (x : Window). x.tail ≤ 65536) c.self.view_is c.self.invariant.2 in
    let first : c.first_of_window-first.result ≡ first_of w = c.first_of_window-first.ensures ∙ ap (λ (x : Window). first_of x) c.self.view_is in
    let slot : c.slot_of.result ≡ slot_of w.tail (length w.pages) = c.slot_of.ensures.slot ∙ ap (slot_of c.self.inside.tail) (c.len.ensures ∙ c.pop.new.self.ok.0) ∙ ap (λ (x : Window). slot_of x.tail (length w.pages)) c.self.view_is in
    let device : g.G.Gpu.state c.release.new.self ≡ released (with_global d (first_of w + slot_of w.tail (length w.pages)) 0) page =
    c.release.ensures ∙ ap (λ e. released e page) (c.set_global.ensures ∙ ap (λ n. with_global d (n + c.slot_of.result) 0) first ∙ ap (λ n. with_global d (first_of w + n) 0) slot) in
    let more = longer w.pages page in
    let long = ap length items in
    record {
      shows = subst (λ e. Shows e w) (sym device) (shows-dropped d w page small shows);
      outside = ap (outside (window_part w.guest w.engine w.pages)) device ∙ dropped-outside d w page small shows
          ∙ sym (ap (λ ps. outside (window_part w.guest w.engine ps) d) items) ∙ c.pages.invariant.outside;
      within = let n = c.pages.invariant.within in omega arith;
      live = let live = ap (λ (e : Device). e.live) device in let was = c.pages.invariant.live in let n = c.pages.invariant.within in omega arith;
    }
