use Rattle.std.proofs.Common.{◌≡◌, ℕ, ◌+◌, ◌*◌, ◌<◌, List, ◌∷◌, ◌++◌, [], length, ap, sym, subst, ◌∙◌}
use Rattle.gv_gpu.specs.Device.{Device, added, with_global}
use Rattle.gv_gpu.specs.Part.{outside, window_part, shadow_label}
use Rattle.gv_sring.specs.Packing.{packed_into, words_in}
use Rattle.gv_sring.specs.Window.{Window, Shows, Grows, first_of, slot_of, flags_of, most_pages}
use Rattle.gv_sring.proofs.Windows.{with_page, one_more, page-shows, page-grows, page-outside}
use Rattle.gv_sring.proofs.pages.Pages.add.Given.{Over}
use Rattle.gv_sring.proofs.pages.Pages.add.Goals as goal

-- the device at last, from the equation of each call
abbrev Steps : Device → Device → Device → Device → Window → ℕ → ℕ → ℕ → ℕ → List ℕ → ℕ → Type 0
Steps d one two three w page first slot entry words part =
    (one ≡ added d page (shadow_label w.guest)) × (two ≡ with_global one (first + slot) entry) × (three ≡ packed_into two page words (512 * part) (words_in words part))
    × (first ≡ first_of w) × (slot ≡ slot_of w.tail (length w.pages)) × (entry ≡ page * 4096 + flags_of (length w.pages))

reached : (d one two three : Device) (w : Window) (page first slot entry : ℕ) (words : List ℕ) (part : ℕ) → Steps d one two three w page first slot entry words part → three ≡ with_page d w page words part
reached d one two three w page first slot entry words part s =
    s.2 ∙ ap (λ x. packed_into x page words (512 * part) (words_in words part))
    (s.1 ∙ ap (λ x. with_global x (first + slot) entry) s.0
    ∙ ap (λ n. with_global (added d page (shadow_label w.guest)) (n + slot) entry) s.3
    ∙ ap (λ n. with_global (added d page (shadow_label w.guest)) (first_of w + n) entry) s.4
    ∙ ap (λ n. with_global (added d page (shadow_label w.guest)) (first_of w + slot_of w.tail (length w.pages)) n) s.5)

window : (g : Over) → goal.In_ok-push g → Window
window g c = record { guest = c.self.inside.guest.0; engine = c.self.inside.engine.0; tail = c.self.inside.tail; pages = c.self.inside.pages.items }

shows-now : (g : Over) (c : goal.In_ok-push g) → Shows (g.G.Gpu.state c.args.gpu.now) (window g c)
unfolding window
shows-now g c = subst (Shows (g.G.Gpu.state c.args.gpu.now)) (sym c.self.view_is) c.requires.shows

room-now : (g : Over) (c : goal.In_ok-push g) → length c.self.inside.pages.items < most_pages c.self.inside.tail
room-now g c = subst (λ (x : Window). length x.pages < most_pages x.tail) (sym c.self.view_is) c.requires.room

pages-then : (g : Over) (c : goal.In_ok-push g) → c.push.new.self.items ≡ c.self.inside.pages.items ++ c.in_ok-page.page ∷ []
pages-then g c = c.in_ok-push.ensures.items ∙ ap (λ xs. xs ++ c.in_ok-page.page ∷ []) c.in_ok-reserve.ensures.items

count-now : (g : Over) (c : goal.In_ok-push g) → c.len-k.result ≡ length c.self.inside.pages.items
count-now g c = c.len-k.ensures ∙ c.reserve.new.self.ok.0 ∙ ap length c.in_ok-reserve.ensures.items

device-then : (g : Over) (c : goal.In_ok-push g) → g.G.Gpu.state c.pack.new.gpu ≡ with_page (g.G.Gpu.state c.args.gpu.now) (window g c) c.in_ok-page.page c.args.words.now c.args.part
unfolding window
device-then g c =
    reached (g.G.Gpu.state c.args.gpu.now) (g.G.Gpu.state c.add_page.new.self) (g.G.Gpu.state c.set_global.new.self) (g.G.Gpu.state c.pack.new.gpu) (window g c)
    c.in_ok-page.page c.first_of_window-first.result c.slot_of.result c.entry_of.result c.args.words.now c.args.part (
      c.in_ok-page.ensures.ok,
      c.set_global.ensures,
      c.pack.ensures.device,
      c.first_of_window-first.ensures,
      c.slot_of.ensures.slot ∙ ap (slot_of c.self.inside.tail) (count-now g c),
      c.entry_of.ensures ∙ ap (λ k. c.in_ok-page.page * 4096 + flags_of k) (count-now g c),
    )

pub returns-clause-shows : goal.returns-clause-shows
unfolding window
returns-clause-shows g c =
    let d = g.G.Gpu.state c.args.gpu.now in
    let w = window g c in
    let given = c.in_ok-page.ensures in
    let page = c.in_ok-page.page in
    subst (λ ps. Shows (g.G.Gpu.state c.pack.new.gpu) (record w { pages = ps })) (sym (pages-then g c))
    (subst (λ x. Shows x (one_more w page)) (sym (device-then g c)) (page-shows d w page c.args.words.now c.args.part c.self.invariant.2 (room-now g c) (shows-now g c) given.fresh given.empty given.below))

pub returns-clause-grows : goal.returns-clause-grows
unfolding window
returns-clause-grows g c =
    let d = g.G.Gpu.state c.args.gpu.now in
    let w = window g c in
    let given = c.in_ok-page.ensures in
    let page = c.in_ok-page.page in
    subst (λ v. Grows d v (g.G.Gpu.state c.pack.new.gpu) (record w { pages = c.push.new.self.items })) c.self.view_is
    (subst (λ ps. Grows d w (g.G.Gpu.state c.pack.new.gpu) (record w { pages = ps })) (sym (pages-then g c))
    (subst (λ x. Grows d w x (one_more w page)) (sym (device-then g c)) (page-grows d w page c.args.words.now c.args.part c.self.invariant.2 (room-now g c) (shows-now g c) given.fresh given.empty given.below)))

pub returns-clause-outside : goal.returns-clause-outside
unfolding window
returns-clause-outside g c =
    let d = g.G.Gpu.state c.args.gpu.now in
    let w = window g c in
    let given = c.in_ok-page.ensures in
    let page = c.in_ok-page.page in
    subst (λ (v : Window). outside (window_part v.guest v.engine c.push.new.self.items) (g.G.Gpu.state c.pack.new.gpu) ≡ outside (window_part v.guest v.engine v.pages) d) c.self.view_is
    (ap (λ ps. outside (window_part w.guest w.engine ps) (g.G.Gpu.state c.pack.new.gpu)) (pages-then g c)
    ∙ ap (outside (window_part w.guest w.engine (w.pages ++ page ∷ []))) (device-then g c)
    ∙ page-outside d w page c.args.words.now c.args.part c.self.invariant.2 (room-now g c) (shows-now g c) given.fresh given.empty given.below)
