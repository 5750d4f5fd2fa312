use Rattle.std.proofs.Common.{◌≡◌, ◌<◌, length, ap, sym, ◌∙◌, subst, arith}
use Rattle.std.proofs.lemmas.List.{get_or_read}
use Rattle.std.proofs.lemmas.Grind.{common_steps}
use Rattle.gv_types.specs.Maps.{put}
use Rattle.gv_types.specs.Memory.{zero_words, length-zero_words}
use Rattle.gv_gpu.specs.Device.{Device}
use Rattle.gv_gpu.specs.Change.{ChangesOnly}
use Rattle.gv_gpu.specs.Part.{frames_part}
use Rattle.gv_guest.specs.Placed.{Placed, Hosts, memory_in}
use Rattle.gv_guest.proofs.Moved.{stands-after, memory-after, changes-after}
use Rattle.gv_guest.proofs.frames.Frames.move_page.Goals as goal

pub copy_words-requires-clause-to_long : goal.copy_words-requires-clause-to_long
copy_words-requires-clause-to_long g c =
    let added : (g.G.Gpu.state c.add_page.new.self).words c.in_ok-page.page ≡ put (g.G.Gpu.state c.args.gpu.now).words c.in_ok-page.page zero_words c.in_ok-page.page = ap (λ (x : Device). x.words c.in_ok-page.page) c.in_ok-page.ensures.ok in
    let long = length-zero_words in
    grind (arith, common_steps)

pub returns-clause-memory : goal.returns-clause-memory
returns-clause-memory g c =
    let d = g.G.Gpu.state c.args.gpu.now in
    let placed : Placed = record { guest = c.self.inside.guest.0; pages = c.self.inside.pages.items } in
    let stands = subst (λ (p : Placed). Hosts d p) (sym c.self.view_is) c.requires.stands in
    let within = subst (λ (p : Placed). c.args.frame < length p.pages) (sym c.self.view_is) c.requires.within in
    let given = c.in_ok-page.ensures in
    memory-after d (g.G.Gpu.state c.add_page.new.self) (g.G.Gpu.state c.copy_words.new.gpu) (g.G.Gpu.state c.release.new.self) placed c.args.frame c.in_ok-page.page c.index-old.result.now stands within (get_or_read c.self.inside.pages.items c.args.frame _ within c.index-old.ensures 0) given.fresh given.empty given.below given.ok c.copy_words.ensures c.release.ensures
    ∙ ap (memory_in d) c.self.view_is

pub returns-clause-stands : goal.returns-clause-stands
returns-clause-stands g c =
    let d = g.G.Gpu.state c.args.gpu.now in
    let placed : Placed = record { guest = c.self.inside.guest.0; pages = c.self.inside.pages.items } in
    let stands = subst (λ (p : Placed). Hosts d p) (sym c.self.view_is) c.requires.stands in
    let within = subst (λ (p : Placed). c.args.frame < length p.pages) (sym c.self.view_is) c.requires.within in
    let given = c.in_ok-page.ensures in
    stands-after d (g.G.Gpu.state c.add_page.new.self) (g.G.Gpu.state c.copy_words.new.gpu) (g.G.Gpu.state c.release.new.self) placed c.args.frame c.in_ok-page.page c.index-old.result.now stands within (get_or_read c.self.inside.pages.items c.args.frame _ within c.index-old.ensures 0) given.fresh given.empty given.below given.ok c.copy_words.ensures c.release.ensures

pub returns-clause-changes : goal.returns-clause-changes
returns-clause-changes g c =
    let d = g.G.Gpu.state c.args.gpu.now in
    let placed : Placed = record { guest = c.self.inside.guest.0; pages = c.self.inside.pages.items } in
    let stands = subst (λ (p : Placed). Hosts d p) (sym c.self.view_is) c.requires.stands in
    let within = subst (λ (p : Placed). c.args.frame < length p.pages) (sym c.self.view_is) c.requires.within in
    let given = c.in_ok-page.ensures in
    subst (λ (p : Placed). ChangesOnly (frames_part p.guest) 512 d (g.G.Gpu.state c.release.new.self)) c.self.view_is
    (changes-after d (g.G.Gpu.state c.add_page.new.self) (g.G.Gpu.state c.copy_words.new.gpu) (g.G.Gpu.state c.release.new.self) placed c.args.frame c.in_ok-page.page c.index-old.result.now stands within (get_or_read c.self.inside.pages.items c.args.frame _ within c.index-old.ensures 0) given.fresh given.empty given.below given.ok c.copy_words.ensures c.release.ensures)
