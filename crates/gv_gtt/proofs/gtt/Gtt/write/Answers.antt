use Rattle.std.proofs.Common.{ℕ, ◌+◌, ◌≤◌, ◌/◌, List, length, ap, sym, subst, ◌∙◌}
use Rattle.gv_entry.specs.Tables.{has_bad_entry}
use Rattle.gv_guest.specs.Placed.{Placed}
use Rattle.gv_gtt.specs.Gtt.{memory_of}
use Rattle.gv_gtt.proofs.Live.{levels-nodes, same-nodes}
use Rattle.gv_gtt.proofs.Results.{on-ok-two, on-ok-three}
use Rattle.gv_gtt.proofs.Steps.{frames-changes}
use Rattle.gv_gtt.proofs.Words.{good}
use Rattle.gv_gtt.proofs.gtt.Gtt.write.Goals as goal

pub returns-then-is_in_table-clause-good : goal.returns-then-is_in_table-clause-good
returns-then-is_in_table-clause-good g c =
    let w = c.write_table in
    let e = g.G.Gpu.state w.new.gpu in
    on-ok-two w.result w.ensures.translates w.ensures.roots (λ t same. ap (λ (r : List ℕ). has_bad_entry (memory_of e w.new.self) r) (sym same) ∙ good e w.new.self t)

pub returns-then-is_in_table-clause-pokes : goal.returns-then-is_in_table-clause-pokes
returns-then-is_in_table-clause-pokes g c =
    let w = c.write_table in
    let self = c.args.self.now in
    let d = g.G.Gpu.state c.args.gpu.now in
    let e = g.G.Gpu.state w.new.gpu in
    on-ok-three w.result w.ensures.translates w.ensures.roots w.ensures.pokes (λ t same few live.
    subst (λ n. e.pokes ≤ d.pokes + (1 + n)) (levels-nodes d self c.requires.translates (c.args.at / 4096))
    (few (same-nodes d e self w.new.self c.requires.translates t (ap (λ (f : Placed). length f.pages) w.ensures.changes.frames) same live)))

pub returns-else-is_in_table-clause-good : goal.returns-else-is_in_table-clause-good
returns-else-is_in_table-clause-good g c = good (g.G.Gpu.state c.write_beside.new.gpu) c.args.self.now c.write_beside.ensures.translates

pub returns-else-is_in_table-clause-changes : goal.returns-else-is_in_table-clause-changes
returns-else-is_in_table-clause-changes g c = frames-changes 1 (g.G.Gpu.state c.args.gpu.now) (g.G.Gpu.state c.write_beside.new.gpu) c.args.self.now c.write_beside.ensures.changes
