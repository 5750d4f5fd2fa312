use Rattle.std.proofs.Common.{◌≡◌, ℕ, ◌+◌, cond, ◌<◌, ◌≤◌, List, Option, true, length, get_or, set, sym, ap, ◌∙◌, subst}
use Rattle.gv_types.specs.declared.ranges.Ranges.{Ranges}
use Rattle.std.proofs.lemmas.List.{get_or-set_same}
use Rattle.gv_entry.specs.Entry.{global_frame}
use Rattle.gv_entry.specs.Grants.{unless}
use Rattle.gv_entry.specs.Global.{with_entry_at}
use Rattle.gv_entry.specs.Ranges.{owns_page}
use Rattle.gv_gpu.specs.Device.{Device, with_global}
use Rattle.gv_gpu.specs.Change.{ChangesOnly}
use Rattle.gv_gpu.specs.Part.{entries_part}
use Rattle.gv_gpu.proofs.Changes.{global-changes}
use Rattle.gv_guest.proofs.Kept.{memory-entries}
use Rattle.gv_sggtt.specs.Linked.{is_frame}
use Rattle.gv_sggtt.specs.Mirror.{NamesFrame, Mirrors}
use Rattle.gv_sggtt.specs.Pins.{ChangesOwnPins}
use Rattle.gv_sggtt.specs.Table.{Table, entry_grant, guards}
use Rattle.gv_sggtt.proofs.OwnPins.{has-pins, changes-written}
use Rattle.gv_sggtt.proofs.Written.{some-live, mirrors-written}
use Rattle.gv_sggtt.proofs.table.GlobalTable.write_entry.Goals as goal

pub set_global-requires-clause-live : goal.set_global-requires-clause-live
set_global-requires-clause-live g c =
    let frames : c.self.inside.entries.frames ≡ length c.args.memory.now.frames.pages = ap (λ (t : Table). t.frames) c.self.view_is ∙ sym c.requires.frames in
    some-live (g.G.Gpu.state c.args.gpu.now) c.args.memory.now.frames c.requires.stands (subst (λ n. 1 ≤ n) frames c.self.invariant.some)

pub returns-clause-mirrors : goal.returns-clause-mirrors
returns-clause-mirrors g c =
    let inside = c.self.inside in
    let table : Table = record { ranges = inside.ranges; frames = inside.entries.frames; entries = inside.entries.values; guarded = inside.guarded.items } in
    let slot = c.in-Some.slot in
    let value = c.args.value in
    let there : slot < length table.entries = subst (λ n. slot < n) (sym c.self.invariant.whole) c.in-Some.ensures.within in
    let frame : c.frame-2.result ≡ global_frame value table.frames =
    c.frame-2.ensures
    ∙ ap (λ (entries : List ℕ). global_frame (get_or entries slot 0) c.set.new.self.frames) c.set.ensures.values
    ∙ ap (λ frames. global_frame (get_or (set table.entries slot value) slot 0) frames) c.set.ensures.frames
    ∙ ap (λ entry. global_frame entry table.frames) (get_or-set_same table.entries slot value 0 there) in
    let granted : c.unguarded-frame.result ≡ entry_grant table value = c.unguarded-frame.ensures ∙ ap (λ flags. unless (guards flags) c.frame-2.result) c.deref-2.ensures.value ∙ ap (unless (guards table.guarded)) frame in
    let written : Table = record table { entries = set table.entries slot value } in
    let is : written ≡ record table { entries = c.set.new.self.values; frames = c.set.new.self.frames } = λ i. record table { entries = sym c.set.ensures.values i; frames = sym c.set.ensures.frames i } in
    let d = g.G.Gpu.state c.args.gpu.now in
    let placed = c.args.memory.now.frames in
    let after = with_global d c.args.page c.physical.result in
    let names = subst (λ (o : Option ℕ). NamesFrame placed o c.physical.result) granted c.physical.ensures in
    let before = subst (λ (t : Table). Mirrors d t placed) (sym c.self.view_is) c.requires.mirrors in
    let at = sym c.in-Some.ensures.slot in
    let mirrors = mirrors-written d table placed c.args.page slot value c.physical.result c.self.invariant at c.in-Some.ensures.within names before in
    let placed_at = subst (λ (o : Option ℕ). Mirrors after (record table { entries = with_entry_at table.entries o value }) placed) at mirrors in
    subst (λ (e : Device). Mirrors e (record table { entries = c.set.new.self.values; frames = c.set.new.self.frames }) placed) (sym c.set_global.ensures)
    (subst (λ (t : Table). Mirrors after t placed) is placed_at)

pub returns-clause-pins : goal.returns-clause-pins
returns-clause-pins g c =
    let inside = c.self.inside in
    let table : Table = record { ranges = inside.ranges; frames = inside.entries.frames; entries = inside.entries.values; guarded = inside.guarded.items } in
    let slot = c.in-Some.slot in
    let value = c.args.value in
    let there : slot < length table.entries = subst (λ n. slot < n) (sym c.self.invariant.whole) c.in-Some.ensures.within in
    let frame : c.frame-2.result ≡ global_frame value table.frames =
    c.frame-2.ensures
    ∙ ap (λ (entries : List ℕ). global_frame (get_or entries slot 0) c.set.new.self.frames) c.set.ensures.values
    ∙ ap (λ frames. global_frame (get_or (set table.entries slot value) slot 0) frames) c.set.ensures.frames
    ∙ ap (λ entry. global_frame entry table.frames) (get_or-set_same table.entries slot value 0 there) in
    let granted : c.unguarded-frame.result ≡ entry_grant table value = c.unguarded-frame.ensures ∙ ap (λ flags. unless (guards flags) c.frame-2.result) c.deref-2.ensures.value ∙ ap (unless (guards table.guarded)) frame in
    let written : Table = record table { entries = set table.entries slot value } in
    let is : written ≡ record table { entries = c.set.new.self.values; frames = c.set.new.self.frames } = λ i. record table { entries = sym c.set.ensures.values i; frames = sym c.set.ensures.frames i } in
    let pins = c.args.memory.now.pins in
    let old : c.unguarded.result ≡ entry_grant table (get_or table.entries slot 0) = c.unguarded.ensures ∙ ap (λ flags. unless (guards flags) c.frame.result) c.deref.ensures.value ∙ ap (unless (guards table.guarded)) c.frame.ensures in
    let less = subst (λ (o : Option ℕ). (k : ℕ) → get_or c.unpin.new.pins k 0 + cond (is_frame k o) 1 0 ≡ get_or pins k 0) old c.unpin.ensures.each in
    let more = subst (λ (o : Option ℕ). (k : ℕ) → get_or c.pin.new.pins k 0 ≡ get_or c.unpin.new.pins k 0 + cond (is_frame k o) 1 0) granted c.pin.ensures.each in
    let changes = changes-written table slot value there pins c.unpin.new.pins c.pin.new.pins c.unpin.ensures.frames c.pin.ensures.frames less more in
    subst (λ (t : Table). ChangesOwnPins t (record table { entries = c.set.new.self.values; frames = c.set.new.self.frames }) pins c.pin.new.pins) c.self.view_is
    (subst (λ (t : Table). ChangesOwnPins table t pins c.pin.new.pins) is changes)

pub returns-clause-pinned : goal.returns-clause-pinned
returns-clause-pinned g c =
    let inside = c.self.inside in
    let after : Table = record { ranges = inside.ranges; frames = c.set.new.self.frames; entries = c.set.new.self.values; guarded = inside.guarded.items } in
    has-pins c.args.self.now after c.args.memory.now.pins c.pin.new.pins (c.set.ensures.frames ∙ ap (λ (t : Table). t.frames) c.self.view_is) c.requires.pinned (returns-clause-pins g c)

pub returns-clause-changes : goal.returns-clause-changes
returns-clause-changes g c =
    let d = g.G.Gpu.state c.args.gpu.now in
    let part = entries_part c.args.self.now.ranges in
    let own : owns_page c.args.self.now.ranges c.args.page ≡ true = ap (λ (r : Ranges). owns_page r c.args.page) (ap (λ (t : Table). t.ranges) (sym c.self.view_is)) ∙ c.in-Some.ensures.owned in
    subst (ChangesOnly part 0 d) (sym c.set_global.ensures) (global-changes part d c.args.page c.physical.result own)

pub returns-clause-memory : goal.returns-clause-memory
returns-clause-memory g c =
    memory-entries c.args.self.now.ranges 0 (g.G.Gpu.state c.args.gpu.now) (g.G.Gpu.state c.set_global.new.self) c.args.memory.now.frames (returns-clause-changes g c) c.requires.stands
