use Rattle.std.proofs.Common.{ℕ, ◌≡◌, None, length, refl}
use Rattle.gv_sppgtt.specs.State.{pages_of}
use Rattle.gv_sppgtt.proofs.Kept.{keeps_trans}
use Rattle.gv_sppgtt.proofs.Clearing.{are-none, none-within}
use Rattle.gv_sppgtt.proofs.tables.Tables.drop_all.Goals as goal

pub drop_level-requires-clause-top : goal.drop_level-requires-clause-top
drop_level-requires-clause-top g c frame other = absurd (other refl)

-- the levels above a split table's have gone before
pub drop_level-requires-6-clause-top : goal.drop_level-requires-6-clause-top
drop_level-requires-6-clause-top g c frame other =
    let d = c.drop_level-3 in
    let e = c.drop_level-4 in
    let f = c.drop_level-5 in
    none-within (pages_of f.new.self) (pages_of e.new.self) f.ensures.within 2 frame (none-within (pages_of e.new.self) (pages_of d.new.self) e.ensures.within 2 frame (d.ensures.none frame))

pub returns-clause-none : goal.returns-clause-none
returns-clause-none g c =
    let a = c.drop_level in
    let b = c.drop_level-2 in
    let d = c.drop_level-3 in
    let e = c.drop_level-4 in
    let f = c.drop_level-5 in
    let z = c.drop_level-6 in
    let p = pages_of z.new.self in
    let last = λ (k x : ℕ) (none : pages_of f.new.self k x ≡ None). none-within p (pages_of f.new.self) z.ensures.within k x none in
    let fifth = λ (k x : ℕ) (none : pages_of e.new.self k x ≡ None). last k x (none-within (pages_of f.new.self) (pages_of e.new.self) f.ensures.within k x none) in
    let fourth = λ (k x : ℕ) (none : pages_of d.new.self k x ≡ None). fifth k x (none-within (pages_of e.new.self) (pages_of d.new.self) e.ensures.within k x none) in
    let third = λ (k x : ℕ) (none : pages_of b.new.self k x ≡ None). fourth k x (none-within (pages_of d.new.self) (pages_of b.new.self) d.ensures.within k x none) in
    let second = λ (k x : ℕ) (none : pages_of a.new.self k x ≡ None). third k x (none-within (pages_of b.new.self) (pages_of a.new.self) b.ensures.within k x none) in
    are-none (length c.args.frames.now.pages) p (λ k x q is. (z.ensures.holds.sound.boarded.low k x q is).1)
    (λ x. fifth 1 x (e.ensures.none x)) (λ x. fourth 2 x (d.ensures.none x)) (λ x. third 3 x (b.ensures.none x)) (λ x. second 4 x (a.ensures.none x)) (λ x. last 5 x (f.ensures.none x)) z.ensures.none

pub returns-clause-keeps : goal.returns-clause-keeps
returns-clause-keeps g c =
    let placed = c.args.frames.now in
    let d = g.G.Gpu.state c.args.gpu.now in
    let one = g.G.Gpu.state c.drop_level.new.gpu in
    let two = g.G.Gpu.state c.drop_level-2.new.gpu in
    let three = g.G.Gpu.state c.drop_level-3.new.gpu in
    let four = g.G.Gpu.state c.drop_level-4.new.gpu in
    let five = g.G.Gpu.state c.drop_level-5.new.gpu in
    let six = g.G.Gpu.state c.drop_level-6.new.gpu in
    let t = c.args.self.now in
    let p = c.args.pins.now in
    keeps_trans placed d five six t c.drop_level-5.new.self c.drop_level-6.new.self p c.drop_level-5.new.pins c.drop_level-6.new.pins
    (keeps_trans placed d four five t c.drop_level-4.new.self c.drop_level-5.new.self p c.drop_level-4.new.pins c.drop_level-5.new.pins
    (keeps_trans placed d three four t c.drop_level-3.new.self c.drop_level-4.new.self p c.drop_level-3.new.pins c.drop_level-4.new.pins
    (keeps_trans placed d two three t c.drop_level-2.new.self c.drop_level-3.new.self p c.drop_level-2.new.pins c.drop_level-3.new.pins
    (keeps_trans placed d one two t c.drop_level.new.self c.drop_level-2.new.self p c.drop_level.new.pins c.drop_level-2.new.pins c.drop_level.ensures.keeps c.drop_level-2.ensures.keeps)
    c.drop_level-3.ensures.keeps) c.drop_level-4.ensures.keeps) c.drop_level-5.ensures.keeps) c.drop_level-6.ensures.keeps
