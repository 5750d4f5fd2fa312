use Rattle.std.proofs.Common.{◌≡◌, ◌+◌, [], Result, Ok, Err, length, ap, subst, arith}
use Rattle.std.specs.Prelude.{OnOk}
use Rattle.gv_sring.specs.Packing.{HoldsPart, HoldsParts, count_of}
use Rattle.gv_sring.specs.Window.{Grows, page_at}
use Rattle.gv_sring.proofs.Windows.{grows-more, part-kept, parts-kept}
use Rattle.gv_sring.proofs.shadow.fill_window.Given.{Over}
use Rattle.gv_sring.proofs.shadow.fill_window.Goals as goal

-- what holds whatever the answer is
always : {T E P : Type 0} (r : Result T E) → P → OnOk r P
always (Ok x) p = p
always (Err e) p = tt

module _ (g : Over) (c : goal.After-add_all-2 g) where
  none : length c.args.pages.now.pages ≡ 0
  none = ap length c.requires.none

  one : length c.add.new.self.pages ≡ 1
  one = let n = none in let m = c.in_ok-add.ensures.count in omega arith

  two : length c.add-2.new.self.pages ≡ 2
  two = let n = one in let m = c.in_ok-add-2.ensures.count in omega arith

  three : length c.add_all.new.self.pages ≡ 2 + count_of c.args.ring.now
  three = let n = two in let m = c.in_ok-add_all.ensures.count in omega arith

  behind-second : Grows (g.G.Gpu.state c.add-2.new.gpu) c.add-2.new.self (g.G.Gpu.state c.add_all-2.new.gpu) c.add_all-2.new.self
  behind-second = grows-more _ _ _ _ _ _ c.add_all.ensures.grows c.add_all-2.ensures.grows

  first-there : HoldsPart (g.G.Gpu.state c.add_all-2.new.gpu) (page_at c.add_all-2.new.self 0) [] 0
  first-there = part-kept _ _ c.add.new.self c.add_all-2.new.self 0 [] 0 (grows-more _ _ _ _ _ _ c.add-2.ensures.grows behind-second) (let n = one in omega arith)
      (subst (λ k. HoldsPart (g.G.Gpu.state c.add.new.gpu) (page_at c.add.new.self k) [] 0) none c.in_ok-add.ensures.part)

  second-there : HoldsPart (g.G.Gpu.state c.add_all-2.new.gpu) (page_at c.add_all-2.new.self 1) [] 0
  second-there = part-kept _ _ c.add-2.new.self c.add_all-2.new.self 1 [] 0 behind-second (let n = two in omega arith)
      (subst (λ k. HoldsPart (g.G.Gpu.state c.add-2.new.gpu) (page_at c.add-2.new.self k) [] 0) one c.in_ok-add-2.ensures.part)

  ring-there : HoldsParts (g.G.Gpu.state c.add_all-2.new.gpu) c.add_all-2.new.self 2 c.args.ring.now (count_of c.args.ring.now)
  ring-there = parts-kept _ _ c.add_all.new.self c.add_all-2.new.self 2 c.args.ring.now (count_of c.args.ring.now) c.add_all-2.ensures.grows (let n = three in omega arith)
      (subst (λ k. HoldsParts (g.G.Gpu.state c.add_all.new.gpu) c.add_all.new.self k c.args.ring.now (count_of c.args.ring.now)) two c.in_ok-add_all.ensures.parts)

pub returns-clause-first : goal.returns-clause-first
returns-clause-first g c = always c.add_all-2.result (first-there g c)

pub returns-clause-second : goal.returns-clause-second
returns-clause-second g c = always c.add_all-2.result (second-there g c)

pub returns-clause-ring : goal.returns-clause-ring
returns-clause-ring g c = always c.add_all-2.result (ring-there g c)

pub returns-clause-batches : goal.returns-clause-batches
returns-clause-batches g c =
    subst (λ k. OnOk c.add_all-2.result (HoldsParts (g.G.Gpu.state c.add_all-2.new.gpu) c.add_all-2.new.self k c.args.batches.now (count_of c.args.batches.now))) (three g c) c.add_all-2.ensures.parts
