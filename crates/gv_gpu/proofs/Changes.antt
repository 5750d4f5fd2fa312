-- Changes of parts, one after another and of larger parts, and what they leave.
use Rattle.std.proofs.Common.{◌≡◌, ℕ, ◌+◌, ◌≤◌, true, [], refl, ap, sym, ◌∙◌, arith}
use Rattle.std.proofs.lemmas.List.{append-nil}
use Rattle.gv_gpu.specs.Change.{ChangesOnly, Leaves, Ran}
use Rattle.gv_gpu.specs.Device.{Device, poked, with_global}
use Rattle.gv_gpu.specs.Part.{Part, Apart, Within, outside}
use Rattle.gv_gpu.proofs.Changed.{outside-global, outside-poked}
use Rattle.gv_gpu.proofs.Parts.{inside-kept, outside-widen}

pub changes-none : (p : Part) (n : ℕ) (d : Device) → ChangesOnly p n d d
changes-none p n d = record { outside = refl; live = refl; pokes = omega arith }

pub changes-then : {p : Part} {m n : ℕ} {d e f : Device} → ChangesOnly p m d e → ChangesOnly p n e f → ChangesOnly p (m + n) d f
changes-then first second = let a = first.pokes in let b = second.pokes in record {
  outside = second.outside ∙ first.outside;
  live = second.live ∙ first.live;
  pokes = omega arith;
}

pub changes-more : {p : Part} {m : ℕ} {d e : Device} (n : ℕ) → m ≤ n → ChangesOnly p m d e → ChangesOnly p n d e
changes-more n h changes = let a = changes.pokes in record { outside = changes.outside; live = changes.live; pokes = omega arith }

pub changes-widen : {p w : Part} {n : ℕ} {d e : Device} → Within p w → ChangesOnly p n d e → ChangesOnly w n d e
changes-widen {p} {w} {n} {d} {e} within changes = record {
  outside = outside-widen p p w d e within within changes.outside;
  live = changes.live;
  pokes = changes.pokes;
}

-- an entry of the part is set
pub global-changes : (p : Part) (d : Device) (index entry : ℕ) → p.entry index ≡ true → ChangesOnly p 0 d (with_global d index entry)
global-changes p d index entry own = record { outside = outside-global p d index entry own; live = refl; pokes = omega arith }

-- a page of the part is poked
pub poked-changes : (p : Part) (d : Device) (page index value : ℕ) → p.page page (d.label page) ≡ true → ChangesOnly p 1 d (poked d page index value)
poked-changes p d page index value own = record { outside = outside-poked p d page own index value; live = refl; pokes = omega arith }

-- What changes one part leaves each that is apart from it.
pub leaves : {p q : Part} {n : ℕ} {d e : Device} → Apart p q → ChangesOnly p n d e → Leaves q d e
leaves {p} {q} {n} {d} {e} apart changes = record { same = inside-kept p q d e apart changes.outside }

pub leaves-outside : {p q : Part} {d e : Device} → Apart p q → outside p e ≡ outside p d → Leaves q d e
leaves-outside {p} {q} {d} {e} apart same = record { same = inside-kept p q d e apart same }

pub leaves-back : {q : Part} {d e : Device} → Leaves q d e → Leaves q e d
leaves-back left = record { same = sym left.same }

-- ---- what runs, and what fails, belongs to no part

pub ran-nothing : {p : Part} {n : ℕ} {d e : Device} → ChangesOnly p n d e → Ran d e []
ran-nothing {p} {n} {d} {e} changes = record {
  journal = ap (λ (x : Device). x.journal) changes.outside ∙ sym (append-nil d.journal);
  strays = ap (λ (x : Device). x.strays) changes.outside;
}

pub faults-same : {p : Part} {n : ℕ} {d e : Device} → ChangesOnly p n d e → e.faults ≡ d.faults
faults-same changes = ap (λ (x : Device). x.faults) changes.outside
