use Rattle.std.proofs.Common.{Result, Ok, Err}
use Rattle.std.specs.Prelude.{IfOk}
use Rattle.gv_element.proofs.Scans.{scanned-loads}
use Rattle.gv_copies.proofs.element.program.Goals as goal

where-ok : {A E : Type 0} (P Q : A → Type 0) (r : Result A E) → IfOk r P → ((x : A) → P x → Q x) → IfOk r Q
where-ok P Q (Ok x) p then = then x p
where-ok P Q (Err e) p then = tt

pub returns-clause-runs : goal.returns-clause-runs
returns-clause-runs c = where-ok _ _ c.scan.result c.scan.ensures.items (λ p scanned. record { items = scanned.items; program = scanned-loads _ 1 c.image.result p.ring.items p.batches.items c.image.ensures scanned })
