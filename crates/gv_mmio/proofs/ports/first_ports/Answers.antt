use Rattle.std.proofs.Common.{◌≡◌, ℕ, zero, suc, refl, ◌∷◌, [], List, ap, ◌∙◌}
use Rattle.gv_mmio.specs.Ports.{no_ports, ports_in}
use Rattle.gv_mmio.specs.declared.ports.Ports.{Ports}
use Rattle.gv_mmio.proofs.ports.first_ports.Goals as goal

four : (engine : ℕ) → ports_in (no_ports ∷ no_ports ∷ no_ports ∷ no_ports ∷ []) engine ≡ no_ports
four zero = refl
four (suc zero) = refl
four (suc (suc zero)) = refl
four (suc (suc (suc zero))) = refl
four (suc (suc (suc (suc n)))) = refl

pub returns-clause-ports : goal.returns-clause-ports
returns-clause-ports c = λ engine.
    ap (λ (l : List Ports). ports_in l engine) (λ i. c.new.ensures i ∷ c.new-2.ensures i ∷ c.new-3.ensures i ∷ c.new-4.ensures i ∷ []) ∙ four engine
