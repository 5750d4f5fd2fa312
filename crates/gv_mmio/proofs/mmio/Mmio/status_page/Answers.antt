use Rattle.std.proofs.Common.{◌≡◌, ℕ, zero, suc, ◌+◌, ◌/◌, ◌<◌, refl, ap, ◌∙◌, arith}
use Rattle.gv_types.specs.declared.ranges.Ranges.{Ranges}
use Rattle.gv_types.specs.Engines.{register_base}
use Rattle.gv_regs.specs.Registers.{map_of, register_read}
use Rattle.gv_regs.specs.Table.{row_at}
use Rattle.gv_mmio.proofs.mmio.Mmio.status_page.Goals as goal

kept : (engine g : ℕ) (ranges : Ranges) (map : ℕ → ℕ) → engine < 4 → register_read g ranges map (register_base engine + 0x80) ≡ map (register_base engine + 0x80)
unfolding row_at
kept zero g ranges map small = refl
kept (suc zero) g ranges map small = refl
kept (suc (suc zero)) g ranges map small = refl
kept (suc (suc (suc zero))) g ranges map small = refl
kept (suc (suc (suc (suc n)))) g ranges map small = absurd (omega arith)

pub returns-clause-value : goal.returns-clause-value
returns-clause-value c = λ p.
    let r = c.args.self.now.registers in
    ap (λ n. n / 4096) (c.read.ensures ∙ ap (register_read r.guest r.ranges (map_of r)) c.status_register.ensures ∙ kept c.args.engine.0 r.guest r.ranges (map_of r) c.requires)
