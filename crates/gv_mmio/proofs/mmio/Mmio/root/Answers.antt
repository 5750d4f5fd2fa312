use Rattle.std.proofs.Common.{◌≡◌, ℕ, ◌+◌, ◌*◌, ◌/◌, ◌%◌, refl, ap, ◌∙◌}
use Rattle.gv_types.specs.declared.ranges.Ranges.{Ranges}
use Rattle.gv_regs.specs.Registers.{map_of, register_read}
use Rattle.gv_regs.specs.Table.{row_at}
use Rattle.gv_mmio.proofs.mmio.Mmio.root.Goals as goal

low : (g : ℕ) (ranges : Ranges) (map : ℕ → ℕ) → register_read g ranges map 0x78838 ≡ map 0x78838
unfolding row_at
low g ranges map = refl

high : (g : ℕ) (ranges : Ranges) (map : ℕ → ℕ) → register_read g ranges map 0x7883C ≡ map 0x7883C
unfolding row_at
high g ranges map = refl

pub returns : goal.returns
returns c = λ p.
    let r = c.args.self.now.registers in
    ap (λ n. n % 65536 * 1048576 + c.from-low.result / 4096) (c.from-high.ensures ∙ c.read-2.ensures ∙ high r.guest r.ranges (map_of r))
    ∙ ap (λ n. map_of r 0x7883C % 65536 * 1048576 + n / 4096) (c.from-low.ensures ∙ c.read.ensures ∙ low r.guest r.ranges (map_of r))
