use Rattle.std.proofs.Common.{refl, sym, ◌∙◌}
use Rattle.gv_sppgtt.proofs.Fresh.{fresh-serves}
use Rattle.gv_sppgtt.proofs.tables.Tables.new.Goals as goal

pub returns : goal.returns
returns c d placed pins r =
    fresh-serves (record { alloc = c.args.alloc; guest = c.args.guest; nodes = c.in_ok-new.field-0; chains = c.in_ok-new-2.field-0; owners = c.in_ok-vec.field-0; told = c.in_ok-vec-2.field-0; touched = c.untouched.result })
    c.args.guest.0 c.args.frames c.in_ok-new.ensures c.in_ok-new-2.ensures (sym c.in_ok-vec.field-0.ok.0 ∙ c.in_ok-vec.ensures.len) (c.in_ok-vec-2.ensures.items_if_clones_equal (λ y e. e)) c.untouched.ensures refl c.requires d placed pins r
