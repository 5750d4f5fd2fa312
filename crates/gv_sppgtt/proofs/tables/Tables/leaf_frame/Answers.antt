use Rattle.std.proofs.Common.{◌/◌, ◌%◌, get_or, eqb, arith}
use Rattle.gv_sppgtt.proofs.Decoded.{decode-odd}
use Rattle.gv_sppgtt.proofs.tables.Tables.leaf_frame.Goals as goal

pub index-requires : goal.index-requires
index-requires c =
    let owners = c.args.self.now.owners in
    rw owners.ok.0 (c.requires (get_or owners.items (c.args.word / 4096) 0) (eqb (c.args.word / 4 % 2) 1) (decode-odd owners.items c.args.word (omega arith)))
