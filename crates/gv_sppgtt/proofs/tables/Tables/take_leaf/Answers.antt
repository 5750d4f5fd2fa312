use Rattle.std.proofs.Common.{◌/◌, ◌%◌, eqb, false}
use Rattle.gv_sppgtt.proofs.Decoded.{one_less}
use Rattle.gv_sppgtt.proofs.Ordered.{order-unlinked}
use Rattle.gv_sppgtt.proofs.tables.Tables.take_leaf.Goals as goal

pub leaf_frame-requires : goal.leaf_frame-requires
leaf_frame-requires c h w is = (c.requires.named h w is).named

pub unlink-requires-clause-frame : goal.unlink-requires-clause-frame
unlink-requires-clause-frame c = (c.requires.named c.in-Some.frame (eqb (c.args.word / 4 % 2) 1) c.in-Some.ensures.some).there

pub unpin-requires-clause-within : goal.unpin-requires-clause-within
unpin-requires-clause-within c = (c.requires.named c.in-Some.frame (eqb (c.args.word / 4 % 2) 1) c.in-Some.ensures.some).counted

pub unpin-requires-clause-some : goal.unpin-requires-clause-some
unpin-requires-clause-some c = (c.requires.named c.in-Some.frame (eqb (c.args.word / 4 % 2) 1) c.in-Some.ensures.some).pinned

pub returns-clause-pins : goal.returns-clause-pins
returns-clause-pins c h =
    let known = c.requires.named c.in-Some.frame (eqb (c.args.word / 4 % 2) 1) c.in-Some.ensures.some in
    rw c.in-Some.ensures.some (one_less c.args.pins.now c.unpin.new.self c.in-Some.frame h known.counted known.pinned c.unpin.ensures)

pub returns-clause-order : goal.returns-clause-order
returns-clause-order c ordered =
    let known = c.requires.named c.in-Some.frame (eqb (c.args.word / 4 % 2) 1) c.in-Some.ensures.some in
    rw c.unlink.ensures.after (order-unlinked c.args.self.now.chains c.in-Some.frame (record { page = c.args.page; index = c.args.index; writable = false }) known.there ordered)
