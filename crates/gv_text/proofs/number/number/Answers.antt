use Rattle.std.proofs.Common.{arith, length}
use Rattle.gv_text.proofs.Digits.{room}
use Rattle.gv_text.proofs.number.number.Goals as goal

pub overflow_mul-value : goal.overflow_mul-value
overflow_mul-value c = omega (arith, room c.loop-byte.byte-index (length c.args.word.now) c.loop-byte.value (omega arith) (omega arith) c.loop-byte.invariant.small)

pub overflow_add-value : goal.overflow_add-value
overflow_add-value c = omega (arith, room c.loop-byte.byte-index (length c.args.word.now) c.loop-byte.value (omega arith) (omega arith) c.loop-byte.invariant.small, c.in_ok-digit.ensures.small)
