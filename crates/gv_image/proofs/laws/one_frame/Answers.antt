use Rattle.std.proofs.Common.{refl}
use Rattle.gv_types.specs.Memory.{zero_words}
use Rattle.gv_image.specs.Bytes.{dwords, quadwords}
use Rattle.gv_image.proofs.laws.one_frame.Goals as goal

pub returns : goal.returns
unfolding zero_words dwords quadwords
returns c = refl
