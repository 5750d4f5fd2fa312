use Rattle.gv_sctx.proofs.Filling.{context-filled}
use Rattle.gv_sctx.proofs.Saving.{submitted-context}
use Rattle.gv_sctx.proofs.laws.filled_images_are_loaded.Goals as goal

pub returns-clause-filled : goal.returns-clause-filled
returns-clause-filled c = context-filled

pub returns-clause-submitted : goal.returns-clause-submitted
returns-clause-submitted c = submitted-context
