use Rattle.gv_sctx.proofs.Saving.{stopped-context, stopped-saved, stopped-image, stopped-holds}
use Rattle.gv_sctx.proofs.laws.stopped_contexts_come_back.Goals as goal

pub returns-clause-context : goal.returns-clause-context
returns-clause-context c = λ d engine image l is has holds small. stopped-context d image engine l is has small holds

pub returns-clause-place : goal.returns-clause-place
returns-clause-place c = λ d engine image l is has small. stopped-saved d image engine l is has small

pub returns-clause-image : goal.returns-clause-image
returns-clause-image c = λ d engine image l is has small. stopped-image d image engine l is has small

pub returns-clause-holds : goal.returns-clause-holds
returns-clause-holds c = λ d engine image l is has holds small. stopped-holds d image engine l is has small holds
