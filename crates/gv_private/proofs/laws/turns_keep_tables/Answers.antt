use Rattle.gv_private.proofs.Tables.{turns_keep_tables, events_keep_tables, apertures_keep_tables}
use Rattle.gv_private.proofs.laws.turns_keep_tables.Goals as goal

pub returns-clause-turns : goal.returns-clause-turns
returns-clause-turns c = turns_keep_tables

pub returns-clause-events : goal.returns-clause-events
returns-clause-events c = events_keep_tables

pub returns-clause-apertures : goal.returns-clause-apertures
returns-clause-apertures c = apertures_keep_tables
