use Rattle.segment_restore.proofs.Chains.{looks}
use Rattle.segment_restore.proofs.bases.NoBasesBases.archived.Goals as goal

pub returns-clause-entered : goal.returns-clause-entered
returns-clause-entered g c = looks _ _ _ _ _ _ _ _ _ c.see.ensures.seen
