use Rattle.wal_record.specs.declared.record.Checkpoint.{Checkpoint}
use Rattle.wal_record.specs.declared.record.Record.TheVariants as kinds
use Rattle.maintenance.proofs.Marks.{behind, behind_refused, still_placed}
use Rattle.maintenance.proofs.checkpointing.checkpoint.Goals as goal

pub returns-in-Ok-clause-entered : goal.returns-in-Ok-clause-entered
returns-in-Ok-clause-entered g c = behind Checkpoint kinds.Checkpoint _ _ _ _ _ _ _ _ _ c.flush.ensures.seen _ c.in_ok-lsn.ensures.entered

pub returns-in-Ok-clause-durable : goal.returns-in-Ok-clause-durable
returns-in-Ok-clause-durable g c opening stands = still_placed Checkpoint kinds.Checkpoint _ _ _ (g.J.Entering.account c.args.journal.now) _ _ c.args.pass.now _ _ c.flush.ensures.seen _ opening (c.in_ok-lsn.ensures.placed opening stands) (c.in-Ok.ensures.durable opening stands)

pub returns-in-Err-clause-entered : goal.returns-in-Err-clause-entered
returns-in-Err-clause-entered g c = behind_refused Checkpoint kinds.Checkpoint _ _ _ _ _ _ _ _ _ c.flush.ensures.seen _ c.in-Err.fault c.in-Err.ensures.refused c.in_ok-lsn.ensures.entered
