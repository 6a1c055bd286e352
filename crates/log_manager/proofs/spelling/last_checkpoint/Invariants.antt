use Rattle.std.proofs.Common.{◌≡◌, ◌+◌, drop}
use Rattle.log_manager.proofs.spelling.last_checkpoint.Given as goal
use Rattle.wal_record.specs.Checkpoints.{checkpoint_after}

abbrev pub invariant-loop-rec : goal.invariant-loop-rec
invariant-loop-rec l = record {
  found : checkpoint_after l.found l.lsn (drop l.rec-index l.recs) ≡ checkpoint_after l.fn.before l.fn.first l.fn.recs;
  lsn : l.lsn ≡ l.fn.first + l.rec-index;
}
