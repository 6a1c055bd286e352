use Rattle.log_laws.proofs.LoserLocks.{loser_locks_apart}
use Rattle.log_laws.proofs.loser_locks_law.Goals as goal

pub returns : goal.returns
returns c = loser_locks_apart
