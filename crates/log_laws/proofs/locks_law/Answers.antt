use Rattle.log_laws.proofs.EnteringLaws.{locking}
use Rattle.log_laws.proofs.locks_law.Goals as goal

pub returns : goal.returns
returns c = locking
