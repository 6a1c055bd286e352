use Rattle.judge_laws.proofs.Barring.{locking}
use Rattle.judge_laws.proofs.lock_law.Goals as goal

pub returns : goal.returns
returns c = locking
