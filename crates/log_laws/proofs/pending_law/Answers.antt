use Rattle.log_laws.proofs.Pending.{pending_change}
use Rattle.log_laws.proofs.pending_law.Goals as goal

pub returns : goal.returns
returns c = pending_change
