use Rattle.log_laws.proofs.Beginnings.{commits_only}
use Rattle.log_laws.proofs.commits_law.Goals as goal

pub returns : goal.returns
returns c = commits_only
