use Rattle.log_manager.proofs.Grouping.{ends_together}
use Rattle.log_manager.proofs.laws.groups_law.Goals as goal

pub returns : goal.returns
returns c = ends_together
