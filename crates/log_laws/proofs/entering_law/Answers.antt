use Rattle.log_laws.proofs.EnteringLaws.{entering}
use Rattle.log_laws.proofs.entering_law.Goals as goal

pub returns : goal.returns
returns c = entering
