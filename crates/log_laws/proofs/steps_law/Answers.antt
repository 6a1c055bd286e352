use Rattle.log_laws.proofs.AllSteps.{steps_law}
use Rattle.log_laws.proofs.steps_law.Goals as goal

pub returns : goal.returns
returns c = steps_law
