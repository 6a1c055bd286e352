use Rattle.foster_laws.proofs.Steps.{step_law}
use Rattle.foster_laws.proofs.step_law.Goals as goal

pub returns : goal.returns
returns c = step_law
