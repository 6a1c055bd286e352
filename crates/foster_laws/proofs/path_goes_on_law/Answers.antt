use Rattle.foster_laws.proofs.PathSteps.{path_goes_on_law}
use Rattle.foster_laws.proofs.path_goes_on_law.Goals as goal

pub returns : goal.returns
returns c = path_goes_on_law
