use Rattle.foster_laws.proofs.PathSteps.{path_ends_law}
use Rattle.foster_laws.proofs.path_ends_law.Goals as goal

pub returns : goal.returns
returns c = path_ends_law
