use Rattle.foster_laws.proofs.PathSteps.{path_begins_law}
use Rattle.foster_laws.proofs.path_begins_law.Goals as goal

pub returns : goal.returns
returns c = path_begins_law
