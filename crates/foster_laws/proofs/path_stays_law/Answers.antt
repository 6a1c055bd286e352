use Rattle.foster_laws.proofs.PathOrder.{path_stays_law}
use Rattle.foster_laws.proofs.path_stays_law.Goals as goal

pub returns : goal.returns
returns c = path_stays_law
