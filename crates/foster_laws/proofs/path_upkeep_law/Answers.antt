use Rattle.foster_laws.proofs.PathRecords.{path_upkeep_law}
use Rattle.foster_laws.proofs.path_upkeep_law.Goals as goal

pub returns : goal.returns
returns c = path_upkeep_law
