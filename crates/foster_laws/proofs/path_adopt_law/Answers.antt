use Rattle.foster_laws.proofs.PathRecords.{path_adopt_law}
use Rattle.foster_laws.proofs.path_adopt_law.Goals as goal

pub returns : goal.returns
returns c = path_adopt_law
