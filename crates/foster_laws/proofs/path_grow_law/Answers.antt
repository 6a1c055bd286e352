use Rattle.foster_laws.proofs.PathRecords.{path_grow_law}
use Rattle.foster_laws.proofs.path_grow_law.Goals as goal

pub returns : goal.returns
returns c = path_grow_law
