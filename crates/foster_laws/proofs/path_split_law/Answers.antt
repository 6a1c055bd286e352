use Rattle.foster_laws.proofs.PathRecords.{path_split_law}
use Rattle.foster_laws.proofs.path_split_law.Goals as goal

pub returns : goal.returns
returns c = path_split_law
