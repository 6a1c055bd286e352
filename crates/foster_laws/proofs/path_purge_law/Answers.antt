use Rattle.foster_laws.proofs.PathRecords.{path_purge_law}
use Rattle.foster_laws.proofs.path_purge_law.Goals as goal

pub returns : goal.returns
returns c = path_purge_law
