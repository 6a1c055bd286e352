use Rattle.foster_laws.proofs.Purging.{purge}
use Rattle.foster_laws.proofs.purge_law.Goals as goal

pub returns : goal.returns
returns c = purge
