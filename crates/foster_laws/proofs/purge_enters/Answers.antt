use Rattle.foster_laws.proofs.Entering.{purge_enters}
use Rattle.foster_laws.proofs.purge_enters.Goals as goal

pub returns : goal.returns
returns c = purge_enters
