use Rattle.foster_laws.proofs.Behind.{behind_law}
use Rattle.foster_laws.proofs.behind_law.Goals as goal

pub returns : goal.returns
returns c = behind_law
