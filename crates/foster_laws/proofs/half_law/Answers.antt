use Rattle.foster_laws.proofs.Entering.{half_law}
use Rattle.foster_laws.proofs.half_law.Goals as goal

pub returns : goal.returns
returns c = half_law
