use Rattle.foster_laws.proofs.Scanning.{leaf_step_law}
use Rattle.foster_laws.proofs.leaf_step_law.Goals as goal

pub returns : goal.returns
returns c = leaf_step_law
