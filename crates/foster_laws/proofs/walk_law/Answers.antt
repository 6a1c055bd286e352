use Rattle.foster_laws.proofs.Walking.{walk_law}
use Rattle.foster_laws.proofs.walk_law.Goals as goal

pub returns : goal.returns
returns c = walk_law
