use Rattle.foster_laws.proofs.Growing.{grow}
use Rattle.foster_laws.proofs.grow_law.Goals as goal

pub returns : goal.returns
returns c = grow
