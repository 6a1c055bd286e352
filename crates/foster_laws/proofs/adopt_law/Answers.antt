use Rattle.foster_laws.proofs.Adopting.{adopt}
use Rattle.foster_laws.proofs.adopt_law.Goals as goal

pub returns : goal.returns
returns c = adopt
