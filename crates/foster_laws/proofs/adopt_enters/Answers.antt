use Rattle.foster_laws.proofs.Entering.{adopt_enters}
use Rattle.foster_laws.proofs.adopt_enters.Goals as goal

pub returns : goal.returns
returns c = adopt_enters
