use Rattle.foster_laws.proofs.Entering.{grow_enters}
use Rattle.foster_laws.proofs.grow_enters.Goals as goal

pub returns : goal.returns
returns c = grow_enters
