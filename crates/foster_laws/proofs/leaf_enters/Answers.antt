use Rattle.foster_laws.proofs.Entering.{leaf_enters}
use Rattle.foster_laws.proofs.leaf_enters.Goals as goal

pub returns : goal.returns
returns c = leaf_enters
