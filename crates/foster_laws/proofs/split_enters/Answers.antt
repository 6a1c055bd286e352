use Rattle.foster_laws.proofs.Entering.{split_enters}
use Rattle.foster_laws.proofs.split_enters.Goals as goal

pub returns : goal.returns
returns c = split_enters
