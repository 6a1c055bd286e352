use Rattle.foster_laws.proofs.Splitting.{split}
use Rattle.foster_laws.proofs.split_law.Goals as goal

pub returns : goal.returns
returns c = split
