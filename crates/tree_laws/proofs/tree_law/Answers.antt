use Rattle.tree_laws.proofs.Whole.{tree}
use Rattle.tree_laws.proofs.tree_law.Goals as goal

pub returns : goal.returns
returns c = tree
