use Rattle.tree_laws.proofs.Whole.{tree}
use Rattle.tree_laws.proofs.DescentLaws.{descent}
use Rattle.tree_laws.proofs.descent_law.Goals as goal

pub returns : goal.returns
returns c = λ log sound some. descent _ _ _ (tree log sound some)
