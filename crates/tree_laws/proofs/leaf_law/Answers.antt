use Rattle.tree_laws.proofs.Leaves.{leaves}
use Rattle.tree_laws.proofs.leaf_law.Goals as goal

pub returns : goal.returns
returns c = leaves
