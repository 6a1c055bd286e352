use Rattle.tree_laws.proofs.Whole.{tree}
use Rattle.tree_laws.proofs.ScanLaws.{leaf_scan}
use Rattle.tree_laws.proofs.scan_law.Goals as goal

pub returns : goal.returns
returns c = λ log sound some. leaf_scan _ _ _ (tree log sound some)
