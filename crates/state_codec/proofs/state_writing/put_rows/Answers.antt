use Rattle.state_codec.proofs.RowsField.{few_leaf, few_branch}
use Rattle.state_codec.proofs.state_writing.put_rows.Goals as goal

pub put_leaf_rows-requires : goal.put_leaf_rows-requires
put_leaf_rows-requires c = few_leaf c.in-Leaf.rows (rw c.in-Leaf.is at c.requires)

pub put_branch_rows-requires : goal.put_branch_rows-requires
put_branch_rows-requires c = few_branch c.in-Branch.rows (rw c.in-Branch.is at c.requires)
