use Rattle.state_codec.proofs.RowsField.{few_leaf, few_branch}
use Rattle.page_image.proofs.writing.put_rows.Goals as goal

pub put_leaf_rows-requires-clause-few : goal.put_leaf_rows-requires-clause-few
put_leaf_rows-requires-clause-few c = few_leaf c.in-Leaf.rows (rw c.in-Leaf.is at c.requires.few)

pub put_branch_rows-requires-clause-few : goal.put_branch_rows-requires-clause-few
put_branch_rows-requires-clause-few c = few_branch c.in-Branch.rows (rw c.in-Branch.is at c.requires.few)
