use Rattle.page_rows.proofs.Changes.{purge_changed}
use Rattle.page_rows.proofs.leaf_redo.purge.Goals as goal

pub returns-in-Leaf : goal.returns-in-Leaf
returns-in-Leaf c = purge_changed c.args.state.now c.in-Leaf.rows c.purge_rows.new.rows c.purge_rows.result c.in-Leaf.is c.requires c.purge_rows.ensures.any c.purge_rows.ensures.rows
