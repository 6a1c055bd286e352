use Rattle.std.proofs.Common.{◌≡◌, take}
use Rattle.page_rows.proofs.copied.copied_leaf_rows.Given as goal

abbrev pub invariant-loop-row : goal.invariant-loop-row
invariant-loop-row l = l.again.items ≡ take l.row-index l.rows
