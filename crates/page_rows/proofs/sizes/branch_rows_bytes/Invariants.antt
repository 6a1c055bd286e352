use Rattle.std.proofs.Common.{◌≡◌, take}
use Rattle.std.specs.List.{sum_by}
use Rattle.wal_record.specs.State.{branch_row_size}
use Rattle.page_rows.proofs.sizes.branch_rows_bytes.Given as goal

abbrev pub invariant-loop-row : goal.invariant-loop-row
invariant-loop-row l = l.sum ≡ sum_by branch_row_size (take l.row-index l.rows)
