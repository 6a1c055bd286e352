use Rattle.std.proofs.Common.{◌≡◌, ◌+◌, take}
use Rattle.std.specs.List.{sum_by}
use Rattle.wal_record.specs.State.{leaf_row_size}
use Rattle.record_form.proofs.bytes.leaf_rows_fit.Given as goal

abbrev pub invariant-loop-row : goal.invariant-loop-row
invariant-loop-row l = l.left + sum_by leaf_row_size (take l.row-index l.rows) ≡ l.most
