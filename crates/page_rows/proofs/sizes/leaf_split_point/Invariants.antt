use Rattle.std.proofs.Common.{◌≡◌, take}
use Rattle.std.specs.List.{sum_by}
use Rattle.wal_record.specs.State.{leaf_row_size}
use Rattle.page_rows.proofs.Splitting.{NoneBelow}
use Rattle.page_rows.proofs.sizes.leaf_split_point.Given as goal

abbrev pub invariant-loop-i : goal.invariant-loop-i
invariant-loop-i l = record { kept : l.kept ≡ sum_by leaf_row_size (take l.i l.rows); none : NoneBelow leaf_row_size l.rows l.i }
