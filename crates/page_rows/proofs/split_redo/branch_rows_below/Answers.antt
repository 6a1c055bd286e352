use Rattle.std.proofs.Common.{rules}
use Rattle.std.proofs.lemmas.List.Sorted.{IsPartitionPoint-from_clause}
use Rattle.wal_record.specs.Images.{branch_under}
use Rattle.page_rows.specs.Rows.{branch_at}
use Rattle.page_rows.proofs.Cuts.{parted}
use Rattle.page_rows.proofs.split_redo.branch_rows_below.Goals as goal

pub returns-clause-below : goal.returns-clause-below
returns-clause-below c = IsPartitionPoint-from_clause (branch_under c.args.at.now) c.args.rows.now c.partition_point.result c.partition_point.ensures.partitioned (parted branch_at c.args.at.now c.args.rows.now c.requires) (λ a r q called. search rules)
