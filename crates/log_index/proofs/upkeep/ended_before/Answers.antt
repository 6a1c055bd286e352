use Rattle.std.proofs.Common.{rules}
use Rattle.std.proofs.lemmas.List.Sorted.{IsPartitionPoint-from_clause}
use Rattle.log_index.proofs.Covering.{ends_before, parted}
use Rattle.log_index.proofs.upkeep.ended_before.Goals as goal

pub returns-clause-parts : goal.returns-clause-parts
returns-clause-parts c apart = IsPartitionPoint-from_clause (ends_before c.args.lsn) c.args.runs.now c.partition_point.result c.partition_point.ensures.partitioned (parted c.args.lsn c.args.runs.now apart) (λ a r q called. search rules)
