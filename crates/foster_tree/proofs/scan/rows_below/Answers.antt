use Rattle.std.proofs.Common.{rules}
use Rattle.std.proofs.lemmas.List.Sorted.{IsPartitionPoint-from_clause}
use Rattle.foster_tree.proofs.Between.{cut, first_pass, others_fail, under}
use Rattle.foster_tree.proofs.scan.rows_below.Goals as goal

pub returns-clause-below : goal.returns-clause-below
returns-clause-below c =
    let bound = c.args.bound.now in
    let rows = c.args.rows.now in
    let point = IsPartitionPoint-from_clause (under bound) rows _ c.partition_point.ensures.partitioned (cut bound rows c.requires) (λ a r q k. search rules) in
    first_pass (under bound) rows _ c.partition_point.ensures.bound point.0

pub returns-clause-others : goal.returns-clause-others
returns-clause-others c =
    let bound = c.args.bound.now in
    let rows = c.args.rows.now in
    let point = IsPartitionPoint-from_clause (under bound) rows _ c.partition_point.ensures.partitioned (cut bound rows c.requires) (λ a r q k. search rules) in
    others_fail (under bound) rows _ point.1
