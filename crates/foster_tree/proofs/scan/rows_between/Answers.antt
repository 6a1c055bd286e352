use Rattle.std.proofs.Common.{◌∙◌, ap}
use Rattle.wal_record.specs.State.{leaf_below, rises}
use Rattle.foster_tree.proofs.Between.{between, first_rise}
use Rattle.foster_tree.proofs.scan.rows_between.Goals as goal

pub rows_below-requires-2 : goal.rows_below-requires-2
rows_below-requires-2 c = ap (rises leaf_below) c.split_at.ensures.front ∙ first_rise c.args.rows.now c.rows_below.result c.requires

pub returns : goal.returns
returns c =
    between c.args.low.now c.args.high.now c.args.rows.now c.split_at.result.0.now c.split_at-2.result.1.now c.rows_below.result c.rows_below-2.result c.split_at.ensures.front c.split_at-2.ensures.back c.rows_below.ensures.below c.rows_below.ensures.others
    c.rows_below-2.ensures.below c.rows_below-2.ensures.others
