use Rattle.std.proofs.Common.{ap, get_or}
use Rattle.wal_record.specs.declared.page.BranchRow.{BranchRow}
use Rattle.page_judge.proofs.Leading.{low_here, low_past}
use Rattle.page_judge.proofs.splitting.is_low_at.Goals as goal

pub returns-then-place-rows : goal.returns-then-place-rows
returns-then-place-rows c = low_here c.args.low.now c.same_bound.result c.args.place c.args.rows.now (get_or c.args.rows.now c.args.place c.index-rows-place.result) c.if-place-rows.true
    (ap (λ (row : BranchRow). get_or c.args.rows.now c.args.place row) c.index-rows-place.is) c.same_bound.ensures

pub returns-else-place-rows : goal.returns-else-place-rows
returns-else-place-rows c = low_past c.args.low.now c.is_top.result c.args.place c.args.rows.now c.if-place-rows.false c.is_top.ensures
