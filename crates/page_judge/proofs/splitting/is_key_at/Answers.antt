use Rattle.std.proofs.Common.{ap, get_or}
use Rattle.wal_record.specs.declared.page.LeafRow.{LeafRow}
use Rattle.page_judge.proofs.Leading.{key_here, key_past}
use Rattle.page_judge.proofs.splitting.is_key_at.Goals as goal

pub returns-then-place-rows : goal.returns-then-place-rows
returns-then-place-rows c = key_here c.args.low.now c.is_bound_of.result c.args.place c.args.rows.now (get_or c.args.rows.now c.args.place c.index-rows-place.result) c.if-place-rows.true
    (ap (λ (row : LeafRow). get_or c.args.rows.now c.args.place row) c.index-rows-place.is) c.is_bound_of.ensures

pub returns-else-place-rows : goal.returns-else-place-rows
returns-else-place-rows c = key_past c.args.low.now c.is_top.result c.args.place c.args.rows.now c.if-place-rows.false c.is_top.ensures
