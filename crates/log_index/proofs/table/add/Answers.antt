use Rattle.std.proofs.Common.{ap, sym, ◌∙◌}
use Rattle.log_index.specs.Table.{listed_in}
use Rattle.log_index.specs.declared.table.Tracked.{Tracked}
use Rattle.log_index.proofs.Tables.{writes_more}
use Rattle.log_index.proofs.Counting.{one_more}
use Rattle.log_index.proofs.table.add.Goals as goal

pub returns-clause-listed : goal.returns-clause-listed
returns-clause-listed c =
    let w : Tracked = record { last = c.args.lsn; writes = c.put_at_end.new.writes } in
    ap listed_in (c.get_mut.follows.holds w).0
    ∙ writes_more c.args.tx c.args.table.now.entries c.in-Some.ensures.ordered c.in-Some.found.now w (sym c.in-Some.ensures.value) (record { lsn = c.args.lsn; key = c.args.key }) c.put_at_end.ensures

pub returns-clause-pending : goal.returns-clause-pending
returns-clause-pending c =
    one_more c.args.table.now.entries c.in-Some.ensures.ordered c.args.lsn c.args.tx (record { lsn = c.args.lsn; key = c.args.key }) _ (returns-clause-listed c)
