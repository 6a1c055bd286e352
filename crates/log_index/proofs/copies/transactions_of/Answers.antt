use Rattle.log_index.specs.Table.{listed_in}
use Rattle.log_index.proofs.Copying.{one_through, all_through}
use Rattle.log_index.proofs.copies.transactions_of.Goals as goal

pub loop-tx-preserved : goal.loop-tx-preserved
loop-tx-preserved c = one_through c.loop-tx.made.items c.add_unfinished.new.made.items (listed_in c.args.table.now.entries) (c.in-Some.tx.now, c.in-Some.tracked.now) c.loop-tx.tx-iterator c.next.new.self c.in-Some.ensures.steps c.in_ok-add_unfinished.ensures c.loop-tx.invariant

pub returns : goal.returns
returns c = all_through c.loop-tx.made.items (listed_in c.args.table.now.entries) c.loop-tx.tx-iterator c.in-None.ensures.steps.0 c.loop-tx.invariant
