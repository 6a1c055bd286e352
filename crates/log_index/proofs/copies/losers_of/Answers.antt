use Rattle.std.proofs.Common.{map}
use Rattle.listing_laws.specs.Summary.{loser_of}
use Rattle.log_index.specs.Table.{listed_in}
use Rattle.log_index.proofs.Copying.{one_mapped, all_mapped}
use Rattle.log_index.proofs.copies.losers_of.Goals as goal

pub loop-tx-preserved : goal.loop-tx-preserved
loop-tx-preserved c = one_mapped loser_of c.loop-tx.made.items c.add_loser.new.made.items (map loser_of (listed_in c.args.table.now.entries)) (c.in-Some.tx.now, c.in-Some.tracked.now) c.loop-tx.tx-iterator c.next.new.self c.in-Some.ensures.steps c.in_ok-add_loser.ensures c.loop-tx.invariant

pub returns : goal.returns
returns c = all_mapped loser_of c.loop-tx.made.items (map loser_of (listed_in c.args.table.now.entries)) c.loop-tx.tx-iterator c.in-None.ensures.steps.0 c.loop-tx.invariant
