use Rattle.range_lock.proofs.Conflicts.{turn, all_turned}
use Rattle.range_lock.proofs.search.first_of_holder.Goals as goal

pub loop-lock-preserved : goal.loop-lock-preserved
loop-lock-preserved c = turn _ c.args.holder c.args.held.now c.loop-lock.lock-index c.lock-item.result c.loop-lock.best _ _ c.loop-lock-test.true c.lock-item.is c.in_ok-first_of.ensures c.loop-lock.invariant

pub returns : goal.returns
returns c = all_turned _ c.args.holder c.args.held.now c.loop-lock.lock-index c.loop-lock.best _ c.loop-lock-test.false c.loop-lock.invariant
