use Rattle.std.proofs.Common.{arith, sym}
use Rattle.log_index.proofs.Checkpointed.{item_rebuilt, none_rebuilt, none_noted, one_noted}
use Rattle.log_index.proofs.rebuilding.table_of.Goals as goal

pub loop-unfinished-init : goal.loop-unfinished-init
loop-unfinished-init c = record { listed = λ h. none_rebuilt c.new-made.result.entries c.new-made.ensures.empty; noted = none_noted c.new-made.result c.new-made.ensures.empty }

pub loop-unfinished-preserved : goal.loop-unfinished-preserved
loop-unfinished-preserved c = record {
  listed = item_rebuilt c.args.transactions.now c.loop-unfinished.unfinished-index _ c.unfinished-item.result c.loop-unfinished.made.entries c.insert.new.self.entries c.in_ok-tracked.tracked (sym c.unfinished-item.is) (omega arith)
      c.loop-unfinished-test.true c.in_ok-insert.ensures.was_ordered c.loop-unfinished.invariant.listed c.in_ok-tracked.ensures.last c.in_ok-tracked.ensures.writes c.in_ok-insert.ensures.entries;
  noted = one_noted c.args.transactions.now c.loop-unfinished.unfinished-index _ c.unfinished-item.result c.loop-unfinished.made c.insert.new.self c.in_ok-tracked.tracked c.unfinished-item.is (omega arith)
      c.loop-unfinished-test.true c.in_ok-insert.ensures.updates.0 c.loop-unfinished.invariant.noted c.in_ok-tracked.ensures.last;
}
