use Rattle.std.proofs.Common.{◌≡◌, ◌++◌}
use Rattle.range_lock.proofs.holders.append.Given as goal

abbrev pub invariant-loop-tx : goal.invariant-loop-tx
invariant-loop-tx l = l.txs.items ++ l.tx-iterator ≡ l.found.keys
