use Rattle.std.proofs.Common.{◌≡◌, take, map}
use Rattle.losers.specs.Losers.{untouched}
use Rattle.losers.proofs.losers.states_of.Given as goal

abbrev pub invariant-loop-tx : goal.invariant-loop-tx
invariant-loop-tx l = l.made.items ≡ map untouched (take l.tx-index l.txs)
