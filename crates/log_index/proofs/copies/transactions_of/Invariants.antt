use Rattle.std.proofs.Common.{◌≡◌, ◌++◌}
use Rattle.log_index.specs.Table.{listed_in}
use Rattle.log_index.proofs.copies.transactions_of.Given as goal

abbrev pub invariant-loop-tx : goal.invariant-loop-tx
invariant-loop-tx l = l.made.items ++ listed_in l.tx-iterator ≡ listed_in l.table.entries
