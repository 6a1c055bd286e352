use Rattle.std.proofs.Common.{◌≡◌}
use Rattle.log_index.specs.Table.{listed_in, oldest_in}
use Rattle.log_index.proofs.table.oldest_open.Given as goal

abbrev pub invariant-loop-tx : goal.invariant-loop-tx
invariant-loop-tx l = oldest_in l.least (listed_in l._tx-iterator) ≡ oldest_in l.lsn (listed_in l.table.entries)
