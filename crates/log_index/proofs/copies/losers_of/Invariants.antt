use Rattle.std.proofs.Common.{◌≡◌, ◌++◌, map}
use Rattle.listing_laws.specs.Summary.{loser_of}
use Rattle.log_index.specs.Table.{listed_in}
use Rattle.log_index.proofs.copies.losers_of.Given as goal

abbrev pub invariant-loop-tx : goal.invariant-loop-tx
invariant-loop-tx l = l.made.items ++ map loser_of (listed_in l.tx-iterator) ≡ map loser_of (listed_in l.table.entries)
