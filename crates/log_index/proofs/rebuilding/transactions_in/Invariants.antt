use Rattle.std.proofs.Common.{◌≡◌, map, take}
use Rattle.listing_laws.specs.Summary.{unfinished_in}
use Rattle.log_index.proofs.rebuilding.transactions_in.Given as goal

abbrev pub invariant-loop-loser : goal.invariant-loop-loser
invariant-loop-loser l = l.made.items ≡ map unfinished_in (take l.loser-index l.losers)
