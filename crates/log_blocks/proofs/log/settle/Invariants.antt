use Rattle.std.proofs.Common.{◌≡◌, ◌++◌, length}
use Rattle.log_blocks.proofs.log.settle.Given as goal

abbrev pub invariant-loop-places : goal.invariant-loop-places
invariant-loop-places l = l.places.items ++ l.recent ≡ l.fn.places.items ++ l.fn.recent

abbrev pub decreases-loop-places : goal.decreases-loop-places
decreases-loop-places l = length l.recent
