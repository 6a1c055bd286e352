use Rattle.std.proofs.Common.{◌≡◌, ◌++◌, length}
use Rattle.log_blocks.specs.Waiting.{all_in}
use Rattle.log_blocks.proofs.waiting.gather.Given as goal

abbrev pub invariant-loop-node : goal.invariant-loop-node
invariant-loop-node l = all_in l.settled.items ++ l.all ≡ all_in l.fn.settled.items ++ l.fn.recent

abbrev pub decreases-loop-node : goal.decreases-loop-node
decreases-loop-node l = length l.settled.items
