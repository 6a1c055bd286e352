use Rattle.std.proofs.Common.{◌≡◌, ◌++◌, length}
use Rattle.log_blocks.specs.Waiting.{AreNodes, all_in}
use Rattle.log_blocks.proofs.waiting.settle.Given as goal

abbrev pub invariant-loop-settled : goal.invariant-loop-settled
invariant-loop-settled l = record {
  same : all_in l.settled.items ++ l.recent ≡ all_in l.fn.settled.items ++ l.fn.recent;
  nodes : AreNodes l.settled.items;
}

abbrev pub decreases-loop-settled : goal.decreases-loop-settled
decreases-loop-settled l = length l.recent
