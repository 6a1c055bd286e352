use Rattle.std.proofs.Common.{◌<◌, ◌≤◌, get_or, length}
use Rattle.log_blocks.specs.LogState.{firsts}
use Rattle.log_analysis.proofs.analysing.block_with.Given as goal

abbrev pub decreases-loop-left : goal.decreases-loop-left
decreases-loop-left g l = l.left

abbrev pub invariant-loop-left : goal.invariant-loop-left
invariant-loop-left g l = record {
  within : l.left ≤ length (firsts l.log);
  upto : l.left < length (firsts l.log) → l.lsn < get_or (firsts l.log) l.left 0;
}
