use Rattle.std.proofs.Common.{◌-◌, ◌<◌, ◌≤◌, get_or, length}
use Rattle.log_blocks.specs.LogState.{firsts}
use Rattle.log_manager.proofs.manager.block_of.Given as goal

abbrev pub invariant-loop-high : goal.invariant-loop-high
invariant-loop-high g l = record {
  within : l.high ≤ length (firsts l.log);
  some : l.low < l.high;
  from : get_or (firsts l.log) l.low 0 ≤ l.lsn;
  upto : l.high < length (firsts l.log) → l.lsn < get_or (firsts l.log) l.high 0;
}

abbrev pub decreases-loop-high : goal.decreases-loop-high
decreases-loop-high g l = l.high - l.low
