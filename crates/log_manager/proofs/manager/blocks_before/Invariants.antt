use Rattle.std.proofs.Common.{◌≡◌, ◌+◌, ◌-◌, ◌≤◌, drop, length}
use Rattle.log_manager.specs.Managed.{before_lsn}
use Rattle.log_manager.proofs.manager.blocks_before.Given as goal

abbrev pub invariant-loop-n : goal.invariant-loop-n
invariant-loop-n g l = record {
  so_far : l.n + before_lsn l.upto (drop l.n l.log.places) ≡ before_lsn l.upto l.log.places;
  within : l.n ≤ l.last;
  last : l.last ≡ length l.log.places - 1;
}

abbrev pub decreases-loop-n : goal.decreases-loop-n
decreases-loop-n g l = l.last - l.n
