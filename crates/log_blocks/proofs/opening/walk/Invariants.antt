use Rattle.std.proofs.Common.{◌≡◌, ◌≤◌, ◌<◌, ◌-◌}
use Rattle.media.specs.Counted.{Blames}
use Rattle.media.specs.Crash.{NoMore, LeavesOnly}
use Rattle.log_blocks.specs.Opening.{IsChain, lsn_after}
use Rattle.log_blocks.proofs.Walking.{IsWalked}
use Rattle.log_blocks.proofs.opening.walk.Given as goal

abbrev pub invariant-loop-found : goal.invariant-loop-found
invariant-loop-found g l = record {
  walked : g.D.Disk.tells → IsWalked (g.D.Disk.told l.initial.device) l.found.gate l.found.next l.found.places.items;
  start : g.D.Disk.start l.device ≡ g.D.Disk.start l.initial.device;
  len : g.D.Disk.len l.device ≡ g.D.Disk.len l.initial.device;
  same : g.D.Disk.tells → g.D.Disk.told l.device ≡ g.D.Disk.told l.initial.device;
  crash : NoMore g.D.Disk.may_leave l.initial.device l.device;
  any_moment : LeavesOnly g.D.Disk.moment g.D.Disk.left_since l.initial.device l.device (λ c. g.D.Disk.may_leave l.initial.device c);
  later : g.D.Disk.faults l.initial.device ≤ g.D.Disk.faults l.device;
  fuse : Blames g.D.Disk.passes g.D.Disk.refused g.D.Disk.own l.initial.device l.device ⊥;
  from : g.D.Disk.start l.initial.device ≤ l.found.gate;
  within : l.found.gate < l.len;
  chain : IsChain l.start l.found.places.items l.found.gate;
  next_is : l.found.next ≡ lsn_after l.found.places.items;
  bound : l.found.next ≤ 9223372036854775808;
}

abbrev pub decreases-loop-found : goal.decreases-loop-found
decreases-loop-found g l = l.len - l.found.gate
