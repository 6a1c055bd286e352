use Rattle.std.proofs.Common.{length}
use Rattle.media.specs.Counted.{Blames}
use Rattle.log_blocks.specs.Opening.{Progress}
use Rattle.log_blocks.proofs.Flushing.{IsSoFar}
use Rattle.log_blocks.proofs.flush.write_pending.Given as goal

abbrev pub invariant-loop-pending : goal.invariant-loop-pending
invariant-loop-pending g l = (so_far : Progress l.fn.gate l.fn.done l.fn.pending l.gate l.done l.pending)
    × IsSoFar g.D.Disk.tells g.D.Disk.start g.D.Disk.len g.D.Disk.faults g.D.Disk.moment g.D.Disk.told g.D.Disk.may_leave g.D.Disk.left_since l.fn.device l.device l.fn.gate l.gate l.fn.pending so_far.count
    × Blames g.D.Disk.passes g.D.Disk.refused g.D.Disk.own l.fn.device l.device ⊥

abbrev pub decreases-loop-pending : goal.decreases-loop-pending
decreases-loop-pending g l = length l.pending
