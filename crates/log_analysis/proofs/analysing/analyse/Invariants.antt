use Rattle.std.proofs.Common.{◌≡◌, ◌≤◌, [], None, Option, List, ℕ}
use Rattle.media.specs.Counted.{Blames}
use Rattle.log_blocks.specs.Log.{Block}
use Rattle.log_blocks.specs.LogState.{IsDurable}
use Rattle.log_index.specs.declared.listing.Listing.{Listing}
use Rattle.log_analysis.specs.Taken.{GoesOnWith}
use Rattle.log_analysis.proofs.Reading.{AreReadFrom}
use Rattle.log_analysis.proofs.analysing.analyse.Given as goal

abbrev pub invariant-loop-block : goal.invariant-loop-block
invariant-loop-block g l = record {
  same : l.log ≡ record l.fn.log { device = l.log.device; ended = l.log.ended };
  live : ◌≡◌ {A = Option ℕ} l.log.ended None;
  durable : g.L.Disk.tells → (bs : List Block) → IsDurable g.L.Disk.told g.L.Disk.may_leave l.fn.log bs → IsDurable g.L.Disk.told g.L.Disk.may_leave l.log bs;
  faults : g.L.Disk.faults l.fn.log.device ≤ g.L.Disk.faults l.log.device;
  fuse : Blames g.L.Disk.passes g.L.Disk.refused g.L.Disk.own l.fn.log.device l.log.device ⊥;
  so_far : g.L.Disk.tells → (bs : List Block) → IsDurable g.L.Disk.told g.L.Disk.may_leave l.fn.log bs → (start : Listing) × GoesOnWith [] start × AreReadFrom bs l.from l.block l.named.checkpoint start l.listing;
}
