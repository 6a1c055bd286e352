use Rattle.std.proofs.Common.{◌≡◌, ◌≤◌, length, drop}
use Rattle.listing_laws.specs.Summary.{backed_up}
use Rattle.log_index.proofs.heads.set_backups.Given as goal

abbrev pub invariant-loop-left : goal.invariant-loop-left
invariant-loop-left l = record {
  within : l.left ≤ length l.pages;
  same : l.heads.items ≡ backed_up l.backup (drop l.left l.pages) l.fn.heads.items;
}

abbrev pub decreases-loop-left : goal.decreases-loop-left
decreases-loop-left l = l.left
