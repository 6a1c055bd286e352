use Rattle.std.proofs.Common.{◌≤◌, length}
use Rattle.log_analysis.proofs.Payloads.{AreSoFar}
use Rattle.log_analysis.proofs.taking.take_block.Given as goal

abbrev pub invariant-loop-place : goal.invariant-loop-place
invariant-loop-place l = record {
  within : l.at ≤ length l.payload;
  so_far : AreSoFar l.payload l.at l.place l.named.checkpoint l.first l.fn.listing l.listing;
}
