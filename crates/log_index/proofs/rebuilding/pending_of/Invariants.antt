use Rattle.std.proofs.Common.{◌≡◌, ◌<◌, take}
use Rattle.std.specs.Prelude.{◌^◌}
use Rattle.listing_laws.specs.Summary.{pending_in}
use Rattle.log_index.proofs.rebuilding.pending_of.Given as goal

abbrev pub invariant-loop-unfinished : goal.invariant-loop-unfinished
invariant-loop-unfinished l = pending_in l.transactions < 2 ^ 64 → l.pending ≡ pending_in (take l.unfinished-index l.transactions)
