use Rattle.std.proofs.Common.{◌≡◌, take}
use Rattle.log_index.proofs.copies.copy_runs.Given as goal

abbrev pub invariant-loop-run : goal.invariant-loop-run
invariant-loop-run l = l.made.items ≡ take l.run-index l.runs
