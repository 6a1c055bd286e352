use Rattle.std.proofs.Common.{◌≡◌, ◌≤◌, length, take}
use Rattle.std.specs.Prelude.{filter}
use Rattle.upkeep_judge.specs.Runs.{is_above}
use Rattle.upkeep_judge.proofs.runs.count_above.Given as goal

abbrev pub invariant-loop-run : goal.invariant-loop-run
invariant-loop-run l = record { count : l.count ≡ length (filter (is_above l.lsn) (take l.run-index l.runs)); few : l.count ≤ l.run-index }
