use Rattle.std.proofs.Common.{◌≡◌, ◌≤◌, length, take}
use Rattle.std.specs.Prelude.{filter}
use Rattle.upkeep_judge.specs.Runs.{is_below}
use Rattle.upkeep_judge.proofs.runs.count_below.Given as goal

abbrev pub invariant-loop-run : goal.invariant-loop-run
invariant-loop-run l = record { count : l.count ≡ length (filter (is_below l.lsn) (take l.run-index l.runs)); few : l.count ≤ l.run-index }
