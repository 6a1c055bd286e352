use Rattle.std.proofs.Common.{◌≤◌, take}
use Rattle.std.specs.Prelude.{filter}
use Rattle.wal_record.specs.Upkeep.{in_range}
use Rattle.upkeep_judge.specs.Runs.{IsSpan}
use Rattle.upkeep_judge.proofs.runs.span_of.Given as goal

abbrev pub invariant-loop-run : goal.invariant-loop-run
invariant-loop-run l = record { span : IsSpan (filter (in_range l.done) (take l.run-index l.runs)) l.span; few : l.span.count ≤ l.run-index }
