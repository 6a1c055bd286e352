use Rattle.std.proofs.Common.{◌≡◌, ◌++◌, filter, take, nat_lt}
use Rattle.wal_record.specs.declared.analysis.Run.{Run}
use Rattle.log_index.proofs.upkeep.add_above.Given as goal

abbrev pub invariant-loop-run : goal.invariant-loop-run
invariant-loop-run l = l.made.items ≡ l.fn.made.items ++ filter (λ (x : Run). nat_lt l.last x.first) (take l.run-index l.runs)
