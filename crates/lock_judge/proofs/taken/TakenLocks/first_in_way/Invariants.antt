use Rattle.std.proofs.Common.{◌≡◌}
use Rattle.wal_record.specs.Legal.{held}
use Rattle.lock_judge.proofs.First.{first_in, is_in_way}
use Rattle.lock_judge.proofs.taken.TakenLocks.first_in_way.Given as goal

abbrev pub invariant-loop-holder : goal.invariant-loop-holder
invariant-loop-holder l = first_in (is_in_way l.tx (held l.range l.mode)) l.holder-iterator ≡ first_in (is_in_way l.tx (held l.range l.mode)) l.self.held.entries
