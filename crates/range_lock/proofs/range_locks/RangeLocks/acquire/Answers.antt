use Rattle.std.proofs.Common.{sym, ◌∙◌}
use Rattle.range_lock.specs.Held.{held}
use Rattle.range_lock.proofs.First.{none_conflicts, first_conflicts}
use Rattle.range_lock.proofs.range_locks.RangeLocks.acquire.Goals as goal

pub returns-in-Some-clause-refused : goal.returns-in-Some-clause-refused
returns-in-Some-clause-refused c = first_conflicts _ (held c.args.self.now) c.in-Some.rival (sym c.in_ok-rival.ensures ∙ c.in-Some.is)

pub add-requires : goal.add-requires
add-requires c = none_conflicts _ (held c.args.self.now) (sym c.in_ok-rival.ensures ∙ c.in_default.is)

pub returns-clause-free : goal.returns-clause-free
returns-clause-free c = none_conflicts _ (held c.args.self.now) (sym c.in_ok-rival.ensures ∙ c.in_default.is)
