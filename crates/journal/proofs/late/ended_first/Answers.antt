use Rattle.journal.proofs.Lateness.{ended_late, no_loser_ended, not_ended}
use Rattle.journal.proofs.late.ended_first.Goals as goal

pub returns-in-Some-clause-late : goal.returns-in-Some-clause-late
returns-in-Some-clause-late c opening h listing places k = ended_late opening h listing places c.args.losers.now k c.args.end.now c.in-Some.loser c.in-Some.ensures c.if-loser.true

pub returns-in_default-clause-none : goal.returns-in_default-clause-none
returns-in_default-clause-none c opening h listing places k = not_ended opening h listing places c.args.losers.now k c.args.end.now c.in-Some.loser c.in-Some.ensures c.if-loser.false

pub returns-in_default-2-clause-none : goal.returns-in_default-2-clause-none
returns-in_default-2-clause-none c opening h listing places k = no_loser_ended opening h listing places c.args.losers.now k c.args.end.now c.in_default.ensures
