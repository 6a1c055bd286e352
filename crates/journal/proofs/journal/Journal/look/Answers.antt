use Rattle.journal.proofs.Ending.{told_stops, stopped_ends}
use Rattle.journal.proofs.journal.Journal.look.Goals as goal

pub returns-in-Err-clause-ends : goal.returns-in-Err-clause-ends
returns-in-Err-clause-ends g c = stopped_ends _ g.N.Life.log_faults _ _ _ _ _ _ c.look.ensures.counts (told_stops g.N.Life.log_faults _ _ _ c.in-Err.ensures.ended)
