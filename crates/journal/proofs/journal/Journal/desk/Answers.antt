use Rattle.std.proofs.Common.{sym, refl, subst}
use Rattle.page_ops.specs.Seeing.{Account}
use Rattle.journal.specs.Ends.{IsStopped}
use Rattle.journal.proofs.Ending.{told_stops, stopped_ends}
use Rattle.journal.proofs.journal.Journal.desk.Goals as goal

pub returns-in-Err-clause-ends : goal.returns-in-Err-clause-ends
returns-in-Err-clause-ends g c =
    stopped_ends _ g.N.Life.log_faults _ _ _ _ _ _ refl (subst (λ (a : Account). IsStopped g.N.Life.log_faults c.args.counts.now a c.in-Err.fault) (sym c.look.ensures.counts) (told_stops g.N.Life.log_faults _ _ _ c.in-Err.ensures.ended))
