use Rattle.std.proofs.Common.{subst}
use Rattle.std.specs.Prelude.{IfSome}
use Rattle.journal.specs.State.{JournalState}
use Rattle.journal.specs.Stops.{IsDurableUpto}
use Rattle.journal.proofs.Calls.{durable_upto}
use Rattle.journal.proofs.journal.Journal.end.Goals as goal

pub returns-clause-durable : goal.returns-clause-durable
returns-clause-durable g c opening stands =
    subst (λ (j : JournalState). IfSome j.ended (IsDurableUpto opening j.history)) c.self.view_is
    (durable_upto g.N.Life.opens g.L.Disk.told g.L.Disk.may_leave c.self.inside.history c.self.inside.log.log.log c.self.invariant.4 c.self.invariant.5 opening stands)
