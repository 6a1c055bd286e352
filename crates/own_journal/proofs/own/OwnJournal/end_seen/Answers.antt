use Rattle.std.proofs.Common.{None, ap, sym, ◌∙◌}
use Rattle.journal.specs.State.{JournalState}
use Rattle.own_journal.proofs.Telling.{knew}
use Rattle.own_journal.proofs.own.OwnJournal.end_seen.Goals as goal

pub returns-in-Some-clause-known : goal.returns-in-Some-clause-known
returns-in-Some-clause-known g c =
    knew c.args.self.now.counts c.args.self.now.journal _ c.args.self.now.knows (sym c.in-Some.is ∙ c.end.ensures.end ∙ ap (λ (j : JournalState). j.ended) c.see.ensures.same)

pub returns-in-None-clause-known : goal.returns-in-None-clause-known
returns-in-None-clause-known g c =
    knew c.args.self.now.counts c.args.self.now.journal None c.args.self.now.knows (sym c.in-None.is ∙ c.end.ensures.end ∙ ap (λ (j : JournalState). j.ended) c.see.ensures.same)
