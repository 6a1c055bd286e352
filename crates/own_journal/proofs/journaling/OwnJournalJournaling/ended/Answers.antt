use Rattle.own_journal.proofs.Knowing.{knows_same}
use Rattle.own_journal.proofs.Telling.{learnt_told}
use Rattle.own_journal.proofs.journaling.OwnJournalJournaling.ended.Goals as goal

pub invariant_of-self : goal.invariant_of-self
invariant_of-self g c = record { knows = knows_same c.args.self.now.counts c.ended.new.counts c.args.self.now.journal c.ended.new.self c.args.self.now.knows c.ended.ensures.same c.ended.ensures.learns }

pub returns-clause-known : goal.returns-clause-known
returns-clause-known g c = learnt_told c.args.self.now.counts c.ended.new.counts c.args.self.now.journal c.ended.new.self c.ended.result c.ended.ensures.known c.ended.ensures.same
