use Rattle.own_journal.proofs.Knowing.{knows_same}
use Rattle.own_journal.proofs.Telling.{ends_told, enters_still, never_enters, untouched_same}
use Rattle.page_ops.specs.Claims.{no_claims}
use Rattle.std.specs.Prelude.{[]}
use Rattle.own_journal.proofs.journaling.OwnJournalJournaling.survey.Goals as goal

pub invariant_of-self : goal.invariant_of-self
invariant_of-self g c = record { knows = knows_same c.args.self.now.counts c.survey.new.counts c.args.self.now.journal c.survey.new.journal c.args.self.now.knows c.survey.ensures.same c.survey.ensures.learns }

pub returns-clause-seen : goal.returns-clause-seen
returns-clause-seen g c = enters_still g.N.Life.opens g.N.Life.entries g.N.Life.session_entries c.args.self.now.counts c.survey.new.counts c.args.self.now.journal c.survey.new.journal c.args.pass.now c.survey.new.pass no_claims no_claims g.N.Life.log_faults g.N.Life.made c.survey.result c.survey.ensures.ends [] (untouched_same c.args.self.now.journal c.survey.new.journal c.survey.ensures.same) (never_enters c.survey.result c.survey.ensures.refused) c.survey.ensures.seen

pub returns-clause-ends : goal.returns-clause-ends
returns-clause-ends g c = ends_told g.N.Life.opens g.N.Life.log_faults g.N.Life.made c.args.self.now.counts c.survey.new.counts c.survey.new.pass.log c.args.self.now.journal.calls c.survey.new.journal.calls c.survey.result c.survey.ensures.ends
