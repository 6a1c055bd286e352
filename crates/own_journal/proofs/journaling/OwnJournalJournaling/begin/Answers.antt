use Rattle.journal.proofs.Calls.{knows_untouched}
use Rattle.own_journal.proofs.Telling.{ends_told, enters_still, never_many}
use Rattle.page_ops.specs.Claims.{session_alone}
use Rattle.page_ops.specs.Outcomes.{begun}
use Rattle.own_journal.proofs.journaling.OwnJournalJournaling.begin.Goals as goal

pub invariant_of-self : goal.invariant_of-self
invariant_of-self g c = record { knows = knows_untouched c.args.self.now.counts c.begin.new.counts c.args.self.now.journal c.begin.new.self c.args.self.now.knows c.begin.ensures.disk c.begin.ensures.learns }

pub returns-clause-entered : goal.returns-clause-entered
returns-clause-entered g c = enters_still g.N.Life.opens g.N.Life.entries g.N.Life.session_entries c.args.self.now.counts c.begin.new.counts c.args.self.now.journal c.begin.new.self c.args.pass.now c.begin.new.pass (session_alone c.args.s.now) (session_alone c.begin.new.s) g.N.Life.log_faults g.N.Life.made c.begin.result c.begin.ensures.ends (begun c.args.s.now.session c.begin.result) c.begin.ensures.disk (never_many c.begin.result c.begin.ensures.refused) c.begin.ensures.entered

pub returns-clause-ends : goal.returns-clause-ends
returns-clause-ends g c = ends_told g.N.Life.opens g.N.Life.log_faults g.N.Life.made c.args.self.now.counts c.begin.new.counts c.begin.new.pass.log c.args.self.now.journal.calls c.begin.new.self.calls c.begin.result c.begin.ensures.ends
